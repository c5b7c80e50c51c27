-- Laws of words.
use mathlib.Core.Bool.{Bool, true, false, cond}
use mathlib.Core.Path.{◌≡◌, refl, sym, ◌∙◌}
use mathlib.Core.List.{List, ◌++◌, reverse, reverse-append}
use Prim.Native.Nat.{ℕ, ◌+◌, ◌*◌, ◌%◌, ◌^◌, ◌≤◌, ◌<◌}
use native.Mathlib.Omega.{arith}
use native.Mathlib.Nat.{add_comm, mul_comm}
use borrow.Author.Tests.{le-leb, lt-leb, leb-true}
use lib.Dec.{leb}
use lib.Pow.{high, low, shl_exact}
use mathlib.Core.Logic.{⊎_elim}
use lib.ListN.{length, take, drop, get_or, length-drop, length-reverse}
use lib.Seq.{take-add, drop-drop, drop-cons, length-take-le}
use Rattle.std.proofs.lemmas.Bool.{cases_lt}
use Rattle.reader.specs.Answer.{refused, and_then, gives, Read, Holds}
use Rattle.reader.specs.Parts.{Joins, joined}
use Rattle.reader.specs.Words.{number, ordered, spelled, word_at, halves, halves_at}
use Rattle.reader.specs.declared.answer.Halves.{Halves}
use Rattle.reader.specs.declared.endianity.RunTimeEndian.{RunTimeEndian}
use Rattle.reader.specs.declared.endianity.RunTimeEndian.TheVariants.{Little, Big}
use Rattle.reader.proofs.Numbers.{number_below, number_append, above_fits}

length_ordered : (e : RunTimeEndian) (xs : List ℕ) → length (ordered e xs) ≡ length xs
length_ordered Little xs = refl
length_ordered Big xs = length-reverse xs

-- n bytes that are there
length_part : (s : List ℕ) (at n : ℕ) → at + n ≤ length s → length (take n (drop at s)) ≡ n
length_part s at n h = length-take-le n (drop at s) (rw (length-drop at s) (omega arith))

pub spelled_below : (s : List ℕ) (at n : ℕ) (e : RunTimeEndian) → at + n ≤ length s → spelled s at n e < 2 ^ (8 * n)
unfolding spelled
spelled_below s at n e h =
    rw (length_ordered e (take n (drop at s)), length_part s at n h) at (number_below 8 (ordered e (take n (drop at s))))

-- two parts that follow each other
number_ordered : (e : RunTimeEndian) (xs ys : List ℕ) → number 8 (ordered e (xs ++ ys)) ≡ joined e (length xs) (length ys) (number 8 (ordered e xs)) (number 8 (ordered e ys))
number_ordered Little xs ys = rw (number_append 8 xs ys, mul_comm (2 ^ (8 * length xs)) (number 8 ys))
number_ordered Big xs ys =
    rw (reverse-append xs ys, number_append 8 (reverse ys) (reverse xs), length-reverse ys, mul_comm (2 ^ (8 * length ys)) (number 8 (reverse xs))) (omega arith)

pub spelled_join : (s : List ℕ) (at a b : ℕ) (e : RunTimeEndian) → at + (a + b) ≤ length s → spelled s at (a + b) e ≡ joined e a b (spelled s at a e) (spelled s (at + a) b e)
unfolding spelled
spelled_join s at a b e h =
    let x = number_ordered e (take a (drop at s)) (take b (drop (at + a) s)) in
    rw (take-add a b (drop at s), drop-drop a at s) (rw (length_part s at a (omega arith), length_part s (at + a) b (omega arith)) at x)

-- the parts of a word fit in it, and make it
pub word_joins : (s : List ℕ) (at a b : ℕ) (e : RunTimeEndian) {x y : ℕ} → at + (a + b) ≤ length s → (1 ≤ a) × (1 ≤ b) → a + b ≤ 8 → x ≡ spelled s at a e → y ≡ spelled s (at + a) b e → Joins a b x y
word_joins s at a b e h n m p q =
    record {
      first = rw p (spelled_below s at a e (omega arith));
      second = rw q (spelled_below s (at + a) b e (omega arith));
      some = n;
      most = m;
    }

pub word_joined : (s : List ℕ) (at a b : ℕ) (e : RunTimeEndian) {r x y : ℕ} → at + (a + b) ≤ length s → r ≡ joined e a b x y → x ≡ spelled s at a e → y ≡ spelled s (at + a) b e → r ≡ spelled s at (a + b) e
word_joined s at a b e h t p q = rw (t, p, q) (sym (spelled_join s at a b e h))

-- what the code adds and shifts
pub shifted : (i j lo hi : ℕ) → lo < 2 ^ (8 * i) → hi < 2 ^ (8 * j) → i + j ≤ 8 → hi * 2 ^ (8 * i) % 2 ^ 64 ≡ hi * 2 ^ (8 * i)
shifted i j lo hi h k l = shl_exact (8 * j) (8 * i) 64 k (omega arith)

pub shifted_fits : (i j lo hi : ℕ) → lo < 2 ^ (8 * i) → hi < 2 ^ (8 * j) → i + j ≤ 8 → lo + hi * 2 ^ (8 * i) % 2 ^ 64 < 2 ^ 64
shifted_fits i j lo hi h k l = rw (shifted i j lo hi h k l) (above_fits 64 (8 * j) lo hi (8 * i) h k (omega arith))

-- a single byte has no order
pub spelled_one : (s : List ℕ) (at : ℕ) (e : RunTimeEndian) → at < length s → spelled s at 1 e ≡ get_or s at 0 % 256
unfolding spelled number
spelled_one s at Little h = rw (drop-cons s at 0 h) (omega arith)
spelled_one s at Big h = rw (drop-cons s at 0 h) (omega arith)

pub byte_spelled : (s : List ℕ) (at : ℕ) (e : RunTimeEndian) {b : ℕ} → at < length s → b ≡ get_or s at 0 → get_or s at 0 < 256 → b ≡ spelled s at 1 e
byte_spelled s at e h q l = rw (spelled_one s at e h, q) (omega arith)

-- where the bytes are there, and where they are not
pub word_there : (s : List ℕ) (at n : ℕ) (e : RunTimeEndian) → at + n ≤ length s → word_at s at n e ≡ gives (spelled s at n e) (at + n)
unfolding word_at
word_there s at n e h = rw (le-leb (at + n) (length s) h)

pub word_got : (s : List ℕ) (at n : ℕ) (e : RunTimeEndian) {v : ℕ} → at + n ≤ length s → v ≡ spelled s at n e → gives v (at + n) ≡ word_at s at n e
word_got s at n e h q = rw (q, word_there s at n e h)

pub word_short : (s : List ℕ) (at n : ℕ) (e : RunTimeEndian) → length s < at + n → word_at s at n e ≡ refused 2
unfolding word_at
word_short s at n e h = rw (lt-leb (at + n) (length s) h)

pub word_one : (s : List ℕ) (at : ℕ) (e f : RunTimeEndian) → word_at s at 1 e ≡ word_at s at 1 f
unfolding word_at
word_one s at e f = ⊎_elim yes no (cases_lt at (length s))
  where
    yes : at < length s → word_at s at 1 e ≡ word_at s at 1 f
    yes h = rw (spelled_one s at e h, spelled_one s at f h)

    no : length s ≤ at → word_at s at 1 e ≡ word_at s at 1 f
    no h = word_short s at 1 e (omega arith) ∙ sym (word_short s at 1 f (omega arith))

-- a word that was read: its bytes are there, and it has as many bits as they have
pub record WordIn (s : List ℕ) (at n : ℕ) (r : Read ℕ) : Type 0 where
  pub next : r.next ≡ at + n
  pub there : at + n ≤ length s
  pub below : r.value < 2 ^ (8 * n)

pub word_in : (s : List ℕ) (at n : ℕ) (e : RunTimeEndian) → Holds (WordIn s at n) (word_at s at n e)
unfolding word_at
word_in s at n e = go (leb (at + n) (length s)) (leb-true (at + n) (length s))
  where
    go : (t : Bool) → (t ≡ true → at + n ≤ length s) → Holds (WordIn s at n) (cond t (gives (spelled s at n e) (at + n)) (refused 2))
    go true h = record { next = refl; there = h refl; below = spelled_below s at n e (h refl) }
    go false h = tt

-- 16 bytes by their halves
pub halves_there : (s : List ℕ) (at : ℕ) (e : RunTimeEndian) → at + 16 ≤ length s → halves_at s at e ≡ gives (halves (spelled s at 16 e)) (at + 16)
unfolding halves_at
halves_there s at e h = rw (word_there s at 16 e h)

pub halves_short : (s : List ℕ) (at : ℕ) (e : RunTimeEndian) → length s < at + 16 → halves_at s at e ≡ refused 2
unfolding halves_at
halves_short s at e h = rw (word_short s at 16 e h)

halves_of : (lo hi : ℕ) → lo < 2 ^ 64 → halves (hi * 2 ^ 64 + lo) ≡ record { low = lo; high = hi }
halves_of lo hi h = rw (high hi 64 h, low hi 64 h)

-- the first and the second word of 8 bytes as halves
abbrev pub halved : RunTimeEndian → ℕ → ℕ → Halves
halved Little x y = record { low = x; high = y }
halved Big x y = record { low = y; high = x }

halves_joined : (e : RunTimeEndian) (x y : ℕ) → x < 2 ^ 64 → y < 2 ^ 64 → halves (joined e 8 8 x y) ≡ halved e x y
halves_joined Little x y h k = rw (add_comm x (y * 2 ^ 64)) (halves_of x y h)
halves_joined Big x y h k = halves_of y x k

pub halves_got : (s : List ℕ) (at : ℕ) (e : RunTimeEndian) {x y : ℕ} → at + 16 ≤ length s → x ≡ spelled s at 8 e → y ≡ spelled s (at + 8) 8 e → gives (halved e x y) (at + 16) ≡ halves_at s at e
halves_got s at e {x} {y} h p q =
    let a : x < 2 ^ 64 = rw p (spelled_below s at 8 e (omega arith)) in
    let b : y < 2 ^ 64 = rw q (spelled_below s (at + 8) 8 e (omega arith)) in
    rw (halves_there s at e h, spelled_join s at 8 8 e h, ← p, ← q, halves_joined e x y a b)

-- 16 bytes as two words of 8
pub halves_read : (s : List ℕ) (at : ℕ) (e : RunTimeEndian) → halves_at s at e ≡ and_then (word_at s at 8 e) (λ a. and_then (word_at s a.next 8 e) (λ b. gives (halved e a.value b.value) b.next))
halves_read s at e = ⊎_elim short (λ h. ⊎_elim half there (cases_lt (length s) (at + 16)) h) (cases_lt (length s) (at + 8))
  where
    short : length s < at + 8 → halves_at s at e ≡ and_then (word_at s at 8 e) (λ a. and_then (word_at s a.next 8 e) (λ b. gives (halved e a.value b.value) b.next))
    short h = rw (halves_short s at e (omega arith), word_short s at 8 e h)

    half : length s < at + 16 → at + 8 ≤ length s → halves_at s at e ≡ and_then (word_at s at 8 e) (λ a. and_then (word_at s a.next 8 e) (λ b. gives (halved e a.value b.value) b.next))
    half h k = rw (halves_short s at e h, word_there s at 8 e k, word_short s (at + 8) 8 e (omega arith))

    there : at + 16 ≤ length s → at + 8 ≤ length s → halves_at s at e ≡ and_then (word_at s at 8 e) (λ a. and_then (word_at s a.next 8 e) (λ b. gives (halved e a.value b.value) b.next))
    there h k =
        let n : at + 8 + 8 ≡ at + 16 = omega arith in
        rw (word_there s at 8 e k, word_there s (at + 8) 8 e (omega arith), n) (sym (halves_got s at e h refl refl))
