-- Laws of the fields that headers and values share.
use mathlib.Core.Bool.{Bool, true, false, cond}
use mathlib.Core.Path.{◌≡◌, refl, ◌∙◌}
use mathlib.Core.List.{List}
use Prim.Native.Nat.{ℕ, ◌+◌, ◌≤◌, ◌<◌}
use native.Mathlib.Omega.{arith}
use borrow.Author.Tests.{le-leb, lt-leb, ne_eqb, leb-true, leb-false}
use lib.Dec.{leb, ltb, eqb}
use lib.ListN.{length}
use Rattle.reader.specs.Answer.{Answer, got, refused, and_then, Read, end_of, Holds}
use Rattle.reader.specs.Fields.{is_address_size, offset_at, address_at, null_terminated_at, skip_at, word_size, initial_length_size, long_length_at, initial_length_at}
use Rattle.reader.specs.declared.answer.Initial.{Initial}
use Rattle.reader.specs.declared.answer.Span.{Span}
use Rattle.reader.specs.Leb128.{past_at}
use Rattle.reader.specs.Words.{word_at, halves_at}
use Rattle.reader.proofs.Accepted.{past_in}
use Rattle.reader.proofs.Answers.{holds_then, cond_by, then_then, then_got}
use Rattle.reader.proofs.WordLaws.{WordIn, word_in}
use Rattle.reader.specs.declared.common.Format.{Format}
use Rattle.reader.specs.declared.common.Format.TheVariants.{Dwarf32, Dwarf64}
use Rattle.reader.specs.declared.endianity.RunTimeEndian.{RunTimeEndian}

-- no other width
pub not_size : (n : ℕ) → (n ≡ 1 → ⊥) → (n ≡ 2 → ⊥) → (n ≡ 4 → ⊥) → (n ≡ 8 → ⊥) → is_address_size n ≡ false
unfolding is_address_size
not_size n a b c d = rw (ne_eqb n 1 a, ne_eqb n 2 b, ne_eqb n 4 c, ne_eqb n 8 d)

-- an address of a width that it can have
pub address_word : (s : List ℕ) (at n : ℕ) (e : RunTimeEndian) → is_address_size n ≡ true → address_at s at n e ≡ word_at s at n e
unfolding address_at
address_word s at n e h = rw h

pub skip_there : (s : List ℕ) (at n : ℕ) → at + n ≤ length s → skip_at s at n ≡ got (at + n)
unfolding skip_at
skip_there s at n h = rw (le-leb (at + n) (length s) h)

pub skip_short : (s : List ℕ) (at n : ℕ) → length s < at + n → skip_at s at n ≡ refused 2
unfolding skip_at
skip_short s at n h = rw (lt-leb (at + n) (length s) h)

pub skip_in : (s : List ℕ) (at n : ℕ) → Holds (λ p. (p ≡ at + n) × (p ≤ length s)) (skip_at s at n)
unfolding skip_at
skip_in s at n = go (leb (at + n) (length s)) (leb-true (at + n) (length s))
  where
    go : (t : Bool) → (t ≡ true → at + n ≤ length s) → Holds (λ p. (p ≡ at + n) × (p ≤ length s)) (cond t (got (at + n)) (refused 2))
    go true h = (refl, h refl)
    go false h = tt

-- the widths of a format
pub word_size_most : (f : Format) → word_size f ≤ 8
word_size_most Dwarf32 = omega arith
word_size_most Dwarf64 = omega arith

pub initial_length_size_most : (f : Format) → initial_length_size f ≤ 12
initial_length_size_most Dwarf32 = omega arith
initial_length_size_most Dwarf64 = omega arith

-- an initial length ends after as many bytes as its format says
abbrev InitialIn : List ℕ → ℕ → Read Initial → Type 0
InitialIn s at l = (l.next ≡ at + initial_length_size l.value.format) × (l.next ≤ length s)

long_in : (s : List ℕ) (at p : ℕ) (e : RunTimeEndian) → p ≡ at + 4 → Holds (InitialIn s at) (long_length_at s p e)
unfolding long_length_at
long_in s at p e q =
    holds_then (WordIn s p 8) (InitialIn s at) (word_at s p 8 e) _ (word_in s p 8 e) (λ r h. (omega (arith, h.next), omega (arith, h.next, h.there)))

pub initial_in : (s : List ℕ) (at : ℕ) (e : RunTimeEndian) → Holds (λ l. (l.next ≡ at + initial_length_size l.value.format) × (l.next ≤ length s)) (initial_length_at s at e)
unfolding initial_length_at
initial_in s at e =
    holds_then (WordIn s at 4) (InitialIn s at) (word_at s at 4 e) _ (word_in s at 4 e)
    (λ r h.
    cond_by (Holds (InitialIn s at)) (ltb r.value 0xfffffff0) _ _
    (λ _. (h.next, omega (arith, h.next, h.there)))
    (λ _. cond_by (Holds (InitialIn s at)) (eqb r.value 0xffffffff) _ (refused 5) (λ _. long_in s at r.next e h.next) (λ _. tt)))

-- where fields end: what is there is not looked at
pub word_end : (s : List ℕ) (at n : ℕ) (e : RunTimeEndian) → end_of (word_at s at n e) ≡ skip_at s at n
unfolding word_at skip_at
word_end s at n e = cond_by (λ (r : Answer (Read ℕ)). end_of r ≡ skip_at s at n) (leb (at + n) (length s)) _ (refused 2) (λ h. rw h) (λ h. rw h)

pub halves_end : (s : List ℕ) (at : ℕ) (e : RunTimeEndian) → end_of (halves_at s at e) ≡ skip_at s at 16
unfolding halves_at
halves_end s at e = then_then (word_at s at 16 e) _ _ ∙ word_end s at 16 e

pub offset_end : (s : List ℕ) (at : ℕ) (f : Format) (e : RunTimeEndian) → end_of (offset_at s at f e) ≡ skip_at s at (word_size f)
unfolding offset_at
offset_end s at f e = word_end s at (word_size f) e

pub address_end : (s : List ℕ) (at n : ℕ) (e : RunTimeEndian) → end_of (address_at s at n e) ≡ cond (is_address_size n) (skip_at s at n) (refused 7)
unfolding address_at
address_end s at n e = go (is_address_size n)
  where
    go : (t : Bool) → end_of (cond t (word_at s at n e) (refused 7)) ≡ cond t (skip_at s at n) (refused 7)
    go true = word_end s at n e
    go false = refl

pub null_end : (s : List ℕ) (at : ℕ) → end_of (null_terminated_at s at) ≡ past_at s at 1
unfolding null_terminated_at
null_end s at = then_then (past_at s at 1) _ _ ∙ then_got (past_at s at 1)

pub null_in : (s : List ℕ) (at : ℕ) → Holds (λ v. (v.value.start ≤ length s) × (v.value.start ≡ at)) (null_terminated_at s at)
unfolding null_terminated_at
null_in s at = holds_then (λ p. (at < p) × (p ≤ length s)) (λ (v : Read Span). (v.value.start ≤ length s) × (v.value.start ≡ at)) (past_at s at 1) _ (past_in s at 1) (λ p z. (let a = z.0 in let b = z.1 in omega arith, refl))

-- moving by one count and then by another
pub skip_skip : (s : List ℕ) (at a b : ℕ) → and_then (skip_at s at a) (λ p. skip_at s p b) ≡ skip_at s at (a + b)
unfolding skip_at
skip_skip s at a b =
    cond_by (λ (r : Answer ℕ). and_then r (λ p. skip_at s p b) ≡ skip_at s at (a + b)) (leb (at + a) (length s)) (got (at + a)) (refused 2)
    (λ h. let e : at + a + b ≡ at + (a + b) = omega arith in rw e)
    (λ h. let l : length s < at + a = leb-false _ _ h in rw (lt-leb (at + (a + b)) (length s) (omega arith)))
