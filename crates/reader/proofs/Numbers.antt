-- Laws of numbers by their digits.
use mathlib.Core.Bool.{Bool, true}
use mathlib.Core.Logic.{⊎_elim}
use mathlib.Core.Path.{◌≡◌, sym, ap, ◌∙◌}
use mathlib.Core.List.{List, [], ◌∷◌, ◌++◌}
use Prim.Native.Nat.{ℕ, suc, ◌+◌, ◌-◌, ◌*◌, ◌%◌, ◌^◌, ◌≤◌, ◌<◌}
use native.Mathlib.Omega.{arith}
use native.Mathlib.Nat.{add-zero, mul-zero, mul-suc, mul-add, mul_assoc, mul_comm, mul-le-mul_right, mod-lt, lt_of_lt_of_le}
use borrow.Author.Tests.{ltb-true, lt-ltb, le-ltb}
use lib.Arith.{digits_lt}
use lib.Dec.{ltb}
use lib.ListN.{length, take, get_or}
use lib.Seq.{take-suc, length-take-le}
use lib.Pow.{pow-add, pow_mono, pow_pos}
use Rattle.std.proofs.lemmas.Bool.{cases_lt}
use Rattle.reader.specs.Words.{number}

-- n digits of k bits are below 2 ^ (k * n)
pub number_below : (k : ℕ) (xs : List ℕ) → number k xs < 2 ^ (k * length xs)
unfolding number
number_below k [] = rw (mul-zero k) (omega arith)
number_below k (b ∷ bs) =
    let h = digits_lt {q = number k bs} {m = 2 ^ (k * length bs)} {r = b % 2 ^ k} {c = 2 ^ k} (number_below k bs) (mod-lt b (pow_pos k)) in
    rw (mul-suc k (length bs), pow-add 2 (k * length bs) k, mul_comm (2 ^ k) (number k bs)) (omega arith)

-- the digits of xs are below those of ys
pub number_append : (k : ℕ) (xs ys : List ℕ) → number k (xs ++ ys) ≡ number k xs + 2 ^ (k * length xs) * number k ys
unfolding number
number_append k [] ys = rw (mul-zero k) (omega arith)
number_append k (x ∷ xs) ys =
    rw (
      number_append k xs ys,
      mul-suc k (length xs),
      pow-add 2 (k * length xs) k,
      mul-add (2 ^ k) (number k xs) (2 ^ (k * length xs) * number k ys),
      mul_comm (2 ^ (k * length xs)) (2 ^ k),
      mul_assoc (2 ^ k) (2 ^ (k * length xs)) (number k ys),
    ) (omega arith)

-- one digit more
pub number_snoc : (k j : ℕ) (xs : List ℕ) → j < length xs → number k (take (suc j) xs) ≡ number k (take j xs) + get_or xs j 0 % 2 ^ k * 2 ^ (k * j)
unfolding number
number_snoc k j xs h =
    rw (take-suc xs j 0 h, number_append k (take j xs) (get_or xs j 0 ∷ []), length-take-le j xs (omega arith), mul_comm (2 ^ (k * j)) (get_or xs j 0 % 2 ^ k + 2 ^ k * 0)) (rw (mul-zero (2 ^ k), add-zero (get_or xs j 0 % 2 ^ k)))

-- x below P and c times P are below Q times P where c is below Q
pub ltb_high : (x c P Q : ℕ) → x < P → ltb (x + c * P) (Q * P) ≡ ltb c Q
ltb_high x c P Q h = ⊎_elim yes no (cases_lt c Q)
  where
    yes : c < Q → ltb (x + c * P) (Q * P) ≡ ltb c Q
    yes k = lt-ltb (x + c * P) (Q * P) (omega (arith, digits_lt {q = c} {m = Q} {r = x} {c = P} k h)) ∙ sym (lt-ltb c Q k)

    no : Q ≤ c → ltb (x + c * P) (Q * P) ≡ ltb c Q
    no k = le-ltb (x + c * P) (Q * P) (omega (arith, mul-le-mul_right {m = Q} {n = c} P k)) ∙ sym (le-ltb c Q k)

-- x of sh bits with c above it, in w bits
pub ltb_bits : (w sh x c : ℕ) → sh ≤ w → x < 2 ^ sh → ltb (x + c * 2 ^ sh) (2 ^ w) ≡ ltb c (2 ^ (w - sh))
ltb_bits w sh x c h k =
    let e : w ≡ w - sh + sh = omega arith in
    ap (λ (n : ℕ). ltb (x + c * 2 ^ sh) (2 ^ n)) e ∙ rw (pow-add 2 (w - sh) sh) (ltb_high x c (2 ^ sh) (2 ^ (w - sh)) k)

-- v of sh bits with b of j bits above it, in a word of n bits
pub above_fits : (n j v b sh : ℕ) → v < 2 ^ sh → b < 2 ^ j → j + sh ≤ n → v + b * 2 ^ sh < 2 ^ n
above_fits n j v b sh h k l =
    lt_of_lt_of_le (rw (pow-add 2 j sh) (omega (arith, digits_lt {q = b} {m = 2 ^ j} {r = v} {c = 2 ^ sh} k h))) (pow_mono {i = j + sh} {j = n} l)

-- b has room in the bits of w that are left, w being a word or less
module _ {w v sh : ℕ} (b : ℕ) {t : Bool} (most : w ≤ 64) (some : sh < w) (under : v < 2 ^ sh) (yes : t ≡ true) where
  pub above_word : t ≡ ltb b (2 ^ (w - sh)) → v + b * 2 ^ sh < 2 ^ 64
  above_word h = above_fits 64 (w - sh) v b sh under (ltb-true _ _ (sym h ∙ yes)) (omega arith)

  -- and in those below the sign
  pub above_sign : t ≡ ltb b (2 ^ (w - sh - 1)) → v + b * 2 ^ sh < 2 ^ 63
  above_sign h = above_fits 63 (w - sh - 1) v b sh under (ltb-true _ _ (sym h ∙ yes)) (omega arith)
