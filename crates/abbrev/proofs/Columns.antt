-- Laws of the codes of rows, and of a search among them.
use mathlib.Core.Bool.{true, cond}
use mathlib.Core.Path.{◌≡◌, refl, ap}
use mathlib.Core.List.{List, [], ◌∷◌, ◌++◌}
use Prim.Native.Nat.{ℕ, zero, suc, ◌+◌, ◌*◌, ◌/◌, ◌≤◌, ◌<◌}
use native.Mathlib.Omega.{arith}
use native.Mathlib.Numerals.{add-one}
use lib.ListN.{length, take, drop, get_or, length-drop, get_or-append}
use lib.Seq.{drop-append-le, length-take-le}
use Rattle.std.proofs.lemmas.Bool.Decides.{nat_tests}
use Rattle.std.proofs.lemmas.Grind.{common_steps}
use Rattle.std.proofs.lemmas.List.{drop-take}
use Rattle.abbrev.specs.Lookup.{column, index_of, leading_from}
use Rattle.abbrev.specs.Table.{has, Fresh}

-- a leading code is in its own row
pub leading_index : (k c : ℕ) (l : List ℕ) → c < leading_from k l → index_of (c + k) l ≡ c
leading_index k c [] h = absurd (omega arith)
leading_index k zero (y ∷ ys) h = grind (arith, nat_tests)
leading_index k (suc c) (y ∷ ys) h = grind (arith, nat_tests, leading_index (suc k) c ys)

pub length_column : (n : ℕ) (l : List ℕ) → length (column n l) ≡ n
length_column zero l = refl
length_column (suc n) l = ap suc (length_column n (drop 5 l))

column_take : (n : ℕ) (l : List ℕ) → column n (take (n * 5) l) ≡ column n l
column_take zero l = refl
column_take (suc n) l =
    let e : suc n * 5 ≡ 5 + n * 5 = omega arith in
    rw e (grind (arith, common_steps, column_take n (drop 5 l), drop-take 5 (n * 5) l))

column_snoc : (n : ℕ) (u v : List ℕ) → length u ≡ n * 5 → column (suc n) (u ++ v) ≡ column n u ++ (get_or v 0 0 ∷ [])
column_snoc zero [] v h = refl
column_snoc zero (x ∷ u) v h = absurd (omega arith)
column_snoc (suc n) u v h =
    rw (get_or-append u v 0 0 (omega arith), drop-append-le 5 u v (omega arith))
    (ap (λ (l : List ℕ). get_or u 0 0 ∷ l) (column_snoc n (drop 5 u) v (rw length-drop (omega arith))))

-- one row more is one code more
pub column_more : (n : ℕ) (l l' row : List ℕ) → n ≤ length l / 5 → take ((n + 1) * 5) l' ≡ take (n * 5) l ++ row → column (n + 1) l' ≡ column n l ++ (get_or row 0 0 ∷ [])
column_more n l l' row h e =
    let f : column n (take (n * 5) l) ≡ column n l = column_take n l in
    let g = column_snoc n (take (n * 5) l) row (length-take-le (n * 5) l (omega arith)) in
    rw (← column_take (n + 1) l', e, add-one n, g, f)

pub has_append : (c : ℕ) (u v : List ℕ) → has c (u ++ v) ≡ cond (has c u) true (has c v)
has_append c [] v = refl
has_append c (x ∷ u) v = grind (arith, nat_tests, has_append c u v)

-- no code is above the greater of the highest and one more code
pub fresh_more : (h g code : ℕ) (seen : List ℕ) → Fresh h seen → h ≤ g → code ≤ g → Fresh g (seen ++ (code ∷ []))
fresh_more h g code seen f k l c m = grind (arith, nat_tests, has_append c seen (code ∷ []), f c)
