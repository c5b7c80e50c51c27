-- Rows of words as arrays, one for each row.
use mathlib.Core.Bool.{Bool, true, false, cond}
use mathlib.Core.Option.{none}
use mathlib.Core.Path.{◌≡◌, refl, sym, ap, ◌∙◌}
use mathlib.Core.List.{List, ◌∷◌}
use Prim.Native.Nat.{ℕ, zero, suc, ◌+◌, ◌-◌, ◌*◌, ◌/◌, ◌≤◌, ◌<◌}
use native.Mathlib.Omega.{arith}
use borrow.Author.Tests.{le-leb, ltb-true}
use lib.ListN.{length, take, drop, get_or}
use lib.Seq.{get_or-drop, drop-drop}
use Rattle.std.proofs.lemmas.Bool.Decides.{nat_tests}
use Rattle.std.proofs.lemmas.List.{get_or-take}
use Rattle.std.proofs.lemmas.List.Folds.{length-prefix_len}
use Rattle.std.specs.List.{list_all, enumerate_from, take_while, prefix_len, find}
use Rattle.std.specs.Prelude.{Some, None, not, ◌&&◌, eqb, ltb}
use Rattle.abbrev.specs.Table.{has}
use Rattle.std.specs.Simd.{first_chunks}
use Rattle.reader.specs.Answer.{got}
use Rattle.abbrev.specs.Lookup.{column, index_of, leading_from, spec_at, specs_from, fair, all_fair, specs_kept, row_at, judged_row, row_found}

-- those from the f-th row on
chunks_drop : {X : Type 0} (k n f : ℕ) (l : List X) → f ≤ n → drop f (first_chunks k n l) ≡ first_chunks k (n - f) (drop (f * k) l)
chunks_drop k n zero l h =
    let a : n - 0 ≡ n = omega arith in
    let b : 0 * k ≡ 0 = omega arith in
    rw (a, b)
chunks_drop k zero (suc f) l h = absurd (omega arith)
chunks_drop k (suc n) (suc f) l h =
    let a : suc n - suc f ≡ n - f = omega arith in
    let b : suc f * k ≡ k + f * k = omega arith in
    rw (a, b, ← drop-drop (f * k) k l) (chunks_drop k n f (drop k l) (omega arith))

-- the first c
chunks_take : {X : Type 0} (k c n : ℕ) (l : List X) → c ≤ n → take c (first_chunks k n l) ≡ first_chunks k c l
chunks_take k zero n l h = refl
chunks_take k (suc c) zero l h = absurd (omega arith)
chunks_take k (suc c) (suc n) l h = ap (λ x. take k l ∷ x) (chunks_take k c n (drop k l) (omega arith))

all_chunks : (c : ℕ) (l : List ℕ) → list_all (λ x. fair (spec_at x 0)) (first_chunks 3 c l) ≡ all_fair (specs_from c l)
all_chunks zero l = refl
all_chunks (suc c) l = rw (get_or-take 3 l 0 0 (omega arith), get_or-take 3 l 1 0 (omega arith), all_chunks c (drop 3 l))

-- 01's sizes of `count` specifications from `first` on
pub kept_chunks : (most : ℕ) (specs : List ℕ) (first count : ℕ) → count ≤ most → count ≤ length specs / 3 → first ≤ length specs / 3 - count
    → list_all (λ x. fair (spec_at x 0)) (take (first + count - first) (drop first (first_chunks 3 (length specs / 3) specs))) ≡ specs_kept most specs first count
kept_chunks most specs first count h k g =
    let n = length specs / 3 in
    let e : first + count - first ≡ count = omega arith in
    rw (
      e,
      chunks_drop 3 n first specs (omega arith),
      chunks_take 3 count (n - first) (drop (first * 3) specs) (omega arith),
      all_chunks count (drop (first * 3) specs),
      le-leb count most h,
      le-leb (first + count) n (omega arith),
    )

-- the i-th
pub chunk_nth : {X : Type 0} (k n i : ℕ) (l : List X) (d : List X) → i < n → get_or (first_chunks k n l) i d ≡ take k (drop (i * k) l)
chunk_nth k zero i l d h = absurd (omega arith)
chunk_nth k (suc n) zero l d h =
    let b : 0 * k ≡ 0 = omega arith in
    rw b
chunk_nth k (suc n) (suc i) l d h =
    let b : suc i * k ≡ k + i * k = omega arith in
    rw (b, ← drop-drop (i * k) k l) (chunk_nth k n i (drop k l) d (omega arith))

word_chunk : (k n i j : ℕ) (l d : List ℕ) → i < n → j < k → get_or (get_or (first_chunks k n l) i d) j 0 ≡ get_or l (i * k + j) 0
word_chunk k n i j l d h g = rw (chunk_nth k n i l d h, get_or-take k (drop (i * k) l) j 0 g, get_or-drop (i * k) l j 0)

pub row_chunk : (n i : ℕ) (l d : List ℕ) → i < n → row_at (get_or (first_chunks 5 n l) i d) 0 ≡ row_at l i
row_chunk n i l d h =
    let w : (j : ℕ) → j < 5 → get_or (get_or (first_chunks 5 n l) i d) j 0 ≡ get_or l (i * 5 + j) 0 = λ j g. word_chunk 5 n i j l d h g in
    let z : i * 5 + 0 ≡ i * 5 = omega arith in
    rw (w 0 (omega arith), w 1 (omega arith), w 2 (omega arith), w 3 (omega arith), w 4 (omega arith), z)

pub spec_chunk : (n i : ℕ) (l d : List ℕ) → i < n → spec_at (get_or (first_chunks 3 n l) i d) 0 ≡ spec_at l (i * 3)
spec_chunk n i l d h =
    let w : (j : ℕ) → j < 3 → get_or (get_or (first_chunks 3 n l) i d) j 0 ≡ get_or l (i * 3 + j) 0 = λ j g. word_chunk 3 n i j l d h g in
    let z : i * 3 + 0 ≡ i * 3 = omega arith in
    rw (w 0 (omega arith), w 1 (omega arith), w 2 (omega arith), z)

-- the row with a code, among the first n
pub find_chunks : (c n : ℕ) (l : List ℕ)
    → find (λ r. eqb (get_or r 0 0) c) (first_chunks 5 n l)
    ≡ cond (ltb (index_of c (column n l)) n) (Some (take 5 (drop (index_of c (column n l) * 5) l))) None
find_chunks c zero l = refl
find_chunks c (suc n) l =
    let i = index_of c (column n (drop 5 l)) in
    let z : suc i * 5 ≡ 5 + i * 5 = omega arith in
    let y : drop (suc i * 5) l ≡ drop (i * 5) (drop 5 l) = rw (z, ← drop-drop (i * 5) 5 l) in
    rw (get_or-take 5 l 0 0 (omega arith)) (grind (arith, nat_tests, find_chunks c n (drop 5 l), y))

-- so the row that is found is the lowest with the code
pub found_row : (most c : ℕ) (rows specs r : List ℕ) → find (λ r. eqb (get_or r 0 0) c) (first_chunks 5 (length rows / 5) rows) ≡ Some r
    → judged_row most specs (row_at r 0) ≡ row_found most rows specs (index_of c (column (length rows / 5) rows))
unfolding row_found
found_row most c rows specs r h =
    by (ltb (index_of c (column (length rows / 5) rows)) (length rows / 5)) refl (sym (find_chunks c (length rows / 5) rows) ∙ h)
  where
    i : ℕ
    i = index_of c (column (length rows / 5) rows)

    by : (b : Bool) → ltb i (length rows / 5) ≡ b → cond b (Some (take 5 (drop (i * 5) rows))) None ≡ Some r
        → judged_row most specs (row_at r 0) ≡ cond b (judged_row most specs (row_at rows i)) (got none)
    by true e g =
        let n = length rows / 5 in
        let x : get_or (first_chunks 5 n rows) i r ≡ r = chunk_nth 5 n i rows r (ltb-true i n e) ∙ cc in
        ap (judged_row most specs) (ap (λ (y : List ℕ). row_at y 0) (sym x) ∙ row_chunk n i rows r (ltb-true i n e))
    by false e g = absurd cc

-- and none is where no row has it
pub found_no_row : (most c : ℕ) (rows specs : List ℕ) → find (λ r. eqb (get_or r 0 0) c) (first_chunks 5 (length rows / 5) rows) ≡ None
    → got none ≡ row_found most rows specs (index_of c (column (length rows / 5) rows))
unfolding row_found
found_no_row most c rows specs h =
    by (ltb (index_of c (column (length rows / 5) rows)) (length rows / 5)) (sym (find_chunks c (length rows / 5) rows) ∙ h)
  where
    i : ℕ
    i = index_of c (column (length rows / 5) rows)

    by : (b : Bool) → cond b (Some (take 5 (drop (i * 5) rows))) None ≡ None → got none ≡ cond b (judged_row most specs (row_at rows i)) (got none)
    by true g = absurd cc
    by false g = refl

leading_prefix : (k n : ℕ) (l : List ℕ) → prefix_len (λ x. eqb (get_or x.1 0 0) (x.0 + 1)) (enumerate_from k (first_chunks 5 n l)) ≡ leading_from (k + 1) (column n l)
leading_prefix k zero l = refl
leading_prefix k (suc n) l =
    let m = leading_from (suc (k + 1)) (column n (drop 5 l)) in
    let e : k + 1 + 1 ≡ suc (k + 1) = omega arith in
    let f : 1 + m ≡ suc m = omega arith in
    rw (get_or-take 5 l 0 0 (omega arith), leading_prefix (k + 1) n (drop 5 l), e) (ap (λ (j : ℕ). cond (eqb (get_or l 0 0) (k + 1)) j 0) f)

-- so many leading rows hold the codes 1, 2, 3, ..
pub leading_chunks : (n : ℕ) (l : List ℕ) → length (take_while (λ x. eqb (get_or x.1 0 0) (x.0 + 1)) (enumerate_from 0 (first_chunks 5 n l))) ≡ leading_from 1 (column n l)
leading_chunks n l = length-prefix_len _ (enumerate_from 0 (first_chunks 5 n l)) ∙ leading_prefix 0 n l

none_chunks : (c n : ℕ) (l : List ℕ) → list_all (λ r. not (eqb (get_or r 0 0) c)) (first_chunks 5 n l) ≡ not (has c (column n l))
none_chunks c zero l = refl
none_chunks c (suc n) l = rw (get_or-take 5 l 0 0 (omega arith), none_chunks c n (drop 5 l)) (by (eqb (get_or l 0 0) c))
  where
    by : (b : Bool) → (not b && not (has c (column n (drop 5 l)))) ≡ not (cond b true (has c (column n (drop 5 l))))
    by true = refl
    by false = refl

-- none of n rows has the code
pub new_chunks : (c n m : ℕ) (l : List ℕ) → n ≤ m → list_all (λ r. not (eqb (get_or r 0 0) c)) (take n (first_chunks 5 m l)) ≡ not (has c (column n l))
new_chunks c n m l h = rw (chunks_take 5 n m l h) (none_chunks c n l)
