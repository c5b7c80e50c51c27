-- Laws of texts stored in the place of what was there, and of columns.
use mathlib.Core.Path.{◌≡◌, refl, sym, ap, ◌∙◌}
use mathlib.Core.List.{List, [], ◌∷◌, ◌++◌, append_assoc, append-nil}
use Prim.Native.Nat.{ℕ, zero, suc, ◌+◌, ◌-◌, ◌^◌, ◌≤◌, ◌<◌}
use native.Mathlib.Omega.{arith}
use lib.IntN.{ℤ, pos, negsuc, nat_abs}
use lib.ListN.{length, take, drop, set, get_or, replicate, length-append, length-take, length-drop, length-replicate}
use lib.Seq.{take_at, drop-append-add, drop-drop, set-append_seam, drop-cons}
use Rattle.std.proofs.lemmas.List.{take-append-drop}
use Rattle.listing.specs.Text.{signed_numeral}
use Rattle.listing.proofs.TextLaws.{numeral_most}
use Rattle.sheet.specs.Sheet.{padded}
use Rattle.sheet.specs.Steps.{splice}

-- ---- a text in the place of what was there

length_front : (at : ℕ) (l : List ℕ) → at ≤ length l → length (take at l) ≡ at
length_front at l h = length-take at l ∙ omega arith

module _ (at : ℕ) (l : List ℕ) where
  pub splice_length : (t : List ℕ) → at + length t ≤ length l → length (splice at t l) ≡ length l
  splice_length t h =
      length-append (take at l ++ t) (drop (at + length t) l)
      ∙ omega (arith, length-append (take at l) t, length_front at l (omega arith), length-drop (at + length t) l)

  -- no text
  pub splice_none : splice at [] l ≡ l
  splice_none =
      ap (λ (n : ℕ). take at l ++ [] ++ drop n l) e ∙ ap (λ (x : List ℕ). x ++ drop at l) (append-nil (take at l)) ∙ take-append-drop at l
    where
      e : at + 0 ≡ at
      e = omega arith

  -- one behind another
  pub splice_then : (t u : List ℕ) (n : ℕ) → n ≡ at + length t → n + length u ≤ length l → splice n u (splice at t l) ≡ splice at (t ++ u) l
  splice_then t u n e h =
      let f = length_front at l (omega arith) in
      let d = drop (at + length t) l in
      let g : length (take at l ++ t) ≡ n = omega (arith, length-append (take at l) t) in
      let b : drop (n + length u) ((take at l ++ t) ++ d) ≡ drop (length u) d = ap (λ (m : ℕ). drop (m + length u) ((take at l ++ t) ++ d)) (sym g) ∙ drop-append-add (take at l ++ t) d (length u) in
      let m : at + length t + length u ≡ at + length (t ++ u) = omega (arith, length-append t u) in
      let c : drop (length u) d ≡ drop (at + length (t ++ u)) l = drop-drop (length u) (at + length t) l ∙ ap (λ (m : ℕ). drop m l) m in
      ap (λ (x : List ℕ). (x ++ u) ++ drop (n + length u) ((take at l ++ t) ++ d)) (take_at (take at l ++ t) d n g)
      ∙ ap (λ (x : List ℕ). ((take at l ++ t) ++ u) ++ x) (b ∙ c)
      ∙ ap (λ (x : List ℕ). x ++ drop (at + length (t ++ u)) l) (append_assoc (take at l) t u)

  -- a byte behind a text
  pub splice_set : (t : List ℕ) (x n : ℕ) → n ≡ at + length t → n < length l → set (splice at t l) n x ≡ splice at (t ++ (x ∷ [])) l
  splice_set t x n e h =
      let f = length_front at l (omega arith) in
      let g : length (take at l ++ t) ≡ n = omega (arith, length-append (take at l) t) in
      let c : drop (at + length t) l ≡ get_or l n 0 ∷ drop (suc n) l = ap (λ (m : ℕ). drop m l) (sym e) ∙ drop-cons l n 0 h in
      let m : suc n ≡ at + length (t ++ (x ∷ [])) = omega (arith, length-append t (x ∷ [])) in
      ap (λ (y : List ℕ). set ((take at l ++ t) ++ y) n x) c
      ∙ ap (λ (m : ℕ). set ((take at l ++ t) ++ (get_or l n 0 ∷ drop (suc n) l)) m x) (sym g)
      ∙ set-append_seam (take at l ++ t) (get_or l n 0) (drop (suc n) l) x
      ∙ sym (append_assoc (take at l ++ t) (x ∷ []) (drop (suc n) l))
      ∙ ap (λ (y : List ℕ). y ++ drop (suc n) l) (append_assoc (take at l) t (x ∷ []))
      ∙ ap (λ (m : ℕ). (take at l ++ (t ++ (x ∷ []))) ++ drop m l) m

-- a byte stored is a text of one byte
pub set_is : (l : List ℕ) (n x : ℕ) → n < length l → set l n x ≡ splice n (x ∷ []) l
set_is l n x h = ap (λ (y : List ℕ). set y n x) (sym (splice_none n l)) ∙ splice_set n l [] x n e h
  where
    e : n ≡ n + 0
    e = omega arith

-- ---- columns

-- one more, behind the others
pub replicate_more : {A : Type 0} (n : ℕ) (x : A) → replicate (suc n) x ≡ replicate n x ++ (x ∷ [])
replicate_more zero x = refl
replicate_more {A} (suc n) x = ap (λ (l : List A). x ∷ l) (replicate_more n x)

module _ (c : ℕ) where
  pub padded_length : (w : ℕ) (t : List ℕ) → length t ≤ w → length (padded c w t) ≡ w
  unfolding padded
  padded_length w t h = length-append (replicate (w - length t) c) t ∙ omega (arith, length-replicate (w - length t) c)

-- ---- what fits its columns

-- a number below 10^10 has at most ten digits, and its sign has a column too
pub signed_short : (z : ℤ) → nat_abs z < 10 ^ 10 → length (signed_numeral z) ≤ 11
unfolding signed_numeral
signed_short (pos n) h = omega (arith, numeral_most 10 9 n (omega arith) (omega arith))
signed_short (negsuc n) h = omega (arith, numeral_most 10 9 (suc n) (omega arith) (omega arith))
