-- Laws of names in rows of specifications.
use mathlib.Core.Bool.{Bool, ◌||◌}
use mathlib.Core.Path.{◌≡◌, refl, ap, ◌∙◌}
use mathlib.Core.List.{List}
use Prim.Native.Nat.{ℕ, zero, suc, ◌+◌, ◌-◌, ◌*◌, ◌/◌, ◌≤◌}
use native.Mathlib.Omega.{arith}
use lib.Dec.{eqb}
use lib.ListN.{length, take, drop, get_or}
use lib.Seq.{drop-drop}
use Rattle.std.proofs.lemmas.List.{get_or-take}
use Rattle.std.specs.List.{list_any}
use Rattle.std.specs.Simd.{first_chunks}
use Rattle.abbrev.specs.Lookup.{specs_from}
use Rattle.entries.specs.Steps.{names_any}

module _ (name : ℕ) where
  abbrev named : List ℕ → Bool
  named r = eqb (get_or r 0 0) name

  any_part : (first count k : ℕ) (l : List ℕ) → first + count ≤ k → list_any named (take count (drop first (first_chunks 3 k l))) ≡ names_any name (specs_from count (drop (first * 3) l))
  any_part zero zero k l h = refl
  any_part zero (suc n) zero l h = absurd (omega arith)
  any_part zero (suc n) (suc k) l h = rw (get_or-take 3 l 0 0 (omega arith)) (ap (λ (b : Bool). eqb (get_or l 0 0) name || b) (any_part zero n k (drop 3 l) (omega arith)))
  any_part (suc i) n zero l h = absurd (omega arith)
  any_part (suc i) n (suc k) l h =
      let e : 3 + i * 3 ≡ suc i * 3 = omega arith in
      any_part i n k (drop 3 l) (omega arith) ∙ ap (λ (x : List ℕ). names_any name (specs_from n x)) (drop-drop (i * 3) 3 l ∙ ap (λ (m : ℕ). drop m l) e)

  -- whether one of `count` specifications from `first` on has a name
  pub named_rows : (specs : List ℕ) (first count : ℕ) → first + count ≤ length specs / 3
      → list_any named (take (first + count - first) (drop first (first_chunks 3 (length specs / 3) specs))) ≡ names_any name (specs_from count (drop (first * 3) specs))
  named_rows specs first count h = let e : first + count - first ≡ count = omega arith in rw e (any_part first count (length specs / 3) specs h)
