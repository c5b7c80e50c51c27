-- The specifications from a row on, one by one.
use mathlib.Core.Path.{◌≡◌}
use mathlib.Core.List.{List, ◌∷◌}
use Prim.Native.Nat.{ℕ, suc, ◌+◌, ◌-◌, ◌*◌, ◌<◌}
use native.Mathlib.Omega.{arith}
use lib.ListN.{drop}
use Rattle.std.proofs.lemmas.Grind.{common_steps}
use Rattle.abbrev.specs.Lookup.{spec_at, specs_from}

-- the i-th specification from `first` on and those after it
pub specs_next : (l : List ℕ) (first n i : ℕ) → i < n → specs_from (n - i) (drop ((first + i) * 3) l) ≡ spec_at l ((first + i) * 3) ∷ specs_from (n - (i + 1)) (drop ((first + (i + 1)) * 3) l)
specs_next l first n i h =
    let e : n - i ≡ suc (n - (i + 1)) = omega arith in
    rw e (grind (arith, common_steps))
