-- Laws of one value in a lent slice.
use mathlib.Core.Path.{◌≡◌}
use mathlib.Core.List.{List, [], ◌∷◌, ◌++◌, append_assoc}
use Prim.Native.Nat.{ℕ, ◌+◌, ◌-◌, ◌≤◌, ◌<◌}
use native.Mathlib.Omega.{arith}
use native.Mathlib.Numerals.{add-one}
use lib.ListN.{length, take, set, replicate, length-set, replicate-append-replicate}
use lib.Seq.{take-suc-set}

-- from `from` up to i, l has the value; a `from` past the end stays
pub record Filled {A : Type 0} (x : A) (l₀ : List A) (from : ℕ) (l : List A) (i : ℕ) : Type 0 where
  pub since : from ≤ i
  pub until : i - from ≤ length l - from
  pub same : length l ≡ length l₀
  pub is : take i l ≡ take from l₀ ++ replicate (i - from) x

module _ {A : Type 0} {x : A} {l₀ : List A} {from : ℕ} {l : List A} {i : ℕ} (t : Filled x l₀ from l i) where
  pub fill_further : i < length l → Filled x l₀ from (set l i x) (i + 1)
  fill_further h =
      let e : i + 1 - from ≡ i - from + 1 = omega (arith, t.since) in
      let f : take (i + 1) (set l i x) ≡ take from l₀ ++ replicate (i - from) x ++ (x ∷ []) = rw (add-one i, take-suc-set l i x h, t.is) in
      record {
        since = omega (arith, t.since);
        until = simp length-set (omega (arith, t.since));
        same = simp length-set t.same;
        is = rw (e, ← replicate-append-replicate {A = A} (i - from) 1 x, ← append_assoc (take from l₀)) f;
      }
