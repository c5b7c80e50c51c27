use Prim.Native.Nat.{◌-◌}
use Rattle.entries.proofs.PassLaws.{PastNulls}
use Prim.Native.Nat.{ℕ}
use mathlib.Core.List.{List}
use lib.ListN.{length}
use Rattle.entries.proofs.kept.Kept.pass_nulls.Given as goal

abbrev pub invariant-loop-code : goal.invariant-loop-code
invariant-loop-code l = (rows specs : List ℕ) → PastNulls 64 l.bytes rows specs l.initial.here l.here

abbrev pub decreases-loop-code : goal.decreases-loop-code
decreases-loop-code l = length l.bytes - l.here.raw.position
