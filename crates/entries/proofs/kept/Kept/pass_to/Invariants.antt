use Prim.Native.Nat.{◌-◌}
use Rattle.entries.proofs.PassLaws.{To}
use lib.ListN.{length}
use Rattle.entries.proofs.kept.Kept.pass_to.Given as goal

abbrev pub invariant-loop-here : goal.invariant-loop-here
invariant-loop-here l = To 64 l.bytes l.abbreviations.rows l.abbreviations.specs l.depth l.initial.here l.here

abbrev pub decreases-loop-here : goal.decreases-loop-here
decreases-loop-here l = length l.bytes - l.here.raw.position
