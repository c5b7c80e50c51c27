use Prim.Native.Nat.{◌-◌}
use Rattle.attribute.proofs.PaddedLaws.{Named}
use lib.ListN.{length}
use Rattle.attribute.proofs.raw.final_form.Given as goal

abbrev pub invariant-loop-last : goal.invariant-loop-last
invariant-loop-last l = Named l.bytes l.form l.at l.last l.next l.padded

abbrev pub decreases-loop-last : goal.decreases-loop-last
decreases-loop-last l = length l.bytes - l.next
