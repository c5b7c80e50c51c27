use Prim.Native.Nat.{◌-◌, ◌/◌}
use Rattle.abbrev.proofs.Tables.{Building}
use lib.ListN.{length}
use Rattle.abbrev.proofs.builder.TableBuilder.parse.Given as goal

abbrev pub invariant-loop-next : goal.invariant-loop-next
invariant-loop-next l = Building l.s l.at l.p l.initial.self l.self

abbrev pub decreases-loop-next : goal.decreases-loop-next
decreases-loop-next l = length l.initial.self.rows.now / 5 - l.self.count
