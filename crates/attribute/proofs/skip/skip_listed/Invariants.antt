use Rattle.attribute.proofs.ListLaws.{Skipped}
use Rattle.attribute.proofs.skip.skip_listed.Given as goal

abbrev pub invariant-loop-row : goal.invariant-loop-row
invariant-loop-row l = Skipped l.part.bytes l.part.encoding l.part.endian l.listed l.at l.row-index l.next l.sum
