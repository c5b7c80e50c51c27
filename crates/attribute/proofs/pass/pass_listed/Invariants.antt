use Rattle.attribute.proofs.ListLaws.{Passed}
use Rattle.attribute.proofs.pass.pass_listed.Given as goal

abbrev pub invariant-loop-row : goal.invariant-loop-row
invariant-loop-row l = Passed l.part.bytes l.part.start l.part.encoding l.part.endian l.listed l.at l.row-index l.next
