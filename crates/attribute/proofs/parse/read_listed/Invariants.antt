use Rattle.attribute.proofs.ListLaws.{Kept}
use Rattle.attribute.proofs.parse.read_listed.Given as goal

abbrev pub invariant-loop-i : goal.invariant-loop-i
invariant-loop-i l = Kept 64 l.part.bytes l.part.start l.part.encoding l.part.endian l.listed l.at l.attrs l.i l.next
