use Rattle.abbrev.proofs.Attributes.{Taken}
use Rattle.abbrev.proofs.table.parse_attributes.Given as goal

abbrev pub invariant-loop-n : goal.invariant-loop-n
invariant-loop-n l = Taken l.s l.at l.first l.initial.specs l.n l.p l.specs
