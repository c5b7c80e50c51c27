use Rattle.reader.proofs.FillLaws.{Filled}
use Rattle.reader.proofs.fill.fill.Given as goal

abbrev pub invariant-loop-i : goal.invariant-loop-i
invariant-loop-i g l = Filled l.value l.initial.l l.from l.l l.i
