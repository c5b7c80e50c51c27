use Rattle.reader.proofs.LebLaws.{Reading}
use Rattle.reader.proofs.leb128.divide.Given as goal

abbrev pub invariant-loop-p : goal.invariant-loop-p
invariant-loop-p g l = Reading l.bytes l.at g.row.BITS l.below l.shift l.p
