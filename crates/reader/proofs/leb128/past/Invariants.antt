use Rattle.reader.proofs.LebLaws.{Skipping}
use Rattle.reader.proofs.leb128.past.Given as goal

abbrev pub invariant-loop-p : goal.invariant-loop-p
invariant-loop-p l = Skipping l.bytes l.at l.bound l.p
