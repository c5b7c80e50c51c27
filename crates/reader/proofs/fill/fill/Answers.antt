use Rattle.std.proofs.Common.{arith}
use Rattle.reader.proofs.FillLaws.{fill_further}
use Rattle.reader.proofs.fill.fill.Goals as goal

pub loop-i-preserved : goal.loop-i-preserved
loop-i-preserved g c = fill_further c.loop-i.invariant (omega (arith, c.loop-i.auto.l))
