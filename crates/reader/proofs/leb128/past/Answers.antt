use Rattle.reader.proofs.LebLaws.{skip_ended}
use mathlib.Core.Path.{sym}
use native.Mathlib.Omega.{arith}
use Rattle.reader.proofs.leb128.past.Goals as goal

pub returns : goal.returns
returns c = sym (skip_ended c.loop-p.invariant (omega arith))
