use Rattle.reader.proofs.LebLaws.{begun, ended, final, longer, further}
use Rattle.reader.proofs.Numbers.{above_fits}
use borrow.Author.Rules.{rules}
use native.Mathlib.Omega.{arith}
use Rattle.reader.proofs.leb128.divide.Goals as goal

pub loop-p-init : goal.loop-p-init
loop-p-init g c = begun _ _ _ (omega arith)

pub returns-then-last-lt128 : goal.returns-then-last-lt128
returns-then-last-lt128 g c = final c.loop-p.invariant c.from-last.result (omega arith) c.from-last.ensures (omega arith)

pub returns-then-shift-le7 : goal.returns-then-shift-le7
returns-then-shift-le7 g c = longer c.loop-p.invariant c.from-last.result (omega arith) c.from-last.ensures (omega arith) (omega arith) _

pub above-below-requires : goal.above-below-requires
above-below-requires g c = (search rules, above_fits 64 7 _ _ _ c.loop-p.invariant.under (omega arith) (omega arith))

pub loop-p-preserved : goal.loop-p-preserved
loop-p-preserved g c = rw c.above-below.ensures (further c.loop-p.invariant c.from-last.result (omega arith) c.from-last.ensures (omega arith) (omega arith) (omega arith))

pub returns : goal.returns
returns g c = ended c.loop-p.invariant (omega arith) _
