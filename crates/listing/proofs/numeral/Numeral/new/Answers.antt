use mathlib.Core.Path.{refl}
use native.Mathlib.Omega.{arith}
use Rattle.listing.proofs.NumeralLaws.{stored_none, stored_more, stored_further, stored_last}
use Rattle.listing.proofs.numeral.Numeral.new.Goals as goal

pub loop-left-init : goal.loop-left-init
loop-left-init g c = stored_none g.row.BASE c.args.n _ c.requires.0 c.ranges.n.fits refl

pub overflow_sub-start : goal.overflow_sub-start
overflow_sub-start g c = stored_more (omega (arith, c.requires.0)) c.loop-left.invariant c.loop-left-test.true

pub loop-left-preserved : goal.loop-left-preserved
loop-left-preserved g c = stored_further (omega (arith, c.requires.0)) c.loop-left.invariant c.requires.1 c.loop-left-test.true

pub returns : goal.returns
returns g c = stored_last (omega (arith, c.requires.0)) c.loop-left.invariant c.requires.1 c.loop-left-test.false
