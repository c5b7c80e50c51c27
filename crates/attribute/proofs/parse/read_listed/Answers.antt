use Rattle.attribute.proofs.ListLaws.{kept_begun, kept_stop, kept_end, pad_none}
use Rattle.attribute.specs.Attributes.{stored}
use Rattle.std.proofs.Common.{arith}
use Rattle.attribute.proofs.parse.read_listed.Goals as goal

pub loop-i-init : goal.loop-i-init
loop-i-init c = kept_begun 64 _ _ _ _ _ _ c.none-attrs.result c.none-attrs.ensures

pub returns-in-Err : goal.returns-in-Err
unfolding stored
returns-in-Err c = rw (kept_stop c.loop-i.invariant _ c.listed.view_is c.loop-i-test.true c.specification.ensures c.in-Err.ensures, pad_none 64 c.none.result c.none.ensures)

pub returns : goal.returns
unfolding stored
returns c = rw (kept_end c.loop-i.invariant _ c.listed.view_is (omega arith), c.loop-i.invariant.is)
