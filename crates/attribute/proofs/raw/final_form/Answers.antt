use Rattle.attribute.proofs.PaddedLaws.{named_more}
use Rattle.std.proofs.Common.{sym}
use Rattle.attribute.proofs.raw.final_form.Goals as goal

pub loop-last-preserved : goal.loop-last-preserved
loop-last-preserved c = named_more c.loop-last.invariant c.loop-last-test.true _ _ (sym c.in_ok-named.ensures)
