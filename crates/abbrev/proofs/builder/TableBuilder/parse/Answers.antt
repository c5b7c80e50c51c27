use Rattle.abbrev.proofs.Tables.{built}
use Rattle.abbrev.proofs.builder.TableBuilder.parse.Goals as goal

pub loop-next-preserved : goal.loop-next-preserved
loop-next-preserved c = built c.loop-next.invariant c.in_ok-next.ensures.same (rw c.in-Some.is at c.in_ok-next.ensures.is)
