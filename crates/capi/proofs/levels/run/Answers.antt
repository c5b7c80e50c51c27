use Rattle.std.proofs.lemmas.List.{drop_more}
use Rattle.capi.specs.Calls.{tree_calls}
use Rattle.capi.proofs.OutLaws.{running_more}
use Rattle.capi.proofs.levels.run.Goals as goal

pub loop-level-preserved : goal.loop-level-preserved
unfolding tree_calls
loop-level-preserved c = running_more c.loop-level.invariant _ _ (rw (drop_more c.args.levels.now c.loop-level.level-index 0 c.loop-level-test.true, ← c.call-answered.ensures)) c.put_answered.ensures
