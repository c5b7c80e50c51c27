use Rattle.std.proofs.lemmas.List.{drop_more}
use Rattle.capi.specs.Calls.{cursor_calls}
use Rattle.capi.proofs.OutLaws.{running_more}
use Rattle.capi.proofs.cursor.run.Goals as goal

pub loop-op-preserved : goal.loop-op-preserved
unfolding cursor_calls
loop-op-preserved c = running_more c.loop-op.invariant _ _ (rw (drop_more c.args.calls.now c.loop-op.op-index 0 c.loop-op-test.true, ← c.call-called.ensures)) c.put_called.ensures
