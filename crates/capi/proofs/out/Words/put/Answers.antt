use Rattle.std.proofs.lemmas.List.{drop_more}
use Rattle.capi.proofs.OutLaws.{running_more}
use Rattle.capi.proofs.out.Words.put.Goals as goal

pub loop-word-preserved : goal.loop-word-preserved
loop-word-preserved c =
    let l = c.loop-word in
    running_more l.invariant _ _ (drop_more c.args.words.now l.word-index 0 c.loop-word-test.true) c.put_word.ensures
