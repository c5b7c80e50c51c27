use lib.ListN.{drop}
use Rattle.capi.proofs.OutLaws.{Running}
use Rattle.capi.proofs.out.Words.put.Given as goal

abbrev pub invariant-loop-word : goal.invariant-loop-word
invariant-loop-word l = Running l.initial.self l.words (drop l.word-index l.words) l.self
