use lib.ListN.{drop}
use Rattle.abbrev.specs.Table.{entry_limit}
use Rattle.tree.specs.Views.{view_tree}
use Rattle.capi.specs.Calls.{tree_calls}
use Rattle.capi.proofs.OutLaws.{Running}
use Rattle.capi.proofs.levels.run.Given as goal

abbrev pub invariant-loop-level : goal.invariant-loop-level
invariant-loop-level l = Running l.initial.words (tree_calls entry_limit.most l.bytes l.abbreviations.rows l.abbreviations.specs l.levels (view_tree l.initial.held)) (tree_calls entry_limit.most l.bytes l.abbreviations.rows l.abbreviations.specs (drop l.level-index l.levels) (view_tree l.held)) l.words
