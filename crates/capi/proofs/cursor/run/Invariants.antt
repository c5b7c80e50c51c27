use lib.ListN.{drop}
use Rattle.abbrev.specs.Table.{entry_limit}
use Rattle.entries.specs.Views.{view_cursor}
use Rattle.capi.specs.Calls.{cursor_calls}
use Rattle.capi.proofs.OutLaws.{Running}
use Rattle.capi.proofs.cursor.run.Given as goal

abbrev pub invariant-loop-op : goal.invariant-loop-op
invariant-loop-op l = Running l.initial.words (cursor_calls entry_limit.most l.bytes l.abbreviations.rows l.abbreviations.specs l.calls (view_cursor l.initial.held)) (cursor_calls entry_limit.most l.bytes l.abbreviations.rows l.abbreviations.specs (drop l.op-index l.calls) (view_cursor l.held)) l.words
