use lib.ListN.{drop}
use Rattle.abbrev.specs.Table.{entry_limit}
use Rattle.capi.specs.Calls.{raw_calls}
use Rattle.capi.proofs.OutLaws.{Running}
use Rattle.capi.proofs.raw.run.Given as goal

abbrev pub invariant-loop-op : goal.invariant-loop-op
invariant-loop-op g l = Running l.initial.words (raw_calls entry_limit.most l.bytes l.abbreviations.rows l.abbreviations.specs l.calls l.initial.held) (raw_calls entry_limit.most l.bytes l.abbreviations.rows l.abbreviations.specs (drop l.op-index l.calls) l.held) l.words
