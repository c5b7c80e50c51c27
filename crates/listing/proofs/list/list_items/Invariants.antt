use Rattle.std.proofs.Common.{◌≡◌, ◌-◌, length}
use Rattle.abbrev.specs.Table.{entry_limit}
use Rattle.entries.specs.Steps.{KeptRaw}
use Rattle.listing.specs.Listing.{item_lines}
use Rattle.listing.proofs.LinesLaws.{Going}
use Rattle.listing.proofs.list.list_items.Given as goal

abbrev pub invariant-loop-here : goal.invariant-loop-here
invariant-loop-here l =
    KeptRaw (length l.bytes) l.here × (length l.words ≡ 1024)
    × Going l.initial.lines l.lines (item_lines entry_limit.most l.unit l.initial.here l.bytes l.abbreviations.rows l.abbreviations.specs) (item_lines entry_limit.most l.unit l.here l.bytes l.abbreviations.rows l.abbreviations.specs)

abbrev pub decreases-loop-here : goal.decreases-loop-here
decreases-loop-here l = length l.bytes - l.here.position
