use Rattle.std.proofs.Common.{◌≡◌, ◌++◌, false, drop, map, is_some}
use Rattle.listing.specs.Written.{words_line}
use Rattle.listing.proofs.LinesLaws.{Going}
use Rattle.listing.proofs.lines.Lines.add_items.Given as goal

abbrev pub invariant-loop-item : goal.invariant-loop-item
invariant-loop-item l =
    (is_some l.self.next ≡ false)
    × Going l.initial.self l.self (λ rest. map (words_line l.unit) l.items ++ rest) (λ rest. map (words_line l.unit) (drop l.item-index l.items) ++ rest)
