use Rattle.std.proofs.Common.{◌-◌, length}
use Rattle.listing.specs.Listing.{unit_lines}
use Rattle.listing.specs.Written.{shelf_of, Lent}
use Rattle.listing.proofs.LinesLaws.{Going}
use Rattle.listing.proofs.list.Listing.list_units.Given as goal

abbrev pub invariant-loop-header : goal.invariant-loop-header
invariant-loop-header l =
    Lent l.initial.self l.self × Going l.initial.self.lines.now l.self.lines.now (λ _. unit_lines (shelf_of l.initial.self) l.at) (λ _. unit_lines (shelf_of l.self) l.offset)

abbrev pub decreases-loop-header : goal.decreases-loop-header
decreases-loop-header l = length l.self.info.now - l.offset
