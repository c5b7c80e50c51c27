use Rattle.listing.proofs.NumeralLaws.{Stored}
use Rattle.listing.proofs.numeral.Numeral.new.Given as goal

abbrev pub invariant-loop-left : goal.invariant-loop-left
invariant-loop-left g l = Stored g.row.BASE l.n l.left l.start l.bytes

abbrev pub decreases-loop-left : goal.decreases-loop-left
decreases-loop-left g l = l.left
