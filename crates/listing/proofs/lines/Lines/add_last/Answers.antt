use Rattle.listing.proofs.LinesLaws.{closed}
use Rattle.listing.proofs.lines.Lines.add_last.Goals as goal

pub returns : goal.returns
returns c = closed c.add.ensures
