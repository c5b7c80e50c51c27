use mathlib.Core.Path.{refl}
use Rattle.listing.proofs.LinesLaws.{lines_full, lines_none, lines_held}
use Rattle.listing.proofs.lines.Lines.add.Goals as goal

pub returns-then-is_some : goal.returns-then-is_some
returns-then-is_some c = lines_full (cc)

pub returns-then-self-lt72 : goal.returns-then-self-lt72
returns-then-self-lt72 c = lines_none (cc) refl c.if-self-lt72.true refl refl

pub returns : goal.returns
returns c = lines_held (cc) c.if-self-lt72.false c.put_line.ensures refl refl refl
