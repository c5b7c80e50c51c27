use Rattle.attribute.proofs.ListLaws.{pad_none}
use mir.Facts.{to_z-of_z}
use Rattle.entries.proofs.entry.null_at.Goals as goal

pub returns : goal.returns
returns c = rw (pad_none 64 c.none.result c.none.ensures, to_z-of_z c.ranges.depth)
