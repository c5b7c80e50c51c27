use Rattle.attribute.proofs.ListLaws.{pad_none}
use Rattle.attribute.specs.Attributes.{stored}
use Rattle.entries.specs.Raw.{raw_attributes}
use Rattle.entries.proofs.raw.EntriesRaw.read_attributes.Goals as goal

pub returns-then-not-keeps_sizes : goal.returns-then-not-keeps_sizes
unfolding raw_attributes stored
returns-then-not-keeps_sizes c = rw (← c.keeps_sizes.ensures, c.if-not-keeps_sizes.true, pad_none 64 c.none.result c.none.ensures)
