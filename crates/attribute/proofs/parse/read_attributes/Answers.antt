use Rattle.attribute.proofs.ListLaws.{pad_none, read_refused}
use Rattle.attribute.specs.Attributes.{stored}
use Rattle.attribute.proofs.parse.read_attributes.Goals as goal

pub returns-in-Err : goal.returns-in-Err
unfolding stored
returns-in-Err c = rw (read_refused _ _ _ _ _ _ _ _ _ c.in-Err.ensures, pad_none 64 c.none.result c.none.ensures)
