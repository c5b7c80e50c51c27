use Rattle.std.proofs.Common.{◌∙◌}
use Rattle.abbrev.proofs.Chunks.{new_chunks}
use Rattle.abbrev.proofs.builder.TableBuilder.is_new.Goals as goal

pub returns-else-self-code : goal.returns-else-self-code
returns-else-self-code c = rw c.as_chunks.ensures.front at c.none_has.ensures ∙ new_chunks _ _ _ _ c.args.self.now.row
