use Rattle.std.proofs.Common.{◌∙◌, ap, ◌/◌, length}
use Rattle.abbrev.proofs.Chunks.{leading_chunks}
use Rattle.abbrev.specs.Lookup.{leading}
use Rattle.abbrev.specs.Rows.{Table}
use Rattle.abbrev.proofs.abbreviations.Abbreviations.leading.Goals as goal

pub returns : goal.returns
unfolding leading
returns c =
    let rows = c.self.inside.rows.now in
    rw c.as_chunks.ensures.front at c.count_leading.ensures ∙ leading_chunks (length rows / 5) rows ∙ ap (λ (t : Table). leading t.rows) c.self.view_is
