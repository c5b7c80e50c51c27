use Rattle.abbrev.specs.Views.{specification_of}
use Rattle.attribute.proofs.PaddedLaws.{form_noted}
use Rattle.attribute.specs.Parts.{Sourced}
use Rattle.std.proofs.Common.{ap}
use Rattle.attribute.proofs.raw.form_at.Goals as goal

pub returns : goal.returns
returns c =
    let last = rw (c.from.ensures, ap (λ (p : Sourced). p.bytes) c.part.view_is) at c.in_ok-last.ensures in
    form_noted c.args.part.now.bytes c.args.part.now.start c.args.part.now.encoding c.args.part.now.endian (specification_of c.args.spec) c.args.at _ _ _ _ last c.row_of-row.ensures _ _ _ c.in_ok-raw.ensures
