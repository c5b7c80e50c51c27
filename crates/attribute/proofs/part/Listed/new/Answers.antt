use Rattle.abbrev.specs.Views.{found_of}
use Rattle.attribute.proofs.ListLaws.{rows_fair}
use Rattle.reader.specs.Answer.{got}
use Rattle.std.proofs.Common.{ap, sym, ◌∙◌}
use Rattle.attribute.proofs.part.Listed.new.Goals as goal

pub invariant_of-result : goal.invariant_of-result
invariant_of-result c =
    let r = rows_fair c.args.specs.now (found_of c.args.abbreviation) c.as_chunks.result.0.now c.as_chunks.ensures.front (sym c.keeps_sizes.ensures ∙ c.if-not-keeps_sizes.false) in
    (r.few, r.fairs)

pub returns : goal.returns
returns c =
    let r = rows_fair c.args.specs.now (found_of c.args.abbreviation) c.as_chunks.result.0.now c.as_chunks.ensures.front (sym c.keeps_sizes.ensures ∙ c.if-not-keeps_sizes.false) in
    rw (← c.keeps_sizes.ensures, c.if-not-keeps_sizes.false) (ap got r.is)
