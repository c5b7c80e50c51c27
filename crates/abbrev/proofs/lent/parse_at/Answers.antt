use Rattle.std.proofs.Common.{rules}
use Rattle.abbrev.proofs.Laying.{tabled}
use Rattle.abbrev.proofs.lent.parse_at.Goals as goal

pub returns : goal.returns
returns c =
    let e = c.parse.ensures.same in
    tabled c.in_ok-parse.ensures.is c.if-section-gt-MAX_SECTION.false c.if-section-at.false e.rows_length e.specs_length (search rules) (search rules)
