use mathlib.Core.Path.{◌≡◌, sym, ap, ◌∙◌}
use lib.ListN.{length}
use borrow.Author.Rules.{rules}
use Rattle.reader.specs.Views.{view}
use Rattle.listing.proofs.LinesLaws.{written_as, written_none}
use Rattle.listing.proofs.PartLaws.{part_none, part_items, part_refused}
use Rattle.listing.proofs.list.Listing.list_part.Goals as goal

pub returns-then-is_empty-clause-written : goal.returns-then-is_empty-clause-written
returns-then-is_empty-clause-written c = let e : length c.args.bytes.now ≡ 0 = search rules in written_none (part_none _ _ _ _ _ e)

pub returns-in-Ok-clause-written : goal.returns-in-Ok-clause-written
returns-in-Ok-clause-written c =
    let e : length c.args.bytes.now ≡ 0 → ⊥ = search rules in
    written_as (part_items _ _ _ _ _ e _ _ (sym c.abbreviations.ensures.tabled.is ∙ ap view c.in-Ok.is) c.abbreviations.ensures.tabled.left) (rw c.table.ensures at c.list_items.ensures)

pub returns-in-Err-clause-written : goal.returns-in-Err-clause-written
returns-in-Err-clause-written c =
    let e : length c.args.bytes.now ≡ 0 → ⊥ = search rules in
    written_as (part_refused _ _ _ _ _ e (sym c.abbreviations.ensures.tabled.is ∙ ap view c.in-Err.is)) c.add_last.ensures
