use mathlib.Core.Path.{refl, sym, ap, ◌∙◌}
use native.Mathlib.Omega.{arith}
use Rattle.reader.specs.Views.{view}
use Rattle.listing.specs.Written.{shelf_of}
use Rattle.listing.proofs.LinesLaws.{written_as}
use Rattle.listing.proofs.PartLaws.{entries_short, state_kept, unit_entered, unit_refused, unit_without}
use Rattle.listing.proofs.list.Listing.list_entries.Goals as goal

pub state_at-requires : goal.state_at-requires
state_at-requires c = omega (arith, entries_short c.args.self.now.info.now _ (sym c.in-Ok.ensures), c.requires.short)

pub list_part-requires : goal.list_part-requires
list_part-requires c = state_kept _ _ _ (sym c.state_at.ensures ∙ ap view c.in-Ok-state_at.is)

pub returns-in-Ok-state_at-clause-written : goal.returns-in-Ok-state_at-clause-written
returns-in-Ok-state_at-clause-written c =
    written_as (unit_entered _ _ _ (sym c.in-Ok.ensures) (shelf_of c.args.self.now) refl (sym c.state_at.ensures ∙ ap view c.in-Ok-state_at.is)) c.list_part.ensures.written

pub returns-in-Err-state_at-clause-written : goal.returns-in-Err-state_at-clause-written
returns-in-Err-state_at-clause-written c =
    written_as (unit_refused _ _ _ (sym c.in-Ok.ensures) (shelf_of c.args.self.now) refl (sym c.state_at.ensures ∙ ap view c.in-Err-state_at.is)) c.add_last.ensures

pub returns-in-Err-clause-written : goal.returns-in-Err-clause-written
returns-in-Err-clause-written c = written_as (unit_without _ _ _ (sym c.in-Err.ensures) (shelf_of c.args.self.now) refl) c.add_last-in-Err.ensures
