use Rattle.std.proofs.Common.{◌≡◌, rules}
use Rattle.std.proofs.Math.Option.{none, some}
use Rattle.reader.specs.Answer.{got}
use Rattle.unit.specs.Views.{view_next_unit}
use mathlib.Core.Path.{refl, ap}
use Rattle.listing.specs.Listing.{unit_lines}
use Rattle.listing.specs.Written.{shelf_of}
use Rattle.listing.proofs.LinesLaws.{written_as, going_begun, going_further, going_broken, going_written}
use Rattle.listing.proofs.UnitLaws.{unit_fits, entries_first, entries_none, entries_refused}
use Rattle.listing.proofs.list.Listing.list_inner.Goals as goal

pub list_entries-requires : goal.list_entries-requires
list_entries-requires c =
    let e : view_next_unit c.unit_at-next.result.unit ≡ got (some c.in-Ok-Some.header) = search rules in
    unit_fits (shelf_of c.args.self.now) _ c.unit_at-next.result c.unit_at-next.ensures e

pub returns-in_err-list_entries-in-Ok-Some-clause-written : goal.returns-in_err-list_entries-in-Ok-Some-clause-written
returns-in_err-list_entries-in-Ok-Some-clause-written c =
    let e : view_next_unit c.unit_at-next.result.unit ≡ got (some c.in-Ok-Some.header) = search rules in
    let x = shelf_of c.args.self.now in
    rw c.from_residual.ensures
    (going_broken (going_begun _ _) (λ _. unit_lines x c.unit_at-next.result.units.offset) (λ _. entries_first x _ c.unit_at-next.result c.unit_at-next.ensures e)
    (rw c.in_err-list_entries-in-Ok-Some.was at c.list_entries.ensures.written))

pub returns-in_ok-list_entries-in-Ok-Some-clause-written : goal.returns-in_ok-list_entries-in-Ok-Some-clause-written
returns-in_ok-list_entries-in-Ok-Some-clause-written c =
    let e : view_next_unit c.unit_at-next.result.unit ≡ got (some c.in-Ok-Some.header) = search rules in
    let x = shelf_of c.args.self.now in
    going_written
    (going_further (going_begun _ _) (λ _. unit_lines x c.unit_at-next.result.units.offset) (λ _. entries_first x _ c.unit_at-next.result c.unit_at-next.ensures e)
    (rw c.in_ok-list_entries-in-Ok-Some.was at c.list_entries.ensures.written))
    (λ _. refl) (rw c.list_entries.ensures.lent.shelf at c.list_units.ensures.written)

pub returns-in-Ok-None-clause-written : goal.returns-in-Ok-None-clause-written
returns-in-Ok-None-clause-written c =
    let e : view_next_unit c.unit_at-next.result.unit ≡ got none = search rules in
    written_as (λ _. entries_none (shelf_of c.args.self.now) _ c.unit_at-next.result c.unit_at-next.ensures e) c.add_last.ensures

pub returns-in-Err-clause-written : goal.returns-in-Err-clause-written
returns-in-Err-clause-written c = written_as (λ _. entries_refused (shelf_of c.args.self.now) _ c.unit_at-next.result c.unit_at-next.ensures _ (ap view_next_unit c.in-Err.is)) c.add_last-in-Err.ensures
