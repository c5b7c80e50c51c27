use Rattle.std.proofs.Common.{◌≡◌, rules}
use Rattle.std.proofs.Math.Option.{none, some}
use Rattle.reader.specs.Answer.{got}
use Rattle.unit.specs.Views.{view_next_unit}
use mathlib.Core.Path.{ap}
use native.Mathlib.Omega.{arith}
use lib.ListN.{length}
use Rattle.listing.specs.Listing.{Shelf, unit_lines}
use Rattle.listing.specs.Text.{end_line}
use Rattle.listing.specs.Written.{shelf_of, view_line}
use Rattle.listing.proofs.LinesLaws.{going_further, going_broken, going_written}
use Rattle.listing.proofs.UnitLaws.{lent_then, unit_fits, unit_less, unit_first, unit_none, unit_refused}
use Rattle.listing.proofs.list.Listing.list_units.Goals as goal
use Rattle.listing.proofs.list.Listing.list_units.Goals.{in_default-via-in-Ok+in_default, in_default-via-in_default}

pub list_unit-requires : goal.list_unit-requires
list_unit-requires c =
    let e : view_next_unit c.unit_at-next.result.unit ≡ got (some c.in-Ok-Some.header) = search rules in
    unit_fits (shelf_of c.loop-header.self) _ c.unit_at-next.result c.unit_at-next.ensures e

pub returns-in_err-list_unit-clause-written : goal.returns-in_err-list_unit-clause-written
returns-in_err-list_unit-clause-written c =
    let e : view_next_unit c.unit_at-next.result.unit ≡ got (some c.in-Ok-Some.header) = search rules in
    let x = shelf_of c.loop-header.self in
    rw c.from_residual.ensures
    (going_broken c.loop-header.invariant.1 (λ _. unit_lines x c.unit_at-next.result.units.offset) (λ _. unit_first x _ c.unit_at-next.result c.unit_at-next.ensures e)
    (rw (c.at_root-here.ensures, c.in_err-list_unit.was) at c.list_unit.ensures.written))

pub loop-header-smaller : goal.loop-header-smaller
loop-header-smaller c =
    let e : view_next_unit c.unit_at-next.result.unit ≡ got (some c.in-Ok-Some.header) = search rules in
    omega (arith, unit_less (shelf_of c.loop-header.self) _ c.unit_at-next.result c.unit_at-next.ensures e, ap (λ (y : Shelf). length y.info) c.list_unit.ensures.lent.shelf)

pub loop-header-preserved : goal.loop-header-preserved
loop-header-preserved c =
    let e : view_next_unit c.unit_at-next.result.unit ≡ got (some c.in-Ok-Some.header) = search rules in
    let x = shelf_of c.loop-header.self in
    let l = c.list_unit.ensures.lent in (
      lent_then c.loop-header.invariant.0 l,
      rw l.shelf
          (going_further c.loop-header.invariant.1 (λ _. unit_lines x c.unit_at-next.result.units.offset) (λ _. unit_first x _ c.unit_at-next.result c.unit_at-next.ensures e)
          (rw (c.at_root-here.ensures, c.in_ok-list_unit.was) at c.list_unit.ensures.written)),
    )

pub returns-in_default-clause-written : goal.returns-in_default-clause-written
returns-in_default-clause-written c =
    let r = c.unit_at-next.result in
    let x = shelf_of c.loop-header.self in
    elim c.in_default.branch [
      | in_default-via-in-Ok+in_default w ↦
          let e : view_next_unit r.unit ≡ got none = search rules in
          let v : view_line r.unit ≡ end_line = search rules in
          going_written c.loop-header.invariant.1 (λ _. unit_none x _ r c.unit_at-next.ensures e) (rw (c.at_root-here.ensures, v) at c.add_last.ensures)
      | in_default-via-in_default w ↦
          going_written c.loop-header.invariant.1 (λ _. unit_refused x _ r c.unit_at-next.ensures _ (ap view_next_unit w.in_default.is)) (rw (c.at_root-here.ensures, w.in_default.is) at c.add_last.ensures)
    ]
