use lib.Seq.{length-take-le}
use mathlib.Core.Path.{◌≡◌, sym, ap, ◌∙◌}
use mir.Syntax.{w64}
use mir.Val.{to_z, of_z}
use borrow.Author.Rules.{rules}
use native.Mathlib.Omega.{arith}
use Rattle.reader.specs.Views.{view}
use Rattle.listing.proofs.LinesLaws.{going_written, going_ended}
use Rattle.listing.proofs.ListLaws.{passed_few, passed_small, passed_kept, passed_less, passed_offset, passed_refused, lines_ended, items_added, items_broken}
use Rattle.listing.proofs.list.list_items.Goals as goal

pub slice_bounds-add_items-end : goal.slice_bounds-add_items-end
slice_bounds-add_items-end c =
    sym (length-take-le c.pass_entries-passed.result.count c.as_chunks.result.0.now (rw c.as_chunks.ensures.front_len (passed_few _ _ _ _ c.loop-here.invariant.0 c.pass_entries-passed.ensures)))

pub add_items-requires : goal.add_items-requires
add_items-requires c = rw c.as_chunks.ensures.front (passed_small _ _ _ _ c.loop-here.invariant.0 c.pass_entries-passed.ensures)

pub returns-in_err-add_items : goal.returns-in_err-add_items
returns-in_err-add_items c =
    rw c.from_residual.ensures
    (items_broken _ _ _ _ c.loop-here.invariant.0 c.pass_entries-passed.ensures _ c.loop-here.invariant.2 (rw (c.as_chunks.ensures.front, c.in_err-add_items.was) at c.add_items.ensures))

pub loop-here-smaller : goal.loop-here-smaller
loop-here-smaller c =
    omega (arith, passed_less _ _ _ _ c.loop-here.invariant.0 c.pass_entries-passed.ensures (omega (arith, c.loop-here.invariant.1)) c.loop-here-test.true (ap view c.in-Ok.is), c.loop-here-test.true)

pub loop-here-preserved : goal.loop-here-preserved
loop-here-preserved c =
    let k = c.loop-here.invariant.0 in
    let z = c.pass_entries-passed.ensures in (
      passed_kept _ _ _ _ k z,
      c.pass_entries-passed.auto.out ∙ c.loop-here.invariant.1,
      items_added _ _ _ _ k z _ c.loop-here.invariant.2 (rw (c.as_chunks.ensures.front, c.in_ok-add_items.was) at c.add_items.ensures),
    )

pub overflow_add-place : goal.overflow_add-place
overflow_add-place c = record { fits = passed_offset _ _ _ _ c.loop-here.invariant.0 c.pass_entries-passed.ensures }

pub returns-in-Err : goal.returns-in-Err
returns-in-Err c =
    let k = c.loop-here.invariant.0 in
    let z = c.pass_entries-passed.ensures in
    let d : to_z w64 (of_z w64 c.pass_entries-passed.result.raw.depth) ≡ c.pass_entries-passed.result.raw.depth = search rules in
    going_written (items_added _ _ _ _ k z _ c.loop-here.invariant.2 (rw (c.as_chunks.ensures.front, c.in_ok-add_items.was) at c.add_items.ensures)) (passed_refused _ _ _ _ k z c.args.unit (ap view c.in-Err.is))
    (rw d at c.add_last.ensures)

pub returns : goal.returns
returns c = going_ended c.loop-here.invariant.2 (lines_ended _ _ _ _ _ _ c.loop-here-test.false)
