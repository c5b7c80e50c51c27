use lib.ListN.{length, take}
use lib.Seq.{length-take-le}
use mathlib.Core.Path.{◌≡◌, sym, ap, ◌∙◌}
use native.Mathlib.Omega.{arith}
use Rattle.reader.specs.Views.{view}
use Rattle.sheet.proofs.PageLaws.{values_few, going_there, going_fair, going_few, going_less, going_further, going_stopped, going_ended}
use Rattle.sheet.proofs.page.read_page.Goals as goal

pub slice_bounds-place_lines-end : goal.slice_bounds-place_lines-end
slice_bounds-place_lines-end c =
    sym (length-take-le c.pass_entries-passed.result.count c.as_chunks.result.0.now
    (rw c.as_chunks.ensures.front_len (going_there _ values_few _ _ _ _ c.loop-here.invariant.0 c.pass_entries-passed.ensures)))

pub place_lines-requires-clause-fair : goal.place_lines-requires-clause-fair
place_lines-requires-clause-fair c =
    rw c.as_chunks.ensures.front (going_fair _ values_few _ _ _ _ c.loop-here.invariant.0 c.pass_entries-passed.ensures)

pub place_lines-requires-clause-few : goal.place_lines-requires-clause-few
place_lines-requires-clause-few c =
    let k = going_there _ values_few _ _ _ _ c.loop-here.invariant.0 c.pass_entries-passed.ensures in
    let l : length (take c.pass_entries-passed.result.count c.as_chunks.result.0.now) ≡ c.pass_entries-passed.result.count =
    length-take-le c.pass_entries-passed.result.count c.as_chunks.result.0.now (rw c.as_chunks.ensures.front_len k) in
    omega (arith, l, going_few _ values_few _ _ _ _ c.loop-here.invariant.0 c.pass_entries-passed.ensures)

pub overflow_add-seen : goal.overflow_add-seen
overflow_add-seen c = record { fits = omega (arith, going_few _ values_few _ _ _ _ c.loop-here.invariant.0 c.pass_entries-passed.ensures) }

pub loop-here-smaller : goal.loop-here-smaller
loop-here-smaller c =
    omega (arith, going_less _ values_few _ _ _ _ c.loop-here.invariant.0 c.pass_entries-passed.ensures (omega (arith, c.loop-here.invariant.1)) c.loop-here-test.true (ap view c.in-Ok.is), c.loop-here-test.true)

pub loop-here-preserved : goal.loop-here-preserved
loop-here-preserved c =
    (going_further _ values_few _ _ _ _ c.loop-here.invariant.0 c.pass_entries-passed.ensures (rw (c.first_on-first.ensures, c.as_chunks.ensures.front) at c.place_lines.ensures), c.pass_entries-passed.auto.out ∙ c.loop-here.invariant.1)

pub returns-in-Err : goal.returns-in-Err
returns-in-Err c =
    going_stopped _ values_few _ _ _ _ c.loop-here.invariant.0 c.pass_entries-passed.ensures (ap view c.in-Err.is) c.put_blank.ensures

pub returns : goal.returns
returns c =
    going_ended _ values_few _ _ _ _ c.loop-here.invariant.0 c.loop-here-test.false (rw (c.lines_of.ensures, c.first_on-first.ensures) at c.put_blank-2.ensures)
