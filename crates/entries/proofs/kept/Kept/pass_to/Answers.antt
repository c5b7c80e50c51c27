use Rattle.entries.proofs.EntryLaws.{same_is, same_not}
use Rattle.entries.proofs.PassLaws.{to_found, to_refused, to_further, passed_forward, jumps_on}
use Rattle.entries.proofs.SeekLaws.{sought_ended}
use Rattle.entries.specs.Cursor.{by_jump, stands_at}
use borrow.Author.Rules.{rules}
use lib.ListN.{length}
use mathlib.Core.Path.{refl, sym, ap, ◌≡◌, ◌∙◌}
use mir.Facts.{to_z-of_z}
use mir.Syntax.{w64}
use mir.Val.{to_z, of_z}
use native.Mathlib.Omega.{arith}
use Rattle.entries.proofs.kept.Kept.pass_to.Goals as goal

pub returns-then-raw-depth : goal.returns-then-raw-depth
returns-then-raw-depth c =
    let a = c.args in
    let e : to_z w64 (of_z w64 a.self.raw.depth) ≡ a.self.raw.depth = search rules in
    rw (to_z-of_z c.ranges.depth) at (to_found 64 a.self.bytes.now a.abbreviations.now.rows a.abbreviations.now.specs (to_z w64 (of_z w64 a.depth)) {p = record { raw = a.self.raw; last = a.last }} {q = record { raw = a.self.raw; last = a.last }} (record { kept = a.self.kept; same = refl }) (same_is _ _ (sym e ∙ ap (to_z w64) c.if-raw-depth.true)))

pub returns-in_default : goal.returns-in_default
returns-in_default c =
    let a = c.args in
    rw (to_z-of_z c.ranges.depth) at (to_refused 64 a.self.bytes.now a.abbreviations.now.rows a.abbreviations.now.specs (to_z w64 (of_z w64 a.depth)) c.loop-here.invariant (rw c.counted-counted.ensures at c.in_default.ensures))

pub loop-here-smaller : goal.loop-here-smaller
loop-here-smaller c = let a = c.args in omega (arith, passed_forward 64 a.self.bytes.now a.abbreviations.now.rows a.abbreviations.now.specs c.loop-here.here.raw (rw c.counted-counted.ensures at c.in-Ok.ensures), c.loop-here-test.true)

pub loop-here-preserved : goal.loop-here-preserved
loop-here-preserved c =
    let a = c.args in
    to_further 64 a.self.bytes.now a.abbreviations.now.rows a.abbreviations.now.specs (to_z w64 (of_z w64 a.depth)) c.loop-here.invariant _ c.loop-here-test.true (same_not _ _ (λ q. c.if-here-depth.true (ap (of_z w64) (q ∙ to_z-of_z c.ranges.depth)))) (rw c.counted-counted.ensures at c.in-Ok.ensures) refl c.place.ensures

pub returns-else-here-depth : goal.returns-else-here-depth
returns-else-here-depth c =
    let a = c.args in
    let e : to_z w64 (of_z w64 c.loop-here.here.raw.depth) ≡ c.loop-here.here.raw.depth = search rules in
    rw (to_z-of_z c.ranges.depth) at (to_found 64 a.self.bytes.now a.abbreviations.now.rows a.abbreviations.now.specs (to_z w64 (of_z w64 a.depth)) c.loop-here.invariant (same_is _ _ (sym e ∙ ap (to_z w64) c.if-here-depth.false)))

pub returns-after-loop-here : goal.returns-after-loop-here
returns-after-loop-here c =
    let a = c.args in
    rw (to_z-of_z c.ranges.depth) at (sought_ended 64 a.self.bytes.now a.abbreviations.now.rows a.abbreviations.now.specs (by_jump (length a.self.bytes.now)) (jumps_on 64 a.self.bytes.now a.abbreviations.now.rows a.abbreviations.now.specs) (stands_at (to_z w64 (of_z w64 a.depth))) c.loop-here.invariant c.loop-here-test.false)
