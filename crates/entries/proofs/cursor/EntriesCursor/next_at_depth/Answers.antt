use Rattle.entries.proofs.CursorLaws.{cursor_kept, arrived_at}
use Rattle.entries.proofs.PassLaws.{jumps_on}
use Rattle.entries.proofs.SeekLaws.{jump_kept}
use Rattle.entries.specs.Cursor.{by_jump, stands_at, to_depth, next_at_depth}
use Rattle.entries.specs.Steps.{KeptRaw}
use Rattle.entries.specs.Views.{view_cursor, view_entry}
use lib.ListN.{length}
use mathlib.Core.Path.{refl, sym, subst, ◌∙◌}
use mir.Facts.{to_z-of_z}
use Rattle.entries.proofs.cursor.EntriesCursor.next_at_depth.Goals as goal

pub invariant_of-from : goal.invariant_of-from
invariant_of-from c =
    let a = c.args in
    let k = cursor_kept 64 _ (view_cursor a.self) (sym c.keeps_sizes.ensures ∙ c.if-not-keeps_sizes.false) in
    record { kept = subst (KeptRaw (length a.bytes.now)) (sym c.jump_from.ensures) (jump_kept (length a.bytes.now) a.self.input (view_entry a.self.entry) k.0 k.1) }

pub returns : goal.returns
unfolding next_at_depth to_depth
returns c =
    let a = c.args in
    let p = rw (c.last.ensures, c.jump_from.ensures, to_z-of_z c.ranges.depth) at c.pass_to.ensures in
    rw (← c.keeps_sizes.ensures, c.if-not-keeps_sizes.false)
    (c.advance.ensures ∙ arrived_at 64 a.bytes.now a.abbreviations.now.rows a.abbreviations.now.specs (by_jump (length a.bytes.now)) (jumps_on 64 a.bytes.now a.abbreviations.now.rows a.abbreviations.now.specs) (stands_at a.depth) (view_cursor a.self) refl p)
