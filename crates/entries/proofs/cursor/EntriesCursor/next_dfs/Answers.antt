use Rattle.entries.proofs.CursorLaws.{arrived_at}
use Rattle.entries.specs.Cursor.{plainly, is_entry, next_dfs}
use Rattle.entries.specs.Views.{view_cursor}
use mathlib.Core.List.{[]}
use mathlib.Core.Path.{◌∙◌, refl}
use native.Mathlib.Nat.{le_refl}
use Rattle.entries.proofs.cursor.EntriesCursor.next_dfs.Goals as goal

pub invariant_of-advance : goal.invariant_of-advance
invariant_of-advance c = record { kept = (c.pass_nulls.ensures [] []).kept }

pub returns : goal.returns
unfolding next_dfs
returns c =
    let a = c.args in
    rw (← c.keeps_sizes.ensures, c.if-not-keeps_sizes.false)
    (c.advance.ensures ∙ arrived_at 64 a.bytes.now a.abbreviations.now.rows a.abbreviations.now.specs plainly (λ x. le_refl x.input.position) is_entry (view_cursor a.self) refl (rw c.last.ensures at (c.pass_nulls.ensures a.abbreviations.now.rows a.abbreviations.now.specs)))
