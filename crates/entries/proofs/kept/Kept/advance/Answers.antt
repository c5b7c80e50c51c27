use Rattle.entries.proofs.CursorLaws.{held_asked}
use Rattle.entries.proofs.kept.Kept.advance.Goals.{then-is_entry, else-is_entry}
use Rattle.entries.specs.Cursor.{Called, advanced}
use Rattle.entries.specs.Views.{view_entry}
use Rattle.reader.specs.Answer.{got}
use Rattle.reader.specs.Views.{view}
use mathlib.Core.Bool.{Bool, ◌||◌}
use mathlib.Core.Path.{ap, ◌≡◌, ◌∙◌}
use Rattle.entries.proofs.kept.Kept.advance.Goals as goal

pub returns : goal.returns
unfolding advanced
returns c =
    let a = c.args in
    let said : Bool → Called = λ (b : Bool). record { answer = got b; cursor = record { input = c.read_entry-read.result.raw; entry = view_entry c.read_entry-read.result.entry } } in
    let e : c.if-is_entry.result ≡ (c.in-Ok.is_entry || a.nulls) = elim c.if-is_entry.branch [ then-is_entry w ↦ rw (w.result-is, w.if-is_entry.true) | else-is_entry w ↦ rw (w.result-is, w.if-is_entry.false) ] in
    rw (← c.is_empty.ensures, c.if-is_empty.false) (ap said e ∙ held_asked 64 a.self.bytes.now a.abbreviations.now.rows a.abbreviations.now.specs a.self.raw a.self.kept c.read_entry-read.ensures a.nulls c.in-Ok.is_entry (ap view c.in-Ok.is))
