use Rattle.entries.proofs.RawLaws.{entry_read}
use Rattle.reader.specs.Views.{view}
use borrow.Author.Rules.{rules}
use mathlib.Core.Path.{sym, ap, ◌∙◌}
use Rattle.entries.proofs.raw.EntriesRaw.read_entry.Goals as goal

pub returns : goal.returns
returns c =
    let a = c.args in
    c.take_entry.ensures ∙ entry_read 64 a.self a.bytes.now a.abbreviations.now.rows a.abbreviations.now.specs (search rules) (rw c.in-Some.is at (sym c.in-Ok.ensures)) (rw (c.source.ensures, c.specs.ensures) at c.read_attributes-read.ensures) (ap view c.in-Ok-end.is)
