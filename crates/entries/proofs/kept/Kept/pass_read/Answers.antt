use Rattle.entries.proofs.PassLaws.{read_passed}
use Rattle.entries.proofs.SeekLaws.{read_after}
use Rattle.reader.specs.Views.{view}
use mathlib.Core.Option.{some}
use mathlib.Core.Path.{ap, ◌∙◌}
use Rattle.entries.proofs.kept.Kept.pass_read.Goals as goal

pub invariant_of-after : goal.invariant_of-after
invariant_of-after c = let a = c.args in record { kept = read_after 64 a.self.bytes.now a.abbreviations.now.rows a.abbreviations.now.specs a.self.raw a.self.kept c.read_entry-read.ensures (ap view c.in_ok-read.was) }

pub returns : goal.returns
returns c = let a = c.args in ap some c.jump_from.ensures ∙ read_passed 64 a.self.bytes.now a.abbreviations.now.rows a.abbreviations.now.specs a.self.raw a.self.kept c.read_entry-read.ensures (ap view c.in_ok-read.was)
