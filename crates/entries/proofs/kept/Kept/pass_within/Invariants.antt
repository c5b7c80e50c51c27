use Rattle.entries.proofs.RunLaws.{Run}
use Rattle.entries.proofs.kept.Kept.pass_within.Given as goal

abbrev pub invariant-loop-count : goal.invariant-loop-count
invariant-loop-count l = Run 64 l.bytes l.abbreviations.rows l.abbreviations.specs l.initial.here l.initial.out l.here l.out l.count
