use Prim.Native.Nat.{◌-◌}
use Rattle.abbrev.specs.Table.{entry_limit}
use Rattle.sheet.proofs.PageLaws.{Going, values_few}
use lib.ListN.{length}
use mathlib.Core.Path.{◌≡◌}
use Rattle.sheet.proofs.page.read_page.Given as goal

abbrev pub invariant-loop-here : goal.invariant-loop-here
invariant-loop-here l = Going entry_limit.most values_few l.bytes l.abbreviations.rows l.abbreviations.specs l.n l.initial.page l.initial.here l.page l.here l.seen × (length l.words ≡ 1024)

abbrev pub decreases-loop-here : goal.decreases-loop-here
decreases-loop-here l = length l.bytes - l.here.position
