use Rattle.sheet.proofs.PageLaws.{Placing}
use Rattle.sheet.proofs.page.place_lines.Given as goal

abbrev pub invariant-loop-i : goal.invariant-loop-i
invariant-loop-i l = Placing l.first l.k l.items l.initial.page l.page l.i
