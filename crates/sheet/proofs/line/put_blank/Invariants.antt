use Rattle.sheet.proofs.LineLaws.{Blanked}
use Rattle.sheet.proofs.line.put_blank.Given as goal

abbrev pub invariant-loop-i : goal.invariant-loop-i
invariant-loop-i l = Blanked l.initial.page l.line l.page l.i
