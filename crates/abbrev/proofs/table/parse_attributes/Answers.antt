use Rattle.std.proofs.Common.{sym, arith}
use Rattle.abbrev.proofs.Attributes.{ended, further}
use Rattle.abbrev.proofs.table.parse_attributes.Goals as goal

pub returns-then-pair-eq0 : goal.returns-then-pair-eq0
returns-then-pair-eq0 c = ended c.loop-n.invariant (sym c.in_ok-pair.ensures) c.if-pair-eq0.true

pub loop-n-preserved : goal.loop-n-preserved
loop-n-preserved c =
    further c.loop-n.invariant (omega arith) (sym c.in_ok-pair.ensures) c.if-pair-eq0.false (sym c.in_ok-constant.ensures) c.put_row.auto.words c.put_row.ensures.kept
