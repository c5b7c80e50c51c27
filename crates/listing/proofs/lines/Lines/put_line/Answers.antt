use Rattle.std.proofs.Common.{◌≡◌, arith, rules}
use Rattle.listing.proofs.TextLaws.{lined, put_then_field}
use Rattle.listing.specs.Text.{text, end_line}
use Rattle.listing.specs.Written.{view_line}
use Rattle.listing.proofs.lines.Lines.put_line.Goals as goal

pub returns-in-Ok-None : goal.returns-in-Ok-None
unfolding text
returns-in-Ok-None c = let e : view_line c.args.line ≡ end_line = search rules in rw e (lined end_line tt c.put.ensures)

pub returns-in-Err : goal.returns-in-Err
unfolding text
returns-in-Err c =
    rw c.in-Err.is (lined _ (omega arith) (put_then_field c.put-in-Err.ensures _ _ _ (rw (c.decimal.ensures, c.number.ensures) at c.put_field.ensures)))
