use Rattle.std.proofs.Common.{arith}
use Rattle.listing.proofs.TextLaws.{lined, put_then_field}
use Rattle.listing.specs.Listing.{head_line}
use Rattle.listing.specs.Text.{text}
use Rattle.listing.proofs.lines.Lines.put_unit.Goals as goal

pub returns : goal.returns
unfolding text
returns c =
    let p = put_then_field c.put.ensures _ _ _ (rw c.decimal.ensures at c.put_field.ensures) in
    let q = put_then_field p _ _ _ (rw (c.decimal-2.ensures, c.from.ensures) at c.put_field-2.ensures) in
    let r = put_then_field q _ _ _ (rw (c.decimal-3.ensures, c.from-bits.ensures, c.word_size.ensures) at c.put_field-3.ensures) in
    lined (head_line c.args.header) (omega arith) (put_then_field r _ _ _ (rw (c.decimal-4.ensures, c.from-2.ensures) at c.put_field-4.ensures))
