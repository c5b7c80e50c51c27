use Rattle.std.proofs.Common.{arith}
use Rattle.listing.proofs.TextLaws.{lined, put_then, put_then_field}
use Rattle.listing.specs.Text.{text, null_line, entry_line}
use borrow.Author.Tests.{ne_eqb}
use mir.Facts.{to_z-of_z}
use mir.Syntax.{w64}
use Rattle.listing.proofs.lines.Lines.put_item.Goals as goal

pub returns-then-tag-eq0 : goal.returns-then-tag-eq0
unfolding text
returns-then-tag-eq0 c =
    let d = to_z-of_z {w = w64} {z = c.from_word.result} (record { sfits = c.from_word.type_inv }) in
    let p = put_then (rw c.decimal.ensures at c.put_field.ensures) (rw (c.text.ensures, c.signed.ensures, d, c.from_word.ensures) at c.put.ensures) in
    rw c.if-tag-eq0.true (lined (null_line _ _) (omega (arith, rw c.from_word.ensures at c.from_word.type_inv)) (put_then p c.put-then-tag-eq0.ensures))

pub returns : goal.returns
unfolding text
returns c =
    let d = to_z-of_z {w = w64} {z = c.from_word.result} (record { sfits = c.from_word.type_inv }) in
    let p = put_then (rw c.decimal.ensures at c.put_field.ensures) (rw (c.text.ensures, c.signed.ensures, d, c.from_word.ensures) at c.put.ensures) in
    let q =
    put_then_field (put_then_field (put_then p c.put-2.ensures) _ _ _ (rw c.hexadecimal.ensures at c.put_field-2.ensures)) _ _ _ (rw c.decimal-2.ensures at c.put_field-3.ensures) in
    rw (ne_eqb _ 0 c.if-tag-eq0.false) (lined (entry_line _ _ _ _) (omega (arith, rw c.from_word.ensures at c.from_word.type_inv)) q)
