use native.Mathlib.Omega.{arith}
use mathlib.Core.Path.{◌≡◌, ap, ◌∙◌}
use mir.Facts.{to_z-of_z}
use mir.Syntax.{w64}
use lib.ListN.{length, length-take}
use Rattle.listing.proofs.TextLaws.{numeral_most}
use Rattle.sheet.proofs.ColumnLaws.{signed_short}
use Rattle.sheet.proofs.LineLaws.{part_length, column_is, line_first, line_third, first_length, third_length, tag_length, line_put}
use Rattle.sheet.proofs.line.put_line.Goals as goal

pub put_right-requires : goal.put_right-requires
put_right-requires c =
    let m = numeral_most 10 9 _ (omega arith) c.requires.fair.offset_small in
    rw (c.text.ensures, c.decimal.ensures) (omega (arith, m, length-take 10 c.args.line.now, c.requires.room))

pub put_right-requires-2 : goal.put_right-requires-2
put_right-requires-2 c =
    let r = c.requires.room in
    let l = c.args.line.now in
    let c₁ = c.put_right.new.columns in
    let n : length c₁ ≡ 10 = c.put_right.auto.columns ∙ part_length 0 10 l (omega (arith, r)) in
    let d = to_z-of_z {w = w64} {z = c.from_word.result} (record { sfits = c.from_word.type_inv }) in
    rw (c.text-2.ensures, c.signed.ensures, d, c.from_word.ensures, part_length 11 11 (line_first l c₁) (omega (arith, first_length l c₁ r n))) (signed_short _ c.requires.fair.depth_small)

pub put_right-requires-3 : goal.put_right-requires-3
put_right-requires-3 c =
    let r = c.requires.room in
    let l = c.args.line.now in
    let c₁ = c.put_right.new.columns in
    let c₂ = c.put_right-2.new.columns in
    let c₃ = c.put_tag.new.columns in
    let n : length c₁ ≡ 10 = c.put_right.auto.columns ∙ part_length 0 10 l (omega (arith, r)) in
    let n₂ : length c₂ ≡ 11 = c.put_right-2.auto.columns ∙ part_length 11 11 (line_first l c₁) (omega (arith, first_length l c₁ r n)) in
    let n₃ : length c₃ ≡ 6 = ap length c.put_tag.ensures ∙ tag_length _ c.requires.fair.tag_small in
    rw (c.text-3.ensures, c.decimal-2.ensures, part_length 30 2 (line_third l c₁ c₂ c₃) (omega (arith, third_length l c₁ c₂ c₃ r n n₂ n₃))) (numeral_most 10 1 _ (omega arith) c.requires.fair.count_small)

pub returns : goal.returns
returns c =
    let r = c.requires.room in
    let l = c.args.line.now in
    let c₁ = c.put_right.new.columns in
    let c₂ = c.put_right-2.new.columns in
    let c₃ = c.put_tag.new.columns in
    let n : length c₁ ≡ 10 = c.put_right.auto.columns ∙ part_length 0 10 l (omega (arith, r)) in
    let n₂ : length c₂ ≡ 11 = c.put_right-2.auto.columns ∙ part_length 11 11 (line_first l c₁) (omega (arith, first_length l c₁ r n)) in
    let n₃ : length c₃ ≡ 6 = ap length c.put_tag.ensures ∙ tag_length _ c.requires.fair.tag_small in
    let d = to_z-of_z {w = w64} {z = c.from_word.result} (record { sfits = c.from_word.type_inv }) in
    line_put c.requires.fair l r (rw (c.text.ensures, c.decimal.ensures) at c.put_right.ensures ∙ column_is 0 10 l _ (omega (arith, r)))
    (rw (c.text-2.ensures, c.signed.ensures, d, c.from_word.ensures) at c.put_right-2.ensures ∙ column_is 11 11 (line_first l c₁) _ (omega (arith, first_length l c₁ r n))) c.put_tag.ensures
    (rw (c.text-3.ensures, c.decimal-2.ensures) at c.put_right-3.ensures ∙ column_is 30 2 (line_third l c₁ c₂ c₃) _ (omega (arith, third_length l c₁ c₂ c₃ r n n₂ n₃)))
