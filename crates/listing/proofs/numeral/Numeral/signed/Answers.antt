use mathlib.Core.Path.{sym, ◌∙◌}
use mir.Facts.{to_z-of_z}
use Rattle.listing.proofs.NumeralLaws.{sign_room, sign_stored}
use Rattle.listing.proofs.TextLaws.{signed_low, signed_high}
use Rattle.listing.proofs.numeral.Numeral.signed.Goals as goal

pub overflow_sub-numeral : goal.overflow_sub-numeral
overflow_sub-numeral c =
    sign_room c.unsigned_abs.result c.numeral.inside.start c.numeral.inside.bytes c.numeral.invariant.0 c.unsigned_abs.ensures.bound (c.numeral.view_is ∙ c.decimal-numeral.ensures)

pub returns-then-z-lt0 : goal.returns-then-z-lt0
returns-then-z-lt0 c =
    let e = to_z-of_z c.ranges.z in
    let d = c.numeral.view_is ∙ c.decimal-numeral.ensures in
    let r = sign_room c.unsigned_abs.result c.numeral.inside.start c.numeral.inside.bytes c.numeral.invariant.0 c.unsigned_abs.ensures.bound d in
    sign_stored _ 45 _ _ c.numeral.invariant.0 r c.numeral.invariant.1 d ∙ rw (c.unsigned_abs.ensures.value, e) (sym (signed_high c.args.z (rw e at c.if-z-lt0.true)))

pub returns-else-z-lt0 : goal.returns-else-z-lt0
returns-else-z-lt0 c =
    let e = to_z-of_z c.ranges.z in
    c.decimal-numeral.ensures ∙ rw (c.unsigned_abs.ensures.value, e) (sym (signed_low c.args.z (rw e at c.if-z-lt0.false)))
