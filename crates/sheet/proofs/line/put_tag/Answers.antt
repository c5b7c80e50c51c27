use native.Mathlib.Omega.{arith}
use lib.ListN.{length-append, length-take, length-drop}
use Rattle.listing.proofs.TextLaws.{numeral_most}
use Rattle.sheet.proofs.line.put_tag.Goals as goal

pub put_right-requires : goal.put_right-requires
put_right-requires c =
    let m = numeral_most 16 3 c.args.tag (omega arith) c.requires.0 in
    rw (c.text.ensures, c.hexadecimal.ensures) (simp (length-take, length-drop, length-append) (omega (arith, m, c.requires.1, c.copy_from_slice-2.auto.self, length-take 2 c.args.columns.now)))
