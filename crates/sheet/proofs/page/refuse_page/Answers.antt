use native.Mathlib.Omega.{arith}
use mathlib.Core.Path.{◌≡◌, sym, ap, ◌∙◌}
use Prim.Native.Nat.{◌≤◌, ◌<◌}
use borrow.Author.Rules.{rules}
use lib.ListN.{length}
use lib.Seq.{length-take-le}
use Rattle.sheet.proofs.PageLaws.{blank_shown, shown_short}
use Rattle.sheet.proofs.page.refuse_page.Goals as goal

pub returns-in_default : goal.returns-in_default
returns-in_default c =
    let short : length c.args.page.now < 1980 = search rules in
    sym (shown_short 0 _ c.args.page.now short)

pub returns : goal.returns
returns c =
    let long : 1980 ≤ length c.args.page.now = search rules in
    let e : length c.in-Some.page.now ≡ 1980 = ap length c.in-Some.ensures.cases.same ∙ length-take-le 1980 c.args.page.now long in
    blank_shown 0 _ c.args.page.now c.in-Some.page.now c.put_blank.new.page long e c.put_blank.ensures
