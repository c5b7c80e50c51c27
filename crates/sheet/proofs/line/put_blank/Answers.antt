use native.Mathlib.Omega.{arith}
use borrow.Author.Rules.{rules}
use mathlib.Core.Path.{◌≡◌, ap, ◌∙◌}
use mathlib.Core.List.{List}
use Prim.Native.Nat.{ℕ, ◌+◌, ◌-◌, ◌*◌, ◌≤◌}
use lib.ListN.{length}
use Rattle.sheet.specs.Steps.{splice}
use Rattle.sheet.proofs.LineLaws.{mid_is, mid_length, blanked_further}
use Rattle.sheet.proofs.line.put_blank.Goals as goal

pub loop-i-preserved : goal.loop-i-preserved
loop-i-preserved c =
    let p = c.loop-i.page in
    let t = c.copy_from_slice.new.self in
    let at = c.loop-i.i * 33 in
    let w = at + 33 - at in
    let e = c.copy_from_slice.ensures.after in
    let n : length t ≡ w = ap length e ∙ omega arith in
    let r : length c.args.page.now ≡ 1980 = search rules in
    let room : at + w ≤ length p = omega (arith, c.loop-i.invariant.same, r, c.loop-i-test.true) in
    blanked_further c.loop-i.invariant c.loop-i.auto.i c.loop-i-test.true (omega (arith, r)) (mid_length at w p t n room) (mid_is at w p t n room ∙ ap (λ (x : List ℕ). splice at x p) e)
