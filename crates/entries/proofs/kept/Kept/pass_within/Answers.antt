use Rattle.entries.proofs.RunLaws.{tag_told, count_told, run_further, run_ended, run_refused}
use borrow.Author.Rules.{rules}
use mathlib.Core.Path.{◌≡◌, refl, sym, ◌∙◌}
use mir.Syntax.{w64}
use mir.Val.{to_z, of_z}
use Rattle.entries.proofs.kept.Kept.pass_within.Goals as goal

pub returns-then-is_empty : goal.returns-then-is_empty
returns-then-is_empty c = let a = c.args in run_ended 64 a.self.bytes.now a.abbreviations.now.rows a.abbreviations.now.specs c.loop-count.invariant (sym c.is_empty.ensures ∙ c.if-is_empty.true)

pub returns-in-Err : goal.returns-in-Err
returns-in-Err c =
    let a = c.args in
    run_refused 64 a.self.bytes.now a.abbreviations.now.rows a.abbreviations.now.specs c.loop-count.invariant (sym c.is_empty.ensures ∙ c.if-is_empty.false) c.loop-count-test.true c.in-Err.ensures

pub loop-count-preserved : goal.loop-count-preserved
loop-count-preserved c =
    let a = c.args in
    let e : to_z w64 (of_z w64 c.loop-count.here.depth) ≡ c.loop-count.here.depth = search rules in
    run_further 64 a.self.bytes.now a.abbreviations.now.rows a.abbreviations.now.specs c.loop-count.invariant (sym c.is_empty.ensures ∙ c.if-is_empty.false) c.loop-count-test.true c.in-Ok.ensures refl c.put_item.auto.out
    (rw (c.to_word-depth.ensures, e, c.from.ensures, c.unwrap_or-tag.ensures, tag_told, count_told) at c.put_item.ensures)
