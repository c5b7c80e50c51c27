use mathlib.Core.Path.{refl, ap, ◌∙◌}
use mathlib.Core.List.{map}
use lib.ListN.{drop}
use mir.Facts.{to_z-of_z}
use mir.Syntax.{w64}
use Rattle.std.proofs.Common.{is_some, ◌++◌, ◌+◌}
use Rattle.listing.specs.Written.{words_line}
use Rattle.listing.proofs.LinesLaws.{lines_full, lines_none, lines_held, going_further, going_broken, item_next}
use Rattle.listing.proofs.lines.Lines.add_items.Goals as goal

pub returns-then-is_some : goal.returns-then-is_some
returns-then-is_some c = lines_full (cc)

pub returns-then-self-lt72 : goal.returns-then-self-lt72
returns-then-self-lt72 c =
    let a = c.args in
    let d = to_z-of_z {w = w64} {z = c.from_word.result} (record { sfits = c.from_word.type_inv }) in
    going_broken c.loop-item.invariant.1 (λ rest. map (words_line a.unit) (drop (c.loop-item.item-index + 1) a.items.now) ++ rest) (item_next (words_line a.unit) a.items.now c.loop-item.item-index c.loop-item-test.true)
    (lines_none c.loop-item.invariant.0 refl c.if-self-lt72.true refl (rw (d, c.from_word.ensures)))

pub loop-item-preserved : goal.loop-item-preserved
loop-item-preserved c =
    let a = c.args in (
      ap is_some c.put_item.ensures.put.next ∙ c.loop-item.invariant.0,
      going_further c.loop-item.invariant.1 (λ rest. map (words_line a.unit) (drop (c.loop-item.item-index + 1) a.items.now) ++ rest) (item_next (words_line a.unit) a.items.now c.loop-item.item-index c.loop-item-test.true)
          (lines_held c.loop-item.invariant.0 c.if-self-lt72.false c.put_item.ensures refl refl refl),
    )
