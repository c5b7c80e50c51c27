use mathlib.Core.Path.{sym, ap, ◌∙◌}
use mir.Facts.{to_z-of_z}
use Rattle.tree.proofs.LevelLaws.{level_open, depth_kept}
use Rattle.tree.specs.Tree.{in_tree}
use Rattle.tree.specs.Views.{view_tree}
use Rattle.tree.proofs.tree.EntriesTree.next_at.Goals as goal

pub returns : goal.returns
returns c =
    let a = c.args in
    let t = a.abbreviations.now in
    c.within.ensures ∙ ap in_tree (rw (to_z-of_z c.ranges.depth) at c.next_at_depth.ensures ∙ depth_kept 64 a.bytes.now t.rows t.specs (view_tree a.self).cursor c.requires a.depth)
    ∙ level_open 64 a.bytes.now t.rows t.specs (view_tree a.self) a.depth (sym (rw (to_z-of_z c.ranges.depth) at c.if-closes.ensures))
