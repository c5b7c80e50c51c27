-- The code's answers and structs in the definitions' terms.
use Rattle.std.specs.Prelude.{Bool, cond, true, false, ℤ, Some, None}
use Rattle.std.specs.Prelude as code
use Rattle.std.proofs.Math.Option.{Option, none, some}
use Rattle.std.proofs.Math.IntN.{suc_ℤ}
use Rattle.entries.specs.Read.{same_depth}
use Rattle.reader.specs.Views.{view}
use Rattle.entries.specs.Views.{view_cursor}
use Rattle.tree.specs.Tree.{Tree, Answered}
use Rattle.tree.specs.Walk.{in_range}
use Rattle.tree.specs.declared.tree.EntriesTree.{EntriesTree}
use Rattle.tree.specs.declared.tree.Level.{Level}
use Rattle.tree.specs.declared.tree.Level.TheVariants as level
use Rattle.tree.specs.declared.tree.TreeNext.{TreeNext}

abbrev pub view_tree : EntriesTree → Tree
view_tree t = record { rooted = t.rooted; cursor = view_cursor t.cursor }

abbrev pub view_tree_next : TreeNext → Answered
view_tree_next r = record { answer = view r.answer; tree = view_tree r.tree }

-- whether a level is one deeper than what is held, or at or above it; none where it is out of range
abbrev pub view_level : code.Option Level → Option Bool
view_level (Some level.Deeper) = some true
view_level (Some level.AtOrAbove) = some false
view_level None = none

abbrev pub level_for : ℤ → ℤ → Option Bool
level_for k d = cond (in_range k d) (some (same_depth k (suc_ℤ d))) none
