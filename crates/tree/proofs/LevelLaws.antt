-- Laws of the calls at a level.
use mathlib.Core.Bool.{Bool, true, false, cond, ◌&&◌}
use mathlib.Core.Path.{◌≡◌, sym, ap}
use mathlib.Core.List.{List}
use Prim.Native.Nat.{ℕ}
use lib.IntN.{ℤ}
use lib.ListN.{length}
use Rattle.entries.specs.Cursor.{Cursor, keeps_cursor, settled, advanced, next_child, to_depth, next_at_depth}
use Rattle.entries.specs.Entry.{is_null}
use Rattle.entries.specs.Read.{same_depth}
use Rattle.tree.specs.Tree.{Tree, in_tree, level_of}

-- what a test chooses
choose : {A : Type 0} {b : Bool} (c : Bool) (x y : A) → b ≡ c → cond b x y ≡ cond c x y
choose {A} c x y h = ap (λ (t : Bool). cond t x y) h

module _ (most : ℕ) (s rows specs : List ℕ) where
  -- a level that no null has closed
  pub level_open : (t : Tree) (k : ℤ) → is_null t.cursor.entry && same_depth t.cursor.entry.depth k ≡ false → in_tree (to_depth most s rows specs k t.cursor) ≡ level_of most s rows specs k t
  unfolding level_of
  level_open t k h = sym (choose false _ _ h)

  -- the cursor's calls on a state that keeps the sizes
  module _ (c : Cursor) (kept : keeps_cursor most (length s) c ≡ true) where
    pub child_kept : next_child most s rows specs c ≡ settled (advanced most s rows specs c.input c.entry.offset c.entry.depth)
    unfolding next_child
    child_kept = choose true _ _ kept

    pub depth_kept : (k : ℤ) → next_at_depth most s rows specs k c ≡ to_depth most s rows specs k c
    unfolding next_at_depth
    depth_kept k = choose true _ _ kept
