-- 01's sizes: a tree that keeps them hands back one that keeps them.
use mathlib.Core.Path.{◌≡◌, refl}
use mathlib.Core.Bool.{true}
use mathlib.Core.List.{List}
use Prim.Native.Nat.{ℕ}
use lib.IntN.{ℤ}
use lib.ListN.{length}
use Rattle.entries.specs.Cursor.{keeps_cursor}
use Rattle.entries.specs.Raw.{source_of}
use Rattle.tree.specs.Tree.{Tree, next_of, root_of}
use Rattle.tree.proofs.Real.{next_same, root_left}

module _ (most : ℕ) (s rows specs : List ℕ) (t : Tree) (kept : keeps_cursor most (length s) t.cursor ≡ true) where
  -- a level call, whatever it says
  pub next_kept : (k : ℤ) → keeps_cursor most (length s) (next_of most s rows specs k t).tree.cursor ≡ true
  next_kept k = (next_same most (source_of t.cursor.input) s rows specs k t (record { source = refl; sizes = kept })).keeps.sizes

  -- a root, read or refused
  pub root_kept : keeps_cursor most (length s) (root_of most s rows specs t).tree.cursor ≡ true
  root_kept = (root_left most (source_of t.cursor.input) s rows specs t (record { source = refl; sizes = kept })).keeps.sizes
