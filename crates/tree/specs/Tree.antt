-- The tree: a cursor, and whether a root was read.
use Rattle.std.specs.Prelude.{Bool, true, false, cond, ◌&&◌, List, ℕ, ℤ, pos, length}
use Rattle.std.proofs.Math.IntN.{suc_ℤ}
use Rattle.reader.specs.Answer.{Answer, got, refused, and_then}
use Rattle.entries.specs.Cursor.{Cursor, new_cursor, keeps_cursor, OpenedCursor, Called, settled, advanced, to_depth}
use Rattle.entries.specs.Entry.{is_null}
use Rattle.entries.specs.Raw.{Taken, moved_to, raw_entry}
use Rattle.entries.specs.Read.{same_depth}
use Rattle.entries.specs.declared.raw.EntriesRaw.{EntriesRaw}
use Rattle.tree.specs.Walk.{in_range}

pub record Tree : Type 0 where
  pub rooted : Bool
  pub cursor : Cursor

-- 01: a new tree has no root
abbrev pub unrooted : Cursor → Tree
unrooted c = record { rooted = false; cursor = c }

-- an opening: a new tree, or the cursor's refusal
abbrev pub new_tree : Answer Cursor → Answer Tree
new_tree r = and_then r (λ c. got (unrooted c))

-- the same with answer and tree side by side, of which the theorems speak (`promised` of proofs/Opened ties the two); after a refusal the tree is one that every call that reads refuses with 1
pub record OpenedTree : Type 0 where
  pub answer : Answer (Unit {0})
  pub tree : Tree

abbrev pub tree_over : OpenedCursor → OpenedTree
tree_over r = record { answer = r.answer; tree = unrooted r.cursor }

-- what a call says, whether an entry was reached, and the tree that it leaves, which holds the entry
pub record Answered : Type 0 where
  pub answer : Answer Bool
  pub tree : Tree

abbrev pub no_more : Tree → Answered
no_more t = record { answer = got false; tree = t }

abbrev pub refuses : ℕ → Tree → Answered
refuses n t = record { answer = refused n; tree = t }

-- 01, question 1: before all reading, and the state is kept
abbrev pub judged_tree : ℕ → ℕ → Tree → Answered → Answered
judged_tree most count t r = cond (keeps_cursor most count t.cursor) r (refuses 1 t)

-- 01, "Walks": a root is read at depth 0, where the bytes start
abbrev pub restarted : EntriesRaw → EntriesRaw
restarted w = moved_to w 0 (pos 0)

-- 01, question 20: no null; a failed root leaves the tree as new
abbrev pub root_by : ℕ → EntriesRaw → Answer Bool → Taken → Answered
root_by most w (got true) x =
    record { answer = got true; tree = record { rooted = true; cursor = record { input = x.raw; entry = x.entry } } }
root_by most w (got false) x = refuses 20 (unrooted (new_cursor most w))
root_by most w (refused n) x = refuses n (unrooted (new_cursor most w))

abbrev pub rooted : ℕ → EntriesRaw → Taken → Answered
rooted most w x = root_by most w x.answer x

-- the tree after a call on its cursor
abbrev pub in_tree : Called → Answered
in_tree r = record { answer = r.answer; tree = record { rooted = true; cursor = r.cursor } }

module _ (most : ℕ) (s rows specs : List ℕ) where
  -- gimli's root
  unfoldable pub root_of : Tree → Answered
  root_of t =
      judged_tree most (length s) t
      (rooted most (restarted t.cursor.input) (raw_entry most (restarted t.cursor.input) s rows specs))

  -- one level deeper than what is held: the next item after an entry with children
  unfoldable pub child_of : Tree → Answered
  child_of t =
      cond t.cursor.entry.children
      (in_tree (settled (advanced most s rows specs t.cursor.input t.cursor.entry.offset t.cursor.entry.depth)))
      (no_more t)

  -- at or above what is held: a null there has closed the level, else on to the next item at its depth
  unfoldable pub level_of : ℤ → Tree → Answered
  level_of k t =
      cond (is_null t.cursor.entry && same_depth t.cursor.entry.depth k)
      (no_more t)
      (in_tree (to_depth most s rows specs k t.cursor))

  -- 01, question 21: has the tree a root, and is the level from 1 to the depth of what it holds plus 1
  unfoldable pub next_of : ℤ → Tree → Answered
  next_of k t =
      judged_tree most (length s) t
      (cond (t.rooted && in_range k t.cursor.entry.depth)
      (cond (same_depth k (suc_ℤ t.cursor.entry.depth)) (child_of t) (level_of k t))
      (refuses 21 t))
