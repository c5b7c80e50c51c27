-- Demand 3: what is supposed of a root, what the tree says, and what the plain walk says.
use Rattle.std.specs.Prelude.{Bool, true, false, cond, ◌&&◌, List, [], ◌∷◌, map, ℕ, ◌+◌, ℤ, pos, length}
use Rattle.std.proofs.Math.Option.{Option, none, some}
use Rattle.reader.specs.Answer.{Answer, got, refused, and_then}
use Rattle.entries.specs.Entry.{Entry, is_null, jump_of}
use Rattle.entries.specs.Flat as flat
use Rattle.attribute.specs.declared.source.Source.{Source}
use Rattle.entries.specs.Read.{entry_at, same_depth}
use Rattle.tree.specs.Tree.{Tree, Answered, next_of, root_of}
use Rattle.tree.specs.Walk.{Item, Reply, replies}

-- ---- a root's flat reading

-- 01, "The plain walk": through the first null at depth 1
abbrev pub closes : Entry → Bool
closes e = is_null e && same_depth e.depth (pos 1)

-- an item of the flat reading of a part, as the walk has it: with offsets in the unit and the jump that it offers
abbrev pub item_of : Source → ℕ → flat.Item → Item Entry
item_of src count i =
    record {
      at = i.value.offset;
      next = src.start + i.next;
      depth = i.value.depth;
      null = is_null i.value;
      children = i.value.children;
      jump = jump_of i.value (src.start + i.next) (src.start + count);
      body = i.value;
    }

module _ (most : ℕ) (src : Source) (s rows specs : List ℕ) where
  -- what follows a root: all items at depth 1 on, or nothing where it has no children
  abbrev pub under_root : flat.Item → Answer (List flat.Item)
  under_root i = cond i.value.children (flat.items_from most src s rows specs closes i.next (pos 1)) (got [])

  -- 01: "all items read raw from it at depth 0 through the first null at depth 1 or to the end; a root without children stands alone"; question 20
  unfoldable pub root_reading : Answer (List flat.Item)
  root_reading =
      and_then (entry_at most src s rows specs 0 (pos 0))
      (λ i. cond (is_null i.value) (refused 20) (and_then (under_root i) (λ l. got (i ∷ l))))

  -- the same as the walk's list
  abbrev pub walk_items : List flat.Item → List (Item Entry)
  walk_items l = map (item_of src (length s)) l

-- ---- what is said

-- an answer of the tree: the entry that it holds, "no more" or a refusal
abbrev pub said : Answer Bool → Entry → Answer (Option Entry)
said (got true) e = got (some e)
said (got false) e = got none
said (refused n) e = refused n

abbrev pub said_by : Answered → Answer (Option Entry)
said_by r = said r.answer r.tree.cursor.entry

-- what a list of level calls on a tree says, each on the state last handed back
abbrev pub tree_replies : ℕ → List ℕ → List ℕ → List ℕ → List ℤ → Tree → List (Answer (Option Entry))
tree_replies most s rows specs ks t =
    replies (λ (k : ℤ) (u : Tree). (said_by (next_of most s rows specs k u), (next_of most s rows specs k u).tree)) ks t

-- 01: "A tree walk is one successful root, then any list of level calls": what the root and the calls say
abbrev pub tree_walk : ℕ → List ℕ → List ℕ → List ℕ → List ℤ → Tree → List (Answer (Option Entry))
tree_walk most s rows specs ks t =
    said_by (root_of most s rows specs t) ∷ tree_replies most s rows specs ks (root_of most s rows specs t).tree

-- an answer of the walk: the entry whole
abbrev pub whole : Reply Entry → Answer (Option Entry)
whole (got (some i)) = got (some i.body)
whole (got none) = got none
whole (refused n) = refused n
