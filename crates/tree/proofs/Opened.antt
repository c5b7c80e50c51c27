-- A tree opened by a unit's header.
use mathlib.Core.Path.{◌≡◌, refl, ◌∙◌, ap, subst}
use mathlib.Core.Bool.{true, ◌&&◌}
use mathlib.Core.List.{List, map}
use mathlib.Core.Option.{none, some}
use Prim.Native.Nat.{ℕ, ◌+◌, ◌^◌, ◌≤◌}
use native.Mathlib.Omega.{arith}
use borrow.Author.Tests.{ltb-true, ltb-false, le-leb}
use lib.Dec.{leb, ltb}
use lib.IntN.{ℤ, pos}
use lib.ListN.{length}
use Rattle.reader.specs.Answer.{Answer, got, refused, and_then}
use Rattle.reader.specs.declared.endianity.RunTimeEndian.{RunTimeEndian}
use Rattle.reader.proofs.Answers.{cond_by}
use Rattle.unit.specs.Header.{in_bounds, unit_end}
use Rattle.unit.specs.Range.{part, range_from}
use Rattle.unit.specs.declared.header.UnitHeader.{UnitHeader}
use Rattle.entries.specs.Cursor.{Cursor, new_cursor, keeps_cursor, opened_cursor, or_no_cursor}
use Rattle.entries.specs.Entry.{Entry}
use Rattle.entries.specs.Flat as flat
use Rattle.entries.specs.Open.{cursor_from}
use Rattle.entries.specs.Raw.{source_of, opened}
use Rattle.attribute.specs.declared.source.Source.{Source}
use Rattle.entries.specs.declared.raw.EntriesRaw.{EntriesRaw}
use Rattle.entries.proofs.RawLaws.{raw_keeps}
use Rattle.tree.specs.Walk.{Jumps, walk_says}
use Rattle.tree.specs.Tree.{Tree, new_tree, OpenedTree, tree_over, root_of}
use Rattle.tree.specs.Demand.{root_reading, walk_items, tree_walk, whole}
use Rattle.tree.proofs.Agree.{All21}
use Rattle.tree.proofs.Loop.{given}
use Rattle.tree.proofs.Children.{Deeper}
use Rattle.tree.proofs.Demand.{demand_3, real_only_21, tree_after, Rises, said_rise, said_few}
use Rattle.tree.proofs.Corollary.{last_of, ChildrenGiven, children_given}

-- how a unit's values are read from an offset on
abbrev pub source_from : UnitHeader → ℕ → RunTimeEndian → Source
source_from h offset e = record { start = offset; encoding = h.encoding; endian = e }

module _ (most : ℕ) (h : UnitHeader) (u : List ℕ) (offset : ℕ) (e : RunTimeEndian) where
  -- what `entries_tree` promises, and `root_entries_tree` with the header's size for the offset (`promised`)
  abbrev pub tree_from : OpenedTree
  tree_from = tree_over (or_no_cursor most e (cursor_from h u most offset e))

  pub promised : new_tree (cursor_from h u most offset e) ≡ and_then tree_from.answer (λ _. got tree_from.tree)
  promised = by (cursor_from h u most offset e)
    where
      by : (r : Answer Cursor) → new_tree r ≡ and_then (tree_over (or_no_cursor most e r)).answer (λ _. got (tree_over (or_no_cursor most e r)).tree)
      by (got c) = refl
      by (refused n) = refl

  -- a new tree over the part of the unit's bytes that starts at the offset
  pub record NewTree (s : List ℕ) (t : Tree) : Type 0 where
    pub part_is : range_from h u offset ≡ got s
    pub source : source_of t.cursor.input ≡ source_from h offset e
    pub first : t.cursor.input.position ≡ 0
    pub keeps : keeps_cursor most (length s) t.cursor ≡ true

  -- an opening answers with a new tree, or it is refused: the offset is not inside, or the part ends beyond 01's sizes
  pub data Opening (r : OpenedTree) : Type 0 where
    answers : (s : List ℕ) → r.answer ≡ got tt → NewTree s r.tree → Opening r
    outside : range_from h u offset ≡ refused 19 → r.answer ≡ refused 19 → Opening r
    too_far : (s : List ℕ) → range_from h u offset ≡ got s → 2 ^ 63 ≤ offset + length s → r.answer ≡ refused 1 → Opening r

  pub opening : Opening tree_from
  unfolding range_from part cursor_from opened_cursor opened
  opening = by_part (range_from h u offset) refl range_19
    where
      Only19 : Answer (List ℕ) → Type 0
      Only19 (got s) = Unit {0}
      Only19 (refused n) = n ≡ 19

      range_19 : Only19 (range_from h u offset)
      range_19 =
          cond_by Only19 (in_bounds h offset) _ _ (λ _. cond_by Only19 (leb offset (unit_end h) && leb (unit_end h) (length u)) _ _ (λ _. tt) (λ _. refl)) (λ _. refl)

      over : Answer EntriesRaw → OpenedTree
      over r = tree_over (or_no_cursor most e (and_then r (λ w. got (new_cursor most w))))

      by_part : (r : Answer (List ℕ)) → range_from h u offset ≡ r → Only19 r → Opening (tree_over (or_no_cursor most e (and_then r (λ s. opened_cursor most (length s) offset h.encoding e))))
      by_part (got s) p _ =
          cond_by (λ r. Opening (over r)) (ltb (offset + length s) (2 ^ 63)) _ _
          (λ t.
          let w : EntriesRaw = record { start = offset; position = 0; depth = pos 0; encoding = h.encoding; endian = e } in
          answers s refl
          (record {
            part_is = p;
            source = refl;
            first = refl;
            keeps = rw (raw_keeps (length s) w (record { inside = omega arith; short = ltb-true _ _ t; near = omega arith }), le-leb 0 0 (omega arith), le-leb 0 most (omega arith));
          }))
          (λ t. too_far s p (ltb-false _ _ t) refl)
      by_part (refused n) p z = outside (p ∙ ap refused z) (ap refused z)

-- ---- where an opening answers, its offset being inside: s is the part of the unit's bytes that `range_from` hands on

module _ (most : ℕ) (h : UnitHeader) (u : List ℕ) (offset : ℕ) (e : RunTimeEndian) (s : List ℕ)
    (inside : range_from h u offset ≡ got s) (answered : (tree_from most h u offset e).answer ≡ got tt) where
  opened_new : NewTree most h u offset e s (tree_from most h u offset e).tree
  opened_new = go (opening most h u offset e)
    where
      go : Opening most h u offset e (tree_from most h u offset e) → NewTree most h u offset e s (tree_from most h u offset e).tree
      go (answers p _ n) =
          let r = n.part_is in
          let q : p ≡ s = cc in
          subst (λ (p : List ℕ). NewTree most h u offset e p (tree_from most h u offset e).tree) q n
      go (outside p _) = absurd (let y : ◌≡◌ {A = ℕ} 0 1 = cc in omega arith)
      go (too_far p _ _ q) = absurd (let y : ◌≡◌ {A = ℕ} 0 1 = cc in omega arith)

  -- the new tree keeps 01's sizes
  pub opened_kept : keeps_cursor most (length s) (tree_from most h u offset e).tree.cursor ≡ true
  opened_kept = opened_new.keeps

  module _ (rows specs : List ℕ) where
    -- whatever the table says and wherever jumps lead: the entries that a root and any calls give rise
    pub opened_rise : (ks : List ℤ) → Rises (offset + length s) offset (given (tree_walk most s rows specs ks (tree_from most h u offset e).tree))
    opened_rise = said_rise most (source_from h offset e) s rows specs (tree_from most h u offset e).tree opened_new.source opened_kept

    -- and are at most as many as there are bytes
    pub opened_few : (ks : List ℤ) → length (given (tree_walk most s rows specs ks (tree_from most h u offset e).tree)) ≤ length s
    opened_few = said_few most (source_from h offset e) s rows specs (tree_from most h u offset e).tree opened_new.source opened_kept

    -- where the root's flat reading is L and its jumps are right
    module _ (L : List flat.Item) (reading : root_reading most (source_from h offset e) s rows specs ≡ got L) (jumps : Jumps (walk_items most (source_from h offset e) s rows specs L)) where
      -- demand 3 as a user meets it: the root is answered, and for every list of levels the tree says what the plain walk of L says
      pub opened_demand_3 : ((root_of most s rows specs (tree_from most h u offset e).tree).answer ≡ got true)
          × ((ks : List ℤ)
          → tree_walk most s rows specs ks (tree_from most h u offset e).tree
          ≡ map whole (walk_says (walk_items most (source_from h offset e) s rows specs L) ks))
      opened_demand_3 = demand_3 most (source_from h offset e) s rows specs (tree_from most h u offset e).tree L opened_new.source opened_kept reading jumps

      -- no call refuses but with 21
      pub opened_only_21 : (ks : List ℤ) → All21 (tree_walk most s rows specs ks (tree_from most h u offset e).tree)
      opened_only_21 = real_only_21 most (source_from h offset e) s rows specs (tree_from most h u offset e).tree L opened_new.source opened_kept reading jumps

      -- the corollary: calls js whose last answer, or the root's where there are none, is the entry x; and then calls ks at levels deeper than x
      pub opened_children : (js : List ℤ) (x : Entry) → last_of (got none) (tree_walk most s rows specs js (tree_from most h u offset e).tree) ≡ got (some x)
          → (ks : List ℤ) → Deeper x.depth ks
          → ChildrenGiven most (source_from h offset e) s rows specs L x ks (tree_after most s rows specs js (root_of most s rows specs (tree_from most h u offset e).tree).tree)
      opened_children = children_given most (source_from h offset e) s rows specs (tree_from most h u offset e).tree L opened_new.source opened_kept reading jumps
