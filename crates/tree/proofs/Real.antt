-- The real tree is the tree over the real read: the instance, its calls one by one, and a root's flat reading.
use mathlib.Core.Path.{◌≡◌, refl, sym, ◌∙◌, ap, subst}
use mathlib.Core.Bool.{Bool, true, false, not, ◌&&◌, cond}
use mathlib.Core.Option.{Option, none, some, none-ne-some}
use mathlib.Core.List.{List, [], ◌∷◌}
use mathlib.Core.Logic.{◌⊎◌, inl, inr}
use Prim.Native.Nat.{ℕ, zero, suc, ◌+◌, ◌-◌, ◌≤◌, ◌<◌}
use native.Mathlib.Omega.{arith}
use borrow.Author.Tests.{leb-true, leb-false, le-leb, eq-eqb, ne_eqb}
use lib.Dec.{leb, eqb}
use lib.IntN.{ℤ, pos, suc_ℤ, nat_abs, +ℤ_one, -ℤ_one}
use lib.ListN.{length}
use Rattle.reader.specs.Answer.{Answer, got, refused, and_then, if_some, Read, gives, Holds}
use Rattle.reader.proofs.Answers.{holds_then, then_same, then_then, cond_by}
use Rattle.abbrev.specs.Lookup.{Found, declaration_of}
use Rattle.abbrev.proofs.Lookups.{kept}
use Rattle.attribute.specs.Read.{attributes_at}
use Rattle.attribute.proofs.FormLaws.{both}
use Rattle.entries.specs.Cursor.{Cursor, new_cursor, keeps_cursor, Called, go_on, turned, jumped, by_jump, stands_at, depth_past, advanced, to_depth, held, reached}
use Rattle.entries.specs.Entry.{Entry, null_entry, is_null, jump_of}
use Rattle.entries.specs.Flat as flat
use Rattle.entries.specs.Raw.{keeps_raw, source_of, taken, raw_entry}
use Rattle.attribute.specs.declared.source.Source.{Source}
use Rattle.entries.specs.Read.{abbreviation_at, depth_after, entry_at, entry_after, after_entry, same_depth}
use Rattle.entries.specs.Steps.{KeptRaw}
use Rattle.entries.specs.declared.raw.EntriesRaw.{EntriesRaw}
use Rattle.entries.proofs.EntryLaws.{jump_without}
use Rattle.entries.proofs.FlatLaws.{Stands, entry_stands, items_step}
use Rattle.entries.proofs.SeekLaws.{If, jump_in, code_near, at_end, not_at_end, seek_step}
use Rattle.entries.proofs.PassLaws.{jumps_on}
use Rattle.entries.proofs.CursorLaws.{cursor_kept}
use Rattle.entries.proofs.RawLaws.{raw_keeps, found_keeps}
use Rattle.tree.specs.Walk.{Item, Reply, entry, no_more, reached as answered, in_range}
use Rattle.tree.specs.Tree.{Tree, unrooted, Answered, refuses, root_by, rooted, in_tree, child_of, level_of, next_of, root_of}
use Rattle.tree.specs.Demand.{item_of, closes, under_root, root_reading, walk_items}
use Rattle.tree.proofs.Program.{Reads, Fits, Fair, flat as flat_of, through, followed, State, hold, after, jump_by, fetch, fetched, climb, tree, root}
use Rattle.tree.proofs.Loop.{items_from, items_is, loop, loop_is}
use Rattle.tree.proofs.Natural.{holds_self}

-- ---- the instance

-- a jump that is offered: by an entry with children, not before the next byte and not past the end
pub jump_offered : (e : Entry) (next end t : ℕ) → jump_of e next end ≡ some t → (e.children ≡ true) × (next ≤ t) × (t ≤ end)
jump_offered e next end t q = let b = subst (If (λ t. (next ≤ t) × (t ≤ end))) q (jump_in e next end) in (go e.children refl, b.0, b.1)
  where
    go : (b : Bool) → e.children ≡ b → e.children ≡ true
    go true h = h
    go false h = absurd (none-ne-some t (sym (jump_without e next end h) ∙ q))

module _ (most : ℕ) (src : Source) (s rows specs : List ℕ) where
  -- the item at an offset in the unit
  unfoldable pub item_at : ℕ → ℤ → Answer (Item Entry)
  item_at a d =
      cond (leb src.start a)
      (and_then (entry_at most src s rows specs (a - src.start) d) (λ i. got (item_of src (length s) i)))
      (refused 2)

  -- the depth that its refusal leaves
  unfoldable pub left_at : ℕ → ℤ → ℤ
  left_at a d = depth_after (abbreviation_at most s rows specs (a - src.start)) d

  abbrev pub real_reads : Reads Entry
  real_reads =
      record { fin = src.start + length s; read = item_at; leaves = left_at; blank = null_entry most }

  -- each item that is read fits its place
  pub real_fair : Fair real_reads
  unfolding item_at
  real_fair a d =
      cond_by (Holds (Fits (src.start + length s) a d)) (leb src.start a) _ _
      (λ t.
      let b = leb-true src.start a t in
      holds_then (Stands most src s rows specs (a - src.start) d) (Fits (src.start + length s) a d) (entry_at most src s rows specs (a - src.start) d) _ (entry_stands most src s rows specs (a - src.start) d)
      (λ i x.
      record {
        at_is = omega (arith, x.offset);
        depth_is = x.depth;
        onward = omega (arith, x.above);
        inside = omega (arith, x.within);
        bare = x.bare;
        offered = jump_offered i.value (src.start + i.next) (src.start + length s);
      }))
      (λ _. tt)

  -- the same at a place in the bytes
  pub item_at_lem : (p : ℕ) (d : ℤ) → item_at (src.start + p) d ≡ and_then (entry_at most src s rows specs p d) (λ i. got (item_of src (length s) i))
  unfolding item_at
  item_at_lem p d =
      let e : src.start + p - src.start ≡ p = omega arith in
      rw (le-leb src.start (src.start + p) (omega arith), e)

  pub left_at_lem : (p : ℕ) (d : ℤ) → left_at (src.start + p) d ≡ depth_after (abbreviation_at most s rows specs p) d
  unfolding left_at
  left_at_lem p d = let e : src.start + p - src.start ≡ p = omega arith in rw e

-- the depth after an item
pub after_is : (src : Source) (count : ℕ) (i : flat.Item) → after (item_of src count i) ≡ after_entry i.value
after_is src count i = rw (+ℤ_one i.value.depth, -ℤ_one i.value.depth)

-- ---- the tree's state

-- what a cursor holds, as an item
abbrev pub held_in : ℕ → Cursor → Item Entry
held_in count c = item_of (source_of c.input) count (record { value = c.entry; next = c.input.position })

abbrev pub state_of : ℕ → Tree → State Entry
state_of count t =
    record {
      rooted = t.rooted;
      at = t.cursor.input.start + t.cursor.input.position;
      depth = t.cursor.input.depth;
      held = held_in count t.cursor;
    }

abbrev pub reply : Answer Bool → Item Entry → Reply Entry
reply (got true) i = entry i
reply (got false) i = no_more
reply (refused n) i = refused n

-- what a call says, and the state that it leaves
abbrev pub seen : ℕ → Answered → Reply Entry × State Entry
seen count r = (reply r.answer (held_in count r.tree.cursor), state_of count r.tree)

-- a cursor over these bytes that keeps 01's sizes
pub record Keeps (most : ℕ) (src : Source) (s : List ℕ) (c : Cursor) : Type 0 where
  pub source : source_of c.input ≡ src
  pub sizes : keeps_cursor most (length s) c ≡ true

-- a call of the tree over the read is seen in one of the real tree, which keeps the sizes
pub record Same (most : ℕ) (src : Source) (s : List ℕ) (x : Reply Entry × State Entry) (r : Answered) : Type 0 where
  pub says : x ≡ seen (length s) r
  pub keeps : Keeps most src s r.tree.cursor

module _ (most : ℕ) (src : Source) (s rows specs : List ℕ) where
  abbrev R : Reads Entry
  R = real_reads most src s rows specs

  -- ---- the states over these bytes

  abbrev raw_at : ℕ → ℤ → EntriesRaw
  raw_at p d = record { start = src.start; position = p; depth = d; encoding = src.encoding; endian = src.endian }

  abbrev tree_at : Bool → ℕ → ℤ → Entry → Tree
  tree_at b p d e = record { rooted = b; cursor = record { input = raw_at p d; entry = e } }

  abbrev state_at : Bool → ℕ → ℤ → Entry → State Entry
  state_at b p d e = state_of (length s) (tree_at b p d e)

  -- the depth after the code at a place
  abbrev past_code : ℕ → ℤ → ℤ
  past_code p d = depth_past most s rows specs (raw_at p d)

  record Sized (p : ℕ) (d : ℤ) (e : Entry) : Type 0 where
    pub raw : KeptRaw (length s) (raw_at p d)
    pub near : nat_abs e.depth ≤ p
    pub few : e.count ≤ most

  sized_keeps : (b : Bool) (p : ℕ) (d : ℤ) (e : Entry) → Sized p d e → Keeps most src s (tree_at b p d e).cursor
  sized_keeps b p d e z = record { source = refl; sizes = rw (raw_keeps (length s) (raw_at p d) z.raw, le-leb _ _ z.near, le-leb _ _ z.few) }

  abbrev Seen : Reply Entry × State Entry → Called → Type 0
  Seen x r = Same most src s x (in_tree r)

  seen_as : {x y : Reply Entry × State Entry} {q r : Called} → x ≡ y → q ≡ r → Seen y r → Seen x q
  seen_as {x} {y} {q} {r} a b z = subst (λ (q : Called). Seen x q) (sym b) (subst (λ (x : Reply Entry × State Entry). Seen x r) (sym a) z)

  -- ---- a null that is set

  -- a state that holds one
  abbrev null_at : ℕ → ℤ → ℕ → ℤ → Option ℕ → State Entry
  null_at a d o e j =
      record { rooted = true; at = a; depth = d; held = record { at = o; next = a; depth = e; null = true; children = false; jump = j; body = null_entry most o e } }

  null_state : (a b : ℕ) (d c : ℤ) (o : ℕ) (e : ℤ) → a ≡ b → d ≡ c → null_at a d o e none ≡ null_at b c o e (jump_of (null_entry most o e) b (src.start + length s))
  null_state a b d c o e p q = λ j. null_at (p j) (q j) o e (sym (jump_without (null_entry most o e) b (src.start + length s) refl) j)

  said_beside : (r : Reply Entry) {x y : State Entry} → x ≡ y → ◌≡◌ {A = Reply Entry × State Entry} (r, x) (r, y)
  said_beside r e = λ j. (r, e j)

  -- ---- one read

  -- an item has no more values than there is room for
  entry_few : (p : ℕ) (d : ℤ) → Holds (λ i. i.value.count ≤ most) (entry_at most src s rows specs p d)
  unfolding entry_at entry_after
  entry_few p d = holds_then (λ r. code ≡ got r) (λ i. i.value.count ≤ most) code _ (holds_self code) (λ r e. go r.value r.next e)
    where
      code : Answer (Read (Option Found))
      code = abbreviation_at most s rows specs p

      go : (o : Option Found) (q : ℕ) → code ≡ gives o q → Holds (λ i. i.value.count ≤ most) (entry_after most src s specs p d (record { value = o; next = q }))
      go none q e = omega arith
      go (some f) q e =
          let values = attributes_at s src.start src.encoding src.endian (declaration_of specs f).specifications q in
          holds_then (λ v. values ≡ got v) (λ i. i.value.count ≤ most) values _ (holds_self values) (λ v _. (kept most specs f (found_keeps most s rows specs p e)).most_is)

  -- where an item was read the state keeps the sizes
  item_sized : (p : ℕ) (d : ℤ) (i : flat.Item) → KeptRaw (length s) (raw_at p d) → Stands most src s rows specs p d i → Sized i.next (past_code p d) i.value
  item_sized p d i k x =
      let n = code_near (abbreviation_at most s rows specs p) d in
      record {
        raw = record { inside = x.within; short = k.short; near = omega (arith, n, k.near, x.above) };
        near = omega (arith, ap nat_abs x.depth, k.near, x.above);
        few = subst (Holds (λ i. i.value.count ≤ most)) x.read (entry_few p d);
      }

  -- reading is about to go on, h being held
  abbrev poised : ℕ → ℤ → Item Entry → State Entry
  poised p d h = record { rooted = true; at = src.start + p; depth = d; held = h }

  fetch_seen : (p : ℕ) (d : ℤ) (h : Item Entry) (f : Item Entry → Reply Entry × State Entry) (wanted : Entry → Bool) (again : Cursor → Called)
      → KeptRaw (length s) (raw_at p d) → nat_abs h.depth ≤ p
      → ((i : flat.Item) → Stands most src s rows specs p d i → Seen (f (item_of src (length s) i)) (turned wanted again (got true) (tree_at true i.next (past_code p d) i.value).cursor))
      → Seen (fetch R (poised p d h) f) (go_on wanted again (advanced most s rows specs (raw_at p d) h.at h.depth))
  unfolding fetch fetched held
  fetch_seen p d h f wanted again k n go = by_place (leb (length s) p) refl
    where
      by_item : p < length s → (r : Answer (Read Entry)) → entry_at most src s rows specs p d ≡ r
          → Seen (fetched R (poised p d h) f (and_then r (λ i. got (item_of src (length s) i)))) (go_on wanted again (held most s rows specs (raw_at p d) r))
      by_item q (got i) e = go i (subst (Holds (Stands most src s rows specs p d)) e (entry_stands most src s rows specs p d))
      by_item q (refused m) e =
          let z = code_near (abbreviation_at most s rows specs p) d in
          record {
            says = said_beside (refused m) (null_state (src.start + length s) (src.start + length s) _ _ (src.start + p) d refl (left_at_lem most src s rows specs p d));
            keeps = sized_keeps true (length s) (past_code p d) (null_entry most (src.start + p) d) (record {
              raw = record { inside = omega arith; short = k.short; near = omega (arith, z, k.near) };
              near = omega (arith, k.near);
              few = omega arith;
            });
          }

      by_place : (b : Bool) → leb (length s) p ≡ b → Seen (fetch R (poised p d h) f) (go_on wanted again (advanced most s rows specs (raw_at p d) h.at h.depth))
      by_place true q =
          let e : src.start + length s ≡ src.start + p = omega (arith, leb-true (length s) p q, k.inside) in
          seen_as (rw (eq-eqb (src.start + p) (src.start + length s) (sym e)))
          (ap (go_on wanted again) (at_end most s rows specs (raw_at p d) h.at h.depth (leb-true (length s) p q)))
          (record {
            says = said_beside no_more (null_state (src.start + length s) (src.start + p) d d h.at h.depth e refl);
            keeps = sized_keeps true p d (null_entry most h.at h.depth) (record { raw = k; near = n; few = omega arith });
          })
      by_place false q =
          let l = leb-false (length s) p q in
          seen_as
          (rw (ne_eqb (src.start + p) (src.start + length s) (λ e. omega (arith, e, l))) (ap (fetched R (poised p d h) f) (item_at_lem most src s rows specs p d)))
          (ap (go_on wanted again) (not_at_end most s rows specs (raw_at p d) h.at h.depth l))
          (by_item l (entry_at most src s rows specs p d) refl)

  -- ---- an item reached

  hold_is : (p : ℕ) (d : ℤ) (i : flat.Item) → Stands most src s rows specs p d i → hold (item_of src (length s) i) ≡ state_at true i.next (past_code p d) i.value
  hold_is p d i x =
      let e : after (item_of src (length s) i) ≡ past_code p d = after_is src (length s) i ∙ sym x.after in
      λ j. record { rooted = true; at = src.start + i.next; depth = e j; held = item_of src (length s) i }

  reply_is : (b : Bool) (i : Item Entry) → cond b no_more (entry i) ≡ reply (got (not b)) i
  reply_is true i = refl
  reply_is false i = refl

  reached_seen : (p : ℕ) (d : ℤ) (i : flat.Item) → KeptRaw (length s) (raw_at p d) → Stands most src s rows specs p d i
      → Seen (answered (item_of src (length s) i), hold (item_of src (length s) i)) (reached (tree_at true i.next (past_code p d) i.value).cursor)
  reached_seen p d i k x =
      record {
        says = λ j. (reply_is (is_null i.value) (item_of src (length s) i) j, hold_is p d i x j);
        keeps = sized_keeps true i.next (past_code p d) i.value (item_sized p d i k x);
      }

  -- ---- the loop

  -- where a jump leads, or where reading goes on without one
  record Lands (p : ℕ) (d : ℤ) (e : Entry) : Type 0 where
    pub place : ℕ
    pub depth : ℤ
    pub moved : jumped (length s) (raw_at p d) e ≡ raw_at place depth
    pub state : jump_by (jump_of e (src.start + p) (src.start + length s)) (state_at true p d e) ≡ poised place depth (state_at true p d e).held
    pub raw : KeptRaw (length s) (raw_at place depth)
    pub on : p ≤ place

  land : (p : ℕ) (d : ℤ) (e : Entry) → Sized p d e → Lands p d e
  unfolding jumped
  land p d e z = go (jump_of e (src.start + p) (src.start + length s)) refl (jump_in e (src.start + p) (src.start + length s))
    where
      move : Option ℕ → EntriesRaw
      move o = if_some o (raw_at p d) (λ t. raw_at (t - src.start) e.depth)

      go : (o : Option ℕ) → jump_of e (src.start + p) (src.start + length s) ≡ o → If (λ t. (src.start + p ≤ t) × (t ≤ src.start + length s)) (jump_of e (src.start + p) (src.start + length s)) → Lands p d e
      go none q h =
          record { place = p; depth = d; moved = ap move q; state = ap (λ (o : Option ℕ). jump_by o (state_at true p d e)) q; raw = z.raw; on = omega arith }
      go (some t) q h =
          let b = subst (If (λ t. (src.start + p ≤ t) × (t ≤ src.start + length s))) q h in
          let g : t ≡ src.start + (t - src.start) = omega (arith, b.0) in
          record {
            place = t - src.start;
            depth = e.depth;
            moved = ap move q;
            state = ap (λ (o : Option ℕ). jump_by o (state_at true p d e)) q ∙ (λ j. record { rooted = true; at = g j; depth = e.depth; held = (state_at true p d e).held });
            raw = record { inside = omega (arith, b.0, b.1); short = z.raw.short; near = omega (arith, z.near, b.0) };
            on = omega (arith, b.0);
          }

  abbrev run : ℤ → State Entry → Reply Entry × State Entry
  run k x = loop R (real_fair most src s rows specs) k x

  -- what the loop does with an item that it has read
  abbrev take : ℤ → Item Entry → Reply Entry × State Entry
  take k i = cond (same_depth i.depth k) (answered i, hold i) (run k (hold i))

  abbrev Sought : ℤ → ℕ → ℤ → Entry → Type 0
  Sought k p d e = Seen (run k (state_at true p d e)) (to_depth most s rows specs k (tree_at true p d e).cursor)

  seen_if : {x y : Reply Entry × State Entry} {q r : Called} (b : Bool) → Seen x q → Seen y r → Seen (cond b x y) (cond b q r)
  seen_if true a z = a
  seen_if false a z = z

  -- one turn, the next ones being right
  turn : (k : ℤ) (p : ℕ) (d : ℤ) (e : Entry) → Sized p d e → ((q : ℕ) (c : ℤ) (v : Entry) → p < q → q ≤ length s → Sized q c v → Sought k q c v) → Sought k p d e
  unfolding to_depth
  turn k p d e z rec =
      let l = land p d e z in
      let h = (state_at true p d e).held in
      seen_as
      (loop_is R (real_fair most src s rows specs) k (state_at true p d e) ∙ ap (λ (x : State Entry). fetch R x (take k)) l.state)
      (seek_step most s rows specs (by_jump (length s)) (jumps_on most s rows specs) (stands_at k) (tree_at true p d e).cursor
      ∙ ap (λ (w : EntriesRaw). go_on (stands_at k) (to_depth most s rows specs k) (advanced most s rows specs w e.offset e.depth)) l.moved)
      (fetch_seen l.place l.depth h (take k) (stands_at k) (to_depth most s rows specs k) l.raw (omega (arith, z.near, l.on))
      (λ i x.
      seen_if (same_depth i.value.depth k)
      (reached_seen l.place l.depth i l.raw x)
      (seen_as (ap (run k) (hold_is l.place l.depth i x)) refl
      (rec i.next (past_code l.place l.depth) i.value (omega (arith, l.on, x.above)) x.within (item_sized l.place l.depth i l.raw x)))))

  sought : (n : ℕ) (k : ℤ) (p : ℕ) (d : ℤ) (e : Entry) → length s - p ≤ n → Sized p d e → Sought k p d e
  sought zero k p d e h z = turn k p d e z (λ q c v a b y. absurd (omega arith))
  sought (suc n) k p d e h z = turn k p d e z (λ q c v a b y. sought n k q c v (omega arith) y)

  -- ---- a call

  same_if : {x y : Reply Entry × State Entry} {q r : Answered} (b : Bool) → (b ≡ true → Same most src s x q) → (b ≡ false → Same most src s y r) → Same most src s (cond b x y) (cond b q r)
  same_if true a z = a refl
  same_if false a z = z refl

  climb_same : (k : ℤ) (p : ℕ) (d : ℤ) (e : Entry) → Sized p d e
      → Same most src s (climb R k (state_at true p d e)) (cond (same_depth k (suc_ℤ e.depth)) (child_of most s rows specs (tree_at true p d e)) (level_of most s rows specs k (tree_at true p d e)))
  unfolding climb child_of level_of
  climb_same k p d e z =
      let stays : Same most src s (no_more, state_at true p d e) (record { answer = got false; tree = tree_at true p d e }) = record { says = refl; keeps = sized_keeps true p d e z } in
      same_if (same_depth k (suc_ℤ e.depth))
      (λ _.
      same_if e.children
      (λ _.
      fetch_seen p d (state_at true p d e).held (λ i. (answered i, hold i)) (λ (e : Entry). true) reached z.raw z.near
      (λ i x. reached_seen p d i z.raw x))
      (λ _. stays))
      (λ _. same_if (is_null e && same_depth e.depth k) (λ _. stays) (λ _. sought (length s) k p d e (omega arith) z))

  next_at_lem : (k : ℤ) (b : Bool) (p : ℕ) (d : ℤ) (e : Entry) → Sized p d e → Same most src s (tree R k (state_at b p d e)) (next_of most s rows specs k (tree_at b p d e))
  unfolding tree next_of
  next_at_lem k b p d e z =
      subst (λ (c : Bool). Same most src s (tree R k (state_at b p d e)) (cond c (call b) (refusal b))) (sym (sized_keeps b p d e z).sizes) (go b)
    where
      refusal : Bool → Answered
      refusal b = record { answer = refused 1; tree = tree_at b p d e }

      call : Bool → Answered
      call b = cond (b && in_range k e.depth) (cond (same_depth k (suc_ℤ e.depth)) (child_of most s rows specs (tree_at b p d e)) (level_of most s rows specs k (tree_at b p d e))) (record { answer = refused 21; tree = tree_at b p d e })

      go : (b : Bool) → Same most src s (tree R k (state_at b p d e)) (call b)
      go true = same_if (in_range k e.depth) (λ _. climb_same k p d e z) (λ _. record { says = refl; keeps = sized_keeps true p d e z })
      go false = record { says = refl; keeps = sized_keeps false p d e z }

  -- a tree over these bytes
  at_home : (t : Tree) → Keeps most src s t.cursor → t ≡ tree_at t.rooted t.cursor.input.position t.cursor.input.depth t.cursor.entry
  at_home t k =
      λ j.
      record {
        rooted = t.rooted;
        cursor = record {
          input = record { start = (k.source j).start; position = t.cursor.input.position; depth = t.cursor.input.depth; encoding = (k.source j).encoding; endian = (k.source j).endian };
          entry = t.cursor.entry;
        };
      }

  keeps_sized : (b : Bool) (p : ℕ) (d : ℤ) (e : Entry) → keeps_cursor most (length s) (tree_at b p d e).cursor ≡ true → Sized p d e
  keeps_sized b p d e h =
      let c = (tree_at b p d e).cursor in
      let k = cursor_kept most (length s) c h in
      let z = both (leb (nat_abs e.depth) p) (leb e.count most) (both (keeps_raw (length s) (raw_at p d)) (leb (nat_abs e.depth) p && leb e.count most) h).1 in
      record { raw = k.0; near = k.1; few = leb-true _ _ z.1 }

  -- what is claimed of each tree over these bytes that keeps the sizes, claimed by its parts
  by_parts : (P : Tree → Type 0) → ((b : Bool) (p : ℕ) (d : ℤ) (e : Entry) → Sized p d e → P (tree_at b p d e)) → (t : Tree) → Keeps most src s t.cursor → P t
  by_parts P f t k =
      let b = t.rooted in
      let p = t.cursor.input.position in
      let d = t.cursor.input.depth in
      let e = t.cursor.entry in
      let q = at_home t k in
      subst P (sym q) (f b p d e (keeps_sized b p d e (subst (λ (t : Tree). keeps_cursor most (length s) t.cursor ≡ true) q k.sizes)))

  -- each call of the real tree is one of the tree over the read, from any state that keeps the sizes, and keeps them
  pub next_same : (k : ℤ) (t : Tree) → Keeps most src s t.cursor → Same most src s (tree R k (state_of (length s) t)) (next_of most s rows specs k t)
  next_same k t h = by_parts (λ t. Same most src s (tree R k (state_of (length s) t)) (next_of most s rows specs k t)) (next_at_lem k) t h

  -- ---- the root

  -- a root was read, and its state is x
  pub record Begun (x : State Entry) (r : Answered) : Type 0 where
    pub answer : r.answer ≡ got true
    pub state : state_of (length s) r.tree ≡ x
    pub keeps : Keeps most src s r.tree.cursor

  root_read : (i : flat.Item) → entry_at most src s rows specs 0 (pos 0) ≡ got i → is_null i.value ≡ false → (b : Bool) (p : ℕ) (d : ℤ) (e : Entry) → Sized p d e
      → root_of most s rows specs (tree_at b p d e) ≡ record { answer = got true; tree = tree_at true i.next (past_code 0 (pos 0)) i.value }
  unfolding root_of raw_entry
  root_read i q n b p d e z =
      let k : KeptRaw (length s) (raw_at 0 (pos 0)) = record { inside = omega arith; short = z.raw.short; near = omega arith } in
      rw ((sized_keeps b p d e z).sizes, raw_keeps (length s) (raw_at 0 (pos 0)) k, q, n)

  -- whatever stands at a root, the sizes are kept; an entry that is given stands where the bytes start; a refusal is 20 or that of the reading
  pub record RootLeft (r : Answered) : Type 0 where
    pub keeps : Keeps most src s r.tree.cursor
    pub first : r.answer ≡ got true → (r.tree.cursor.entry.offset ≡ src.start) × (0 < r.tree.cursor.input.position)
    pub refusal : (n : ℕ) → r.answer ≡ refused n → (n ≡ 20) ⊎ (entry_at most src s rows specs 0 (pos 0) ≡ refused n)

  pub root_left : (t : Tree) → Keeps most src s t.cursor → RootLeft (root_of most s rows specs t)
  unfolding root_of raw_entry
  root_left t h = by_parts (λ t. RootLeft (root_of most s rows specs t)) go t h
    where
      failed : (n : ℕ) → KeptRaw (length s) (raw_at 0 (pos 0)) → (n ≡ 20) ⊎ (entry_at most src s rows specs 0 (pos 0) ≡ refused n) → RootLeft (refuses n (unrooted (new_cursor most (raw_at 0 (pos 0)))))
      failed n k w =
          record {
            keeps = sized_keeps false 0 (pos 0) (null_entry most 0 (pos 0)) (record { raw = k; near = omega arith; few = omega arith });
            first = λ q. absurd (let y : ◌≡◌ {A = ℕ} 0 1 = cc in omega arith);
            refusal = λ m q. let z : n ≡ m = cc in subst (λ (m : ℕ). (m ≡ 20) ⊎ (entry_at most src s rows specs 0 (pos 0) ≡ refused m)) z w;
          }

      by_null : (b : Bool) (i : flat.Item) → KeptRaw (length s) (raw_at 0 (pos 0)) → Stands most src s rows specs 0 (pos 0) i
          → RootLeft (root_by most (raw_at 0 (pos 0)) (got (not b)) (record { answer = got (not b); entry = i.value; raw = raw_at i.next (past_code 0 (pos 0)) }))
      by_null true i k x = failed 20 k (inl refl)
      by_null false i k x =
          record {
            keeps = sized_keeps true i.next (past_code 0 (pos 0)) i.value (item_sized 0 (pos 0) i k x);
            first = λ _. (omega (arith, x.offset), x.above);
            refusal = λ m q. absurd (let y : ◌≡◌ {A = ℕ} 0 1 = cc in omega arith);
          }

      by_item : (r : Answer (Read Entry)) → entry_at most src s rows specs 0 (pos 0) ≡ r → KeptRaw (length s) (raw_at 0 (pos 0)) → Holds (Stands most src s rows specs 0 (pos 0)) r
          → RootLeft (rooted most (raw_at 0 (pos 0)) (taken most (raw_at 0 (pos 0)) (past_code 0 (pos 0)) r))
      by_item (got i) e k x = by_null (is_null i.value) i k x
      by_item (refused n) e k x = failed n k (inr e)

      go : (b : Bool) (p : ℕ) (d : ℤ) (e : Entry) → Sized p d e → RootLeft (root_of most s rows specs (tree_at b p d e))
      go b p d e z =
          let k : KeptRaw (length s) (raw_at 0 (pos 0)) = record { inside = omega arith; short = z.raw.short; near = omega arith } in
          rw ((sized_keeps b p d e z).sizes, raw_keeps (length s) (raw_at 0 (pos 0)) k) (by_item (entry_at most src s rows specs 0 (pos 0)) refl k (entry_stands most src s rows specs 0 (pos 0)))

  first_item : item_at most src s rows specs src.start (pos 0) ≡ and_then (entry_at most src s rows specs 0 (pos 0)) (λ i. got (item_of src (length s) i))
  first_item =
      let e : src.start ≡ src.start + 0 = omega arith in
      ap (λ (a : ℕ). item_at most src s rows specs a (pos 0)) e ∙ item_at_lem most src s rows specs 0 (pos 0)

  -- a root over the read is the real tree's, whatever stood there before
  pub root_same : (t : Tree) → Keeps most src s t.cursor → Holds (λ x. Begun x (root_of most s rows specs t)) (root R src.start)
  unfolding root
  root_same t h = by_parts (λ t. Holds (λ x. Begun x (root_of most s rows specs t)) (root R src.start)) go t h
    where
      go : (b : Bool) (p : ℕ) (d : ℤ) (e : Entry) → Sized p d e → Holds (λ x. Begun x (root_of most s rows specs (tree_at b p d e))) (root R src.start)
      go b p d e z =
          let A : State Entry → Type 0 = λ x. Begun x (root_of most s rows specs (tree_at b p d e)) in
          subst (λ (r : Answer (Item Entry)). Holds A (and_then r (λ i. cond i.null (refused 20) (got (hold i))))) (sym first_item)
          (subst (Holds A) (sym (then_then (entry_at most src s rows specs 0 (pos 0)) (λ i. got (item_of src (length s) i)) (λ i. cond i.null (refused 20) (got (hold i)))))
          (holds_then (Stands most src s rows specs 0 (pos 0)) A (entry_at most src s rows specs 0 (pos 0)) _ (entry_stands most src s rows specs 0 (pos 0))
          (λ i x. cond_by (Holds A) (is_null i.value) (refused 20) (got (hold (item_of src (length s) i))) (λ _. tt)
          (λ n.
          let k : KeptRaw (length s) (raw_at 0 (pos 0)) = record { inside = omega arith; short = z.raw.short; near = omega arith } in
          subst (Begun (hold (item_of src (length s) i))) (sym (root_read i x.read n b p d e z))
          (record {
            answer = refl;
            state = sym (hold_is 0 (pos 0) i x);
            keeps = sized_keeps true i.next (past_code 0 (pos 0)) i.value (item_sized 0 (pos 0) i k x);
          })))))

  -- ---- the flat reading

  abbrev list_of : Answer (List flat.Item) → Answer (List (Item Entry))
  list_of r = and_then r (λ l. got (walk_items most src s rows specs l))

  through_list : (i : flat.Item) (b : Bool) (r : Answer (List flat.Item))
      → cond b (got (item_of src (length s) i ∷ [])) (followed (item_of src (length s) i) (list_of r)) ≡ list_of (cond b (got (i ∷ [])) (and_then r (λ l. got (i ∷ l))))
  through_list i true r = refl
  through_list i false (got l) = refl
  through_list i false (refused n) = refl

  abbrev rest : ℕ → ℤ → Answer (List flat.Item)
  rest p d = flat.items_from most src s rows specs closes p d

  Lists : ℕ → ℤ → Type 0
  Lists p d = items_from R (real_fair most src s rows specs) (src.start + p) d ≡ list_of (rest p d)

  -- one item, what follows it being right
  list_turn : (p : ℕ) (d : ℤ) → p ≤ length s → ((q : ℕ) (c : ℤ) → p < q → q ≤ length s → Lists q c) → Lists p d
  unfolding Lists
  list_turn p d h rec =
      items_is R (real_fair most src s rows specs) (src.start + p) d (omega arith) ∙ go (leb (length s) p) refl ∙ ap list_of (sym (items_step most src s rows specs closes p d))
    where
      each : Item Entry → Answer (List (Item Entry))
      each i = through i (items_from R (real_fair most src s rows specs) i.next (after i))

      each_raw : flat.Item → Answer (List flat.Item)
      each_raw i = cond (closes i.value) (got (i ∷ [])) (and_then (rest i.next (after_entry i.value)) (λ l. got (i ∷ l)))

      one : and_then (item_at most src s rows specs (src.start + p) d) each ≡ list_of (and_then (entry_at most src s rows specs p d) each_raw)
      one =
          ap (λ (r : Answer (Item Entry)). and_then r each) (item_at_lem most src s rows specs p d)
          ∙ then_then (entry_at most src s rows specs p d) (λ i. got (item_of src (length s) i)) each
          ∙ then_same (Stands most src s rows specs p d) (entry_at most src s rows specs p d) _ _ (entry_stands most src s rows specs p d)
          (λ i x.
          ap (λ (r : Answer (List (Item Entry))). through (item_of src (length s) i) r)
          (ap (items_from R (real_fair most src s rows specs) (src.start + i.next)) (after_is src (length s) i) ∙ rec i.next (after_entry i.value) x.above x.within)
          ∙ through_list i (closes i.value) (rest i.next (after_entry i.value)))
          ∙ sym (then_then (entry_at most src s rows specs p d) each_raw (λ l. got (walk_items most src s rows specs l)))

      go : (b : Bool) → leb (length s) p ≡ b
          → cond (eqb (src.start + p) (src.start + length s)) (got []) (and_then (item_at most src s rows specs (src.start + p) d) each)
          ≡ list_of (cond (leb (length s) p) (got []) (and_then (entry_at most src s rows specs p d) each_raw))
      go true q = rw (q, eq-eqb (src.start + p) (src.start + length s) (omega (arith, leb-true (length s) p q)))
      go false q = rw (q, ne_eqb (src.start + p) (src.start + length s) (λ e. omega (arith, e, leb-false (length s) p q))) one

  lists : (n p : ℕ) (d : ℤ) → p ≤ length s → length s - p ≤ n → Lists p d
  lists zero p d h z = list_turn p d h (λ q c a b. absurd (omega arith))
  lists (suc n) p d h z = list_turn p d h (λ q c a b. lists n q c b (omega arith))

  -- a root's flat reading is that of the tree over the read
  pub flat_same : flat_of R src.start ≡ list_of (root_reading most src s rows specs)
  unfolding flat_of root_reading Lists
  flat_same =
      ap (λ (r : Answer (Item Entry)). and_then r after_root) first_item
      ∙ then_then (entry_at most src s rows specs 0 (pos 0)) (λ i. got (item_of src (length s) i)) after_root
      ∙ then_same (Stands most src s rows specs 0 (pos 0)) (entry_at most src s rows specs 0 (pos 0)) _ _ (entry_stands most src s rows specs 0 (pos 0))
      (λ i x. go i (is_null i.value) i.value.children (lists (length s) i.next (pos 1) x.within (omega arith)))
      ∙ sym (then_then (entry_at most src s rows specs 0 (pos 0)) after_raw (λ l. got (walk_items most src s rows specs l)))
    where
      after_root : Item Entry → Answer (List (Item Entry))
      after_root i = cond i.null (refused 20) (cond i.children (followed i (items_from R (real_fair most src s rows specs) i.next (pos 1))) (got (i ∷ [])))

      after_raw : flat.Item → Answer (List flat.Item)
      after_raw i = cond (is_null i.value) (refused 20) (and_then (under_root most src s rows specs i) (λ l. got (i ∷ l)))

      many : (i : flat.Item) (r : Answer (List flat.Item)) → followed (item_of src (length s) i) (list_of r) ≡ list_of (and_then r (λ l. got (i ∷ l)))
      many i (got l) = refl
      many i (refused n) = refl

      go : (i : flat.Item) (b c : Bool) → Lists i.next (pos 1)
          → cond b (refused 20) (cond c (followed (item_of src (length s) i) (items_from R (real_fair most src s rows specs) (src.start + i.next) (pos 1))) (got (item_of src (length s) i ∷ [])))
          ≡ list_of (cond b (refused 20) (and_then (cond c (rest i.next (pos 1)) (got [])) (λ l. got (i ∷ l))))
      go i true c h = refl
      go i false true h = ap (followed (item_of src (length s) i)) h ∙ many i (rest i.next (pos 1))
      go i false false h = refl
