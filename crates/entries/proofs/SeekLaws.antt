-- Laws of jumps and of items sought.
use mathlib.Core.Bool.{Bool, true, false, not, cond, ◌&&◌}
use mathlib.Core.Path.{◌≡◌, refl, sym, ap, ◌∙◌}
use mathlib.Core.List.{List}
use mathlib.Core.Option.{Option, none, some}
use Prim.Native.Nat.{ℕ, ◌+◌, ◌-◌, ◌≤◌, ◌<◌}
use native.Mathlib.Omega.{arith}
use borrow.Author.Tests.{leb-true, leb-false, lt-leb, le-leb, ne_eqb}
use lib.Dec.{eqb, leb}
use lib.IntN.{ℤ, pos, nat_abs, ◌+ℤ◌, ◌-ℤ◌}
use lib.ListN.{length}
use Rattle.reader.specs.Answer.{Answer, got, refused, and_then, if_some, Read, gives, Holds}
use Rattle.reader.specs.Leb128.{uleb_at}
use Rattle.reader.proofs.Answers.{holds_then}
use Rattle.reader.proofs.Counts.{without_count}
use Rattle.abbrev.specs.Lookup.{Found, lookup, declaration_of}
use Rattle.abbrev.proofs.Lookups.{lookup_keeps}
use Rattle.attribute.specs.Read.{attributes_at}
use Rattle.attribute.specs.Value.{Attribute}
use Rattle.attribute.proofs.FormLaws.{both}
use Rattle.entries.specs.Cursor.{Cursor, Called, reached, turned, go_on, jumped, is_entry, depth_past, item_next, held, advanced, seek_within, seek, settled}
use Rattle.entries.specs.Entry.{Entry, null_entry, entry_of, is_null, sibling_of, jump_of}
use Rattle.entries.specs.Raw.{moved_to, empty_raw, source_of, Taken, taken as taken_from, raw_entry}
use Rattle.entries.specs.Read.{known, abbreviation_at, raised, depth_after, entry_after, entry_at}
use Rattle.entries.specs.Steps.{KeptRaw, Arrived}
use Rattle.entries.specs.declared.pass.Passing.{Passing}
use Rattle.entries.specs.declared.raw.EntriesRaw.{EntriesRaw}
use Rattle.entries.proofs.DepthLaws.{abs_up, abs_down}
use Rattle.entries.proofs.FlatLaws.{Stands, entry_stands}
use Rattle.entries.proofs.RawLaws.{raw_keeps, tagged}

-- ---- jumps

-- what holds of a number that may be there
abbrev pub If : (ℕ → Type 0) → Option ℕ → Type 0
If P none = Unit {0}
If P (some t) = P t

-- a jump leads not before the next byte and not past the end
pub jump_in : (e : Entry) (next end : ℕ) → If (λ t. (next ≤ t) × (t ≤ end)) (jump_of e next end)
unfolding jump_of
jump_in e next end = by_children e.children
  where
    target : (t : ℕ) (b : Bool) → leb next t && leb t end ≡ b → If (λ u. (next ≤ u) × (u ≤ end)) (cond b (some t) none)
    target t true h = let k = both (leb next t) (leb t end) h in (leb-true _ _ k.0, leb-true _ _ k.1)
    target t false h = tt

    by_sibling : (r : Option ℕ) → If (λ u. (next ≤ u) × (u ≤ end)) (if_some r none (λ t. cond (leb next t && leb t end) (some t) none))
    by_sibling none = tt
    by_sibling (some t) = target t (leb next t && leb t end) refl

    by_children : (b : Bool) → If (λ u. (next ≤ u) × (u ≤ end)) (cond b (if_some (sibling_of e) none (λ t. cond (leb next t && leb t end) (some t) none)) none)
    by_children true = by_sibling (sibling_of e)
    by_children false = tt

module _ (count : ℕ) (w : EntriesRaw) (e : Entry) where
  to : Option ℕ → EntriesRaw
  to r = if_some r w (λ t. moved_to w (t - w.start) e.depth)

  -- a jump goes forward
  pub jump_forward : w.position ≤ (jumped count w e).position
  unfolding jumped to
  jump_forward = go (jump_of e (w.start + w.position) (w.start + count)) (jump_in e (w.start + w.position) (w.start + count))
    where
      go : (r : Option ℕ) → If (λ t. (w.start + w.position ≤ t) × (t ≤ w.start + count)) r → w.position ≤ (to r).position
      go none h = omega arith
      go (some t) h = omega (arith, h.0)

  -- and keeps 01's sizes
  pub jump_kept : KeptRaw count w → nat_abs e.depth ≤ w.position → KeptRaw count (jumped count w e)
  unfolding jumped to
  jump_kept k d = go (jump_of e (w.start + w.position) (w.start + count)) (jump_in e (w.start + w.position) (w.start + count))
    where
      go : (r : Option ℕ) → If (λ t. (w.start + w.position ≤ t) × (t ≤ w.start + count)) r → KeptRaw count (to r)
      go none h = k
      go (some t) h = record { inside = omega (arith, h.0, h.1); short = k.short; near = omega (arith, d, h.0) }

  -- without one reading goes on where it stands
  pub jump_none : ((n m : ℕ) → jump_of e n m ≡ none) → jumped count w e ≡ w
  unfolding jumped
  jump_none h = rw (h (w.start + w.position) (w.start + count))

-- the depth after a code is one further from 0 at most
pub code_near : (r : Answer (Read (Option Found))) (d : ℤ) → nat_abs (depth_after r d) ≤ nat_abs d + 1
code_near (refused n) d = omega arith
code_near (got r) d = by_value r.value
  where
    by_bit : (b : Bool) → nat_abs (cond b (d +ℤ pos 1) d) ≤ nat_abs d + 1
    by_bit true = abs_up d
    by_bit false = omega arith

    by_value : (o : Option Found) → nat_abs (if_some o (d -ℤ pos 1) (λ f. raised f.children d)) ≤ nat_abs d + 1
    by_value none = abs_down d
    by_value (some f) = by_bit (eqb f.children 1)

-- ---- one item

-- what is said of nothing or of a refusal stays
turned_stays : (wanted : Entry → Bool) (again : Cursor → Called) (r : Called) → r.answer ≡ got false → go_on wanted again r ≡ r
turned_stays wanted again r h = go r.answer r.cursor h
  where
    go : (a : Answer Bool) (c : Cursor) → a ≡ got false → turned wanted again a c ≡ record { answer = a; cursor = c }
    go a c q = ap (λ (x : Answer Bool). turned wanted again x c) q ∙ ap (λ (x : Answer Bool). as_called x c) (sym q)
      where
        as_called : Answer Bool → Cursor → Called
        as_called x y = record { answer = x; cursor = y }

module _ (most : ℕ) (s rows specs : List ℕ) where
  abbrev next : EntriesRaw → Answer (Read Entry)
  next w = item_next most s rows specs w

  abbrev on : EntriesRaw → ℕ → ℤ → Called
  on w o d = advanced most s rows specs w o d

  -- the state and the item that a read leaves
  abbrev taken : EntriesRaw → Read Entry → Cursor
  taken w i = record { input = moved_to w i.next (depth_past most s rows specs w); entry = i.value }

  pub stands : (w : EntriesRaw) → Holds (Stands most (source_of w) s rows specs w.position w.depth) (next w)
  stands w = entry_stands most (source_of w) s rows specs w.position w.depth

  pub item_kept : (w : EntriesRaw) (i : Read Entry) → KeptRaw (length s) w → next w ≡ got i → KeptRaw (length s) (taken w i).input
  item_kept w i k e =
      let z : Stands most (source_of w) s rows specs w.position w.depth i = rw e at (stands w) in
      let n = code_near (abbreviation_at most s rows specs w.position) w.depth in
      record { inside = z.within; short = k.short; near = omega (arith, n, k.near, z.above) }

  -- an entry or a null was read
  pub record WasRead (w : EntriesRaw) (x : Taken) : Type 0 where
    pub item : Read Entry
    pub read : next w ≡ got item
    pub raw_is : x.raw ≡ moved_to w item.next (depth_past most s rows specs w)
    pub entry_is : x.entry ≡ item.value
    pub said_is : x.answer ≡ got (not (is_null item.value))

  module _ (w : EntriesRaw) (k : KeptRaw (length s) w) {x : Taken} (e : x ≡ raw_entry most w s rows specs) where
    read_by : x ≡ taken_from most w (depth_past most s rows specs w) (next w)
    unfolding raw_entry
    read_by = e ∙ rw (raw_keeps (length s) w k)

    pub was_read : {b : Bool} → x.answer ≡ got b → WasRead w x
    was_read {b} h = go (next w) refl read_by
      where
        go : (r : Answer (Read Entry)) → next w ≡ r → x ≡ taken_from most w (depth_past most s rows specs w) r → WasRead w x
        go (got i) q f = record { item = i; read = q; raw_is = ap (λ (y : Taken). y.raw) f; entry_is = ap (λ (y : Taken). y.entry) f; said_is = ap (λ (y : Taken). y.answer) f }
        go (refused n) q f =
            let a : got b ≡ refused n = sym h ∙ ap (λ (y : Taken). y.answer) f in
            let z : ◌≡◌ {A = ℕ} 0 1 = cc in
            absurd (omega arith)

    pub was_refused : {n : ℕ} → x.answer ≡ refused n → next w ≡ refused n
    was_refused {n} h = go (next w) read_by
      where
        go : (r : Answer (Read Entry)) → x ≡ taken_from most w (depth_past most s rows specs w) r → r ≡ refused n
        go (got i) f =
            let a : refused n ≡ got (not (is_null i.value)) = sym h ∙ ap (λ (y : Taken). y.answer) f in
            let z : ◌≡◌ {A = ℕ} 0 1 = cc in
            absurd (omega arith)
        go (refused m) f =
            let a : refused n ≡ refused m = sym h ∙ ap (λ (y : Taken). y.answer) f in
            sym_got a
          where
            sym_got : ◌≡◌ {A = Answer Bool} (refused n) (refused m) → ◌≡◌ {A = Answer (Read Entry)} (refused m) (refused n)
            sym_got a = let z : n ≡ m = cc in ap refused (sym z)

    -- the state after it keeps 01's sizes
    pub read_after : {b : Bool} → x.answer ≡ got b → KeptRaw (length s) x.raw
    read_after h = let z = was_read h in rw z.raw_is (item_kept w z.item k z.read)

  -- ---- a code and what follows it

  module _ (w : EntriesRaw) {p : ℕ} where
    pub code_null : uleb_at s w.position 64 ≡ gives 0 p → abbreviation_at most s rows specs w.position ≡ gives none p
    unfolding abbreviation_at
    code_null e = rw e

    pub null_next : abbreviation_at most s rows specs w.position ≡ gives none p → next w ≡ gives (null_entry most (w.start + w.position) w.depth) p
    unfolding entry_at entry_after
    null_next e = rw e

    -- a code that is not 0 is that of an entry
    pub entry_next : {c : ℕ} → (c ≡ 0 → ⊥) → uleb_at s w.position 64 ≡ gives c p → Holds (λ i. is_entry i.value ≡ true) (next w)
    unfolding abbreviation_at entry_at entry_after
    entry_next {c} h e = rw (e, ne_eqb c 0 h) (go (lookup most rows specs c) refl)
      where
        any : (r : Answer (Read (List Attribute))) → Holds (λ v. Unit {0}) r
        any (got v) = tt
        any (refused n) = tt

        follows : Read (Option Found) → Answer (Read Entry)
        follows r = entry_after most (source_of w) s specs w.position w.depth r

        go : (l : Answer (Option Found)) → lookup most rows specs c ≡ l → Holds (λ i. is_entry i.value ≡ true) (and_then (known l p) follows)
        go (got none) q = tt
        go (got (some f)) q =
            let t = tagged most specs f (rw q at (lookup_keeps most rows specs c)) in
            let values = attributes_at s w.start w.encoding w.endian (declaration_of specs f).specifications p in
            holds_then (λ v. Unit {0}) (λ i. is_entry i.value ≡ true) values (λ v. gives (entry_of most (w.start + w.position) w.depth f v.value) v.next) (any values)
            (λ v _. rw (ne_eqb f.tag 0 (λ y. omega (arith, y))))
        go (refused n) q = tt

  module _ (w : EntriesRaw) (o : ℕ) (d : ℤ) where
    -- no byte is left
    pub at_end : length s ≤ w.position → on w o d ≡ record { answer = got false; cursor = record { input = w; entry = null_entry most o d } }
    unfolding advanced empty_raw
    at_end h = rw (le-leb (length s) w.position h)

    pub not_at_end : w.position < length s → on w o d ≡ held most s rows specs w (next w)
    unfolding advanced empty_raw
    not_at_end h = rw (lt-leb (length s) w.position h)

    module _ (wanted : Entry → Bool) (again : Cursor → Called) where
      pub ends_there : length s ≤ w.position → go_on wanted again (on w o d) ≡ on w o d
      ends_there h = turned_stays wanted again (on w o d) (ap (λ (r : Called). r.answer) (at_end h))

      -- an item that is wanted, and a refusal, is what is said
      pub settles : Holds (λ i. wanted i.value ≡ true) (next w) → go_on wanted again (on w o d) ≡ settled (on w o d)
      unfolding held
      settles h = by_place (leb (length s) w.position) refl
        where
          by_item : (r : Answer (Read Entry)) → Holds (λ i. wanted i.value ≡ true) r → go_on wanted again (held most s rows specs w r) ≡ settled (held most s rows specs w r)
          by_item (got i) k = rw k
          by_item (refused n) k = refl

          by_place : (b : Bool) → leb (length s) w.position ≡ b → go_on wanted again (on w o d) ≡ settled (on w o d)
          by_place true q = ends_there (leb-true _ _ q) ∙ sym (turned_stays (λ (e : Entry). true) reached (on w o d) (ap (λ (r : Called). r.answer) (at_end (leb-true _ _ q))))
          by_place false q = rw (not_at_end (leb-false _ _ q)) (by_item (next w) h)

      -- one that is not wanted is passed
      pub passes : (i : Read Entry) → w.position < length s → next w ≡ got i → wanted i.value ≡ false → go_on wanted again (on w o d) ≡ again (taken w i)
      unfolding held
      passes i h e n = rw (not_at_end h, e, n)

    -- how it goes on matters only after an item that was read
    pub again_same : (wanted : Entry → Bool) (f g : Cursor → Called) → ((i : Read Entry) → next w ≡ got i → f (taken w i) ≡ g (taken w i)) → go_on wanted f (on w o d) ≡ go_on wanted g (on w o d)
    unfolding held
    again_same wanted f g h = by_place (leb (length s) w.position) refl
      where
        by_wanted : (i : Read Entry) (b : Bool) → f (taken w i) ≡ g (taken w i) → cond b (reached (taken w i)) (f (taken w i)) ≡ cond b (reached (taken w i)) (g (taken w i))
        by_wanted i true q = refl
        by_wanted i false q = q

        by_item : (r : Answer (Read Entry)) → next w ≡ r → go_on wanted f (held most s rows specs w r) ≡ go_on wanted g (held most s rows specs w r)
        by_item (got i) q = by_wanted i (wanted i.value) (h i q)
        by_item (refused n) q = refl

        by_place : (b : Bool) → leb (length s) w.position ≡ b → go_on wanted f (on w o d) ≡ go_on wanted g (on w o d)
        by_place true q = ends_there wanted f (leb-true _ _ q) ∙ sym (ends_there wanted g (leb-true _ _ q))
        by_place false q = rw (not_at_end (leb-false _ _ q)) (by_item (next w) refl)

  -- ---- items sought

  module _ (from : Cursor → EntriesRaw) (forward : (c : Cursor) → c.input.position ≤ (from c).position) (wanted : Entry → Bool) where
    abbrev within : ℕ → Cursor → Called
    within n c = seek_within most s rows specs from wanted n c

    abbrev sought : Cursor → Called
    sought c = seek most s rows specs from wanted c

    abbrev first : Cursor → Called
    first c = on (from c) c.entry.offset c.entry.depth

    further : (c : Cursor) (i : Read Entry) → next (from c) ≡ got i → (c.input.position < i.next) × (i.next ≤ length s)
    further c i e =
        let z : Stands most (source_of (from c)) s rows specs (from c).position (from c).depth i = rw e at (stands (from c)) in
        (omega (arith, z.above, forward c), z.within)

    -- the definition without its count
    pub seek_step : (c : Cursor) → sought c ≡ go_on wanted sought (first c)
    unfolding seek seek_within
    seek_step c =
        without_count (λ (c : Cursor). length s - c.input.position) (λ f c. go_on wanted f (first c)) within (λ n c. refl)
        (λ f g c h. again_same (from c) c.entry.offset c.entry.depth wanted f g (λ i e. h (taken (from c) i) (omega (arith, (further c i e).0, (further c i e).1))))
        (λ f c e. sym (ends_there (from c) c.entry.offset c.entry.depth wanted f (omega (arith, forward c)))) c

    -- ---- the loops: what is sought from one place is sought from the other

    pub record Sought (p q : Passing) : Type 0 where
      pub kept : KeptRaw (length s) q.raw
      pub same : go_on wanted sought (on p.raw p.last.offset p.last.depth) ≡ go_on wanted sought (on q.raw q.last.offset q.last.depth)

    module _ {p q : Passing} (t : Sought p q) where
      pub sought_ended : length s ≤ q.raw.position → Arrived most s rows specs from wanted p q
      sought_ended h =
          record { kept = t.kept; same = t.same ∙ ends_there q.raw q.last.offset q.last.depth wanted sought h ∙ sym (turned_stays (λ (e : Entry). true) reached (on q.raw q.last.offset q.last.depth) (ap (λ (r : Called). r.answer) (at_end q.raw q.last.offset q.last.depth h))) }

      pub sought_found : Holds (λ i. wanted i.value ≡ true) (next q.raw) → Arrived most s rows specs from wanted p q
      sought_found h = record { kept = t.kept; same = t.same ∙ settles q.raw q.last.offset q.last.depth wanted sought h }

      pub sought_further : (i : Read Entry) (x : Passing) → q.raw.position < length s → next q.raw ≡ got i → wanted i.value ≡ false
          → x.raw ≡ from (taken q.raw i) → x.last.offset ≡ i.value.offset → x.last.depth ≡ i.value.depth → KeptRaw (length s) x.raw → Sought p x
      sought_further i x h e n a b c k =
          record {
            kept = k;
            same =
                t.same ∙ passes q.raw q.last.offset q.last.depth wanted sought i h e n ∙ seek_step (taken q.raw i)
                ∙ ap (go_on wanted sought) (ap (λ (w : EntriesRaw). on w i.value.offset i.value.depth) (sym a) ∙ ap (λ (o : ℕ). on x.raw o i.value.depth) (sym b) ∙ ap (λ (d : ℤ). on x.raw x.last.offset d) (sym c));
          }
