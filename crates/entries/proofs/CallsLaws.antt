-- A reading is what successive calls give.
use mathlib.Core.Bool.{Bool, true, false, not, cond}
use mathlib.Core.Path.{◌≡◌, refl, sym, ap, ◌∙◌, subst}
use mathlib.Core.List.{List, [], ◌∷◌}
use mathlib.Core.Option.{Option, none, some}
use Prim.Native.Nat.{ℕ, zero, suc, ◌+◌, ◌^◌, ◌≤◌, ◌<◌}
use native.Mathlib.Omega.{arith}
use borrow.Author.Tests.{leb-true, leb-false, ltb-false, le-leb, lt-leb}
use lib.Dec.{leb, ltb}
use lib.IntN.{ℤ}
use lib.ListN.{length, get_or, take, drop, take-append-drop, drop_of_length-le}
use lib.Seq.{drop-cons}
use Rattle.reader.specs.Answer.{Answer, got, refused, and_then}
use Rattle.reader.specs.declared.endianity.RunTimeEndian.{RunTimeEndian}
use Rattle.unit.specs.Header.{size_of_header}
use Rattle.unit.specs.Range.{entries_buf}
use Rattle.unit.specs.declared.header.UnitHeader.{UnitHeader}
use Rattle.unit.proofs.RangeLaws.{Or19, buf_19}
use Rattle.entries.specs.Cursor.{item_next}
use Rattle.entries.specs.Entry.{is_null}
use Rattle.entries.specs.Flat.{Item, place_at, Stop, Reading, all_of, reading_from, after_items, unit_reading, flat_reading}
use Rattle.entries.specs.Pass.{told_of, told, PassedItems, first_of, passed_items}
use Rattle.entries.specs.Raw.{keeps_raw, moved_to, start_of, unit_source, opened, empty_raw, source_of, Taken, refused_entry, raw_entry}
use Rattle.entries.specs.Read.{after_entry}
use Rattle.entries.specs.Steps.{KeptRaw}
use Rattle.entries.specs.declared.raw.EntriesRaw.{EntriesRaw}
use Rattle.entries.proofs.FlatLaws.{Stands, nth_next}
use Rattle.entries.proofs.RawLaws.{raw_kept, raw_keeps}
use Rattle.entries.proofs.RunLaws.{behind, next_kept, reading, reading_none, reading_item, reading_refused}
use Rattle.entries.proofs.SeekLaws.{stands}

abbrev pub as_reading : List Item → Option Stop → Reading
as_reading l o = record { items = l; stop = o }

-- what read_entry says of an item, and the state behind it
abbrev pub item_given : Item → EntriesRaw → Taken
item_given i w = record { answer = got (not (is_null i.value)); entry = i.value; raw = w }

module _ (most : ℕ) (s rows specs : List ℕ) where
  -- how a reading starts: with nothing where no byte is left, with a refusal, or with an item and what is read behind it
  abbrev Opens : EntriesRaw → List Item → Option Stop → Type 0
  Opens w [] none = length s ≤ w.position
  Opens w [] (some x) =
      (w.position < length s) × (item_next most s rows specs w ≡ refused x.number) × (w.position ≡ x.at) × (w.depth ≡ x.depth)
  Opens w (i ∷ l) o =
      (w.position < length s) × (item_next most s rows specs w ≡ got i) × (reading most s rows specs (moved_to w i.next (after_entry i.value)) ≡ as_reading l o)

  reading_opens : (w : EntriesRaw) → Opens w (reading most s rows specs w).items (reading most s rows specs w).stop
  reading_opens w = by (leb (length s) w.position) refl
    where
      is : {r : Reading} → reading most s rows specs w ≡ r → Opens w r.items r.stop → Opens w (reading most s rows specs w).items (reading most s rows specs w).stop
      is e h = subst (λ (r : Reading). Opens w r.items r.stop) (sym e) h

      item : (r : Answer Item) → item_next most s rows specs w ≡ r → w.position < length s → Opens w (reading most s rows specs w).items (reading most s rows specs w).stop
      item (got i) e h = is (reading_item most s rows specs w h i e) (h, e, refl)
      item (refused n) e h = is (reading_refused most s rows specs w h e) (h, e, refl, refl)

      by : (b : Bool) → leb (length s) w.position ≡ b → Opens w (reading most s rows specs w).items (reading most s rows specs w).stop
      by true q = is (reading_none most s rows specs w (leb-true _ _ q)) (leb-true _ _ q)
      by false q = item (item_next most s rows specs w) refl (leb-false _ _ q)

  opens : (w : EntriesRaw) {l : List Item} {o : Option Stop} → reading most s rows specs w ≡ as_reading l o → Opens w l o
  opens w e = subst (λ (r : Reading). Opens w r.items r.stop) e (reading_opens w)

  -- behind the first n items the state keeps the sizes, and the others are read from it
  pub record Behind (w : EntriesRaw) (l : List Item) (o : Option Stop) (n : ℕ) : Type 0 where
    pub kept : KeptRaw (length s) (after_items w l n)
    pub others : reading most s rows specs (after_items w l n) ≡ as_reading (drop n l) o

  pub after_items_lem : (l : List Item) (o : Option Stop) (n : ℕ) (w : EntriesRaw) → KeptRaw (length s) w → reading most s rows specs w ≡ as_reading l o → Behind w l o n
  after_items_lem l o zero w k e = record { kept = k; others = e }
  after_items_lem [] o (suc n) w k e = record { kept = k; others = e }
  after_items_lem (i ∷ l) o (suc n) w k e =
      let a = opens w e in
      let r = after_items_lem l o n (moved_to w i.next (after_entry i.value)) (next_kept most s rows specs w i k a.1) a.2 in
      record { kept = r.kept; others = r.others }

  -- ---- the calls

  module _ (w : EntriesRaw) (k : KeptRaw (length s) w) where
    item_given_lem : (i : Item) → item_next most s rows specs w ≡ got i → raw_entry most w s rows specs ≡ item_given i (moved_to w i.next (after_entry i.value))
    unfolding raw_entry
    item_given_lem i e =
        let z : Stands most (source_of w) s rows specs w.position w.depth i = rw e at (stands most s rows specs w) in
        rw (raw_keeps (length s) w k, e) (ap (λ (d : ℤ). item_given i (moved_to w i.next d)) z.after)

    refusal_given : {n : ℕ} → item_next most s rows specs w ≡ refused n → raw_entry most w s rows specs ≡ refused_entry most w n
    unfolding raw_entry
    refusal_given e = rw (raw_keeps (length s) w k, e)

  -- the call at a state gives an item and the state behind it
  pub record GivesItem (w : EntriesRaw) (i : Item) (after : EntriesRaw) : Type 0 where
    pub more : empty_raw (length s) w ≡ false
    pub given : raw_entry most w s rows specs ≡ item_given i after

  -- the call at a state is refused, and the state is that of the refusal
  pub record StopsAt (w : EntriesRaw) (x : Stop) : Type 0 where
    pub more : empty_raw (length s) w ≡ false
    pub given : raw_entry most w s rows specs ≡ refused_entry most w x.number
    pub at : w.position ≡ x.at
    pub depth : w.depth ≡ x.depth

  -- no byte is left, so that no call is made; or the call is refused
  abbrev pub EndsAt : EntriesRaw → Option Stop → Type 0
  EndsAt w none = empty_raw (length s) w ≡ true
  EndsAt w (some x) = StopsAt w x

  -- 01, "Walks": calls of read_entry one after another, until no byte is left, give the items of a reading each in its turn, and then the refusal that ended it
  pub record ReadByCalls (w : EntriesRaw) (r : Reading) : Type 0 where
    pub each : (n : ℕ) (z : Item) → n < length r.items → GivesItem (after_items w r.items n) (get_or r.items n z) (after_items w r.items (suc n))
    pub ends : EndsAt (after_items w r.items (length r.items)) r.stop

  ends_given : (v : EntriesRaw) → KeptRaw (length s) v → (o : Option Stop) → reading most s rows specs v ≡ as_reading [] o → EndsAt v o
  unfolding empty_raw
  ends_given v k none e = le-leb (length s) v.position (opens v e)
  ends_given v k (some x) e =
      let a : Opens v [] (some x) = opens v e in
      record { more = lt-leb (length s) v.position a.0; given = refusal_given v k a.1; at = a.2; depth = a.3 }

  module _ (w : EntriesRaw) (k : KeptRaw (length s) w) {l : List Item} {o : Option Stop} (e : reading most s rows specs w ≡ as_reading l o) where
    nth_given : (n : ℕ) (z : Item) → n < length l → GivesItem (after_items w l n) (get_or l n z) (after_items w l (suc n))
    unfolding empty_raw
    nth_given n z h =
        let b = after_items_lem l o n w k e in
        let i = get_or l n z in
        let a : Opens (after_items w l n) (i ∷ drop (suc n) l) o = opens (after_items w l n) (b.others ∙ ap (λ (y : List Item). as_reading y o) (drop-cons l n z h)) in
        let p = nth_next w.position w.depth l n z h in
        let moved : moved_to w i.next (after_entry i.value) ≡ after_items w l (suc n) = ap (λ (q : ℕ). moved_to w q (after_entry i.value)) (sym p.0) ∙ ap (moved_to w (place_at w.position l (suc n))) (sym p.1) in
        record {
          more = lt-leb (length s) (after_items w l n).position a.0;
          given = item_given_lem (after_items w l n) b.kept i a.1 ∙ ap (item_given i) moved;
        }

    pub by_calls : ReadByCalls w (as_reading l o)
    by_calls =
        let b = after_items_lem l o (length l) w k e in
        record { each = nth_given; ends = ends_given (after_items w l (length l)) b.kept o (b.others ∙ ap (λ (y : List Item). as_reading y o) (drop_of_length-le l {i = length l} (omega arith))) }

  -- from every state that keeps the sizes
  pub reading_by_calls : (w : EntriesRaw) → keeps_raw (length s) w ≡ true → ReadByCalls w (reading_from most w s rows specs)
  reading_by_calls w h = by_calls w (raw_kept (length s) w h) refl

  -- pass_entry tells of the same items
  pub told_item : {w after : EntriesRaw} {i : Item} → GivesItem w i after → told (raw_entry most w s rows specs) ≡ record { answer = told_of (got (not (is_null i.value))) i.value; raw = after }
  told_item g = ap told g.given

  -- ---- passes

  module _ (w : EntriesRaw) where
    -- the items of a pass and those that are read behind it
    pub record JoinedBy (x : PassedItems) : Type 0 where
      pub kept : KeptRaw (length s) x.raw
      pub is : reading_from most w s rows specs ≡ behind x.items (reading_from most x.raw s rows specs)

    -- are those of the reading: passes one after another join to it
    pub passed_reading : (m : ℕ) → keeps_raw (length s) w ≡ true → JoinedBy (passed_items most m w s rows specs)
    unfolding passed_items
    passed_reading m h =
        let l = (reading most s rows specs w).items in
        let o = (reading most s rows specs w).stop in
        let b = after_items_lem l o m w (raw_kept (length s) w h) refl in
        let is : reading most s rows specs w ≡ behind (take m l) (reading most s rows specs (after_items w l m)) = ap (λ (y : List Item). as_reading y o) (sym (take-append-drop m l)) ∙ ap (behind (take m l)) (sym b.others) in
        subst (λ (t : Bool). JoinedBy (cond t (first_of m w (reading most s rows specs w)) (record { items = []; answer = refused 1; raw = w }))) (sym h)
        (record { kept = b.kept; is = is })

-- ---- a unit by its header

module _ (most : ℕ) (h : UnitHeader) (u rows specs : List ℕ) (e : RunTimeEndian) where
  -- the reading of the part that entries_buf hands on, from the state before its first byte, by calls
  pub record UnitByCalls (r : Reading) : Type 0 where
    pub part : List ℕ
    pub part_is : entries_buf h u ≡ got part
    pub kept : keeps_raw (length part) (start_of (unit_source h e)) ≡ true
    pub is : reading_from most (start_of (unit_source h e)) part rows specs ≡ r
    pub calls : ReadByCalls most part rows specs (start_of (unit_source h e)) r

  -- the part is read where 01's sizes let it
  abbrev read_where : List ℕ → Bool → Answer Reading
  read_where s b = and_then (cond b (got (start_of (unit_source h e))) (refused 1)) (λ w. got (reading_from most w s rows specs))

  abbrev short : List ℕ → Bool
  short s = ltb (size_of_header h + length s) (2 ^ 63)

  pub unit_by_calls : {r : Reading} → unit_reading most h u rows specs e ≡ got r → UnitByCalls r
  unfolding unit_reading opened
  unit_by_calls {r} q = by_part (entries_buf h u) refl q
    where
      by_size : (s : List ℕ) → entries_buf h u ≡ got s → (b : Bool) → short s ≡ b → read_where s b ≡ got r → UnitByCalls r
      by_size s p true t f =
          let k : keeps_raw (length s) (start_of (unit_source h e)) ≡ true = rw (le-leb 0 (length s) (omega arith), t) in
          let z : reading_from most (start_of (unit_source h e)) s rows specs ≡ r = cc in
          record { part = s; part_is = p; kept = k; is = z; calls = by_calls most s rows specs (start_of (unit_source h e)) (raw_kept (length s) _ k) z }
      by_size s p false t f = absurd (let z : ◌≡◌ {A = ℕ} 0 1 = cc in omega arith)

      by_part : (x : Answer (List ℕ)) → entries_buf h u ≡ x → and_then x (λ s. read_where s (short s)) ≡ got r → UnitByCalls r
      by_part (got s) p f = by_size s p (short s) refl f
      by_part (refused n) p f = absurd (let z : ◌≡◌ {A = ℕ} 0 1 = cc in omega arith)

  -- the flat reading has all items where no refusal ended it
  pub flat_got : {l : List Item} → flat_reading most h u rows specs e ≡ got l → unit_reading most h u rows specs e ≡ got (as_reading l none)
  flat_got {l} q = by (unit_reading most h u rows specs e) q
    where
      by_stop : (y : List Item) (o : Option Stop) → all_of (as_reading y o) ≡ got l → ◌≡◌ {A = Answer Reading} (got (as_reading y o)) (got (as_reading l none))
      by_stop y none f = let z : y ≡ l = cc in ap (λ (y : List Item). got (as_reading y none)) z
      by_stop y (some x) f = absurd (let z : ◌≡◌ {A = ℕ} 0 1 = cc in omega arith)

      by : (x : Answer Reading) → and_then x all_of ≡ got l → x ≡ got (as_reading l none)
      by (got r) f = by_stop r.items r.stop f
      by (refused n) f = absurd (let z : ◌≡◌ {A = ℕ} 0 1 = cc in omega arith)

  pub got_flat : {l : List Item} → unit_reading most h u rows specs e ≡ got (as_reading l none) → flat_reading most h u rows specs e ≡ got l
  got_flat q = rw q

  -- so the calls give them one after another, and then no byte is left
  pub flat_by_calls : {l : List Item} → flat_reading most h u rows specs e ≡ got l → UnitByCalls (as_reading l none)
  flat_by_calls q = unit_by_calls (flat_got q)

  -- what refuses it: there is no such part, 01's sizes, or the call behind the items
  pub data FlatRefused : ℕ → Type 0 where
    no_part : entries_buf h u ≡ refused 19 → FlatRefused 19
    too_long_lem : (s : List ℕ) → entries_buf h u ≡ got s → 2 ^ 63 ≤ size_of_header h + length s → FlatRefused 1
    stopped : (l : List Item) (x : Stop) → unit_reading most h u rows specs e ≡ got (as_reading l (some x)) → FlatRefused x.number

  pub flat_refused : {n : ℕ} → flat_reading most h u rows specs e ≡ refused n → FlatRefused n
  unfolding unit_reading opened
  flat_refused {n} q = by (unit_reading most h u rows specs e) refl q
    where
      by_stop : (y : List Item) (o : Option Stop) → unit_reading most h u rows specs e ≡ got (as_reading y o) → all_of (as_reading y o) ≡ refused n → FlatRefused n
      by_stop y none p f = absurd (let z : ◌≡◌ {A = ℕ} 0 1 = cc in omega arith)
      by_stop y (some x) p f = let z : x.number ≡ n = cc in subst FlatRefused z (stopped y x p)

      by_size : (s : List ℕ) → entries_buf h u ≡ got s → (b : Bool) → short s ≡ b → read_where s b ≡ refused n → FlatRefused n
      by_size s p true t f = absurd (let z : ◌≡◌ {A = ℕ} 0 1 = cc in omega arith)
      by_size s p false t f = let z : 1 ≡ n = cc in subst FlatRefused z (too_long_lem s p (ltb-false _ _ t))

      by_part : (x : Answer (List ℕ)) → entries_buf h u ≡ x → Or19 x → and_then x (λ s. read_where s (short s)) ≡ refused n → FlatRefused n
      by_part (got s) p o f = by_size s p (short s) refl f
      by_part (refused m) p o f = let z : 19 ≡ n = cc in subst FlatRefused z (no_part (p ∙ ap refused o))

      by : (x : Answer Reading) → unit_reading most h u rows specs e ≡ x → and_then x all_of ≡ refused n → FlatRefused n
      by (got r) p f = by_stop r.items r.stop p f
      by (refused m) p f = let z : m ≡ n = cc in by_part (entries_buf h u) refl (buf_19 h u) (p ∙ ap refused z)
