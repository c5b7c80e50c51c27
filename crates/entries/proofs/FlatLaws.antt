-- Laws of items read one after another.
use mathlib.Core.Bool.{Bool, true, false, cond}
use mathlib.Core.Path.{refl, sym, ap, ◌≡◌, ◌∙◌}
use mathlib.Core.List.{List, [], ◌∷◌}
use mathlib.Core.Option.{Option, none, some}
use Prim.Native.Nat.{ℕ, zero, suc, ◌+◌, ◌-◌, ◌≤◌, ◌<◌}
use native.Mathlib.Omega.{arith}
use borrow.Author.Tests.{eqb-true, ne_eqb, leb-true, leb-false, le-leb, lt-leb}
use lib.Dec.{eqb, leb}
use lib.IntN.{ℤ, pos, nat_abs}
use lib.ListN.{length, get_or, take, drop, length-take}
use lib.Seq.{take-nil}
use Rattle.reader.specs.Answer.{Answer, got, refused, and_then, if_some, Read, gives, Holds}
use Rattle.reader.specs.Leb128.{uleb_at}
use Rattle.reader.proofs.Accepted.{Ends, uleb_ends}
use Rattle.reader.proofs.Counts.{without_count}
use Rattle.reader.proofs.Answers.{holds_then, holds_map, cond_by}
use Rattle.reader.proofs.PrefixLaws.{Prefixed, prefix_then, prefix_map, prefix_cond, prefix_uleb}
use Rattle.abbrev.specs.Lookup.{Found, lookup, declaration_of}
use Rattle.attribute.specs.Read.{attributes_at}
use Rattle.attribute.specs.Skip.{past_values}
use Rattle.attribute.proofs.FormLaws.{true_false}
use Rattle.attribute.proofs.PrefixLaws.{prefix_attributes}
use Rattle.attribute.proofs.ReadLaws.{Onward, attributes_past}
use Rattle.entries.specs.Entry.{Entry, is_null}
use Rattle.entries.specs.Flat.{Item, place_at, depth_at, Stop, Reading, nothing, before, read_on, all_of, read_within, read_from, items_from}
use Rattle.attribute.specs.declared.source.Source.{Source}
use Rattle.entries.specs.Read.{known, abbreviation_at, depth_after, after_entry, entry_after, entry_at}
use Rattle.entries.proofs.DepthLaws.{abs_up, abs_down}
use Rattle.entries.proofs.RawLaws.{abbreviation_in, found_keeps, tagged, tag_small}

-- an answer with a value is that value
got_is : {A : Type 0} (r : Answer A) → Holds (λ a. r ≡ got a) r
got_is (got a) = refl
got_is (refused n) = tt

-- the depth after an entry is at most one further from 0
pub after_near : (e : Entry) → nat_abs (after_entry e) ≤ nat_abs e.depth + 1
after_near e =
    cond_by (λ z. nat_abs z ≤ nat_abs e.depth + 1) (is_null e) _ _ (λ _. abs_down e.depth)
    (λ _. cond_by (λ z. nat_abs z ≤ nat_abs e.depth + 1) e.children _ _ (λ _. abs_up e.depth) (λ _. omega arith))

-- the next item stands where the n-th ends, at the depth after it
pub nth_next : (at : ℕ) (d : ℤ) (l : List Item) (n : ℕ) (z : Item) → n < length l → (place_at at l (suc n) ≡ (get_or l n z).next) × (depth_at d l (suc n) ≡ after_entry (get_or l n z).value)
nth_next at d [] n z h = absurd (omega arith)
nth_next at d (i ∷ l) zero z h = (refl, refl)
nth_next at d (i ∷ l) (suc n) z h = nth_next i.next (after_entry i.value) l n z (omega arith)

module _ (most : ℕ) (src : Source) (s rows specs : List ℕ) where
  -- an item that is read at a place and a depth: the depth after it is the one after its code, and a null has no children and no values, and a tag has 16 bits
  pub record Stands (at : ℕ) (d : ℤ) (i : Item) : Type 0 where
    pub read : entry_at most src s rows specs at d ≡ got i
    pub offset : i.value.offset ≡ src.start + at
    pub depth : i.value.depth ≡ d
    pub above : at < i.next
    pub within : i.next ≤ length s
    pub after : depth_after (abbreviation_at most s rows specs at) d ≡ after_entry i.value
    pub bare : is_null i.value ≡ true → i.value.children ≡ false
    pub empty : is_null i.value ≡ true → i.value.count ≡ 0
    pub small : i.value.tag ≤ 65535

  module _ (at : ℕ) (d : ℤ) where
    of_code : (o : Option Found) (p : ℕ) → abbreviation_at most s rows specs at ≡ gives o p → Holds (Stands at d) (entry_after most src s specs at d (record { value = o; next = p }))
    unfolding entry_at entry_after
    of_code none p e =
        let a : (at < p) × (p ≤ length s) = rw e at (abbreviation_in most s rows specs at) in
        record { read = rw e; offset = refl; depth = refl; above = a.0; within = a.1; after = rw e; bare = λ _. refl; empty = λ _. refl; small = omega arith }
    of_code (some f) p e =
        let a : (at < p) × (p ≤ length s) = rw e at (abbreviation_in most s rows specs at) in
        let t = tagged most specs f (found_keeps most s rows specs at e) in
        let xs = (declaration_of specs f).specifications in
        let values = attributes_at s src.start src.encoding src.endian xs p in
        holds_then (λ v. values ≡ got v) (Stands at d) values _ (got_is values)
        (λ v q.
        let b = (rw q at (attributes_past s src.start src.encoding src.endian xs p a.1)).1 in
        record { read = rw (e, q); offset = refl; depth = refl; above = omega (arith, a.0, b.from); within = b.within; after = rw (e, ne_eqb f.tag 0 (λ y. omega (arith, y))); bare = λ z. absurd (omega (arith, eqb-true f.tag 0 z)); empty = λ z. absurd (omega (arith, eqb-true f.tag 0 z)); small = tag_small most specs f (found_keeps most s rows specs at e) })

    pub entry_stands : Holds (Stands at d) (entry_at most src s rows specs at d)
    unfolding entry_at
    entry_stands =
        let x = abbreviation_at most s rows specs at in
        holds_then (λ r. x ≡ got r) (Stands at d) x _ (got_is x) (λ r e. of_code r.value r.next e)

    -- each read moves forward by at least a byte and ends inside
    pub entry_in_lem : Holds (λ r. (at < r.next) × (r.next ≤ length s)) (entry_at most src s rows specs at d)
    entry_in_lem = holds_map (Stands at d) (λ r. (at < r.next) × (r.next ≤ length s)) (entry_at most src s rows specs at d) (λ r x. (x.above, x.within)) entry_stands

    pub entry_placed : Holds (λ r. (r.value.offset ≡ src.start + at) × (r.value.depth ≡ d)) (entry_at most src s rows specs at d)
    entry_placed = holds_map (Stands at d) (λ r. (r.value.offset ≡ src.start + at) × (r.value.depth ≡ d)) (entry_at most src s rows specs at d) (λ r x. (x.offset, x.depth)) entry_stands

    pub after_entry_lem : Holds (λ r. depth_after (abbreviation_at most s rows specs at) d ≡ after_entry r.value) (entry_at most src s rows specs at d)
    after_entry_lem = holds_map (Stands at d) (λ r. depth_after (abbreviation_at most s rows specs at) d ≡ after_entry r.value) (entry_at most src s rows specs at d) (λ r x. x.after) entry_stands

    pub null_bare : Holds (λ r. is_null r.value ≡ true → r.value.children ≡ false) (entry_at most src s rows specs at d)
    null_bare = holds_map (Stands at d) (λ r. is_null r.value ≡ true → r.value.children ≡ false) (entry_at most src s rows specs at d) (λ r x. x.bare) entry_stands

  -- each item stands where the one before it ends, at the depth after that one
  abbrev pub Chain : ℕ → ℤ → List Item → Type 0
  Chain at d [] = Unit {0}
  Chain at d (i ∷ l) = Stands at d i × Chain i.next (after_entry i.value) l

  -- the n-th of them
  pub chain_nth : (at : ℕ) (d : ℤ) (l : List Item) (n : ℕ) (z : Item) → Chain at d l → n < length l → Stands (place_at at l n) (depth_at d l n) (get_or l n z)
  chain_nth at d [] n z c h = absurd (omega arith)
  chain_nth at d (i ∷ l) zero z c h = c.0
  chain_nth at d (i ∷ l) (suc n) z c h = chain_nth i.next (after_entry i.value) l n z c.1 (omega arith)

  -- a depth is no further from the first one than its place from the first place
  pub chain_near : (at : ℕ) (d : ℤ) (l : List Item) (n : ℕ) → Chain at d l → (at ≤ place_at at l n) × (nat_abs (depth_at d l n) ≤ nat_abs d + (place_at at l n - at))
  chain_near at d l zero c = (omega arith, omega arith)
  chain_near at d [] (suc n) c = (omega arith, omega arith)
  chain_near at d (i ∷ l) (suc n) c =
      let r = chain_near i.next (after_entry i.value) l n c.1 in
      (omega (arith, r.0, c.0.above), omega (arith, r.0, r.1, c.0.above, after_near i.value, ap nat_abs c.0.depth))

  -- places and offsets rise
  pub chain_rises : (at : ℕ) (d : ℤ) (l : List Item) (m n : ℕ) → Chain at d l → m < n → n ≤ length l → place_at at l m < place_at at l n
  chain_rises at d l m zero c h k = absurd (omega arith)
  chain_rises at d [] m (suc n) c h k = absurd (omega arith)
  chain_rises at d (i ∷ l) zero (suc n) c h k = omega (arith, c.0.above, (chain_near i.next (after_entry i.value) l n c.1).0)
  chain_rises at d (i ∷ l) (suc m) (suc n) c h k = chain_rises i.next (after_entry i.value) l m n c.1 (omega arith) (omega arith)

  module _ (at : ℕ) (d : ℤ) (l : List Item) (c : Chain at d l) where
    pub depths_near : (n : ℕ) (z : Item) → n < length l → nat_abs (get_or l n z).value.depth ≤ nat_abs d + (place_at at l n - at)
    depths_near n z h = omega (arith, (chain_near at d l n c).1, ap nat_abs (chain_nth at d l n z c h).depth)

    pub offsets_rise : (m n : ℕ) (z : Item) → m < n → n < length l → (get_or l m z).value.offset < (get_or l n z).value.offset
    offsets_rise m n z h k =
        omega (arith, chain_rises at d l m n c h (omega arith), (chain_nth at d l m z c (omega arith)).offset, (chain_nth at d l n z c k).offset)

  -- from the first byte and depth 0 on, no depth is above its place
  pub flat_near : (l : List Item) → Chain 0 (pos 0) l → (n : ℕ) (z : Item) → n < length l → nat_abs (get_or l n z).value.depth ≤ place_at 0 l n
  flat_near l c n z h = omega (arith, depths_near 0 (pos 0) l c n z h)

  module _ (last : Entry → Bool) where
    -- one item, and what f gives after it
    abbrev step : (ℕ × ℤ → Reading) → ℕ × ℤ → Reading
    step f (at, d) = cond (leb (length s) at) nothing (read_on last at d (λ i. f (i.next, after_entry i.value)) (entry_at most src s rows specs at d))

    abbrev size : ℕ × ℤ → ℕ
    size (at, d) = length s - at

    local : (f g : ℕ × ℤ → Reading) (x : ℕ × ℤ) → ((y : ℕ × ℤ) → size y < size x → f y ≡ g y) → step f x ≡ step g x
    local f g (at, d) h =
        by (leb (length s) at) refl
      where
        on : (r : Answer Item) → Holds (Stands at d) r → at < length s → read_on last at d (λ i. f (i.next, after_entry i.value)) r ≡ read_on last at d (λ i. g (i.next, after_entry i.value)) r
        on (got i) z l = ap (λ (r : Reading). before i (cond (last i.value) nothing r)) (h (i.next, after_entry i.value) (omega (arith, z.above, z.within)))
        on (refused n) z l = refl

        by : (b : Bool) → leb (length s) at ≡ b → cond b nothing (read_on last at d (λ i. f (i.next, after_entry i.value)) (entry_at most src s rows specs at d)) ≡ cond b nothing (read_on last at d (λ i. g (i.next, after_entry i.value)) (entry_at most src s rows specs at d))
        by true q = refl
        by false q = on (entry_at most src s rows specs at d) (entry_stands at d) (leb-false (length s) at q)

    -- the definition without its count
    pub reading_step : (at : ℕ) (d : ℤ) → read_from most src s rows specs last at d ≡ cond (leb (length s) at) nothing (read_on last at d (λ i. read_from most src s rows specs last i.next (after_entry i.value)) (entry_at most src s rows specs at d))
    unfolding read_from read_within
    reading_step at d =
        without_count size step (λ n x. read_within most src s rows specs last n x.0 x.1) (λ n x. refl) local
        (λ f x e. sym (rw (le-leb (length s) x.0 (omega arith)))) (at, d)

    pub items_step : (at : ℕ) (d : ℤ) → items_from most src s rows specs last at d ≡ cond (leb (length s) at) (got []) (and_then (entry_at most src s rows specs at d) (λ i. cond (last i.value) (got (i ∷ [])) (and_then (items_from most src s rows specs last i.next (after_entry i.value)) (λ l. got (i ∷ l)))))
    unfolding items_from
    items_step at d = ap all_of (reading_step at d) ∙ by (leb (length s) at) (entry_at most src s rows specs at d)
      where
        more : Item → Reading
        more i = read_from most src s rows specs last i.next (after_entry i.value)

        stopped : (i : Item) (b : Bool) (r : Reading) → all_of (before i (cond b nothing r)) ≡ cond b (got (i ∷ [])) (and_then (all_of r) (λ l. got (i ∷ l)))
        stopped i true r = refl
        stopped i false r = by_stop r.stop r.items
          where
            by_stop : (o : Option Stop) (l : List Item) → if_some o (got (i ∷ l)) (λ x. refused x.number) ≡ and_then (if_some o (got l) (λ x. refused x.number)) (λ l. got (i ∷ l))
            by_stop none l = refl
            by_stop (some x) l = refl

        by : (b : Bool) (r : Answer Item) → all_of (cond b nothing (read_on last at d more r)) ≡ cond b (got []) (and_then r (λ i. cond (last i.value) (got (i ∷ [])) (and_then (all_of (more i)) (λ l. got (i ∷ l)))))
        by true r = refl
        by false (got i) = stopped i (last i.value) (more i)
        by false (refused n) = refl

    -- no byte is left, or an item stands there; none follows the last one, and another is followed by what is read behind it
    abbrev pub Opens : ℕ → ℤ → List Item → Type 0
    Opens at d [] = length s ≤ at
    Opens at d (i ∷ l) =
        Stands at d i × (last i.value ≡ true → l ≡ []) × (last i.value ≡ false → items_from most src s rows specs last i.next (after_entry i.value) ≡ got l)

    pub items_open : (at : ℕ) (d : ℤ) → Holds (Opens at d) (items_from most src s rows specs last at d)
    items_open at d =
        rw (items_step at d)
        (cond_by (Holds (Opens at d)) (leb (length s) at) (got []) _ (λ t. leb-true (length s) at t)
        (λ _.
        holds_then (Stands at d) (Opens at d) (entry_at most src s rows specs at d) _ (entry_stands at d)
        (λ i x.
        let rest = items_from most src s rows specs last i.next (after_entry i.value) in
        cond_by (Holds (Opens at d)) (last i.value) (got (i ∷ [])) _ (λ t. (x, λ _. refl, λ u. absurd (true_false (sym t ∙ u))))
        (λ t. holds_then (λ l. rest ≡ got l) (Opens at d) rest _ (got_is rest) (λ l q. (x, λ u. absurd (true_false (sym u ∙ t)), λ _. q))))))

    chain_of : (l : List Item) (at : ℕ) (d : ℤ) → items_from most src s rows specs last at d ≡ got l → Chain at d l
    chain_of [] at d e = tt
    chain_of (i ∷ l) at d e =
        let g : Opens at d (i ∷ l) = rw e at (items_open at d) in
        (g.0, cond_by (λ (b : Bool). Chain i.next (after_entry i.value) l) (last i.value) true false (λ t. rw (g.1 t) tt) (λ t. chain_of l i.next (after_entry i.value) (g.2 t)))

    pub items_chain : (at : ℕ) (d : ℤ) → Holds (Chain at d) (items_from most src s rows specs last at d)
    items_chain at d =
        let r = items_from most src s rows specs last at d in
        holds_map (λ l. r ≡ got l) (Chain at d) r (λ l e. chain_of l at d e) (got_is r)

    -- from the n-th item on; from the end on only where no item is the last one
    from_nth : (l : List Item) (n at : ℕ) (d : ℤ) → items_from most src s rows specs last at d ≡ got l → n ≤ length l → (n ≡ length l → (x : Entry) → last x ≡ false) → items_from most src s rows specs last (place_at at l n) (depth_at d l n) ≡ got (drop n l)
    from_nth l zero at d e h f = e
    from_nth [] (suc n) at d e h f = absurd (omega arith)
    from_nth (i ∷ l) (suc n) at d e h f =
        let g : Opens at d (i ∷ l) = rw e at (items_open at d) in
        let u : last i.value ≡ false = cond_by (λ (b : Bool). last i.value ≡ false) (last i.value) true false (λ t. f (omega (arith, ap length (g.1 t))) i.value) (λ t. t) in
        from_nth l n i.next (after_entry i.value) (g.2 u) (omega arith) (λ q. f (ap suc q))

    module _ (at : ℕ) (d : ℤ) {l : List Item} (e : items_from most src s rows specs last at d ≡ got l) where
      pub items_from_lem : (n : ℕ) → n < length l → items_from most src s rows specs last (place_at at l n) (depth_at d l n) ≡ got (drop n l)
      items_from_lem n h = from_nth l n at d e (omega arith) (λ q. absurd (omega (arith, q)))

      pub items_nth : (n : ℕ) (z : Item) → n < length l → entry_at most src s rows specs (place_at at l n) (depth_at d l n) ≡ got (get_or l n z)
      items_nth n z h = (chain_nth at d l n z (chain_of l at d e) h).read

  -- all items, as in the flat reading
  pub flat_from : (at : ℕ) (d : ℤ) {l : List Item} → items_from most src s rows specs (λ (x : Entry). false) at d ≡ got l → (n : ℕ) → n ≤ length l → items_from most src s rows specs (λ (x : Entry). false) (place_at at l n) (depth_at d l n) ≡ got (drop n l)
  flat_from at d {l} e n h = from_nth (λ (x : Entry). false) l n at d e h (λ _ _. refl)

-- ---- a leading part of the bytes

-- what is read over a part and over the whole, not before a place
abbrev Both : {A : Type 0} → ℕ → ℕ → Answer (Read A) → Answer (Read A) → Type 0
Both k p part whole = Prefixed k part whole × Holds (λ r. p ≤ r.next) whole

known_both : (k p : ℕ) (r : Answer (Option Found)) → Both k p (known r p) (known r p)
known_both k p (got none) = (tt, tt)
known_both k p (got (some f)) = (λ _. refl, omega arith)
known_both k p (refused n) = (tt, tt)

module _ (most : ℕ) (src : Source) (s rows specs : List ℕ) (k : ℕ) where
  prefix_abbreviation : (at : ℕ) → Prefixed k (abbreviation_at most (take k s) rows specs at) (abbreviation_at most s rows specs at)
  unfolding abbreviation_at
  prefix_abbreviation at =
      prefix_then (λ r. Ends s at 64 r.next) k _ (uleb_at s at 64) _ _ (prefix_uleb k s at 64) (uleb_ends s at 64)
      (λ r _ _. prefix_cond k (eqb r.value 0) _ (gives none r.next) _ _ (λ _. refl) (known_both k r.next (lookup most rows specs r.value)).0)
      (λ r _. cond_by (Holds (λ v. r.next ≤ v.next)) (eqb r.value 0) (gives none r.next) _ (λ _. omega arith) (λ _. (known_both k r.next (lookup most rows specs r.value)).1))

  module _ (at : ℕ) (d : ℤ) where
    after_both : (o : Option Found) (p : ℕ) → p ≤ length s → Both k p (entry_after most src (take k s) specs at d (record { value = o; next = p })) (entry_after most src s specs at d (record { value = o; next = p }))
    unfolding entry_after
    after_both none p h = (λ _. refl, omega arith)
    after_both (some f) p h =
        let xs = (declaration_of specs f).specifications in
        let values = attributes_at s src.start src.encoding src.endian xs p in (
          prefix_map _ _ k _ values (prefix_attributes k s src.start src.encoding src.endian xs p h),
          holds_then (λ v. (past_values s src.encoding src.endian xs p ≡ got v.next) × Onward s p v.next) (λ v. p ≤ v.next) values _ (attributes_past s src.start src.encoding src.endian xs p h) (λ v x. x.1.from),
        )

    pub entry_prefix : Prefixed k (entry_at most src (take k s) rows specs at d) (entry_at most src s rows specs at d)
    unfolding entry_at
    entry_prefix =
        prefix_then (λ r. (at < r.next) × (r.next ≤ length s)) k _ (abbreviation_at most s rows specs at) _ _ (prefix_abbreviation at) (abbreviation_in most s rows specs at)
        (λ r x _. (after_both r.value r.next x.1).0) (λ r x. (after_both r.value r.next x.1).1)

  -- up to a place between two items
  pub items_prefix : (last : Entry → Bool) (l : List Item) (n at : ℕ) (d : ℤ) → items_from most src s rows specs last at d ≡ got l → n ≤ length l → place_at at l n ≡ k → items_from most src (take k s) rows specs last at d ≡ got (take n l)
  items_prefix last l zero at d e h p =
      rw (items_step most src (take k s) rows specs last at d, le-leb (length (take k s)) at (rw (length-take k s) (omega arith)))
  items_prefix last [] (suc n) at d e h p = absurd (omega arith)
  items_prefix last (i ∷ l) (suc n) at d e h p =
      let g : Opens most src s rows specs last at d (i ∷ l) = rw e at (items_open most src s rows specs last at d) in
      let c : Chain most src s rows specs at d (i ∷ l) = rw e at (items_chain most src s rows specs last at d) in
      let m : i.next ≤ k = omega (arith, (chain_near most src s rows specs i.next (after_entry i.value) l n c.1).0) in
      let r = (rw g.0.read at (entry_prefix at d)) m in
      let b = lt-leb (length (take k s)) at (rw (length-take k s) (omega (arith, g.0.above, g.0.within))) in
      rw (items_step most src (take k s) rows specs last at d, b, r)
      (cond_by (λ z. z ≡ got (i ∷ take n l)) (last i.value) _ _ (λ t. rw (g.1 t, take-nil n)) (λ t. rw (items_prefix last l n i.next (after_entry i.value) (g.2 t) (omega arith) p)))
