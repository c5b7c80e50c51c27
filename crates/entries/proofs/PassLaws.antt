-- Laws of items that are passed.
use mathlib.Core.Bool.{Bool, true, false, cond, ◌||◌}
use mathlib.Core.Path.{◌≡◌, refl, sym, ap, subst, ◌∙◌}
use mathlib.Core.List.{List, [], ◌∷◌}
use mathlib.Core.Option.{Option, none, some}
use Prim.Native.Nat.{ℕ, zero, suc, ◌+◌, ◌≤◌, ◌<◌}
use native.Mathlib.Omega.{arith}
use borrow.Author.Tests.{ne_eqb, eqb-false}
use lib.Dec.{eqb}
use lib.IntN.{ℤ, pos, nat_abs, ◌-ℤ◌}
use native.Mathlib.Nat.{le_refl}
use lib.ListN.{length, take}
use Rattle.reader.specs.Answer.{Answer, got, refused, and_then, Read, gives, end_of, Holds}
use Rattle.reader.specs.Leb128.{uleb_at}
use Rattle.reader.specs.declared.common.Encoding.{Encoding}
use Rattle.reader.specs.declared.endianity.RunTimeEndian.{RunTimeEndian}
use Rattle.reader.proofs.Accepted.{uleb_ends}
use Rattle.reader.proofs.Answers.{holds_then, holds_map}
use Rattle.abbrev.specs.Lookup.{Found, keeps_sizes, declaration_of}
use Rattle.abbrev.specs.Table.{Specification}
use Rattle.abbrev.proofs.Lookups.{kept}
use Rattle.attribute.specs.Attributes.{pad}
use Rattle.attribute.specs.Read.{form_at, attribute_at, attributes_at}
use Rattle.attribute.specs.Value.{Attribute}
use Rattle.attribute.specs.declared.value.Value.{Value}
use Rattle.attribute.proofs.FormLaws.{true_false}
use Rattle.attribute.proofs.ListLaws.{read_kept}
use Rattle.entries.specs.Cursor.{Cursor, jumped, plainly, by_jump, is_entry, stands_at, depth_past, item_next}
use Rattle.entries.specs.Entry.{Entry, null_entry, entry_of, named, attr_of, sibling, sibling_of, jump_of}
use Rattle.entries.specs.Pass.{Passed, told_if, told}
use Rattle.entries.specs.Raw.{keeps_raw, moved_to, Moved, source_of, Taken, taken as taken_from, raw_entry}
use Rattle.entries.specs.Read.{abbreviation_at, raised, depth_after, entry_after, entry_at, same_depth}
use Rattle.entries.specs.Steps.{KeptRaw, names_any, HasSpecs, may_jump, if_got, depth_by, passed_code, past_item, passed_item, Arrived}
use Rattle.entries.specs.declared.pass.Last.{Last}
use Rattle.entries.specs.declared.pass.Passing.{Passing}
use Rattle.entries.specs.declared.raw.EntriesRaw.{EntriesRaw}
use Rattle.entries.proofs.EntryLaws.{jump_with, jump_without}
use Rattle.entries.proofs.RawLaws.{raw_kept, raw_keeps, abbreviation_in, found_keeps, tagged}
use Rattle.entries.proofs.SeekLaws.{jump_forward, jump_kept, jump_none, stands, item_kept, was_read, was_refused, code_null, null_next, entry_next, Sought, sought_found, sought_further}
use Rattle.entries.proofs.FlatLaws.{Stands}

-- ---- an entry without a name has no such attribute

attribute_named : (s : List ℕ) (start : ℕ) (c : Encoding) (e : RunTimeEndian) (x : Specification) (at : ℕ) → Holds (λ (a : Read Attribute). a.value.name ≡ x.name) (attribute_at s start c e x at)
unfolding attribute_at
attribute_named s start c e x at =
    holds_then (λ v. Unit {0}) (λ a. a.value.name ≡ x.name) (form_at s start c e x at) _ (any (form_at s start c e x at)) (λ v _. refl)
  where
    any : (r : Answer (Read Value)) → Holds (λ v. Unit {0}) r
    any (got v) = tt
    any (refused n) = tt

-- no place of so many holds the name, which is not 0
abbrev Bare : ℕ → List Attribute → Type 0
Bare n vs = (k m : ℕ) → named n (take k (pad m vs)) ≡ none

bare_none : (n : ℕ) → (0 ≡ n → ⊥) → Bare n []
unfolding pad
bare_none n h zero m = refl
bare_none n h (suc k) zero = refl
bare_none n h (suc k) (suc m) = rw (ne_eqb 0 n h) (bare_none n h k m)

bare_more : (n : ℕ) (v : Attribute) (vs : List Attribute) → (v.name ≡ n → ⊥) → Bare n vs → Bare n (v ∷ vs)
unfolding pad
bare_more n v vs h b zero m = refl
bare_more n v vs h b (suc k) zero = refl
bare_more n v vs h b (suc k) (suc m) = rw (ne_eqb v.name n h) (b k m)

neither : (a b : Bool) → (a || b) ≡ false → (a ≡ false) × (b ≡ false)
neither true b h = absurd (true_false h)
neither false b h = (refl, h)

values_bare : (n : ℕ) → (0 ≡ n → ⊥) → (s : List ℕ) (start : ℕ) (c : Encoding) (e : RunTimeEndian) (xs : List Specification) (at : ℕ) → names_any n xs ≡ false → Holds (λ r. Bare n r.value) (attributes_at s start c e xs at)
unfolding attributes_at
values_bare n h s start c e [] at q = bare_none n h
values_bare n h s start c e (x ∷ xs) at q =
    let z = neither (eqb x.name n) (names_any n xs) q in
    holds_then (λ a. a.value.name ≡ x.name) (λ r. Bare n r.value) (attribute_at s start c e x at) _ (attribute_named s start c e x at)
    (λ a k.
    holds_then (λ r. Bare n r.value) (λ r. Bare n r.value) (attributes_at s start c e xs a.next) _ (values_bare n h s start c e xs a.next z.1)
    (λ r b. bare_more n a.value r.value (λ y. eqb-false x.name n z.0 (sym k ∙ y)) b))

-- an entry without an attribute for it offers no jump
jumpless : (e : Entry) → (e.children ≡ true → attr_of sibling e ≡ none) → (n m : ℕ) → jump_of e n m ≡ none
unfolding sibling_of
jumpless e h n m = go e.children refl
  where
    go : (b : Bool) → e.children ≡ b → jump_of e n m ≡ none
    go true q = jump_with e n m q ∙ rw (h q)
    go false q = jump_without e n m q

-- ---- an item passed

module _ (most : ℕ) (s rows specs : List ℕ) (w : EntriesRaw) where
  abbrev passed : Option EntriesRaw
  passed = passed_item most s rows specs w

  abbrev code : Answer (Read (Option Found))
  code = abbreviation_at most s rows specs w.position

  pub passed_refused : {n : ℕ} → code ≡ refused n → none ≡ passed
  unfolding passed_item entry_at
  passed_refused e = rw e

  passed_null : {p : ℕ} → code ≡ gives none p → if_got (passed_code most s specs w none p) ≡ passed
  unfolding passed_item entry_at entry_after
  passed_null {p} e =
      rw e
      (ap some (sym (jump_none (length s) (moved_to w p (w.depth -ℤ pos 1)) (null_entry most (w.start + w.position) w.depth) (λ n m. jump_without (null_entry most (w.start + w.position) w.depth) n m refl))))

  module _ (k : KeptRaw (length s) w) {f : Found} {p : ℕ} (a : code ≡ gives (some f) p) where
    abbrev values : Answer (Read (List Attribute))
    values = attributes_at s w.start w.encoding w.endian (declaration_of specs f).specifications p

    -- its values are all that is passed
    passed_plain : cond (eqb f.children 1) (names_any sibling (declaration_of specs f).specifications) false ≡ false → if_got (passed_code most s specs w (some f) p) ≡ passed
    unfolding passed_item entry_at entry_after attr_of
    passed_plain h =
        rw (read_kept most s w.start w.encoding w.endian specs f p (rw a at (abbreviation_in most s rows specs w.position)).1 k.short (found_keeps most s rows specs w.position a), a)
        (go values bare)
      where
        -- where it has children
        Free : List Attribute → Type 0
        Free vs = eqb f.children 1 ≡ true → Bare sibling vs

        free : eqb f.children 1 ≡ true → Holds (λ r. Bare sibling r.value) values
        free q = values_bare sibling (λ y. omega (arith, y)) s w.start w.encoding w.endian (declaration_of specs f).specifications p (rw q at h)

        at_value : (r : Answer (Read (List Attribute))) → (eqb f.children 1 ≡ true → Holds (λ v. Bare sibling v.value) r) → Holds (λ v. Free v.value) r
        at_value (got v) g = g
        at_value (refused n) g = tt

        bare : Holds (λ v. Free v.value) values
        bare = at_value values free

        go : (r : Answer (Read (List Attribute))) → Holds (λ v. Free v.value) r
            → if_got (and_then (end_of r) (λ q. got (moved_to w q (depth_by (some f) w.depth)))) ≡ past_item (length s) w (raised f.children w.depth) (and_then r (λ v. gives (entry_of most (w.start + w.position) w.depth f v.value) v.next))
        go (got v) b =
            ap some
            (sym
            (jump_none (length s) (moved_to w v.next (raised f.children w.depth)) (entry_of most (w.start + w.position) w.depth f v.value)
            (jumpless (entry_of most (w.start + w.position) w.depth f v.value) (λ q. b q f.count most))))
        go (refused n) b = refl

  -- what a code stands for is all that is passed
  pub passed_by_code : (o : Option Found) (p : ℕ) → KeptRaw (length s) w → gives o p ≡ code → may_jump specs o ≡ false → if_got (passed_code most s specs w o p) ≡ passed
  passed_by_code none p k e h = passed_null (sym e)
  passed_by_code (some f) p k e h = passed_plain k (sym e) h

  pub has_specs : (o : Option Found) (p : ℕ) → gives o p ≡ code → HasSpecs specs o
  has_specs none p e = tt
  has_specs (some f) p e = (kept most specs f (found_keeps most s rows specs w.position (sym e))).inside

  -- an item read whole
  module _ (k : KeptRaw (length s) w) {x : Taken} (e : x ≡ raw_entry most w s rows specs) where
    pub read_passed : {b : Bool} → x.answer ≡ got b → some (jumped (length s) x.raw x.entry) ≡ passed
    unfolding passed_item
    read_passed h =
        let z = was_read most s rows specs w k e h in
        ap (λ (v : EntriesRaw). some (jumped (length s) v x.entry)) z.raw_is
        ∙ ap (λ (y : Entry). some (jumped (length s) (moved_to w z.item.next (depth_past most s rows specs w)) y)) z.entry_is
        ∙ ap (past_item (length s) w (depth_past most s rows specs w)) (sym z.read)

    pub read_not_passed : {n : ℕ} → x.answer ≡ refused n → none ≡ passed
    unfolding passed_item
    read_not_passed h = rw (was_refused most s rows specs w k e h)

-- ---- what is told of an item passed is what reading it whole would tell

-- what is told of what a code stands for, and the state behind it; a refusal keeps the one before
abbrev pub told_at : EntriesRaw → Option Found → Answer EntriesRaw → Moved (Option Passed)
told_at w o (got v) = record { answer = got (told_if o); raw = v }
told_at w o (refused n) = record { answer = refused n; raw = w }

module _ (most : ℕ) (w : EntriesRaw) (s rows specs : List ℕ) (h : keeps_raw (length s) w ≡ true) where
  pub told_refused : {n : ℕ} → abbreviation_at most s rows specs w.position ≡ refused n → ◌≡◌ {A = Moved (Option Passed)} (record { answer = refused n; raw = w }) (told (raw_entry most w s rows specs))
  unfolding raw_entry entry_at
  told_refused e = rw (h, e)

  told_code : (o : Option Found) (p : ℕ) → gives o p ≡ abbreviation_at most s rows specs w.position → told_at w o (passed_code most s specs w o p) ≡ told (raw_entry most w s rows specs)
  unfolding raw_entry entry_at entry_after
  told_code none p a = rw (h, ← a)
  told_code (some f) p a =
      rw (h, ← a, read_kept most s w.start w.encoding w.endian specs f p (rw (← a) at (abbreviation_in most s rows specs w.position)).1 (raw_kept (length s) w h).short keeps)
      (by (attributes_at s w.start w.encoding w.endian (declaration_of specs f).specifications p))
    where
      keeps : keeps_sizes most specs f ≡ true
      keeps = found_keeps most s rows specs w.position (sym a)

      by : (r : Answer (Read (List Attribute)))
          → told_at w (some f) (and_then (end_of r) (λ q. got (moved_to w q (depth_by (some f) w.depth))))
          ≡ told (taken_from most w (raised f.children w.depth) (and_then r (λ v. gives (entry_of most (w.start + w.position) w.depth f v.value) v.next)))
      by (got v) = rw (ne_eqb f.tag 0 (λ y. omega (arith, y, tagged most specs f keeps)))
      by (refused k) = refl

-- an item that was passed, and one that was not
module _ (most : ℕ) (w : EntriesRaw) (s rows specs : List ℕ) (k : KeptRaw (length s) w) {o : Option Found} {p : ℕ} (e : gives o p ≡ abbreviation_at most s rows specs w.position) where
  pub told_passed : {v : EntriesRaw} → got v ≡ passed_code most s specs w o p → ◌≡◌ {A = Moved (Option Passed)} (record { answer = got (told_if o); raw = v }) (told (raw_entry most w s rows specs))
  told_passed q = rw (← q) at (told_code most w s rows specs (raw_keeps (length s) w k) o p e)

  pub told_not_passed : {n : ℕ} → refused n ≡ passed_code most s specs w o p → ◌≡◌ {A = Moved (Option Passed)} (record { answer = refused n; raw = w }) (told (raw_entry most w s rows specs))
  told_not_passed q = rw (← q) at (told_code most w s rows specs (raw_keeps (length s) w k) o p e)

-- ---- the loop that passes items up to a depth

module _ (most : ℕ) (s rows specs : List ℕ) where
  -- where a passed item leaves the state
  passed_item_lem : {P : Type 0} (w : EntriesRaw) {v : EntriesRaw} → some v ≡ passed_item most s rows specs w
      → ((i : Read Entry) → item_next most s rows specs w ≡ got i → v ≡ jumped (length s) (moved_to w i.next (depth_past most s rows specs w)) i.value → P) → P
  unfolding passed_item
  passed_item_lem {P} w {v} e go = by (item_next most s rows specs w) refl e
    where
      by : (r : Answer (Read Entry)) → item_next most s rows specs w ≡ r → some v ≡ past_item (length s) w (depth_past most s rows specs w) r → P
      by (got i) q f = let z : v ≡ jumped (length s) (moved_to w i.next (depth_past most s rows specs w)) i.value = cc in go i q z
      by (refused n) q f = let z : ◌≡◌ {A = ℕ} 0 1 = cc in absurd (omega arith)

  not_passed : (P : Read Entry → Type 0) (w : EntriesRaw) → none ≡ passed_item most s rows specs w → Holds P (item_next most s rows specs w)
  unfolding passed_item
  not_passed P w e = by (item_next most s rows specs w) e
    where
      by : (r : Answer (Read Entry)) → none ≡ past_item (length s) w (depth_past most s rows specs w) r → Holds P r
      by (got i) f = let z : ◌≡◌ {A = ℕ} 0 1 = cc in absurd (omega arith)
      by (refused n) f = tt

  -- each moves forward
  pub passed_forward : (w : EntriesRaw) {v : EntriesRaw} → some v ≡ passed_item most s rows specs w → w.position < v.position
  passed_forward w {v} e =
      passed_item_lem w e
      (λ i q f.
      let z : Stands most (source_of w) s rows specs w.position w.depth i = rw q at (stands most s rows specs w) in
      let j = jump_forward (length s) (moved_to w i.next (depth_past most s rows specs w)) i.value in
      let g = ap (λ (u : EntriesRaw). u.position) f in
      omega (arith, z.above, j, g))

  pub jumps_on : (c : Cursor) → c.input.position ≤ (by_jump (length s) c).position
  jumps_on c = jump_forward (length s) c.input c.entry

  module _ (k : ℤ) where
    abbrev pub To : Passing → Passing → Type 0
    To p q = Sought most s rows specs (by_jump (length s)) jumps_on (stands_at k) p q

    abbrev pub ToEnd : Passing → Passing → Type 0
    ToEnd p q = Arrived most s rows specs (by_jump (length s)) (stands_at k) p q

    module _ {p q : Passing} (t : To p q) where
      pub to_found : same_depth q.raw.depth k ≡ true → ToEnd p q
      to_found h =
          sought_found most s rows specs (by_jump (length s)) jumps_on (stands_at k) t
          (holds_map (Stands most (source_of q.raw) s rows specs q.raw.position q.raw.depth) (λ i. stands_at k i.value ≡ true) (item_next most s rows specs q.raw)
          (λ i z. ap (λ (d : ℤ). same_depth d k) z.depth ∙ h) (stands most s rows specs q.raw))

      pub to_refused : none ≡ passed_item most s rows specs q.raw → ToEnd p q
      to_refused h = sought_found most s rows specs (by_jump (length s)) jumps_on (stands_at k) t (not_passed (λ i. stands_at k i.value ≡ true) q.raw h)

      pub to_further : (x : Passing) {v : EntriesRaw} → q.raw.position < length s → same_depth q.raw.depth k ≡ false → some v ≡ passed_item most s rows specs q.raw
          → x.raw ≡ v → x.last ≡ record { offset = q.raw.start + q.raw.position; depth = q.raw.depth } → To p x
      to_further x h n e a b =
          passed_item_lem q.raw e
          (λ i r f.
          let z : Stands most (source_of q.raw) s rows specs q.raw.position q.raw.depth i = rw r at (stands most s rows specs q.raw) in
          let g = ap nat_abs z.depth in
          let m = jump_kept (length s) (moved_to q.raw i.next (depth_past most s rows specs q.raw)) i.value (item_kept most s rows specs q.raw i t.kept r) (omega (arith, g, t.kept.near, z.above)) in
          sought_further most s rows specs (by_jump (length s)) jumps_on (stands_at k) t i x h r (ap (λ (d : ℤ). same_depth d k) z.depth ∙ n) (a ∙ f) (ap (λ (l : Last). l.offset) b ∙ sym z.offset) (ap (λ (l : Last). l.depth) b ∙ sym z.depth)
          (subst (KeptRaw (length s)) (sym (a ∙ f)) m))

  -- ---- the loop that passes nulls

  abbrev pub PastNulls : Passing → Passing → Type 0
  PastNulls p q = Sought most s rows specs plainly (λ c. le_refl c.input.position) is_entry p q

  abbrev pub PastNullsEnd : Passing → Passing → Type 0
  PastNullsEnd p q = Arrived most s rows specs plainly is_entry p q

  module _ {p q : Passing} (t : PastNulls p q) where
    pub nulls_found : {c r : ℕ} → (c ≡ 0 → ⊥) → gives c r ≡ uleb_at s q.raw.position 64 → PastNullsEnd p q
    nulls_found h e = sought_found most s rows specs plainly (λ c. le_refl c.input.position) is_entry t (entry_next most s rows specs q.raw h (sym e))

    pub nulls_refused : {n : ℕ} → refused n ≡ uleb_at s q.raw.position 64 → PastNullsEnd p q
    unfolding abbreviation_at entry_at
    nulls_refused e = sought_found most s rows specs plainly (λ c. le_refl c.input.position) is_entry t (rw (← e) tt)

    pub nulls_further : (x : Passing) {c r : ℕ} → c ≡ 0 → gives c r ≡ uleb_at s q.raw.position 64
        → x.raw ≡ moved_to q.raw r (q.raw.depth -ℤ pos 1) → x.last ≡ record { offset = q.raw.start + q.raw.position; depth = q.raw.depth } → PastNulls p x
    nulls_further x {c = m} {r} y u a b =
        let e : uleb_at s q.raw.position 64 ≡ gives 0 r = sym u ∙ ap (λ (n : ℕ). gives n r) y in
        let z = rw e at (uleb_ends s q.raw.position 64) in
        let h : q.raw.position < length s = omega (arith, z.above, z.within) in
        let i : Read Entry = record { value = null_entry most (q.raw.start + q.raw.position) q.raw.depth; next = r } in
        let f = code_null most s rows specs q.raw e in
        let n : item_next most s rows specs q.raw ≡ got i = null_next most s rows specs q.raw f in
        let g : x.raw ≡ moved_to q.raw r (depth_past most s rows specs q.raw) = a ∙ ap (λ (y : Answer (Read (Option Found))). moved_to q.raw r (depth_after y q.raw.depth)) (sym f) in
        sought_further most s rows specs plainly (λ c. le_refl c.input.position) is_entry t i x h n refl g (ap (λ (l : Last). l.offset) b) (ap (λ (l : Last). l.depth) b) (subst (KeptRaw (length s)) (sym g) (item_kept most s rows specs q.raw i t.kept n))
