-- Laws of the raw reader.
use mathlib.Core.Bool.{Bool, true, cond, ◌&&◌}
use mathlib.Core.Path.{◌≡◌, sym, ap, ◌∙◌}
use mathlib.Core.List.{List}
use mathlib.Core.Option.{Option, none, some}
use Prim.Native.Nat.{ℕ, ◌+◌, ◌^◌, ◌≤◌, ◌<◌}
use native.Mathlib.Omega.{arith}
use borrow.Author.Tests.{leb-true, ltb-true, le-leb, lt-ltb, ne_eqb}
use lib.Dec.{eqb, leb, ltb}
use lib.IntN.{ℤ, nat_abs}
use lib.ListN.{length}
use Rattle.reader.specs.Answer.{Answer, got, refused, and_then, Read, gives, Holds}
use Rattle.reader.specs.Leb128.{uleb_at}
use Rattle.reader.proofs.Accepted.{Ends, uleb_ends}
use Rattle.reader.proofs.Answers.{holds_then, holds_map, cond_by}
use Rattle.abbrev.specs.Lookup.{Found, specs_kept, keeps_sizes, lookup, declaration_of}
use Rattle.attribute.specs.Attributes.{keeps_place, read_attributes, Stored, stored}
use Rattle.attribute.proofs.FormLaws.{both}
use Rattle.attribute.proofs.ListLaws.{read_kept}
use Rattle.attribute.proofs.ReadLaws.{Onward as Onwards, attributes_past}
use Rattle.attribute.specs.Read.{attributes_at}
use Rattle.attribute.specs.Skip.{past_values}
use Rattle.abbrev.specs.Table.{Specification}
use Rattle.reader.specs.declared.common.Encoding.{Encoding}
use Rattle.reader.specs.declared.endianity.RunTimeEndian.{RunTimeEndian}
use Rattle.attribute.specs.Value.{Attribute}
use Rattle.abbrev.proofs.Lookups.{Keeps, lookup_keeps}
use Rattle.entries.specs.Entry.{Entry, entry_of}
use Rattle.entries.specs.Steps.{KeptRaw, Onward, took_entry}
use Rattle.entries.specs.Raw.{keeps_raw, Taken, taken, refused_entry, raw_entry}
use Rattle.entries.specs.Read.{known, code_by, abbreviation_at, raised, entry_after, entry_at}
use Rattle.entries.specs.declared.raw.EntriesRaw.{EntriesRaw}

pub raw_kept : (count : ℕ) (w : EntriesRaw) → keeps_raw count w ≡ true → KeptRaw count w
raw_kept count w h =
    let a = both (keeps_place count w.start w.position) (leb (nat_abs w.depth) w.position) h in
    let b = both (leb w.position count) (ltb (w.start + count) (2 ^ 63)) a.0 in
    record { inside = leb-true _ _ b.0; short = ltb-true _ _ b.1; near = leb-true _ _ a.1 }

pub raw_keeps : (count : ℕ) (w : EntriesRaw) → KeptRaw count w → keeps_raw count w ≡ true
raw_keeps count w k = rw (le-leb _ _ k.inside, lt-ltb _ _ k.short, le-leb _ _ k.near)

known_in : (s : List ℕ) (at p : ℕ) (r : Answer (Option Found)) → at < p → p ≤ length s → Holds (λ v. (at < v.next) × (v.next ≤ length s)) (known r p)
known_in s at p (got none) h l = tt
known_in s at p (got (some f)) h l = (h, l)
known_in s at p (refused n) h l = tt

-- each read moves forward by at least a byte
code_in : (find : ℕ → Answer (Option Found)) (s : List ℕ) (at : ℕ) → Holds (λ v. (at < v.next) × (v.next ≤ length s)) (code_by find s at)
code_in find s at =
    holds_then (λ r. Ends s at 64 r.next) (λ v. (at < v.next) × (v.next ≤ length s)) (uleb_at s at 64) _ (uleb_ends s at 64)
    (λ r x.
    cond_by (Holds (λ v. (at < v.next) × (v.next ≤ length s))) (eqb r.value 0) (gives none r.next) _
    (λ _. (x.above, x.within))
    (λ _. known_in s at r.next (find r.value) x.above x.within))

pub abbreviation_in : (most : ℕ) (s rows specs : List ℕ) (at : ℕ) → Holds (λ v. (at < v.next) × (v.next ≤ length s)) (abbreviation_at most s rows specs at)
unfolding abbreviation_at
abbreviation_in most s rows specs at = code_in (lookup most rows specs) s at

-- the found row of an entry keeps 01's sizes
code_keeps : (most : ℕ) (find : ℕ → Answer (Option Found)) (s specs : List ℕ) (at : ℕ) → ((c : ℕ) → Holds (Keeps most specs) (find c)) → Holds (λ v. Keeps most specs v.value) (code_by find s at)
code_keeps most find s specs at k = go (uleb_at s at 64)
  where
    kept_by : (p : ℕ) (r : Answer (Option Found)) → Holds (Keeps most specs) r → Holds (λ (v : Read (Option Found)). Keeps most specs v.value) (known r p)
    kept_by p (got none) h = tt
    kept_by p (got (some f)) h = h
    kept_by p (refused n) h = tt

    go : (u : Answer (Read ℕ)) → Holds (λ (v : Read (Option Found)). Keeps most specs v.value) (and_then u (λ r. cond (eqb r.value 0) (gives none r.next) (known (find r.value) r.next)))
    go (got r) =
        cond_by (Holds (λ (v : Read (Option Found)). Keeps most specs v.value)) (eqb r.value 0) (gives none r.next) _ (λ _. tt)
        (λ _. kept_by r.next (find r.value) (k r.value))
    go (refused n) = tt

pub found_keeps : (most : ℕ) (s rows specs : List ℕ) (at : ℕ) {f : Found} {p : ℕ} → abbreviation_at most s rows specs at ≡ gives (some f) p → keeps_sizes most specs f ≡ true
unfolding abbreviation_at
found_keeps most s rows specs at e = rw e at (code_keeps most (lookup most rows specs) s specs at (lookup_keeps most rows specs))

-- from a state that keeps the sizes to a place further on
pub goes_on : (count : ℕ) (w : EntriesRaw) {p : ℕ} → KeptRaw count w → w.position < p → p ≤ count → Onward w p
goes_on count w k h l = record { above = h; short = omega (arith, k.short); near = k.near }

-- from a state that keeps the sizes to behind its code
pub code_onward : (most : ℕ) (s rows specs : List ℕ) (w : EntriesRaw) {o : Option Found} {p : ℕ} → KeptRaw (length s) w → gives o p ≡ abbreviation_at most s rows specs w.position → Onward w p
code_onward most s rows specs w k e = let z = rw (← e) at (abbreviation_in most s rows specs w.position) in goes_on (length s) w k z.0 z.1

pub uleb_onward : (s : List ℕ) (w : EntriesRaw) {c p : ℕ} → KeptRaw (length s) w → gives c p ≡ uleb_at s w.position 64 → Onward w p
uleb_onward s w k e = let z = rw (← e) at (uleb_ends s w.position 64) in goes_on (length s) w k z.above z.within

-- the same entry beside the same state
pub same_taken : (x : Answer Bool) {e g : Entry} {v u : EntriesRaw} → e ≡ g → v ≡ u → ◌≡◌ {A = Taken} (record { answer = x; entry = e; raw = v }) (record { answer = x; entry = g; raw = u })
same_taken x {e} {g} {v} {u} p q = ap (λ (a : Entry). as_taken a v) p ∙ ap (λ (b : EntriesRaw). as_taken g b) q
  where
    as_taken : Entry → EntriesRaw → Taken
    as_taken a b = record { answer = x; entry = a; raw = b }

-- an entry whose values were stored, and one whose values refuse
module _ (most : ℕ) (w : EntriesRaw) (f : Found) (r : Answer (Read (List Attribute))) where
  pub stored_entry : {p : ℕ} → 0 < f.tag → (stored most r).end ≡ got p → took_entry w f (stored most r).attrs p ≡ taken most w (raised f.children w.depth) (and_then r (λ v. gives (entry_of most (w.start + w.position) w.depth f v.value) v.next))
  unfolding stored
  stored_entry {p} h e = go r e
    where
      go : (x : Answer (Read (List Attribute))) → (stored most x).end ≡ got p → took_entry w f (stored most x).attrs p ≡ taken most w (raised f.children w.depth) (and_then x (λ v. gives (entry_of most (w.start + w.position) w.depth f v.value) v.next))
      go (got v) q = let z : v.next ≡ p = cc in rw (z, ne_eqb f.tag 0 (λ y. omega (arith, y)))
      go (refused n) q = let z : ◌≡◌ {A = ℕ} 0 1 = cc in absurd (omega arith)

  pub stored_refused : {k : ℕ} (d : ℤ) → (stored most r).end ≡ refused k → refused_entry most w k ≡ taken most w d (and_then r (λ v. gives (entry_of most (w.start + w.position) w.depth f v.value) v.next))
  unfolding stored
  stored_refused {k} d e = go r e
    where
      go : (x : Answer (Read (List Attribute))) → (stored most x).end ≡ refused k → refused_entry most w k ≡ taken most w d (and_then x (λ v. gives (entry_of most (w.start + w.position) w.depth f v.value) v.next))
      go (got v) q = let z : ◌≡◌ {A = ℕ} 0 1 = cc in absurd (omega arith)
      go (refused n) q = let z : n ≡ k = cc in rw z

-- values that were stored end further on
pub stored_onward : (most : ℕ) (s : List ℕ) (at : ℕ) (w : EntriesRaw) (r : Answer (Read (List Attribute))) {p : ℕ} → KeptRaw (length s) w → w.position < at → Holds (λ v. Onwards s at v.next) r → (stored most r).end ≡ got p → Onward w p
unfolding stored
stored_onward most s at w (got v) {p} k h o e =
    let z : v.next ≡ p = cc in
    goes_on (length s) w k (omega (arith, z, o.from)) (omega (arith, z, o.within))
stored_onward most s at w (refused n) k h o e = let z : ◌≡◌ {A = ℕ} 0 1 = cc in absurd (omega arith)

-- a row that keeps the sizes has a tag
pub tagged : (most : ℕ) (specs : List ℕ) (f : Found) → keeps_sizes most specs f ≡ true → 0 < f.tag
tagged most specs f h =
    let a = (both (ltb 0 f.tag && leb f.tag 65535 && leb f.children 1) (specs_kept most specs f.first f.count) h).0 in
    let b = (both (ltb 0 f.tag && leb f.tag 65535) (leb f.children 1) a).0 in
    ltb-true _ _ (both (ltb 0 f.tag) (leb f.tag 65535) b).0

-- of 16 bits
pub tag_small : (most : ℕ) (specs : List ℕ) (f : Found) → keeps_sizes most specs f ≡ true → f.tag ≤ 65535
tag_small most specs f h =
    let a = (both (ltb 0 f.tag && leb f.tag 65535 && leb f.children 1) (specs_kept most specs f.first f.count) h).0 in
    let b = (both (ltb 0 f.tag && leb f.tag 65535) (leb f.children 1) a).0 in
    leb-true _ _ (both (ltb 0 f.tag) (leb f.tag 65535) b).1

pub values_onward : (most : ℕ) (s : List ℕ) (start : ℕ) (c : Encoding) (e : RunTimeEndian) (xs : List Specification) (at : ℕ) (w : EntriesRaw) {p : ℕ} → KeptRaw (length s) w → w.position < at → at ≤ length s → (stored most (attributes_at s start c e xs at)).end ≡ got p → Onward w p
values_onward most s start c e xs at w k h l q =
    stored_onward most s at w (attributes_at s start c e xs at) k h
    (holds_map (λ r. (past_values s c e xs at ≡ got r.next) × Onwards s at r.next) (λ r. Onwards s at r.next) (attributes_at s start c e xs at) (λ r y. y.1) (attributes_past s start c e xs at l)) q

-- ---- an entry of a found row

module _ (most : ℕ) (w : EntriesRaw) (s rows specs : List ℕ) (h : keeps_raw (length s) w ≡ true) {f : Found} {p : ℕ} (a : abbreviation_at most s rows specs w.position ≡ gives (some f) p) where
  k : KeptRaw (length s) w
  k = raw_kept (length s) w h

  further : (w.position < p) × (p ≤ length s)
  further = rw a at (abbreviation_in most s rows specs w.position)

  values : Answer (Read (List Attribute))
  values = attributes_at s w.start w.encoding w.endian (declaration_of specs f).specifications p

  sizes : keeps_sizes most specs f ≡ true
  sizes = found_keeps most s rows specs w.position a

  module _ {x : Stored} (e : x ≡ stored most (read_attributes most s w.start w.encoding w.endian specs f p)) where
    kept_values : x ≡ stored most values
    unfolding values
    kept_values = e ∙ ap (stored most) (read_kept most s w.start w.encoding w.endian specs f p further.1 k.short sizes)

    ended : {m : Answer ℕ} → x.end ≡ m → (stored most values).end ≡ m
    ended q = sym (ap (λ (y : Stored). y.end) kept_values) ∙ q

    pub entry_onward : {q : ℕ} → x.end ≡ got q → Onward w q
    unfolding values
    entry_onward q = values_onward most s w.start w.encoding w.endian (declaration_of specs f).specifications p w k further.0 further.1 (ended q)

    pub entry_read : {q : ℕ} → x.end ≡ got q → took_entry w f x.attrs q ≡ raw_entry most w s rows specs
    unfolding raw_entry entry_at entry_after values
    entry_read {q} r =
        ap (λ (l : List Attribute). took_entry w f l q) (ap (λ (y : Stored). y.attrs) kept_values) ∙ rw (h, a) (stored_entry most w f values (tagged most specs f sizes) (ended r))

    pub entry_refused : {n : ℕ} → x.end ≡ refused n → refused_entry most w n ≡ raw_entry most w s rows specs
    unfolding raw_entry entry_at entry_after values
    entry_refused r = rw (h, a) (stored_refused most w f values _ (ended r))
