-- Laws of what is written of one unit.
use mathlib.Core.Bool.{Bool, true, false, cond, ◌&&◌}
use mathlib.Core.Path.{◌≡◌, refl, sym, ap, ◌∙◌, subst}
use mathlib.Core.List.{List, [], ◌∷◌}
use Prim.Native.Nat.{ℕ, ◌+◌, ◌-◌, ◌/◌, ◌≤◌}
use native.Mathlib.Omega.{arith}
use borrow.Author.Tests.{eq-eqb, ne_eqb, leb-true, le-leb}
use lib.Dec.{leb}
use lib.ListN.{length, take, drop, length-drop, length-take}
use Rattle.reader.specs.Sizes.{max_section}
use Rattle.reader.specs.Answer.{Answer, got, refused, and_then, Holds}
use Rattle.attribute.proofs.FormLaws.{both}
use Rattle.abbrev.specs.Rows.{table_rows, table_specs, Left}
use Rattle.abbrev.specs.Table.{Declaration, entry_limit, abbreviations_at}
use Rattle.abbrev.proofs.Bounds.{Sound, sound}
use Rattle.unit.specs.Header.{size_of_header, unit_end}
use Rattle.unit.specs.Range.{part, unit_bytes, entries_buf}
use Rattle.unit.specs.declared.header.UnitHeader.{UnitHeader}
use Rattle.entries.specs.Raw.{keeps_raw, moved_to}
use Rattle.entries.specs.Steps.{KeptRaw}
use Rattle.entries.specs.declared.raw.EntriesRaw.{EntriesRaw}
use Rattle.entries.proofs.RawLaws.{raw_kept}
use Rattle.listing.specs.Listing.{Placed, put, or_stop, item_lines, entries_in, beginning, state_at, part_lines, Shelf, unit_entries}
use Rattle.listing.specs.Text.{refused_line}
use Rattle.listing.specs.declared.place.ListingPlace.{ListingPlace}
use Rattle.listing.proofs.UnitLaws.{laid_lines}

-- ---- the state at a place

module _ (h : UnitHeader) (s : List ℕ) (p : ListingPlace) where
  abbrev at : EntriesRaw
  at = moved_to (beginning h) (p.offset - size_of_header h) p.depth

  pub state_there : {w : EntriesRaw} → size_of_header h ≤ p.offset → w ≡ at → keeps_raw (length s) w ≡ true → got w ≡ state_at h s p
  unfolding state_at
  state_there e f k = ap got f ∙ rw (le-leb (size_of_header h) p.offset e, sym (ap (keeps_raw (length s)) f) ∙ k)

  -- a state that is there is at the place
  pub state_in : {w : EntriesRaw} → state_at h s p ≡ got w → (at ≡ w) × (size_of_header h ≤ p.offset)
  unfolding state_at
  state_in {w} e = by (leb (size_of_header h) p.offset && keeps_raw (length s) at) refl e
    where
      by : (b : Bool) → leb (size_of_header h) p.offset && keeps_raw (length s) at ≡ b → cond b (got at) (refused 1) ≡ got w → (at ≡ w) × (size_of_header h ≤ p.offset)
      by true q f = let z : at ≡ w = cc in (z, leb-true (size_of_header h) p.offset (both (leb (size_of_header h) p.offset) (keeps_raw (length s) at) q).0)
      by false q f = absurd (let z : ◌≡◌ {A = ℕ} 0 1 = cc in omega arith)

  -- a state that is there keeps the sizes
  pub state_kept : {w : EntriesRaw} → state_at h s p ≡ got w → KeptRaw (length s) w
  unfolding state_at
  state_kept {w} e = by (leb (size_of_header h) p.offset && keeps_raw (length s) at) refl e
    where
      by : (b : Bool) → leb (size_of_header h) p.offset && keeps_raw (length s) at ≡ b → cond b (got at) (refused 1) ≡ got w → KeptRaw (length s) w
      by true q f = let z : at ≡ w = cc in subst (KeptRaw (length s)) z (raw_kept (length s) at (both (leb (size_of_header h) p.offset) (keeps_raw (length s) at) q).1)
      by false q f = absurd (let z : ◌≡◌ {A = ℕ} 0 1 = cc in omega arith)

-- ---- the entries of a unit

module _ (x : Shelf) (h : UnitHeader) (s : List ℕ) (a : ListingPlace) (w : EntriesRaw) where
  abbrev table : Answer (List Declaration)
  table = abbreviations_at x.abbrevs h.debug_abbrev_offset entry_limit (x.rows / 5) (x.specs / 3)

  abbrev tabled : Answer (List Declaration) → List Placed → List Placed
  tabled b rest = or_stop a b (λ t. item_lines entry_limit.most a.unit w s (table_rows x.rows t) (table_specs x.specs t) rest)

  -- without entry bytes
  pub part_none : length s ≡ 0 → (rest : List Placed) → part_lines x h s a w rest ≡ rest
  unfolding part_lines
  part_none e rest = rw (eq-eqb (length s) 0 e)

  module _ (some : length s ≡ 0 → ⊥) where
    after_table : (rest : List Placed) → part_lines x h s a w rest ≡ tabled table rest
    unfolding part_lines
    after_table rest = rw (ne_eqb (length s) 0 some)

    -- a table that was read
    pub part_items : (rows specs : List ℕ) {n : ℕ} → and_then table (λ t. got (length t)) ≡ got n → Left x.rows x.specs rows specs table
        → (rest : List Placed) → part_lines x h s a w rest ≡ item_lines entry_limit.most a.unit w s rows specs rest
    part_items rows specs {n} e l rest = after_table rest ∙ go table e l (sound x.abbrevs h.debug_abbrev_offset entry_limit (x.rows / 5) (x.specs / 3))
      where
        go : (b : Answer (List Declaration)) → and_then b (λ t. got (length t)) ≡ got n → Left x.rows x.specs rows specs b → Holds (Sound entry_limit.most) b
            → tabled b rest ≡ item_lines entry_limit.most a.unit w s rows specs rest
        go (got t) f L S = sym (laid_lines entry_limit.most a.unit w s S L rest)
        go (refused j) f L S = absurd (cc)

    -- a table that was refused
    pub part_refused : {n : ℕ} → and_then table (λ t. got (length t)) ≡ refused n → (rest : List Placed) → part_lines x h s a w rest ≡ put a (refused_line n) ∷ []
    part_refused {n} e rest = after_table rest ∙ go table e
      where
        go : (b : Answer (List Declaration)) → and_then b (λ t. got (length t)) ≡ refused n → tabled b rest ≡ put a (refused_line n) ∷ []
        go (got t) f = absurd (cc)
        go (refused j) f = let z : j ≡ n = cc in ap (λ (i : ℕ). put a (refused_line i) ∷ []) z

-- ---- a unit's bytes

module _ (info : List ℕ) (h : UnitHeader) (p : ListingPlace) {s : List ℕ} (e : entries_in h info ≡ got s) where
  -- what is written of them is what is written of the unit
  module _ (x : Shelf) (same : x.info ≡ info) where
    entered : (rest : List Placed) → unit_entries x h p rest ≡ or_stop p (state_at h s p) (λ w. part_lines x h s p w rest)
    unfolding unit_entries
    entered rest = ap (λ (b : Answer (List ℕ)). or_stop p b (λ y. or_stop p (state_at h y p) (λ w. part_lines x h y p w rest))) (ap (entries_in h) same ∙ e)

    pub unit_entered : {w : EntriesRaw} → state_at h s p ≡ got w → (rest : List Placed) → unit_entries x h p rest ≡ part_lines x h s p w rest
    unit_entered q rest = entered rest ∙ rw q

    pub unit_refused : {k : ℕ} → state_at h s p ≡ refused k → (rest : List Placed) → unit_entries x h p rest ≡ put p (refused_line k) ∷ []
    unit_refused q rest = entered rest ∙ rw q

pub unit_without : (info : List ℕ) (h : UnitHeader) (p : ListingPlace) {k : ℕ} → entries_in h info ≡ refused k → (x : Shelf) → x.info ≡ info → (rest : List Placed) → unit_entries x h p rest ≡ put p (refused_line k) ∷ []
unfolding unit_entries
unit_without info h p e x same rest = ap (λ (b : Answer (List ℕ)). or_stop p b (λ y. or_stop p (state_at h y p) (λ w. part_lines x h y p w rest))) (ap (entries_in h) same ∙ e)

-- they are no more than the section's
part_short : (s : List ℕ) (a b : ℕ) {r : List ℕ} → part s a b ≡ got r → length r ≤ length s
unfolding part
part_short s a b {r} e = by (leb a b && leb b (length s)) e
  where
    by : (c : Bool) → cond c (got (take (b - a) (drop a s))) (refused 19) ≡ got r → length r ≤ length s
    by true q =
        let z : take (b - a) (drop a s) ≡ r = cc in
        rw (← z) (omega (arith, length-take (b - a) (drop a s), length-drop a s))
    by false q = absurd (let z : ◌≡◌ {A = ℕ} 0 1 = cc in omega arith)

pub entries_short : (info : List ℕ) (h : UnitHeader) {s : List ℕ} → entries_in h info ≡ got s → length s ≤ length info
unfolding unit_bytes entries_buf
entries_short info h {s} e = go (leb (length info) max_section) e
  where
    part_then : (b : Answer (List ℕ)) → part info h.offset (h.offset + unit_end h) ≡ b → and_then b (entries_buf h) ≡ got s → length s ≤ length info
    part_then (got u) q f = omega (arith, part_short u (size_of_header h) (unit_end h) f, part_short info h.offset (h.offset + unit_end h) q)
    part_then (refused n) q f = absurd (let z : ◌≡◌ {A = ℕ} 0 1 = cc in omega arith)

    go : (c : Bool) → and_then (cond c (part info h.offset (h.offset + unit_end h)) (refused 1)) (entries_buf h) ≡ got s → length s ≤ length info
    go true f = part_then (part info h.offset (h.offset + unit_end h)) refl f
    go false f = absurd (let z : ◌≡◌ {A = ℕ} 0 1 = cc in omega arith)
