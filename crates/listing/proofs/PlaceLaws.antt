-- A listing goes on from the place of each of its lines.
use mathlib.Core.Bool.{Bool, true, false, cond}
use mathlib.Core.Path.{◌≡◌, refl, sym, ap, ◌∙◌, subst}
use mathlib.Core.List.{List, [], ◌∷◌}
use mathlib.Core.Option.{Option, none, some}
use Prim.Native.Nat.{ℕ, zero, suc, ◌+◌, ◌-◌, ◌/◌, ◌≤◌, ◌<◌}
use native.Mathlib.Omega.{arith}
use borrow.Author.Tests.{ne_eqb, eqb-false}
use lib.Dec.{eqb}
use lib.IntN.{ℤ, pos}
use lib.ListN.{length, drop}
use Rattle.reader.specs.Answer.{Answer, got, refused}
use Rattle.reader.specs.declared.endianity.RunTimeEndian.TheVariants.{Little}
use Rattle.abbrev.specs.Rows.{table_rows, table_specs}
use Rattle.abbrev.specs.Table.{Declaration, entry_limit, abbreviations_at}
use Rattle.unit.specs.Header.{size_of_header}
use Rattle.unit.specs.Parse.{debug_info}
use Rattle.unit.specs.declared.header.UnitHeader.{UnitHeader}
use Rattle.unit.proofs.UnitsLaws.{unit_in, size_some}
use Rattle.entries.specs.Raw.{moved_to, source_of}
use Rattle.entries.specs.Read.{after_entry}
use Rattle.entries.specs.Steps.{KeptRaw}
use Rattle.entries.specs.declared.raw.EntriesRaw.{EntriesRaw}
use Rattle.entries.proofs.FlatLaws.{Stands}
use Rattle.entries.proofs.RawLaws.{raw_keeps}
use Rattle.entries.proofs.RunLaws.{next_kept}
use Rattle.entries.proofs.SeekLaws.{stands}
use Rattle.listing.specs.Listing.{Placed, place_in, place_of, put, or_stop, read_lines, item_lines, Shelf, entries_in, beginning, state_at, part_lines, unit_entries, unit_lines, inner_lines, listing_from}
use Rattle.listing.specs.Piece.{first_place}
use Rattle.listing.specs.Text.{refused_line}
use Rattle.listing.specs.declared.place.ListingPlace.{ListingPlace}
use Rattle.listing.proofs.ListLaws.{starts}
use Rattle.listing.proofs.PartLaws.{state_there, state_in, state_kept}
use Rattle.listing.proofs.UnitLaws.{answer_at, behind as behind_unit, units_by, further_unit, units_step, inner_unit, inner_none, inner_refused}

module _ (x : Shelf) where
  -- the listing from each line's place on is that line and those behind it
  abbrev Leads : List Placed → Type 0
  Leads [] = Unit {0}
  Leads (l ∷ ls) = (listing_from x l.place ≡ l ∷ ls) × Leads ls

  leads_nth : (ls : List Placed) (n : ℕ) → Leads ls → n < length ls → listing_from x (first_place (drop n ls)) ≡ drop n ls
  leads_nth [] n h k = absurd (omega arith)
  leads_nth (l ∷ ls) zero h k = h.0
  leads_nth (l ∷ ls) (suc n) h k = leads_nth ls n h.1 (omega arith)

  -- before a unit's own line, and in the middle of a unit
  from_unit : (at : ℕ) → listing_from x (place_of at) ≡ unit_lines x at
  unfolding listing_from
  from_unit at = refl

  from_inner : (p : ListingPlace) → 0 < p.offset → listing_from x p ≡ inner_lines x p
  unfolding listing_from
  from_inner p h = rw (ne_eqb p.offset 0 (λ e. omega arith))

  one : (p : ListingPlace) (n : ℕ) → listing_from x p ≡ put p (refused_line n) ∷ [] → Leads (put p (refused_line n) ∷ [])
  one p n e = (e, tt)

  -- ---- the entries of a unit

  module _ (at : ℕ) (h : UnitHeader) (e : answer_at x at ≡ got (some h)) (others : Leads (unit_lines x (behind_unit x at))) where
    abbrev rest : List Placed
    rest = unit_lines x (behind_unit x at)

    abbrev size : ℕ
    size = size_of_header h

    -- from a place in the unit
    there : (o : ℕ) (d : ℤ) → 0 < o → listing_from x (place_in at o d) ≡ unit_entries x h (place_in at o d) rest
    there o d l = from_inner (place_in at o d) l ∙ inner_unit x (place_in at o d) e

    module _ (s : List ℕ) (f : entries_in h x.info ≡ got s) where
      abbrev table : Answer (List Declaration)
      table = abbreviations_at x.abbrevs h.debug_abbrev_offset entry_limit (x.rows / 5) (x.specs / 3)

      abbrev state_of : ℕ → ℤ → EntriesRaw
      state_of a d = moved_to (beginning h) a d

      -- the place of a state leads to it
      state_back : (a : ℕ) (d : ℤ) → KeptRaw (length s) (state_of a d) → state_at h s (place_in at (size + a) d) ≡ got (state_of a d)
      state_back a d k =
          let b : size + a - size ≡ a = omega arith in
          sym (state_there h s (place_in at (size + a) d) (omega arith) (ap (λ (n : ℕ). state_of n d) (sym b)) (raw_keeps (length s) (state_of a d) k))

      entered : (p : ListingPlace) → unit_entries x h p rest ≡ or_stop p (state_at h s p) (λ w. part_lines x h s p w rest)
      unfolding unit_entries
      entered p = rw f

      module _ (t : List Declaration) (g : table ≡ got t) where
        abbrev lines : EntriesRaw → List Placed
        lines w = item_lines entry_limit.most at w s (table_rows x.rows t) (table_specs x.specs t) rest

        abbrev rows_of : List ℕ
        rows_of = table_rows x.rows t

        abbrev specs_of : List ℕ
        specs_of = table_specs x.specs t

        part_is : (p : ListingPlace) (w : EntriesRaw) → p.unit ≡ at → 0 < length s → part_lines x h s p w rest ≡ lines w
        unfolding part_lines
        part_is p w q l = rw (ne_eqb (length s) 0 (λ y. omega arith), g, q)

        -- from the place of a state on
        from_state : (a : ℕ) (d : ℤ) → KeptRaw (length s) (state_of a d) → a < length s → listing_from x (place_in at (size + a) d) ≡ lines (state_of a d)
        from_state a d k l =
            let p = place_in at (size + a) d in
            let z : or_stop p (state_at h s p) (λ w. part_lines x h s p w rest) ≡ part_lines x h s p (state_of a d) rest =
            ap (λ (r : Answer EntriesRaw). or_stop p r (λ w. part_lines x h s p w rest)) (state_back a d k) in
            there (size + a) d (omega (arith, size_some h)) ∙ entered p ∙ z ∙ part_is p (state_of a d) refl (omega arith)

        items_lead : (n a : ℕ) (d : ℤ) → KeptRaw (length s) (state_of a d) → length s ≤ n + a → Leads (lines (state_of a d))
        unfolding item_lines
        items_lead zero a d k l =
            starts entry_limit.most s rows_of specs_of (state_of a d) (λ r. Leads (read_lines at size r rest)) (λ _. others) (λ m b. absurd (omega arith)) (λ i b r. absurd (omega arith))
        items_lead (suc n) a d k l =
            starts entry_limit.most s rows_of specs_of (state_of a d) (λ r. lines (state_of a d) ≡ read_lines at size r rest → Leads (read_lines at size r rest))
            (λ _ q. others)
            (λ m b q. one (place_in at (size + a) d) m (from_state a d k b ∙ q))
            (λ i b r q.
            let z : Stands entry_limit.most (source_of (state_of a d)) s rows_of specs_of a d i = rw r at (stands entry_limit.most s rows_of specs_of (state_of a d)) in
            let v = next_kept entry_limit.most s rows_of specs_of (state_of a d) i k r in
            let p : place_in at i.value.offset i.value.depth ≡ place_in at (size + a) d = ap (λ (o : ℕ). place_in at o i.value.depth) z.offset ∙ ap (place_in at (size + a)) z.depth in
            (ap (listing_from x) p ∙ from_state a d k b ∙ q, items_lead n i.next (after_entry i.value) v (omega (arith, z.above))))
            refl

      -- the entries from a place on
      part_lead : (p : ListingPlace) (a : ℕ) (d : ℤ) → p ≡ place_in at (size + a) d → KeptRaw (length s) (state_of a d)
          → listing_from x p ≡ part_lines x h s p (state_of a d) rest → Leads (part_lines x h s p (state_of a d) rest)
      unfolding part_lines
      part_lead p a d q k l = by (eqb (length s) 0) refl table refl l
        where
          by : (b : Bool) → eqb (length s) 0 ≡ b → (r : Answer (List Declaration)) → table ≡ r
              → listing_from x p ≡ cond b rest (or_stop p r (λ t. item_lines entry_limit.most p.unit (state_of a d) s (table_rows x.rows t) (table_specs x.specs t) rest))
              → Leads (cond b rest (or_stop p r (λ t. item_lines entry_limit.most p.unit (state_of a d) s (table_rows x.rows t) (table_specs x.specs t) rest)))
          by true u r g l = others
          by false u (refused n) g l = one p n l
          by false u (got t) g l =
              subst (λ (n : ℕ). Leads (item_lines entry_limit.most n (state_of a d) s (table_rows x.rows t) (table_specs x.specs t) rest)) (sym (ap (λ (y : ListingPlace). y.unit) q))
              (items_lead t g (length s) a d k (omega arith))

    -- the entries of a unit from a place in it on
    entries_lead : (p : ListingPlace) → p.unit ≡ at → 0 < p.offset → Leads (unit_entries x h p rest)
    unfolding unit_entries
    entries_lead p u o = by_part (entries_in h x.info) refl here
      where
        here : listing_from x p ≡ unit_entries x h p rest
        here =
            from_inner p o ∙ inner_unit x p (ap (answer_at x) u ∙ e) ∙ ap (λ (n : ℕ). unit_entries x h p (unit_lines x (behind_unit x n))) u

        by_state : (s : List ℕ) → entries_in h x.info ≡ got s → (r : Answer EntriesRaw) → state_at h s p ≡ r
            → listing_from x p ≡ or_stop p r (λ w. part_lines x h s p w rest) → Leads (or_stop p r (λ w. part_lines x h s p w rest))
        by_state s f (refused n) g l = one p n l
        by_state s f (got w) g l =
            let z = state_in h s p g in
            let a = p.offset - size_of_header h in
            let b : p.offset ≡ size_of_header h + a = omega (arith, z.1) in
            let q : p ≡ place_in at (size_of_header h + a) p.depth = ap (λ (n : ℕ). place_in n p.offset p.depth) u ∙ ap (λ (n : ℕ). place_in at n p.depth) b in
            subst (λ (v : EntriesRaw). Leads (part_lines x h s p v rest)) z.0
            (part_lead s f p a p.depth q (subst (KeptRaw (length s)) (sym z.0) (state_kept h s p g))
            (l ∙ ap (λ (v : EntriesRaw). part_lines x h s p v rest) (sym z.0)))

        by_part : (r : Answer (List ℕ)) → entries_in h x.info ≡ r → listing_from x p ≡ or_stop p r (λ s. or_stop p (state_at h s p) (λ w. part_lines x h s p w rest))
            → Leads (or_stop p r (λ s. or_stop p (state_at h s p) (λ w. part_lines x h s p w rest)))
        by_part (refused n) f l = one p n l
        by_part (got s) f l = by_state s f (state_at h s p) refl l

  -- ---- units

  unit_lead : (at : ℕ) → ((h : UnitHeader) → answer_at x at ≡ got (some h) → Leads (unit_lines x (behind_unit x at))) → Leads (unit_lines x at)
  unit_lead at f = subst Leads (sym (units_step x at)) (by (answer_at x at) refl)
    where
      here : {r : Answer (Option UnitHeader)} → answer_at x at ≡ r → listing_from x (place_of at) ≡ or_stop (place_of at) r (units_by x (unit_lines x) at)
      here q = from_unit at ∙ units_step x at ∙ ap (λ (r : Answer (Option UnitHeader)). or_stop (place_of at) r (units_by x (unit_lines x) at)) q

      by : (r : Answer (Option UnitHeader)) → answer_at x at ≡ r → Leads (or_stop (place_of at) r (units_by x (unit_lines x) at))
      by (refused n) q = one (place_of at) n (here q)
      by (got none) q = (here q, tt)
      by (got (some h)) q = (here q, entries_lead at h q (f h q) (place_in at (size_of_header h) (pos 0)) refl (size_some h))

  units_lead : (n at : ℕ) → length x.info ≤ n + at → Leads (unit_lines x at)
  units_lead zero at l = unit_lead at (λ h e. absurd (omega (arith, further_unit x at h e, (unit_in debug_info x.info at Little e).there)))
  units_lead (suc n) at l = unit_lead at (λ h e. units_lead n (behind_unit x at) (omega (arith, further_unit x at h e)))

  -- from a place in the middle of a unit on
  inner_lead : (p : ListingPlace) → 0 < p.offset → Leads (inner_lines x p)
  inner_lead p o = by (answer_at x p.unit) refl
    where
      by : (r : Answer (Option UnitHeader)) → answer_at x p.unit ≡ r → Leads (inner_lines x p)
      by (refused n) q = subst Leads (sym (inner_refused x p q)) (one p n (from_inner p o ∙ inner_refused x p q))
      by (got none) q = subst Leads (sym (inner_none x p q)) (one p 1 (from_inner p o ∙ inner_none x p q))
      by (got (some h)) q =
          subst Leads (sym (inner_unit x p q)) (entries_lead p.unit h q (units_lead (length x.info) (behind_unit x p.unit) (omega arith)) p refl o)

  from_lead : (p : ListingPlace) → Leads (listing_from x p)
  unfolding listing_from
  from_lead p = by (eqb p.offset 0) refl
    where
      by : (b : Bool) → eqb p.offset 0 ≡ b → Leads (cond b (unit_lines x p.unit) (inner_lines x p))
      by true q = units_lead (length x.info) p.unit (omega arith)
      by false q = inner_lead p (omega (arith, eqb-false p.offset 0 q))

  -- the listing goes on from the place of its n-th line as it went on there
  pub goes_on : (p : ListingPlace) (n : ℕ) → n < length (listing_from x p) → listing_from x (first_place (drop n (listing_from x p))) ≡ drop n (listing_from x p)
  goes_on p n h = leads_nth (listing_from x p) n (from_lead p) h
