-- Laws of the lines of units.
use mathlib.Core.Bool.{cond}
use mathlib.Core.Path.{◌≡◌, refl, sym, ap, ◌∙◌}
use mathlib.Core.List.{List, [], ◌∷◌}
use mathlib.Core.Option.{Option, none, some}
use Prim.Native.Nat.{ℕ, zero, suc, ◌-◌, ◌<◌}
use native.Mathlib.Omega.{arith}
use lib.Dec.{leb}
use lib.IntN.{ℤ}
use lib.ListN.{length}
use Rattle.reader.specs.Answer.{Answer, got, refused, if_some, Read}
use Rattle.reader.specs.declared.endianity.RunTimeEndian.TheVariants.{Little}
use Rattle.reader.proofs.Counts.{without_count}
use Rattle.abbrev.specs.Lookup.{lookup}
use Rattle.abbrev.specs.Rows.{Laid, table_rows, table_specs}
use Rattle.abbrev.specs.Table.{Declaration}
use Rattle.abbrev.proofs.Bounds.{Sound}
use Rattle.abbrev.proofs.Lookups.{lookup_in_order}
use Rattle.unit.specs.Parse.{debug_info}
use Rattle.unit.specs.Units.{Advanced, next_unit}
use Rattle.unit.specs.Views.{view_next, view_next_unit}
use Rattle.unit.specs.declared.units.Next.{Next}
use Rattle.reader.specs.declared.error.Error.{Error}
use Rattle.reader.specs.Errors.{number_of}
use Rattle.unit.specs.declared.header.UnitHeader.{UnitHeader}
use Rattle.unit.proofs.UnitsLaws.{unit_in, unit_further}
use Rattle.entries.proofs.SameLaws.{entry_same}
use Rattle.entries.specs.Entry.{Entry}
use Rattle.entries.specs.Flat.{Reading, nothing, before, read_on, read_within, read_from, never}
use Rattle.entries.specs.Raw.{source_of}
use Rattle.entries.specs.declared.raw.EntriesRaw.{EntriesRaw}
use Rattle.attribute.specs.declared.source.Source.{Source}
use Rattle.entries.specs.Read.{entry_at, after_entry}
use Rattle.listing.specs.Listing.{Placed, place_of, put, or_stop, read_lines, item_lines, Shelf, unit_entries, unit_all, units_within, unit_lines, inner_lines}
use Rattle.listing.specs.Text.{end_line, refused_line}
use Rattle.listing.specs.Written.{Fit, Lent}
use Rattle.listing.specs.declared.list.Listing as declared_list
use Rattle.listing.specs.declared.place.ListingPlace.{ListingPlace}

-- ---- tables: whichever row holds which declaration, the lines are the same

module _ (most : ℕ) (src : Source) (s rows rows' specs : List ℕ) (h : (c : ℕ) → lookup most rows specs c ≡ lookup most rows' specs c) where
  on_same : (n at : ℕ) (d : ℤ) → ((at : ℕ) (d : ℤ) → read_within most src s rows specs never n at d ≡ read_within most src s rows' specs never n at d)
      → (r : Answer (Read Entry)) → read_on never at d (λ i. read_within most src s rows specs never n i.next (after_entry i.value)) r ≡ read_on never at d (λ i. read_within most src s rows' specs never n i.next (after_entry i.value)) r
  on_same n at d f (got i) = ap (before i) (f i.next (after_entry i.value))
  on_same n at d f (refused m) = refl

  within_same : (n at : ℕ) (d : ℤ) → read_within most src s rows specs never n at d ≡ read_within most src s rows' specs never n at d
  unfolding read_within
  within_same zero at d = refl
  within_same (suc n) at d =
      ap (cond (leb (length s) at) nothing)
      (on_same n at d (λ a e. within_same n a e) (entry_at most src s rows specs at d)
      ∙ ap (read_on never at d (λ i. read_within most src s rows' specs never n i.next (after_entry i.value))) (entry_same most src s rows rows' specs h at d))

pub laid_lines : {m k : ℕ} {rows specs : List ℕ} {t : List Declaration} (most unit : ℕ) (w : EntriesRaw) (s : List ℕ) → Sound most t → Laid m k rows specs t
    → (rest : List Placed) → item_lines most unit w s rows specs rest ≡ item_lines most unit w s (table_rows m t) (table_specs k t) rest
unfolding item_lines read_from
laid_lines {m} {k} {rows} {specs} {t} most unit w s S L rest =
    ap (λ (r : Reading). read_lines unit w.start r rest)
    (within_same most (source_of w) s rows (table_rows m t) specs (lookup_in_order most S L) (length s - w.position) w.position w.depth
    ∙ ap (λ (x : List ℕ). read_within most (source_of w) s (table_rows m t) x never (length s - w.position) w.position w.depth) L.specs_are)

-- ---- units

module _ (x : Shelf) where
  abbrev pub answer_at : ℕ → Answer (Option UnitHeader)
  answer_at at = (next_unit debug_info x.info at Little).answer

  abbrev pub behind : ℕ → ℕ
  behind at = (next_unit debug_info x.info at Little).offset

  -- what follows the list's answer, with the lines of the other units
  abbrev pub units_by : (ℕ → List Placed) → ℕ → Option UnitHeader → List Placed
  units_by more at o = if_some o (put (place_of at) end_line ∷ []) (λ h. unit_all x at h (more (behind at)))

  same_by : (f g : ℕ → List Placed) (at : ℕ) → ((h : UnitHeader) → answer_at at ≡ got (some h) → f (behind at) ≡ g (behind at)) → or_stop (place_of at) (answer_at at) (units_by f at) ≡ or_stop (place_of at) (answer_at at) (units_by g at)
  same_by f g at h = go (answer_at at) refl
    where
      go : (r : Answer (Option UnitHeader)) → answer_at at ≡ r → or_stop (place_of at) r (units_by f at) ≡ or_stop (place_of at) r (units_by g at)
      go (got none) q = refl
      go (got (some u)) q = ap (λ (l : List Placed). unit_all x at u l) (h u q)
      go (refused n) q = refl

  pub further_unit : (at : ℕ) (h : UnitHeader) → answer_at at ≡ got (some h) → at < behind at
  further_unit at h e = unit_further debug_info x.info at Little e

  -- the definition without its count
  pub units_step : (at : ℕ) → unit_lines x at ≡ or_stop (place_of at) (answer_at at) (units_by (unit_lines x) at)
  unfolding unit_lines units_within
  units_step at =
      without_count (λ (a : ℕ). suc (length x.info - a)) (λ f a. or_stop (place_of a) (answer_at a) (units_by f a)) (units_within x) (λ n a. refl)
      (λ f g a h. same_by f g a (λ u e. h (behind a) (omega (arith, further_unit a u e, (unit_in debug_info x.info a Little e).there))))
      (λ f a e. absurd (omega (arith, e))) at

-- ---- from the middle of a unit on

module _ (x : Shelf) (a : ListingPlace) where
  pub inner_none : answer_at x a.unit ≡ got none → inner_lines x a ≡ put a (refused_line 1) ∷ []
  unfolding inner_lines
  inner_none e = rw e

  pub inner_refused : {n : ℕ} → answer_at x a.unit ≡ refused n → inner_lines x a ≡ put a (refused_line n) ∷ []
  unfolding inner_lines
  inner_refused e = rw e

  pub inner_unit : {h : UnitHeader} → answer_at x a.unit ≡ got (some h) → inner_lines x a ≡ unit_entries x h a (unit_lines x (behind x a.unit))
  unfolding inner_lines
  inner_unit e = rw e

-- ---- what the code is told of the unit at a place

module _ (x : Shelf) (at : ℕ) (r : Next) (e : view_next r ≡ next_unit debug_info x.info at Little) where
  pub told : {u : Answer (Option UnitHeader)} → view_next_unit r.unit ≡ u → answer_at x at ≡ u
  told f = sym (ap (λ (y : Advanced). y.answer) e) ∙ f

  behind_is : (f : ℕ → List Placed) → f (behind x at) ≡ f r.units.offset
  behind_is f = ap f (sym (ap (λ (y : Advanced). y.offset) e))

  module _ {h : UnitHeader} (f : view_next_unit r.unit ≡ got (some h)) where
    -- it lies inside
    pub unit_fits : Fit (length x.info) h
    unit_fits =
        let z = unit_in debug_info x.info at Little (told f) in
        record { short = z.short; there = omega (arith, z.offset, z.next_is, z.there); header = z.header }

    -- and takes some of the bytes
    pub unit_less : length x.info - r.units.offset < length x.info - at
    unit_less =
        let z = unit_in debug_info x.info at Little (told f) in
        omega (arith, further_unit x at h (told f), z.there, ap (λ (y : Advanced). y.offset) e)

    pub unit_first : unit_lines x at ≡ unit_all x at h (unit_lines x r.units.offset)
    unit_first = units_step x at ∙ rw (told f) (behind_is (λ (n : ℕ). unit_all x at h (unit_lines x n)))

  pub unit_none : view_next_unit r.unit ≡ got none → unit_lines x at ≡ put (place_of at) end_line ∷ []
  unit_none f = units_step x at ∙ rw (told f)

  pub unit_refused : (n : Error) → view_next_unit r.unit ≡ refused (number_of n) → unit_lines x at ≡ put (place_of at) (refused_line (number_of n)) ∷ []
  unit_refused n f = units_step x at ∙ rw (told f)

-- the same from the middle of a unit on
module _ (x : Shelf) (a : ListingPlace) (r : Next) (e : view_next r ≡ next_unit debug_info x.info a.unit Little) where
  pub entries_first : {h : UnitHeader} → view_next_unit r.unit ≡ got (some h) → inner_lines x a ≡ unit_entries x h a (unit_lines x r.units.offset)
  entries_first {h} f = inner_unit x a (told x a.unit r e f) ∙ behind_is x a.unit r e (λ (n : ℕ). unit_entries x h a (unit_lines x n))

  pub entries_none : view_next_unit r.unit ≡ got none → inner_lines x a ≡ put a (refused_line 1) ∷ []
  entries_none f = inner_none x a (told x a.unit r e f)

  pub entries_refused : (n : Error) → view_next_unit r.unit ≡ refused (number_of n) → inner_lines x a ≡ put a (refused_line (number_of n)) ∷ []
  entries_refused n f = inner_refused x a (told x a.unit r e f)

-- the same sections and words further on
pub lent_then : {x y z : declared_list.Listing} → Lent x y → Lent y z → Lent x z
lent_then a b =
    record {
      shelf = b.shelf ∙ a.shelf;
      lent = b.lent ∙ a.lent;
      lines = b.lines ∙ a.lines;
      same = record { rows_kept = b.same.rows_kept ∙ a.same.rows_kept; specs_kept = b.same.specs_kept ∙ a.same.specs_kept };
    }
