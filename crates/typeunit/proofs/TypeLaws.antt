-- Laws of the type entry.
use mathlib.Core.Bool.{true, false}
use mathlib.Core.Path.{◌≡◌, refl, ap}
use mathlib.Core.List.{List}
use Prim.Native.Nat.{ℕ, ◌/◌, ◌≤◌, ◌<◌}
use borrow.Author.Tests.{le-leb, lt-leb}
use lib.ListN.{length}
use Rattle.std.specs.Prelude.{Result}
use Rattle.reader.specs.Answer.{Answer, got, refused, and_then, Holds}
use Rattle.reader.specs.Sizes.{max_section}
use Rattle.reader.specs.Views.{view, view_by}
use Rattle.reader.specs.declared.endianity.RunTimeEndian.{RunTimeEndian}
use Rattle.reader.specs.declared.error.Error.{Error}
use Rattle.abbrev.specs.Rows.{Blank, Laid, Left, table_rows, table_specs}
use Rattle.abbrev.specs.Table.{Limit, Declaration, entry_limit, abbreviations_at}
use Rattle.abbrev.specs.Tabled.{Tabled}
use Rattle.abbrev.proofs.Bounds.{Sound, sound}
use Rattle.unit.specs.Header.{in_bounds}
use Rattle.unit.specs.Parse.{UnitSection}
use Rattle.unit.specs.Range.{unit_bytes}
use Rattle.unit.specs.declared.header.UnitHeader.{UnitHeader}
use Rattle.entries.specs.Entry.{Entry}
use Rattle.entries.specs.Open.{sections_kept, entry_from}
use Rattle.entries.proofs.SameLaws.{entry_laid}
use Rattle.typeunit.specs.Search.{type_offset, unit_with, bounded, type_unit}
use Rattle.typeunit.specs.Types.{TypeUnit, with_entry, type_table, type_entry}
use Rattle.typeunit.specs.TypeRead.{TypeRead}
use Rattle.typeunit.specs.Views.{view_type}
use Rattle.entries.specs.declared.entry.Entry as declared_entry

-- an entry beside its unit
abbrev pub with_unit : UnitHeader → Answer Entry → Answer TypeUnit
with_unit h d = and_then d (λ x. got (record { header = h; entry = x }))

-- ---- the rows that a table call left read as the table in file order

with_laid : {m k : ℕ} {rows specs : List ℕ} {t : List Declaration} (most : ℕ) (units : List ℕ) (e : RunTimeEndian) (h : UnitHeader) → Sound most t → Laid m k rows specs t
    → with_entry most units rows specs e h ≡ with_entry most units (table_rows m t) (table_specs k t) e h
unfolding with_entry
with_laid {m} {k} {rows} {specs} {t} most units e h S L = go (unit_bytes h units)
  where
    go : (r : Answer (List ℕ))
        → and_then r (λ u. with_unit h (entry_from h u most rows specs (type_offset h) e)) ≡ and_then r (λ u. with_unit h (entry_from h u most (table_rows m t) (table_specs k t) (type_offset h) e))
    go (got u) = ap (with_unit h) (entry_laid most h u (type_offset h) e S L)
    go (refused n) = refl

-- ---- what a unit gives, by its questions

module _ {abbrevs units : List ℕ} {e : RunTimeEndian} {rows₀ specs₀ rows specs : List ℕ} {r : Result (UnitHeader × declared_entry.Entry) Error} {unit : Answer UnitHeader} where
  -- the unit was refused
  pub typed_refused : {n : ℕ} → unit ≡ refused n → Blank rows₀ specs₀ rows specs → view_by view_type r ≡ refused n → TypeRead abbrevs units e unit rows₀ specs₀ rows specs r
  unfolding type_table type_entry
  typed_refused q b v = record { is = rw q v; left = rw q (b.no_rows, b.no_specs) }

  -- its table was read, and then the entry, or one of them was refused
  pub typed_read : {h : UnitHeader} {a : Result ℕ Error} → unit ≡ got h → Tabled abbrevs h.debug_abbrev_offset rows₀ specs₀ rows specs a
      → view_by view_type r ≡ and_then (view a) (λ _. with_entry entry_limit.most units rows specs e h)
      → TypeRead abbrevs units e unit rows₀ specs₀ rows specs r
  unfolding type_table type_entry
  typed_read {h} q t v =
      record {
        is = rw (q, v, t.is) (by _ (sound abbrevs h.debug_abbrev_offset entry_limit (length rows₀ / 5) (length specs₀ / 3)) t.left);
        left = rw q t.left;
      }
    where
      by : (x : Answer (List Declaration)) → Holds (Sound entry_limit.most) x → Left (length rows₀) (length specs₀) rows specs x
          → and_then (and_then x (λ t. got (length t))) (λ _. with_entry entry_limit.most units rows specs e h)
          ≡ and_then x (λ t. with_entry entry_limit.most units (table_rows (length rows₀) t) (table_specs (length specs₀) t) e h)
      by (got t) S L = with_laid entry_limit.most units e h S L
      by (refused n) S L = refl

-- ---- the questions before the unit's own

module _ (sec : UnitSection) (abbrevs units : List ℕ) (sig : ℕ) (e : RunTimeEndian) where
  pub unit_long_table : max_section < length abbrevs → type_unit sec abbrevs units sig e ≡ refused 1
  unfolding type_unit
  unit_long_table k = rw (lt-leb (length abbrevs) max_section k)

  module _ (short : length abbrevs ≤ max_section) where
    pub unit_long : max_section < length units → type_unit sec abbrevs units sig e ≡ refused 1
    unfolding type_unit
    unit_long k = rw (le-leb (length abbrevs) max_section short, lt-leb (length units) max_section k)

-- ---- the questions in their order, of a unit that was found

module _ (l : Limit) (sec : UnitSection) (abbrevs units : List ℕ) (sig : ℕ) (e : RunTimeEndian) (m k : ℕ) (kept : sections_kept abbrevs units ≡ true) where
  -- none was found: no table is read
  pub not_found : {n : ℕ} → unit_with sec units sig e ≡ refused n
      → (type_table l abbrevs units e m k (type_unit sec abbrevs units sig e) ≡ refused n) × (type_entry l abbrevs units e m k (type_unit sec abbrevs units sig e) ≡ refused n)
  unfolding type_unit type_table type_entry
  not_found q = (rw (kept, q), rw (kept, q))

  module _ {h : UnitHeader} (found : unit_with sec units sig e ≡ got h) where
    -- 19 exactly if the type's offset is not inside, and no table is read
    pub outside_19 : in_bounds h (type_offset h) ≡ false
        → (type_table l abbrevs units e m k (type_unit sec abbrevs units sig e) ≡ refused 19) × (type_entry l abbrevs units e m k (type_unit sec abbrevs units sig e) ≡ refused 19)
    unfolding type_unit bounded type_table type_entry
    outside_19 q = (rw (kept, found, q), rw (kept, found, q))

    -- else the unit's own table, whatever becomes of the entry, and then the entry
    pub inside_read : in_bounds h (type_offset h) ≡ true
        → (type_table l abbrevs units e m k (type_unit sec abbrevs units sig e) ≡ abbreviations_at abbrevs h.debug_abbrev_offset l (m / 5) (k / 3))
        × (type_entry l abbrevs units e m k (type_unit sec abbrevs units sig e)
        ≡ and_then (abbreviations_at abbrevs h.debug_abbrev_offset l (m / 5) (k / 3)) (λ t. with_entry l.most units (table_rows m t) (table_specs k t) e h))
    unfolding type_unit bounded type_table type_entry
    inside_read q = (rw (kept, found, q), rw (kept, found, q))
