-- Readers opened by a unit's header, over the unit's own bytes.
use Rattle.std.specs.Prelude.{Bool, cond, ◌&&◌, List, ℕ, leb, length}
use Rattle.reader.specs.Answer.{Answer, got, refused, and_then}
use Rattle.reader.specs.Sizes.{max_section}
use Rattle.reader.specs.declared.endianity.RunTimeEndian.{RunTimeEndian}
use Rattle.abbrev.specs.Table.{Limit, Declaration, abbreviations_at}
use Rattle.unit.specs.Header.{size_of_header}
use Rattle.unit.specs.Parse.{UnitSection, header_at}
use Rattle.unit.specs.Range.{entries_buf, range_from}
use Rattle.unit.specs.declared.header.UnitHeader.{UnitHeader}
use Rattle.entries.specs.Cursor.{Cursor, new_cursor, opened_cursor}
use Rattle.entries.specs.Entry.{Entry}
use Rattle.entries.specs.Raw.{Taken, judged, opened, start_of, unit_source, raw_entry}
use Rattle.entries.specs.declared.raw.EntriesRaw.{EntriesRaw}

-- 01, question 20: no null
abbrev pub no_null : Taken → Answer Entry
no_null r = and_then r.answer (λ b. cond b (got r.entry) (refused 20))

-- the entry that stands first in a part
unfoldable pub first_entry : ℕ → UnitHeader → List ℕ → List ℕ → List ℕ → ℕ → RunTimeEndian → Answer Entry
first_entry most h s rows specs offset e =
    and_then (opened (length s) offset h.encoding e) (λ w. no_null (raw_entry most w s rows specs))

module _ (h : UnitHeader) (u : List ℕ) where
  -- gimli's entries_raw at an offset; 01, question 19
  unfoldable pub raw_from : ℕ → RunTimeEndian → Answer EntriesRaw
  raw_from offset e = and_then (range_from h u offset) (λ s. opened (length s) offset h.encoding e)

  -- gimli's entries; a unit may have none
  unfoldable pub cursor_over : ℕ → RunTimeEndian → Answer Cursor
  cursor_over most e = and_then (entries_buf h u) (λ s. opened_cursor most (length s) (size_of_header h) h.encoding e)

  -- gimli's entries_at_offset
  unfoldable pub cursor_from : ℕ → ℕ → RunTimeEndian → Answer Cursor
  cursor_from most offset e = and_then (range_from h u offset) (λ s. opened_cursor most (length s) offset h.encoding e)

  -- gimli's entry
  unfoldable pub entry_from : ℕ → List ℕ → List ℕ → ℕ → RunTimeEndian → Answer Entry
  entry_from most rows specs offset e = and_then (range_from h u offset) (λ s. first_entry most h s rows specs offset e)

-- a header, and a cursor over its entries
pub record OwnUnit : Type 0 where
  pub header : UnitHeader
  pub cursor : Cursor

abbrev pub own_unit : ℕ → UnitHeader → RunTimeEndian → OwnUnit
own_unit most h e = record { header = h; cursor = new_cursor most (start_of (unit_source h e)) }

-- 01, question 1, of both sections and before all reading
abbrev pub sections_kept : List ℕ → List ℕ → Bool
sections_kept abbrevs units = leb (length abbrevs) max_section && leb (length units) max_section

module _ (sec : UnitSection) (abbrevs units : List ℕ) (offset : ℕ) (e : RunTimeEndian) (l : Limit) (rows free : ℕ) where
  -- the table that the header at an offset points to, in so many rows
  unfoldable pub own_table : Answer (List Declaration)
  own_table =
      judged (sections_kept abbrevs units)
      (and_then (header_at sec units offset e)
      (λ h. abbreviations_at abbrevs h.value.debug_abbrev_offset l rows free))

  -- the header there and a cursor over its entries, once its table was read
  unfoldable pub unit_from : Answer OwnUnit
  unit_from =
      judged (sections_kept abbrevs units)
      (and_then (header_at sec units offset e)
      (λ h. and_then (abbreviations_at abbrevs h.value.debug_abbrev_offset l rows free) (λ t. got (own_unit l.most h.value e))))
