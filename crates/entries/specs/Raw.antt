-- The raw reader: its state goes in and comes out; a refusal keeps it.
use Rattle.std.specs.Prelude.{Bool, not, cond, List, ℕ, ◌+◌, ◌^◌, leb, ltb, ℤ, pos, length}
use Rattle.std.proofs.Math.Option.{Option}
use Rattle.reader.specs.Answer.{Answer, got, refused, Read}
use Rattle.reader.specs.declared.common.Encoding.{Encoding}
use Rattle.reader.specs.declared.endianity.RunTimeEndian.{RunTimeEndian}
use Rattle.abbrev.specs.Lookup.{Found}
use Rattle.abbrev.specs.Table.{Specification}
use Rattle.attribute.specs.Attributes.{read_attribute, read_attributes, skip_attributes, Stored, stored}
use Rattle.attribute.specs.Value.{Attribute}
use Rattle.unit.specs.Header.{size_of_header}
use Rattle.unit.specs.declared.header.UnitHeader.{UnitHeader}
use Rattle.entries.specs.Entry.{Entry, null_entry, row_entry, is_null}
use Rattle.attribute.specs.declared.source.Source.{Source}
use Rattle.entries.specs.Read.{abbreviation_at, depth_after, entry_at, keeps_state}
use Rattle.entries.specs.declared.raw.EntriesRaw.{EntriesRaw}

-- 01's sizes, over so many bytes
abbrev pub keeps_raw : ℕ → EntriesRaw → Bool
keeps_raw count w = keeps_state count w.start w.position w.depth

-- the state at another place and depth
abbrev pub moved_to : EntriesRaw → ℕ → ℤ → EntriesRaw
moved_to w at d =
    record { start = w.start; position = at; depth = d; encoding = w.encoding; endian = w.endian }

-- the state before the first byte
abbrev pub start_of : Source → EntriesRaw
start_of src = record { start = src.start; position = 0; depth = pos 0; encoding = src.encoding; endian = src.endian }

-- a unit's entries start behind its header
abbrev pub unit_source : UnitHeader → RunTimeEndian → Source
unit_source h e = record { start = size_of_header h; encoding = h.encoding; endian = e }

-- a reader over so many bytes that start at an offset; 01, question 1
unfoldable pub opened : ℕ → ℕ → Encoding → RunTimeEndian → Answer EntriesRaw
opened count start c e =
    cond (ltb (start + count) (2 ^ 63))
    (got (start_of (record { start = start; encoding = c; endian = e })))
    (refused 1)

-- no byte is left
unfoldable pub empty_raw : ℕ → EntriesRaw → Bool
empty_raw count w = leb count w.position

-- gimli's next_offset
unfoldable pub offset_of : EntriesRaw → Answer ℕ
offset_of w = cond (ltb (w.start + w.position) (2 ^ 63)) (got (w.start + w.position)) (refused 1)

-- a value that was read, and the state that it leaves
pub record Moved (A : Type 0) : Type 0 where
  pub answer : Answer A
  pub raw : EntriesRaw

-- the state moves on after a value, and a refusal keeps it
abbrev pub moves : {A : Type 0} → EntriesRaw → ℤ → Answer (Read A) → Moved A
moves w d (got r) = record { answer = got r.value; raw = moved_to w r.next d }
moves w d (refused n) = record { answer = refused n; raw = w }

-- what is read only where the sizes are kept
abbrev pub judged : {A : Type 0} → Bool → Answer A → Answer A
judged b r = cond b r (refused 1)

-- gimli's read_abbreviation
unfoldable pub raw_abbreviation : ℕ → EntriesRaw → List ℕ → List ℕ → List ℕ → Moved (Option Found)
raw_abbreviation most w s rows specs =
    moves w (depth_after (abbreviation_at most s rows specs w.position) w.depth)
    (judged (keeps_raw (length s) w) (abbreviation_at most s rows specs w.position))

-- the entry of a found row that stands where a state does, with values in their places
abbrev pub entry_here : EntriesRaw → Found → List Attribute → Entry
entry_here w f attrs = row_entry (w.start + w.position) w.depth f attrs

abbrev pub source_of : EntriesRaw → Source
source_of w = record { start = w.start; encoding = w.encoding; endian = w.endian }

-- an entry or a null that was read, with whether it is an entry, and the state
pub record Taken : Type 0 where
  pub answer : Answer Bool
  pub entry : Entry
  pub raw : EntriesRaw

-- a refusal: a null at offset and depth 0, and the state as it was
abbrev pub refused_entry : ℕ → EntriesRaw → ℕ → Taken
refused_entry most w n = record { answer = refused n; entry = null_entry most 0 (pos 0); raw = w }

abbrev pub taken : ℕ → EntriesRaw → ℤ → Answer (Read Entry) → Taken
taken most w d (got r) =
    record { answer = got (not (is_null r.value)); entry = r.value; raw = moved_to w r.next d }
taken most w d (refused n) = refused_entry most w n

-- gimli's read_entry
unfoldable pub raw_entry : ℕ → EntriesRaw → List ℕ → List ℕ → List ℕ → Taken
raw_entry most w s rows specs =
    taken most w (depth_after (abbreviation_at most s rows specs w.position) w.depth)
    (judged (keeps_raw (length s) w) (entry_at most (source_of w) s rows specs w.position w.depth))

-- gimli's read_attribute
unfoldable pub raw_attribute : EntriesRaw → List ℕ → Specification → Moved Attribute
raw_attribute w s x =
    moves w w.depth
    (judged (keeps_raw (length s) w) (read_attribute s w.start w.encoding w.endian x w.position))

-- values in their places, and the state
pub record Listed : Type 0 where
  pub answer : Answer (Unit {0})
  pub attrs : List Attribute
  pub raw : EntriesRaw

abbrev pub listed : EntriesRaw → Answer ℕ → List Attribute → Listed
listed w (got p) l = record { answer = got tt; attrs = l; raw = moved_to w p w.depth }
listed w (refused n) l = record { answer = refused n; attrs = l; raw = w }

abbrev pub listed_in : EntriesRaw → Stored → Listed
listed_in w x = listed w x.end x.attrs

-- gimli's read_attributes, by a found row
unfoldable pub raw_attributes : ℕ → EntriesRaw → List ℕ → List ℕ → Found → Listed
raw_attributes most w s specs f =
    listed_in w
    (stored most
    (judged (keeps_raw (length s) w) (read_attributes most s w.start w.encoding w.endian specs f w.position)))

abbrev pub skipped : EntriesRaw → Answer ℕ → Moved (Unit {0})
skipped w (got p) = record { answer = got tt; raw = moved_to w p w.depth }
skipped w (refused n) = record { answer = refused n; raw = w }

-- gimli's skip_attributes
unfoldable pub raw_skip : ℕ → EntriesRaw → List ℕ → List ℕ → Found → Moved (Unit {0})
raw_skip most w s specs f =
    skipped w
    (judged (keeps_raw (length s) w) (skip_attributes most s w.start w.encoding w.endian specs f w.position))
