-- The code's answers and structs in the definitions' terms.
use Rattle.std.specs.Prelude.{Bool, true, false, List, map, ◌≡◌, ℕ, length, Result, Ok, Err, Some, None}
use Rattle.std.specs.Prelude as code
use Rattle.std.proofs.Math.Option.{Option, none, some}
use Rattle.reader.specs.Answer.{Answer, got, refused, Read}
use Rattle.reader.specs.Errors.{number_of}
use Rattle.reader.specs.Views.{view, view_by, view_read_by}
use Rattle.reader.specs.declared.error.Error.{Error}
use Rattle.abbrev.specs.Lookup.{Found}
use Rattle.abbrev.specs.Views.{found_of, view_if_any, view_lookup}
use Rattle.abbrev.specs.declared.lookup.Abbreviation.{Abbreviation}
use Rattle.attribute.specs.Value.{Attribute}
use Rattle.attribute.specs.Views.{view_attribute, view_value}
use Rattle.attribute.specs.declared.value.Attribute as declared_attribute
use Rattle.attribute.specs.declared.value.AttributeValue.{AttributeValue}
use Rattle.attribute.specs.declared.value.Value.{Value}
use Rattle.unit.specs.declared.header.UnitHeader.{UnitHeader}
use Rattle.entries.specs.Entry.{Entry}
use Rattle.entries.specs.Cursor.{Cursor, Current, Called}
use Rattle.entries.specs.Open.{OwnUnit}
use Rattle.entries.specs.Pass.{Passed, PassedItems, with_words}
use Rattle.entries.specs.Raw.{Moved, Taken, Listed}
use Rattle.entries.specs.declared.cursor.Current as declared_current
use Rattle.entries.specs.declared.cursor.Current.TheVariants as held
use Rattle.entries.specs.declared.cursor.CursorNext.{CursorNext}
use Rattle.entries.specs.declared.cursor.EntriesCursor.{EntriesCursor}
use Rattle.entries.specs.declared.entry.Entry as declared_entry
use Rattle.entries.specs.declared.flat.PassedEntries.{PassedEntries}
use Rattle.entries.specs.declared.raw.EntriesRaw.{EntriesRaw}
use Rattle.entries.specs.declared.raw.Moved as declared_moved
use Rattle.entries.specs.declared.raw.RawAttributes.{RawAttributes}
use Rattle.entries.specs.declared.raw.RawEntry.{RawEntry}

-- what there may be, by what it is seen as
abbrev pub view_if : {A B : Type 0} → (A → B) → code.Option A → Option B
view_if f (Some a) = some (f a)
view_if f None = none

abbrev pub view_entry : declared_entry.Entry → Entry
view_entry e =
    record {
      tag = e.tag;
      children = e.has_children;
      offset = e.offset;
      depth = e.depth;
      count = e.count;
      attrs = map view_attribute e.attrs;
    }

abbrev pub view_named : code.Option declared_attribute.Attribute → Option Attribute
view_named o = view_if view_attribute o

abbrev pub view_named_value : code.Option AttributeValue → Option Value
view_named_value o = view_if view_value o

abbrev pub is_some : {A : Type 0} → Option A → Bool
is_some none = false
is_some (some a) = true

-- the value of an attribute that is there
abbrev pub value_in : Option Attribute → Option Value
value_in none = none
value_in (some a) = some a.value

-- what a code stands for, none for a null
abbrev pub view_found : code.Option Abbreviation → Option Found
view_found o = view_if found_of o

abbrev pub view_code : Result (code.Option Abbreviation × ℕ) Error → Answer (Read (Option Found))
view_code r = view_read_by view_found r

-- what a call says, and the state behind it
abbrev pub view_moved : {A B : Type 0} → (Result A Error → Answer B) → declared_moved.Moved A → Moved B
view_moved f r = record { answer = f r.answer; raw = r.raw }

abbrev pub view_raw_abbreviation : declared_moved.Moved (code.Option Abbreviation) → Moved (Option Found)
view_raw_abbreviation r = view_moved view_lookup r

abbrev pub view_raw_entry : RawEntry → Taken
view_raw_entry r = record { answer = view r.answer; entry = view_entry r.entry; raw = r.raw }

-- a tag and how many values
abbrev pub passed_of : ℕ × ℕ → Passed
passed_of x = record { tag = x.0; count = x.1 }

abbrev pub view_passed_entry : Result (code.Option (ℕ × ℕ)) Error → Answer (Option Passed)
view_passed_entry r = view_if_any passed_of r

abbrev pub view_raw_passed : declared_moved.Moved (code.Option (ℕ × ℕ)) → Moved (Option Passed)
view_raw_passed r = view_moved view_passed_entry r

-- the same with the state beside the value; a refusal keeps the one before
abbrev pub view_passed : EntriesRaw → Result (code.Option (ℕ × ℕ) × EntriesRaw) Error → Moved (Option Passed)
view_passed w (Ok x) = record { answer = got (view_if passed_of x.0); raw = x.1 }
view_passed w (Err e) = record { answer = refused (number_of e); raw = w }

-- items passed, and their words in lent words
pub record PassedAs (x : PassedItems) (before after : List ℕ) (r : PassedEntries) : Type 0 where
  pub answer_is : view r.answer ≡ x.answer
  pub count_is : r.count ≡ length x.items
  pub raw_is : r.raw ≡ x.raw
  pub words_are : after ≡ with_words x.items before

abbrev pub view_raw_attribute : declared_moved.Moved declared_attribute.Attribute → Moved Attribute
view_raw_attribute r = view_moved (view_by view_attribute) r

abbrev pub view_raw_attributes : RawAttributes → Listed
view_raw_attributes r = record { answer = view r.answer; attrs = map view_attribute r.attrs; raw = r.raw }

abbrev pub view_raw_skipped : declared_moved.Moved (Unit {0}) → Moved (Unit {0})
view_raw_skipped r = view_moved view r

abbrev pub view_cursor : EntriesCursor → Cursor
view_cursor c = record { input = c.input; entry = view_entry c.entry }

abbrev pub view_current : declared_current.Current → Current
view_current (held.Entry e) = record { is_there = true; entry = view_entry e }
view_current (held.Null e) = record { is_there = false; entry = view_entry e }

abbrev pub view_cursor_next : CursorNext → Called
view_cursor_next r = record { answer = view r.answer; cursor = view_cursor r.cursor }

-- a header and a cursor over its entries
abbrev pub view_unit : UnitHeader × EntriesCursor → OwnUnit
view_unit x = record { header = x.0; cursor = view_cursor x.1 }
