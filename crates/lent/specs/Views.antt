-- What a call hands back beside the lent state, in the terms of the raw reader's definitions.
use Rattle.std.specs.Prelude.{not, List, [], map, ℕ, Result, Ok, Err}
use Rattle.std.specs.Prelude as code
use Rattle.std.proofs.Math.Option.{Option}
use Rattle.abbrev.specs.Lookup.{Found}
use Rattle.attribute.specs.Attributes.{pad}
use Rattle.attribute.specs.Views.{view_attribute}
use Rattle.attribute.specs.declared.value.Attribute.{Attribute}
use Rattle.entries.specs.Entry.{is_null}
use Rattle.entries.specs.Raw.{Moved, Taken, Listed, refused_entry}
use Rattle.entries.specs.declared.entry.Entry.{Entry}
use Rattle.reader.specs.Answer.{got, refused}
use Rattle.reader.specs.Errors.{number_of}
use Rattle.reader.specs.Views.{view}
use Rattle.reader.specs.declared.error.Error.{Error}
use Rattle.abbrev.specs.Views.{view_lookup}
use Rattle.abbrev.specs.declared.lookup.Abbreviation.{Abbreviation}
use Rattle.entries.specs.Views.{view_entry}
use Rattle.entries.specs.declared.raw.EntriesRaw.{EntriesRaw}

-- of read_entry
abbrev pub view_read_entry : ℕ → Result Entry Error → EntriesRaw → Taken
view_read_entry most (Ok e) w = record { answer = got (not (is_null (view_entry e))); entry = view_entry e; raw = w }
view_read_entry most (Err x) w = refused_entry most w (number_of x)

-- of read_abbreviation
abbrev pub view_read_abbreviation : Result (code.Option Abbreviation) Error → EntriesRaw → Moved (Option Found)
view_read_abbreviation r w = record { answer = view_lookup r; raw = w }

-- of read_attributes
abbrev pub view_read_attributes : ℕ → Result (List Attribute) Error → EntriesRaw → Listed
view_read_attributes most (Ok vs) w = record { answer = got tt; attrs = map view_attribute vs; raw = w }
view_read_attributes most (Err x) w = record { answer = refused (number_of x); attrs = pad most []; raw = w }

-- of skip_attributes
abbrev pub view_skipped : Result (Unit {0}) Error → EntriesRaw → Moved (Unit {0})
view_skipped r w = record { answer = view r; raw = w }
