-- The code's structs in the definitions' terms.
use Rattle.std.specs.Prelude.{true, false, Result, Ok, Err, Some, None}
use Rattle.std.specs.Prelude as code
use Rattle.reader.specs.Answer.{got, refused}
use Rattle.reader.specs.Errors.{number_of}
use Rattle.reader.specs.declared.error.Error.{Error}
use Rattle.abbrev.specs.declared.lookup.Abbreviation.{Abbreviation}
use Rattle.entries.specs.declared.raw.EntriesRaw.{EntriesRaw}
use Rattle.capi.specs.Calls.{Stepped, no_entry, passed_words}
use Rattle.capi.specs.Words.{bit}

-- an entry that was passed by its abbreviation, or a null, and the state behind it; a refusal keeps the one before
abbrev pub view_passed : EntriesRaw → Result (code.Option Abbreviation × EntriesRaw) Error → Stepped
view_passed w (Ok (Some a, v)) = record { answer = got true; raw = v; words = passed_words a.tag (bit a.has_children) a.count }
view_passed w (Ok (None, v)) = no_entry (got false) v
view_passed w (Err e) = no_entry (refused (number_of e)) w
