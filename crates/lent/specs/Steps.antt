-- What the private functions promise.
use Rattle.std.specs.Prelude.{◌≡◌, false, List, [], ℕ, ◌+◌, Result, Ok, Err, Some, None}
use Rattle.std.specs.Prelude as code
use Rattle.reader.specs.Answer.{got}
use Rattle.reader.specs.Errors.{number_of}
use Rattle.reader.specs.declared.error.Error.{Error}
use Rattle.abbrev.specs.Lookup.{Found}
use Rattle.abbrev.specs.Views.{found_of}
use Rattle.abbrev.specs.declared.lookup.Abbreviation.{Abbreviation}
use Rattle.attribute.specs.Attributes.{pad}
use Rattle.entries.specs.Entry.{null_entry}
use Rattle.entries.specs.Raw.{Moved, Listed, Taken, refused_entry, raw_abbreviation, raw_attributes}
use Rattle.entries.specs.Views.{view_raw_abbreviation, view_raw_attributes}
use Rattle.entries.specs.declared.raw.EntriesRaw.{EntriesRaw}
use Rattle.entries.specs.declared.raw.Moved as declared_moved
use Rattle.entries.specs.declared.raw.RawAttributes.{RawAttributes}
use Rattle.lent.specs.Calls.{values_end}

-- what is said after the values of a found row; w is the state given
abbrev pub ended : ℕ → EntriesRaw → Found → Listed → Taken
ended most w f x = values_end most w f x.attrs x.answer x.raw

-- read_attributes, behind a found row's code, from the state v; w is the state given
abbrev pub read_values : ℕ → List ℕ → List ℕ → EntriesRaw → EntriesRaw → Found → Taken
read_values most s specs w v f = ended most w f (raw_attributes most v s specs f)

-- values that are skipped: none is stored
abbrev pub unstored : ℕ → Moved (Unit {0}) → Listed
unstored most x = record { answer = x.answer; attrs = pad most []; raw = x.raw }

-- what is said after a code was read: a null, the refusal, or what follows the values that P may take
abbrev pub AfterCode : ℕ → EntriesRaw → (EntriesRaw → Abbreviation → RawAttributes → Type 0) → Result (code.Option Abbreviation) Error → EntriesRaw → Taken → Type 0
AfterCode most w P (Ok (Some d)) v x = (r : RawAttributes) × P v d r × (x ≡ ended most w (found_of d) (view_raw_attributes r))
AfterCode most w P (Ok None) v x = x ≡ record { answer = got false; entry = null_entry most (w.start + w.position) w.depth; raw = v }
AfterCode most w P (Err e) v x = x ≡ refused_entry most w (number_of e)

pub record ByCode (most : ℕ) (s rows specs : List ℕ) (w : EntriesRaw) (P : EntriesRaw → Abbreviation → RawAttributes → Type 0) (x : Taken) : Type 0 where
  pub coded : declared_moved.Moved (code.Option Abbreviation)
  pub code_read : view_raw_abbreviation coded ≡ raw_abbreviation most w s rows specs
  pub says : AfterCode most w P coded.answer coded.raw x
