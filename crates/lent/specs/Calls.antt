-- One call by its number: what is said of the entry, and the state. After a refusal it is the state given.
use Rattle.std.specs.Prelude.{true, false, cond, List, [], ℕ, ◌+◌, eqb}
use Rattle.std.proofs.Math.Option.{Option, none, some}
use Rattle.reader.specs.Answer.{Answer, got, refused}
use Rattle.abbrev.specs.Lookup.{Found}
use Rattle.attribute.specs.Attributes.{pad}
use Rattle.attribute.specs.Value.{Attribute}
use Rattle.entries.specs.Entry.{null_entry}
use Rattle.entries.specs.Raw.{entry_here, Taken, refused_entry, raw_abbreviation, raw_entry, raw_skip}
use Rattle.entries.specs.declared.raw.EntriesRaw.{EntriesRaw}

-- after the values of a found row, which leave the state v; w is the state given
abbrev pub values_end : ℕ → EntriesRaw → Found → List Attribute → Answer (Unit {0}) → EntriesRaw → Taken
values_end most w f vs (got u) v = record { answer = got true; entry = entry_here w f vs; raw = v }
values_end most w f vs (refused n) v = refused_entry most w n

-- skip_attributes, behind a found row's code; no value is stored
abbrev pub skip_values : ℕ → List ℕ → List ℕ → EntriesRaw → EntriesRaw → Found → Taken
skip_values most s specs w v f =
    values_end most w f (pad most []) (raw_skip most v s specs f).answer (raw_skip most v s specs f).raw

-- after read_abbreviation: a null has no values
abbrev pub after_code : ℕ → List ℕ → List ℕ → EntriesRaw → Answer (Option Found) → EntriesRaw → Taken
after_code most s specs w (got none) v =
    record { answer = got false; entry = null_entry most (w.start + w.position) w.depth; raw = v }
after_code most s specs w (got (some f)) v = skip_values most s specs w v f
after_code most s specs w (refused n) v = refused_entry most w n

module _ (most : ℕ) (s rows specs : List ℕ) where
  -- read_abbreviation and skip_attributes
  unfoldable pub skipped_call : EntriesRaw → Taken
  skipped_call w =
      after_code most s specs w (raw_abbreviation most w s rows specs).answer (raw_abbreviation most w s rows specs).raw

  -- 1: read_abbreviation and skip_attributes; any other number: read_entry, by itself or as read_abbreviation and read_attributes
  abbrev pub lent_call : ℕ → EntriesRaw → Taken
  lent_call op w = cond (eqb op 1) (skipped_call w) (raw_entry most w s rows specs)
