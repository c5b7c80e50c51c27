-- A call by its number, by what its closure takes of the values.
use mathlib.Core.Path.{◌≡◌, refl, ap, ◌∙◌}
use mathlib.Core.List.{List}
use mathlib.Core.Option.{Option}
use Prim.Native.Nat.{ℕ}
use Rattle.std.specs.Prelude.{Result, Ok, Err, Some, None}
use Rattle.std.specs.Prelude as code
use Rattle.reader.specs.declared.error.Error.{Error}
use Rattle.abbrev.specs.Lookup.{Found}
use Rattle.abbrev.specs.Views.{found_of, view_lookup}
use Rattle.abbrev.specs.declared.lookup.Abbreviation.{Abbreviation}
use Rattle.entries.specs.Raw.{Moved, Taken, raw_entry, raw_attributes, raw_skip}
use Rattle.entries.specs.Views.{view_raw_attributes}
use Rattle.entries.specs.declared.raw.EntriesRaw.{EntriesRaw}
use Rattle.entries.specs.declared.raw.RawAttributes.{RawAttributes}
use Rattle.lent.specs.Calls.{after_code, skipped_call}
use Rattle.lent.specs.Steps.{ended, unstored, AfterCode, ByCode}
use Rattle.lent.proofs.SkipLaws.{turn_null, turn_refused, turn_values}

module _ {most : ℕ} {s rows specs : List ℕ} {w : EntriesRaw} {P : EntriesRaw → Abbreviation → RawAttributes → Type 0} {x : Taken} (c : ByCode most s rows specs w P x) where
  pub skipped_by : ((v : EntriesRaw) (d : Abbreviation) (r : RawAttributes) → P v d r → view_raw_attributes r ≡ unstored most (raw_skip most v s specs (found_of d))) → x ≡ skipped_call most s rows specs w
  unfolding skipped_call
  skipped_by h = go c.coded.answer c.says ∙ ap (λ (y : Moved (Option Found)). after_code most s specs w y.answer y.raw) c.code_read
    where
      go : (a : Result (code.Option Abbreviation) Error) → AfterCode most w P a c.coded.raw x → x ≡ after_code most s specs w (view_lookup a) c.coded.raw
      go (Ok (Some d)) (r, p, e) = e ∙ ap (ended most w (found_of d)) (h c.coded.raw d r p)
      go (Ok None) e = e
      go (Err n) e = e

  pub listed_by : ((v : EntriesRaw) (d : Abbreviation) (r : RawAttributes) → P v d r → view_raw_attributes r ≡ raw_attributes most v s specs (found_of d)) → x ≡ raw_entry most w s rows specs
  listed_by h = go c.coded.answer refl c.says
    where
      go : (a : Result (code.Option Abbreviation) Error) → c.coded.answer ≡ a → AfterCode most w P a c.coded.raw x → x ≡ raw_entry most w s rows specs
      go (Ok (Some d)) q (r, p, e) = e ∙ ap (ended most w (found_of d)) (h c.coded.raw d r p) ∙ turn_values most w s rows specs c.code_read (ap view_lookup q)
      go (Ok None) q e = e ∙ turn_null most w s rows specs c.code_read (ap view_lookup q)
      go (Err n) q e = e ∙ turn_refused most w s rows specs c.code_read (ap view_lookup q)
