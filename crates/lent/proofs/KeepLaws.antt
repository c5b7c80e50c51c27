-- A lent call leaves a state that keeps 01's sizes where it was lent one; each is given by what the call promises.
use mathlib.Core.Bool.{true}
use mathlib.Core.Path.{◌≡◌, sym, ap, ◌∙◌}
use mathlib.Core.List.{List, []}
use mathlib.Core.Option.{Option, none, some}
use Prim.Native.Nat.{ℕ}
use lib.Dec.{eqb}
use lib.ListN.{length}
use Rattle.std.specs.Prelude.{Result}
use Rattle.std.specs.Prelude as code
use Rattle.reader.specs.declared.error.Error.{Error}
use Rattle.reader.specs.Answer.{Answer, got, refused}
use Rattle.reader.proofs.Answers.{cond_by}
use Rattle.abbrev.specs.Lookup.{Found}
use Rattle.abbrev.specs.declared.lookup.Abbreviation.{Abbreviation}
use Rattle.attribute.specs.Attributes.{pad}
use Rattle.attribute.specs.declared.value.Attribute as declared_attribute
use Rattle.entries.specs.declared.entry.Entry as declared_entry
use Rattle.entries.specs.Raw.{keeps_raw, Moved, Taken, Listed, raw_abbreviation, raw_entry, raw_attributes, raw_skip}
use Rattle.entries.specs.declared.raw.EntriesRaw.{EntriesRaw}
use Rattle.entries.proofs.KeepLaws.{abbreviation_keeps, entry_keeps, attributes_keeps, skip_keeps}
use Rattle.lent.specs.Calls.{skipped_call, values_end, after_code, lent_call}
use Rattle.lent.specs.Views.{view_read_entry, view_read_abbreviation, view_read_attributes, view_skipped}
use Rattle.lent.proofs.ViewLaws.{entry_leaves, attributes_leave}

module _ (most : ℕ) (w : EntriesRaw) (s : List ℕ) (h : keeps_raw (length s) w ≡ true) (v : EntriesRaw) where
  pub lent_entry_keeps : (rows specs : List ℕ) (r : Result declared_entry.Entry Error) → view_read_entry most r v ≡ raw_entry most w s rows specs → keeps_raw (length s) v ≡ true
  lent_entry_keeps rows specs r e = ap (λ (u : EntriesRaw). keeps_raw (length s) u) (sym (entry_leaves most r v)) ∙ ap (λ (x : Taken). keeps_raw (length s) x.raw) e ∙ entry_keeps most w s h rows specs

  pub lent_abbreviation_keeps : (rows specs : List ℕ) (r : Result (code.Option Abbreviation) Error) → view_read_abbreviation r v ≡ raw_abbreviation most w s rows specs → keeps_raw (length s) v ≡ true
  lent_abbreviation_keeps rows specs r e = ap (λ (x : Moved (Option Found)). keeps_raw (length s) x.raw) e ∙ abbreviation_keeps most w s h rows specs

  pub lent_attributes_keeps : (specs : List ℕ) (f : Found) (r : Result (List declared_attribute.Attribute) Error) → view_read_attributes most r v ≡ raw_attributes most w s specs f → keeps_raw (length s) v ≡ true
  lent_attributes_keeps specs f r e = ap (λ (u : EntriesRaw). keeps_raw (length s) u) (sym (attributes_leave most r v)) ∙ ap (λ (x : Listed). keeps_raw (length s) x.raw) e ∙ attributes_keeps most w s h specs f

  pub lent_skip_keeps : (specs : List ℕ) (f : Found) (r : Result (Unit {0}) Error) → view_skipped r v ≡ raw_skip most w s specs f → keeps_raw (length s) v ≡ true
  lent_skip_keeps specs f r e = ap (λ (x : Moved (Unit {0})). keeps_raw (length s) x.raw) e ∙ skip_keeps most w s h specs f

-- one call by its number
module _ (most : ℕ) (w : EntriesRaw) (s rows specs : List ℕ) (h : keeps_raw (length s) w ≡ true) where
  skipped_call_keeps : keeps_raw (length s) (skipped_call most s rows specs w).raw ≡ true
  unfolding skipped_call
  skipped_call_keeps = go (raw_abbreviation most w s rows specs).answer
    where
      k : keeps_raw (length s) (raw_abbreviation most w s rows specs).raw ≡ true
      k = abbreviation_keeps most w s h rows specs

      ends : (f : Found) (a : Answer (Unit {0})) → keeps_raw (length s) (values_end most w f (pad most []) a (raw_skip most (raw_abbreviation most w s rows specs).raw s specs f).raw).raw ≡ true
      ends f (got u) = skip_keeps most (raw_abbreviation most w s rows specs).raw s k specs f
      ends f (refused n) = h

      go : (a : Answer (Option Found)) → keeps_raw (length s) (after_code most s specs w a (raw_abbreviation most w s rows specs).raw).raw ≡ true
      go (got none) = k
      go (got (some f)) = ends f (raw_skip most (raw_abbreviation most w s rows specs).raw s specs f).answer
      go (refused n) = h

  pub call_keeps : (op : ℕ) → keeps_raw (length s) (lent_call most s rows specs op w).raw ≡ true
  call_keeps op =
      cond_by (λ x. keeps_raw (length s) x.raw ≡ true) (eqb op 1) (skipped_call most s rows specs w) (raw_entry most w s rows specs)
      (λ _. skipped_call_keeps) (λ _. entry_keeps most w s h rows specs)
