-- Whichever row holds which declaration, the same is read.
use mathlib.Core.Bool.{cond}
use mathlib.Core.Path.{◌≡◌, refl, ap, ◌∙◌}
use mathlib.Core.List.{List}
use mathlib.Core.Option.{Option, none}
use Prim.Native.Nat.{ℕ}
use lib.Dec.{eqb}
use lib.IntN.{ℤ}
use lib.ListN.{length}
use Rattle.reader.specs.Answer.{Answer, got, refused, and_then, Read, gives}
use Rattle.reader.specs.Leb128.{uleb_at}
use Rattle.reader.specs.declared.endianity.RunTimeEndian.{RunTimeEndian}
use Rattle.abbrev.specs.Lookup.{Found, lookup}
use Rattle.abbrev.specs.Rows.{Laid, table_rows, table_specs}
use Rattle.abbrev.specs.Table.{Declaration}
use Rattle.abbrev.proofs.Bounds.{Sound}
use Rattle.abbrev.proofs.Lookups.{lookup_in_order}
use Rattle.unit.specs.Range.{range_from}
use Rattle.unit.specs.declared.header.UnitHeader.{UnitHeader}
use Rattle.entries.specs.Open.{no_null, first_entry, entry_from}
use Rattle.entries.specs.Raw.{opened, source_of, raw_entry}
use Rattle.attribute.specs.declared.source.Source.{Source}
use Rattle.entries.specs.Read.{known, abbreviation_at, entry_at, entry_after}
use Rattle.entries.specs.declared.raw.EntriesRaw.{EntriesRaw}

module _ (most : ℕ) (src : Source) (s rows rows' specs : List ℕ) (h : (c : ℕ) → lookup most rows specs c ≡ lookup most rows' specs c) where
  pub code_same : (at : ℕ) → abbreviation_at most s rows specs at ≡ abbreviation_at most s rows' specs at
  unfolding abbreviation_at
  code_same at = go (uleb_at s at 64)
    where
      go : (r : Answer (Read ℕ))
          → and_then r (λ v. cond (eqb v.value 0) (gives none v.next) (known (lookup most rows specs v.value) v.next))
          ≡ and_then r (λ v. cond (eqb v.value 0) (gives none v.next) (known (lookup most rows' specs v.value) v.next))
      go (got v) = ap (λ (x : Answer (Option Found)). cond (eqb v.value 0) (gives none v.next) (known x v.next)) (h v.value)
      go (refused n) = refl

  pub entry_same : (at : ℕ) (d : ℤ) → entry_at most src s rows specs at d ≡ entry_at most src s rows' specs at d
  unfolding entry_at
  entry_same at d = ap (λ (r : Answer (Read (Option Found))). and_then r (entry_after most src s specs at d)) (code_same at)

raw_same : (most : ℕ) (w : EntriesRaw) (s rows rows' specs : List ℕ) → ((c : ℕ) → lookup most rows specs c ≡ lookup most rows' specs c) → raw_entry most w s rows specs ≡ raw_entry most w s rows' specs
unfolding raw_entry
raw_same most w s rows rows' specs h =
    rw (code_same most (source_of w) s rows rows' specs h w.position, entry_same most (source_of w) s rows rows' specs h w.position w.depth)

-- an entry by its offset, with the rows that a table call left and with the table in file order
pub entry_laid : {m k : ℕ} {rows specs : List ℕ} {t : List Declaration} (most : ℕ) (h : UnitHeader) (u : List ℕ) (offset : ℕ) (e : RunTimeEndian) → Sound most t → Laid m k rows specs t
    → entry_from h u most rows specs offset e ≡ entry_from h u most (table_rows m t) (table_specs k t) offset e
unfolding entry_from first_entry
entry_laid {m} {k} {rows} {specs} {t} most h u offset e S L =
    in_part (range_from h u offset) ∙ ap (λ (x : List ℕ). and_then (range_from h u offset) (λ s. first_entry most h s (table_rows m t) x offset e)) L.specs_are
  where
    by_state : (s : List ℕ) (r : Answer EntriesRaw) → and_then r (λ w. no_null (raw_entry most w s rows specs)) ≡ and_then r (λ w. no_null (raw_entry most w s (table_rows m t) specs))
    by_state s (got w) = ap no_null (raw_same most w s rows (table_rows m t) specs (lookup_in_order most S L))
    by_state s (refused n) = refl

    in_part : (r : Answer (List ℕ)) → and_then r (λ s. first_entry most h s rows specs offset e) ≡ and_then r (λ s. first_entry most h s (table_rows m t) specs offset e)
    in_part (got s) = by_state s (opened (length s) offset h.encoding e)
    in_part (refused n) = refl
