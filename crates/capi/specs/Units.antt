-- An entry by the offsets of its unit and in it, and a type entry by its signature.
use Rattle.std.specs.Prelude.{List, ◌++◌, ◌≡◌, ℕ, length, Result}
use Rattle.std.specs.Borrow.{Bor}
use Rattle.reader.specs.Views.{view_by}
use Rattle.reader.specs.declared.error.Error.{Error}
use Rattle.unit.specs.declared.header.UnitHeader.{UnitHeader}
use Rattle.reader.specs.Answer.{Answer, got, and_then}
use Rattle.reader.specs.declared.endianity.RunTimeEndian.{RunTimeEndian}
use Rattle.abbrev.specs.Rows.{Left}
use Rattle.abbrev.specs.Table.{entry_limit}
use Rattle.unit.specs.Parse.{debug_info, debug_types, header_at}
use Rattle.unit.specs.Range.{unit_bytes}
use Rattle.entries.specs.Entry.{Entry}
use Rattle.entries.specs.Open.{entry_from}
use Rattle.typeunit.specs.Search.{type_unit}
use Rattle.typeunit.specs.Types.{TypeUnit, type_table, type_entry}
use Rattle.capi.specs.Words.{Gives, header_words, entry_words}

-- the header at an offset of .debug_info, and its unit's bytes
unfoldable pub unit_in : List ℕ → ℕ → RunTimeEndian → Answer (UnitHeader × List ℕ)
unit_in s unit e = and_then (header_at debug_info s unit e) (λ h. and_then (unit_bytes h.value s) (λ u. got (h.value, u)))

-- both as they are handed back, the bytes out of the caller's section
abbrev pub HandedUnit : Answer (UnitHeader × List ℕ) → Result (UnitHeader × Bor (List ℕ)) Error → Type 0
HandedUnit d r = view_by (λ x. (x.0, x.1.now)) r ≡ d

-- the entry at an offset of the unit at an offset of its section
unfoldable pub entry_in : ℕ → List ℕ → ℕ → ℕ → RunTimeEndian → List ℕ → List ℕ → Answer Entry
entry_in most s unit offset e rows specs =
    and_then (header_at debug_info s unit e)
    (λ h. and_then (unit_bytes h.value s) (λ u. entry_from h.value u most rows specs offset e))

-- a header, then an entry
abbrev pub type_unit_words : TypeUnit → List ℕ
type_unit_words x = header_words x.header ++ entry_words x.entry

-- what `tehkumir_type_entry` promises: the first unit of .debug_types with the signature and its type entry, or the refusal, and what is left in the lent rows
pub record TypeReadAs (abbrevs types : List ℕ) (sig : ℕ) (e : RunTimeEndian) (rows₀ specs₀ rows specs before after : List ℕ) (r : ℕ) : Type 0 where
  pub is : Gives type_unit_words (type_entry entry_limit abbrevs types e (length rows₀) (length specs₀) (type_unit debug_types abbrevs types sig e)) before after r
  pub left : Left (length rows₀) (length specs₀) rows specs (type_table entry_limit abbrevs types e (length rows₀) (length specs₀) (type_unit debug_types abbrevs types sig e))
