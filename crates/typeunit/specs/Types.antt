-- A type entry by its signature (document 02, request 1).
use Rattle.std.specs.Prelude.{List, ℕ, ◌/◌}
use Rattle.reader.specs.Answer.{Answer, got, and_then}
use Rattle.reader.specs.declared.endianity.RunTimeEndian.{RunTimeEndian}
use Rattle.abbrev.specs.Rows.{table_rows, table_specs}
use Rattle.abbrev.specs.Table.{Limit, Declaration, abbreviations_at}
use Rattle.unit.specs.Range.{unit_bytes}
use Rattle.unit.specs.declared.header.UnitHeader.{UnitHeader}
use Rattle.entries.specs.Entry.{Entry}
use Rattle.entries.specs.Open.{entry_from}
use Rattle.typeunit.specs.Search.{type_offset}

-- a unit, and its type entry
pub record TypeUnit : Type 0 where
  pub header : UnitHeader
  pub entry : Entry

-- a unit of a section, and with a table in rows gimli's `entry` at the type's offset, which is read raw at depth 0
unfoldable pub with_entry : ℕ → List ℕ → List ℕ → List ℕ → RunTimeEndian → UnitHeader → Answer TypeUnit
with_entry most units rows specs e h =
    and_then (unit_bytes h units)
    (λ u. and_then (entry_from h u most rows specs (type_offset h) e) (λ x. got (record { header = h; entry = x })))

module _ (l : Limit) (abbrevs units : List ℕ) (e : RunTimeEndian) (m k : ℕ) (unit : Answer UnitHeader) where
  -- behind the unit's questions the table that its own header points to, in m and k lent words
  unfoldable pub type_table : Answer (List Declaration)
  type_table = and_then unit (λ h. abbreviations_at abbrevs h.debug_abbrev_offset l (m / 5) (k / 3))

  -- behind the table's questions the entry
  unfoldable pub type_entry : Answer TypeUnit
  type_entry = and_then unit (λ h. and_then type_table (λ t. with_entry l.most units (table_rows m t) (table_specs k t) e h))
