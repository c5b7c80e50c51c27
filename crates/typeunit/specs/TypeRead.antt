-- What `type_entry` promises.
use Rattle.std.specs.Prelude.{◌≡◌, List, ℕ, length, Result}
use Rattle.reader.specs.Answer.{Answer}
use Rattle.reader.specs.declared.endianity.RunTimeEndian.{RunTimeEndian}
use Rattle.abbrev.specs.Lent.{Same, SameLengths}
use Rattle.abbrev.specs.Rows.{Left}
use Rattle.abbrev.specs.Table.{entry_limit}
use Rattle.abbrev.specs.declared.lent.LentRows.{LentRows}
use Rattle.unit.specs.declared.header.UnitHeader.{UnitHeader}
use Rattle.typeunit.specs.Types.{type_table, type_entry}
use Rattle.typeunit.specs.Views.{view_type}
use Rattle.entries.specs.declared.entry.Entry.{Entry}
use Rattle.reader.specs.Views.{view_by}
use Rattle.reader.specs.declared.error.Error.{Error}

-- of a unit or its refusal: the header and the entry, or the refusal; and in the lent words the unit's own table, or zeros where none was read
pub record TypeRead (abbrevs units : List ℕ) (e : RunTimeEndian) (unit : Answer UnitHeader) (rows₀ specs₀ rows specs : List ℕ) (r : Result (UnitHeader × Entry) Error) : Type 0 where
  pub is : view_by view_type r ≡ type_entry entry_limit abbrevs units e (length rows₀) (length specs₀) unit
  pub left : Left (length rows₀) (length specs₀) rows specs (type_table entry_limit abbrevs units e (length rows₀) (length specs₀) unit)

-- the same in the lent words
pub record TypeReadIn (abbrevs units : List ℕ) (e : RunTimeEndian) (unit : Answer UnitHeader) (l l' : LentRows) (r : Result (UnitHeader × Entry) Error) : Type 0 where
  pub same : Same l l'
  pub lengths : SameLengths l l'
  pub read : TypeRead abbrevs units e unit l.rows.now l.specs.now l'.rows.now l'.specs.now r
