-- What `open_unit` and `open_unit_in` promise.
use Rattle.std.specs.Prelude.{◌≡◌, List, ℕ, ◌/◌, length, Result}
use Rattle.reader.specs.Views.{view_by}
use Rattle.reader.specs.declared.endianity.RunTimeEndian.{RunTimeEndian}
use Rattle.reader.specs.declared.error.Error.{Error}
use Rattle.abbrev.specs.Lent.{Same, SameLengths}
use Rattle.abbrev.specs.Rows.{Left}
use Rattle.abbrev.specs.Table.{entry_limit}
use Rattle.abbrev.specs.declared.lent.LentRows.{LentRows}
use Rattle.unit.specs.Parse.{UnitSection}
use Rattle.unit.specs.declared.header.UnitHeader.{UnitHeader}
use Rattle.entries.specs.Open.{own_table, unit_from}
use Rattle.entries.specs.Views.{view_unit}
use Rattle.entries.specs.declared.cursor.EntriesCursor.{EntriesCursor}

-- the header and the cursor, or the refusal; and in the lent words the header's own table, or zeros
pub record Opened (sec : UnitSection) (abbrevs units : List ℕ) (offset : ℕ) (e : RunTimeEndian) (rows₀ specs₀ rows specs : List ℕ) (r : Result (UnitHeader × EntriesCursor) Error) : Type 0 where
  pub is : view_by view_unit r ≡ unit_from sec abbrevs units offset e entry_limit (length rows₀ / 5) (length specs₀ / 3)
  pub left : Left (length rows₀) (length specs₀) rows specs (own_table sec abbrevs units offset e entry_limit (length rows₀ / 5) (length specs₀ / 3))

-- the same in the lent words
pub record OpenedIn (sec : UnitSection) (abbrevs units : List ℕ) (offset : ℕ) (e : RunTimeEndian) (l l' : LentRows) (r : Result (UnitHeader × EntriesCursor) Error) : Type 0 where
  pub same : Same l l'
  pub lengths : SameLengths l l'
  pub opened : Opened sec abbrevs units offset e l.rows.now l.specs.now l'.rows.now l'.specs.now r
