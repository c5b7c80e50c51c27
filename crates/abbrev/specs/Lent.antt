-- What calls leave in lent words.
use Rattle.std.specs.Prelude.{◌≡◌, List, ℕ, length, Result}
use Rattle.abbrev.specs.Rows.{Blank}
use Rattle.abbrev.specs.Tabled.{Tabled}
use Rattle.abbrev.specs.declared.lent.LentRows.{LentRows}
use Rattle.reader.specs.declared.error.Error.{Error}

-- the same two slices
pub record Same (l l' : LentRows) : Type 0 where
  pub rows_kept : l'.rows.ghost_name ≡ l.rows.ghost_name
  pub specs_kept : l'.specs.ghost_name ≡ l.specs.ghost_name

-- as many words in each as before
pub record SameLengths (l l' : LentRows) : Type 0 where
  pub rows_length : length l'.rows.now ≡ length l.rows.now
  pub specs_length : length l'.specs.now ≡ length l.specs.now

-- how many abbreviations the table has, or the refusal, and the table's words in the slices
pub record TabledIn (s : List ℕ) (offset : ℕ) (l l' : LentRows) (r : Result ℕ Error) : Type 0 where
  pub same : Same l l'
  pub lengths : SameLengths l l'
  pub tabled : Tabled s offset l.rows.now l.specs.now l'.rows.now l'.specs.now r

-- both slices zero
pub record Wiped (l l' : LentRows) : Type 0 where
  pub same : Same l l'
  pub lengths : SameLengths l l'
  pub blank : Blank l.rows.now l.specs.now l'.rows.now l'.specs.now
