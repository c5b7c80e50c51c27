-- What `DebugAbbrev::abbreviations` promises.
use Rattle.std.specs.Prelude.{List, ◌≡◌, ℕ, ◌/◌, length, Result}
use Rattle.reader.specs.Answer.{got, and_then}
use Rattle.abbrev.specs.Rows.{Left}
use Rattle.abbrev.specs.Table.{entry_limit, abbreviations_at}
use Rattle.reader.specs.Views.{view}
use Rattle.reader.specs.declared.error.Error.{Error}

-- how many abbreviations the table has, or the refusal, and what is left in the lent words
pub record Tabled (s : List ℕ) (offset : ℕ) (rows₀ specs₀ rows specs : List ℕ) (r : Result ℕ Error) : Type 0 where
  pub is : view r ≡ and_then (abbreviations_at s offset entry_limit (length rows₀ / 5) (length specs₀ / 3)) (λ t. got (length t))
  pub left : Left (length rows₀) (length specs₀) rows specs (abbreviations_at s offset entry_limit (length rows₀ / 5) (length specs₀ / 3))
