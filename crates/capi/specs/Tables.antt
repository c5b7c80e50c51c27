-- What `tehkumir_abbreviations` promises.
use Rattle.std.specs.Prelude.{List, [], ◌∷◌, ℕ, ◌/◌, length}
use Rattle.abbrev.specs.Rows.{Left}
use Rattle.abbrev.specs.Table.{Declaration, entry_limit, abbreviations_at}
use Rattle.capi.specs.Words.{Gives}

-- how many abbreviations there are
abbrev pub table_words : List Declaration → List ℕ
table_words t = length t ∷ []

-- how many abbreviations the table has, or the refusal, and what is left in the lent rows
pub record TabledAs (s : List ℕ) (offset : ℕ) (rows₀ specs₀ rows specs before after : List ℕ) (r : ℕ) : Type 0 where
  pub is : Gives table_words (abbreviations_at s offset entry_limit (length rows₀ / 5) (length specs₀ / 3)) before after r
  pub left : Left (length rows₀) (length specs₀) rows specs (abbreviations_at s offset entry_limit (length rows₀ / 5) (length specs₀ / 3))
