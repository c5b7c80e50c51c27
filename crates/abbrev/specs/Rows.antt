-- A table in two lent slices of words: five for an abbreviation, three for a specification.
use Rattle.std.specs.Prelude.{◌≡◌, ℕ, ◌+◌, ◌-◌, ◌*◌, length, replicate}
use mathlib.Core.List.{List, [], ◌∷◌, ◌++◌, Permᴰ}
use Rattle.reader.specs.Answer.{Answer, got, refused}
use Rattle.abbrev.specs.Table.{Specification, Declaration}

-- the words of both slices
pub record Table : Type 0 where
  pub rows : List ℕ
  pub specs : List ℕ

-- name, form and constant of each
abbrev pub spec_words : List Specification → List ℕ
spec_words [] = []
spec_words (x ∷ xs) = x.name ∷ x.form ∷ x.constant ∷ spec_words xs

-- the specifications of a table, declaration by declaration
abbrev pub all_specs : List Declaration → List Specification
all_specs [] = []
all_specs (d ∷ ds) = d.specifications ++ all_specs ds

-- a declaration, and the row of its first specification
pub record Row : Type 0 where
  pub declaration : Declaration
  pub first : ℕ

-- code, tag, children, first specification row and count
abbrev pub row_words : Row → List ℕ
row_words r = r.declaration.code ∷ r.declaration.tag ∷ r.declaration.children ∷ r.first ∷ length r.declaration.specifications ∷ []

abbrev pub rows_words : List Row → List ℕ
rows_words [] = []
rows_words (r ∷ rs) = row_words r ++ rows_words rs

-- the rows of a table in file order: the specifications follow each other from a row on
abbrev pub rows_from : ℕ → List Declaration → List Row
rows_from first [] = []
rows_from first (d ∷ ds) = record { declaration = d; first = first } ∷ rows_from (first + length d.specifications) ds

-- a table in so many lent words, in file order
abbrev pub table_rows : ℕ → List Declaration → List ℕ
table_rows m t = rows_words (rows_from 0 t) ++ replicate (m - length t * 5) 0

abbrev pub table_specs : ℕ → List Declaration → List ℕ
table_specs k t = spec_words (all_specs t) ++ replicate (k - length (all_specs t) * 3) 0

-- the words of a table and zeros behind them. 01 leaves one thing open, which row holds which abbreviation: `row_choice`
pub record Laid (rows_length specs_length : ℕ) (rows specs : List ℕ) (t : List Declaration) : Type 0 where
  pub row_choice : List Row
  pub all : Permᴰ row_choice (rows_from 0 t)
  pub rows_are : rows ≡ rows_words row_choice ++ replicate (rows_length - length t * 5) 0
  pub specs_are : specs ≡ spec_words (all_specs t) ++ replicate (specs_length - length (all_specs t) * 3) 0

-- what an answer leaves in slices of so many words: the table, or zeros for a refusal
abbrev pub Left : ℕ → ℕ → List ℕ → List ℕ → Answer (List Declaration) → Type 0
Left m k rows specs (got t) = Laid m k rows specs t
Left m k rows specs (refused n) = (rows ≡ replicate m 0) × (specs ≡ replicate k 0)

-- both slices zero
pub record Blank (rows₀ specs₀ rows specs : List ℕ) : Type 0 where
  pub no_rows : rows ≡ replicate (length rows₀) 0
  pub no_specs : specs ≡ replicate (length specs₀) 0
