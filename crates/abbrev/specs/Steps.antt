-- What the private functions promise of the lent words, step by step.
use Rattle.std.specs.Prelude.{Bool, cond, ◌≡◌, List, [], ◌∷◌, ◌++◌, ℕ, ◌+◌, ◌-◌, ◌*◌, ◌/◌, ◌≤◌, ◌<◌, ltb, leb, length, take, get_or, Option, Result, Ok, Err, MatchOption, MatchResult}
use Rattle.reader.specs.Answer.{Answer, got, refused, gives}
use Rattle.reader.specs.Errors.{number_of}
use Rattle.abbrev.specs.Lookup.{column}
use Rattle.abbrev.specs.Rows.{spec_words, all_specs, row_words, rows_words, rows_from}
use Rattle.abbrev.specs.Table.{Specification, Declaration, entry_limit, specifications_at, declarations_at, with_declaration, has, abbreviations_at}
use Rattle.abbrev.specs.Tabled.{Tabled}
use Rattle.abbrev.specs.declared.builder.TableBuilder.{TableBuilder}
use Rattle.abbrev.specs.declared.table.Head.{Head}
use Rattle.reader.specs.declared.error.Error.{Error}

-- n rows of k words are as they were, and ws after them, if there are m rows
abbrev pub After : ℕ → ℕ → List ℕ → List ℕ → ℕ → List ℕ → Type 0
After k n l ws m l' = m ≤ length l / k → take (m * k) l' ≡ take (n * k) l ++ ws

-- n specifications, in rows from `first` on
pub record Took (s : List ℕ) (at first : ℕ) (l l' : List ℕ) (n q : ℕ) : Type 0 where
  pub xs : List Specification
  pub len : length xs ≡ n
  pub is : specifications_at s entry_limit.over entry_limit.most at ≡ gives xs q
  pub kept : After 3 first l (spec_words xs) (first + n) l'

abbrev pub SpecsRead : List ℕ → ℕ → ℕ → List ℕ → List ℕ → Result (ℕ × ℕ) Error → Type 0
SpecsRead s at first l l' (Ok x) = Took s at first l l' x.0 x.1
SpecsRead s at first l l' (Err e) = specifications_at s entry_limit.over entry_limit.most at ≡ refused (number_of e)

-- seen before, a row, its specifications: 0 where it is to be kept
abbrev pub verdict : Bool → Bool → Bool → ℕ
verdict seen row room = cond seen 14 (cond row (cond room 0 15) 15)

abbrev pub inserted_number : {A : Type 0} → Result A Error → ℕ
inserted_number (Ok _) = 0
inserted_number (Err e) = number_of e

pub record Placed {A : Type 0} (n count free : ℕ) (row l l' : List ℕ) (r : Result A Error) : Type 0 where
  pub is : inserted_number r ≡ verdict (has (get_or row 0 0) (column n l)) (ltb n (length l / 5)) (leb count free)
  pub kept : inserted_number r ≡ 0 → take ((n + 1) * 5) l' ≡ take (n * 5) l ++ row

-- what is left to read, with n rows and `first` specifications in use
abbrev pub rest : List ℕ → ℕ → ℕ → ℕ → List ℕ → List ℕ → Answer (List Declaration)
rest s at n first rows specs = declarations_at s entry_limit (length rows / 5 - n) (length specs / 3 - first) (column n rows) at

-- one abbreviation more
pub record Next (s : List ℕ) (at n first : ℕ) (rows specs rows' specs' : List ℕ) (code count q : ℕ) : Type 0 where
  pub d : Declaration
  pub code_is : d.code ≡ code
  pub count_is : length d.specifications ≡ count
  pub row : n < length rows / 5
  pub room : first + count ≤ length specs / 3
  pub is : rest s at n first rows specs ≡ with_declaration d (rest s q (n + 1) (first + count) rows' specs')
  pub rows_are : take ((n + 1) * 5) rows' ≡ take (n * 5) rows ++ row_words (record { declaration = d; first = first })
  pub specs_are : take ((first + count) * 3) specs' ≡ take (first * 3) specs ++ spec_words d.specifications
  pub column_is : column (n + 1) rows' ≡ column n rows ++ (code ∷ [])

-- no more
pub record Last (s : List ℕ) (at n first : ℕ) (rows specs rows' specs' : List ℕ) : Type 0 where
  pub is : rest s at n first rows specs ≡ got []
  pub same_rows : rows' ≡ rows
  pub same_specs : specs' ≡ specs

-- the same two slices
pub record Same (b b' : TableBuilder) : Type 0 where
  pub rows_kept : b'.rows.ghost_name ≡ b.rows.ghost_name
  pub specs_kept : b'.specs.ghost_name ≡ b.specs.ghost_name
  pub rows_length : length b'.rows.now ≡ length b.rows.now
  pub specs_length : length b'.specs.now ≡ length b.specs.now

-- one row more
pub record More (b b' : TableBuilder) (count : ℕ) : Type 0 where
  pub count_is : b'.count ≡ b.count + 1
  pub used_is : b'.used ≡ b.used + count
  pub specs_are : b'.specs.now ≡ b.specs.now

pub record Inserted {A : Type 0} (b b' : TableBuilder) (h : Head) (count : ℕ) (r : Result A Error) : Type 0 where
  pub same : Same b b'
  pub placed : Placed b.count count (length b.specs.now / 3 - b.used) (h.code ∷ h.tag ∷ h.children ∷ b.used ∷ count ∷ []) b.rows.now b'.rows.now r
  pub more : inserted_number r ≡ 0 → More b b' count

pub record NextIn (s : List ℕ) (at : ℕ) (b b' : TableBuilder) (q : ℕ) : Type 0 where
  pub code : ℕ
  pub count : ℕ
  pub count_is : b'.count ≡ b.count + 1
  pub used_is : b'.used ≡ b.used + count
  pub next : Next s at b.count b.used b.rows.now b.specs.now b'.rows.now b'.specs.now code count q

pub record LastIn (s : List ℕ) (at : ℕ) (b b' : TableBuilder) : Type 0 where
  pub count_is : b'.count ≡ b.count
  pub used_is : b'.used ≡ b.used
  pub last : Last s at b.count b.used b.rows.now b.specs.now b'.rows.now b'.specs.now

pub record Entered (s : List ℕ) (at : ℕ) (b b' : TableBuilder) (r : Result (Option ℕ) Error) : Type 0 where
  pub same : Same b b'
  pub is : MatchResult r
      (λ o. MatchOption o (LastIn s at b b') (NextIn s at b b'))
      (λ e. rest s at b.count b.used b.rows.now b.specs.now ≡ refused (number_of e))

-- a table in n rows and `first` specification rows
pub record Filled (s : List ℕ) (at : ℕ) (rows specs rows' specs' : List ℕ) (n first : ℕ) : Type 0 where
  pub done : List Declaration
  pub count_is : length done ≡ n
  pub row : n ≤ length rows' / 5
  pub room : first ≤ length specs' / 3
  pub used : length (all_specs done) ≡ first
  pub is : declarations_at s entry_limit (length rows / 5) (length specs / 3) [] at ≡ got done
  pub rows_are : take (n * 5) rows' ≡ rows_words (rows_from 0 done)
  pub specs_are : take (first * 3) specs' ≡ spec_words (all_specs done)

-- the whole table, where no row was in use
pub record Built {A : Type 0} (s : List ℕ) (at : ℕ) (b b' : TableBuilder) (r : Result A Error) : Type 0 where
  pub same : Same b b'
  pub is : MatchResult r
      (λ _. Filled s at b.rows.now b.specs.now b'.rows.now b'.specs.now b'.count b'.used)
      (λ e. declarations_at s entry_limit (length b.rows.now / 5) (length b.specs.now / 3) [] at ≡ refused (number_of e))

-- `Tabled` but for what is left after a refusal
abbrev pub Parsed : List ℕ → ℕ → List ℕ → List ℕ → List ℕ → List ℕ → Result ℕ Error → Type 0
Parsed s offset rows₀ specs₀ rows specs r =
    MatchResult r
    (λ n. Tabled s offset rows₀ specs₀ rows specs (Ok n))
    (λ e. abbreviations_at s offset entry_limit (length rows₀ / 5) (length specs₀ / 3) ≡ refused (number_of e))
