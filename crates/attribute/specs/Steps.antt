-- What the private functions ask for and promise.
use Rattle.std.specs.Prelude.{Bool, true, false, cond, List, ◌≡◌, ℕ, ◌*◌, ◌^◌, ◌<◌, eqb}
use Rattle.reader.specs.Answer.{Answer, got, refused, and_then, Read, gives}
use Rattle.reader.specs.Fields.{is_address_size, skip_at}
use Rattle.abbrev.specs.Table.{implicit_const}
use Rattle.attribute.specs.Forms.{case_of}
use Rattle.attribute.specs.declared.form.Kind.{Kind}
use Rattle.attribute.specs.declared.form.Sort.{Sort}
use Rattle.attribute.specs.declared.form.Sort.TheVariants as S

-- a value with a mark beside it
pub record Noted (A : Type 0) : Type 0 where
  pub value : A
  pub padded : Bool

abbrev pub noted : {A : Type 0} → Bool → Answer (Read A) → Answer (Read (Noted A))
noted b r = and_then r (λ x. gives (record { value = x.value; padded = b }) x.next)

-- the bytes that the first number of a sort has at most
abbrev pub width_by : Sort → ℕ
width_by (S.Constant n) = n
width_by S.Unsigned = 8
width_by S.Signed = 8
width_by S.Flag = 8
width_by S.Halves = 8
width_by S.Span = 8
width_by S.String = 8
width_by S.Offset = 8
width_by S.Other = 8

-- whether there is a second number
abbrev pub is_wide : Sort → Bool
is_wide (S.Constant n) = false
is_wide S.Unsigned = false
is_wide S.Signed = false
is_wide S.Flag = false
is_wide S.Halves = true
is_wide S.Span = true
is_wide S.String = true
is_wide S.Offset = false
is_wide S.Other = false

-- numbers that a value of a kind can have
pub record Fits (k : Kind) (low high : ℕ) : Type 0 where
  pub narrow : width_by (case_of k).sort < 8 → low < 2 ^ (8 * width_by (case_of k).sort)
  pub single : is_wide (case_of k).sort ≡ false → high ≡ 0

-- past an address
abbrev pub passed_address : List ℕ → ℕ → ℕ → Answer ℕ
passed_address s at n = cond (is_address_size n) (skip_at s at n) (refused 7)

-- past a constant that is the specification's own
abbrev pub passed_constant : ℕ → ℕ → Answer ℕ
passed_constant f at = cond (eqb f implicit_const) (got at) (refused 18)
