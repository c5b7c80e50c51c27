-- Document 02, request 2: the LEB128 numbers that are read for a value, and its mark. Sections are those of DWARF 5, as in `Read`.
use Rattle.std.specs.Prelude.{Bool, false, cond, ◌||◌, List, [], ◌∷◌, ℕ, zero, suc, eqb, length}
use Rattle.reader.specs.Answer.{Answer, got, refused, Read}
use Rattle.reader.specs.Leb128.{uleb_at}
use Rattle.reader.specs.Padded.{uleb_counted_at, sleb_counted_at}
use Rattle.reader.specs.declared.answer.Counted.{Counted}
use Rattle.attribute.specs.Forms.{indirect}
use Rattle.attribute.specs.declared.form.Layout.{Layout}
use Rattle.attribute.specs.declared.form.Layout.TheVariants as L

-- a LEB128 number at a place: unsigned of so many bits, or signed
pub data Leb128 : Type 0 where
  unsigned : ℕ → ℕ → Leb128
  signed : ℕ → ℕ → Leb128

abbrev pub mark_of : {A : Type 0} → Answer (Read (Counted A)) → Bool
mark_of (got r) = r.value.padded
mark_of (refused n) = false

-- whether it is padded
unfoldable pub is_padded : List ℕ → Leb128 → Bool
is_padded s (unsigned w at) = mark_of (uleb_counted_at s at w)
is_padded s (signed w at) = mark_of (sleb_counted_at s at w)

-- whether one of them is
unfoldable pub any_padded : List ℕ → List Leb128 → Bool
any_padded s [] = false
any_padded s (n ∷ ns) = is_padded s n || any_padded s ns

-- 7.5.5: the number that a layout has: the value itself, or the length of a block or an expression
unfoldable pub layout_numbers : Layout → ℕ → List Leb128
layout_numbers L.Uleb128 at = unsigned 64 at ∷ []
layout_numbers L.Sleb128 at = signed 64 at ∷ []
layout_numbers L.Block at = unsigned 64 at ∷ []
layout_numbers L.U8 at = []
layout_numbers L.U16 at = []
layout_numbers L.U24 at = []
layout_numbers L.U32 at = []
layout_numbers L.U64 at = []
layout_numbers L.U128 at = []
layout_numbers L.Offset at = []
layout_numbers L.Address at = []
layout_numbers L.RefAddr at = []
layout_numbers L.Block1 at = []
layout_numbers L.Block2 at = []
layout_numbers L.Block4 at = []
layout_numbers L.NullTerminated at = []
layout_numbers L.Present at = []
layout_numbers L.ImplicitConst at = []
layout_numbers L.Unknown at = []

-- what follows a value that was read; nothing after a refusal
abbrev pub after : {A B : Type 0} → Answer A → (A → List B) → List B
after (got a) f = f a
after (refused n) f = []

-- 7.5.3: the numbers by which DW_FORM_indirect names other forms, one more than n at most
unfoldable pub chain : ℕ → List ℕ → ℕ → ℕ → List Leb128
chain zero s f at = cond (eqb f indirect) (unsigned 16 at ∷ []) []
chain (suc n) s f at =
    cond (eqb f indirect) (unsigned 16 at ∷ after (uleb_at s at 16) (λ r. chain n s r.value r.next)) []

-- 7.5.3: all of them; each takes a byte, so that the bytes run out first (`forms_step`)
unfoldable pub form_numbers : List ℕ → ℕ → ℕ → List Leb128
form_numbers s f at = chain (length s) s f at
