-- The examples of document 02, request 2, and what each says of the definitions.
use Rattle.std.specs.Prelude.{Bool, true, false, List, [], ◌∷◌, ◌≡◌, ℕ, ℤ, pos, neg_ℤ, length}
use Rattle.reader.specs.Answer.{and_then, gives}
use Rattle.reader.specs.Padded.{uleb_counted_at, sleb_counted_at}
use Rattle.reader.specs.declared.common.Encoding.{Encoding}
use Rattle.reader.specs.declared.endianity.RunTimeEndian.{RunTimeEndian}
use Rattle.abbrev.specs.Table.{Specification}
use Rattle.attribute.specs.Read.{attribute_at}
use Rattle.readings.specs.Marked.{of_form}

pub data Example : Type 0 where
  -- bytes of an unsigned number of 64 bits, its value, and whether fewer would do
  unsigned : List ℕ → ℕ → Bool → Example
  -- the same, signed
  signed : List ℕ → ℤ → Bool → Example
  -- a form, the bytes of a value, and its mark
  value : ℕ → List ℕ → Bool → Example

abbrev pub examples : List Example
examples =
    unsigned (0x80 ∷ 0x00 ∷ []) 0 true
    ∷ unsigned (0xff ∷ 0x00 ∷ []) 127 true
    ∷ signed (0xff ∷ 0x00 ∷ []) (pos 127) false
    ∷ signed (0x80 ∷ 0x7f ∷ []) (neg_ℤ (pos 128)) false
    ∷ signed (0xbf ∷ 0x00 ∷ []) (pos 63) true
    ∷ signed (0xff ∷ 0x7f ∷ []) (neg_ℤ (pos 1)) true
    -- a padded value; an indirect form, padded, of a value that is not; neither; a block of 1 byte behind a padded length
    ∷ value 0x0f (0x80 ∷ 0x00 ∷ []) true
    ∷ value 0x16 (0x8f ∷ 0x00 ∷ 0x2a ∷ []) true
    ∷ value 0x16 (0x0f ∷ 0x2a ∷ []) false
    ∷ value 0x09 (0x81 ∷ 0x00 ∷ 0x2a ∷ []) true
    -- a block of 2 bytes that look like a padded number; a count of one byte
    ∷ value 0x09 (0x02 ∷ 0x80 ∷ 0x00 ∷ []) false
    ∷ value 0x0a (0x00 ∷ []) false
    ∷ []

-- all of the bytes are read, whatever else a value's specification and the encoding have
abbrev pub HoldsExample : Example → Type 0
HoldsExample (unsigned s v b) = uleb_counted_at s 0 64 ≡ gives (record { number = v; count = length s; padded = b }) (length s)
HoldsExample (signed s z b) = sleb_counted_at s 0 64 ≡ gives (record { number = z; count = length s; padded = b }) (length s)
HoldsExample (value f s b) =
    (start : ℕ) (c : Encoding) (e : RunTimeEndian) (x : Specification)
    → and_then (attribute_at s start c e (of_form f x) 0) (λ a. gives a.value.padded a.next) ≡ gives b (length s)
