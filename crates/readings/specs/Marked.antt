-- The readings that document 01 marks, as one list, and what each says of the definitions.
use Rattle.std.specs.Prelude.{List, [], ◌∷◌, ◌++◌, ◌≡◌, ℕ, ◌-◌, ◌^◌, ℤ, pos, neg_ℤ, length, replicate}
use Rattle.std.proofs.Math.Option.{Option, none, some}
use Rattle.reader.specs.Answer.{Answer, got, refused, and_then, Read, gives, end_of}
use Rattle.reader.specs.Leb128.{uleb_at, sleb_at}
use Rattle.reader.specs.declared.common.Encoding.{Encoding}
use Rattle.reader.specs.declared.endianity.RunTimeEndian.{RunTimeEndian}
use Rattle.reader.specs.declared.endianity.RunTimeEndian.TheVariants.{Little}
use Rattle.abbrev.specs.Table.{Specification}
use Rattle.unit.specs.Parse.{debug_info}
use Rattle.unit.specs.Units.{next_unit}
use Rattle.unit.specs.declared.header.UnitHeader.{UnitHeader}
use Rattle.attribute.specs.Read.{attributes_at}
use Rattle.attribute.specs.Skip.{past_values}

-- what is read, and what comes out
pub data Reading : Type 0 where
  -- an unsigned number of so many bits: the bytes, and its value or the refusal
  unsigned : ℕ → List ℕ → Answer ℕ → Reading
  -- the same, signed
  signed : ℕ → List ℕ → Answer ℤ → Reading
  -- the first unit of a little-endian section: the bytes, and its header, none or the refusal
  first_unit : List ℕ → Answer (Option UnitHeader) → Reading
  -- a value: the address width, where it is named, the form, the bytes, and where reading and skipping end
  value : Option ℕ → ℕ → List ℕ → Answer ℕ → Answer ℕ → Reading

-- 01, "Readings": those that are marked, in its order
abbrev pub marked : List Reading
marked =
    unsigned 64 (0xb9 ∷ 0x64 ∷ []) (got 12857)
    ∷ signed 64 (0x81 ∷ 0x7f ∷ []) (got (neg_ℤ (pos 127)))
    ∷ unsigned 64 (replicate 9 0xff ++ (0x01 ∷ [])) (got (2 ^ 64 - 1))
    ∷ unsigned 64 (replicate 9 0xff ++ (0x02 ∷ [])) (refused 3)
    ∷ signed 64 (replicate 9 0x80 ++ (0x7f ∷ [])) (got (neg_ℤ (pos (2 ^ 63))))
    ∷ signed 64 (replicate 9 0x80 ++ (0x01 ∷ [])) (refused 4)
    ∷ unsigned 16 (0xff ∷ 0xff ∷ 0x03 ∷ []) (got 65535)
    ∷ unsigned 16 (0x80 ∷ 0x80 ∷ 0x04 ∷ []) (refused 3)
    ∷ first_unit [] (got none)
    -- a length of 8, version 5, type 7, width 3, table offset 0
    ∷ first_unit (0x08 ∷ 0x00 ∷ 0x00 ∷ 0x00 ∷ 0x05 ∷ 0x00 ∷ 0x07 ∷ 0x03 ∷ 0x00 ∷ 0x00 ∷ 0x00 ∷ 0x00 ∷ []) (refused 7)
    ∷ value none 0x16 (0x21 ∷ []) (refused 18) (got 1)
    ∷ value (some 3) 0x01 (0x01 ∷ 0x02 ∷ 0x03 ∷ []) (refused 7) (got 3)
    ∷ []

-- a value that has all of the bytes
abbrev pub whole : {A : Type 0} → List ℕ → Answer A → Answer (Read A)
whole s r = and_then r (λ v. gives v (length s))

-- any encoding, but with this address width
abbrev pub of_width : Option ℕ → Encoding → Encoding
of_width none c = c
of_width (some n) c = record { address_size = n; format = c.format; version = c.version }

-- any specification, but with this form
abbrev pub of_form : ℕ → Specification → Specification
of_form f x = record { name = x.name; form = f; constant = x.constant }

-- where the only value of an entry ends, read and skipped
pub record Ends (s : List ℕ) (c : Encoding) (x : Specification) (read skipped : Answer ℕ) : Type 0 where
  pub reading : (start : ℕ) (e : RunTimeEndian) → end_of (attributes_at s start c e (x ∷ []) 0) ≡ read
  pub skipping : (e : RunTimeEndian) → past_values s c e (x ∷ []) 0 ≡ skipped

-- the reading comes out so by the definitions, with the bytes alone and from place 0 on; of a value, whatever the start, the order of the
-- bytes, the name, the constant, and what of the encoding it does not name
abbrev pub HoldsReading : Reading → Type 0
HoldsReading (unsigned w s r) = uleb_at s 0 w ≡ whole s r
HoldsReading (signed w s r) = sleb_at s 0 w ≡ whole s r
HoldsReading (first_unit s r) = next_unit debug_info s 0 Little ≡ record { answer = r; offset = length s }
HoldsReading (value w f s read skipped) = (c : Encoding) (x : Specification) → Ends s (of_width w c) (of_form f x) read skipped
