-- Values: which case of `AttributeValue` one is, and its numbers.
use Rattle.std.specs.Prelude.{Bool, cond, ◌&&◌, ◌||◌, [], ◌∷◌, ℕ, eqb}
use Rattle.reader.specs.Fields.{word_size}
use Rattle.reader.specs.declared.common.Encoding.{Encoding}
use Rattle.abbrev.specs.Table.{has}
use Rattle.attribute.specs.Forms.{case_of}
use Rattle.attribute.specs.declared.form.Kind.{Kind}
use Rattle.attribute.specs.declared.form.Kind.TheVariants as K
use Rattle.attribute.specs.declared.form.Sort.{Sort}
use Rattle.attribute.specs.declared.form.Sort.TheVariants as S
use Rattle.attribute.specs.declared.value.Value.{Value}

-- a value under its attribute's name and form; 02, request 2: whether a number read for it is padded
pub record Attribute : Type 0 where
  pub name : ℕ
  pub form : ℕ
  pub padded : Bool
  pub value : Value

-- 01, "Values" (DWARF 3, 7.5.4, classes lineptr, loclistptr, macptr and rangelistptr): the names under which forms 06 and 07 are offsets into a section
unfoldable pub allow_section_offset : ℕ → ℕ → Bool
allow_section_offset name version =
    has name (0x02 ∷ 0x10 ∷ 0x19 ∷ 0x2a ∷ 0x2c ∷ 0x40 ∷ 0x43 ∷ 0x46 ∷ 0x48 ∷ 0x4a ∷ 0x4d ∷ 0x55 ∷ 0x79 ∷ [])
    || eqb name 0x38 && (eqb version 2 || eqb version 3)

-- DWARF 3, 7.5.4: such an offset has the bytes of the format's word
unfoldable pub is_section_offset : Encoding → ℕ → ℕ → Bool
is_section_offset c name n = eqb n (word_size c.format) && allow_section_offset name c.version

-- the case under a name, from the form's case and its sort
abbrev pub kind_by : Sort → Encoding → ℕ → Kind → Kind
kind_by (S.Constant n) c name k = cond (is_section_offset c name n) K.SecOffset k
kind_by S.Unsigned c name k = k
kind_by S.Signed c name k = k
kind_by S.Flag c name k = k
kind_by S.Halves c name k = k
kind_by S.Span c name k = k
kind_by S.String c name k = k
kind_by S.Offset c name k = k
kind_by S.Other c name k = k

-- the first number; DWARF 5, 7.5.5, class flag: true unless its byte is 0
abbrev pub low_by : Sort → ℕ → ℕ
low_by S.Flag n = cond (eqb n 0) 0 1
low_by (S.Constant k) n = n
low_by S.Unsigned n = n
low_by S.Signed n = n
low_by S.Halves n = n
low_by S.Span n = n
low_by S.String n = n
low_by S.Offset n = n
low_by S.Other n = n

-- a value under its attribute's name
unfoldable pub value_under : Encoding → ℕ → Value → Value
value_under c name v =
    record {
      kind = kind_by (case_of v.kind).sort c name v.kind;
      low = low_by (case_of v.kind).sort v.low;
      high = v.high;
    }
