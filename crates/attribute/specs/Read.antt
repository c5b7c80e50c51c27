-- Reading values. Sections are those of DWARF 5; what DWARF 2 to 4 have of it stands in their 7.5.4.
use Rattle.std.specs.Prelude.{Bool, cond, List, [], ◌∷◌, ◌++◌, ℕ, zero, suc, ◌+◌, eqb, length}
use Rattle.reader.specs.Answer.{Answer, refused, and_then, Read, gives}
use Rattle.reader.specs.Fields.{word_size, offset_at, address_at, null_terminated_at, skip_at}
use Rattle.reader.specs.Leb128.{uleb_at, sleb_at}
use Rattle.reader.specs.Twos.{word}
use Rattle.reader.specs.Words.{word_at, halves_at}
use Rattle.reader.specs.declared.common.Encoding.{Encoding}
use Rattle.reader.specs.declared.endianity.RunTimeEndian.{RunTimeEndian}
use Rattle.abbrev.specs.Table.{Specification, implicit_const}
use Rattle.attribute.specs.Forms.{indirect, row}
use Rattle.attribute.specs.Padded.{Leb128, any_padded, layout_numbers, after, form_numbers}
use Rattle.attribute.specs.Value.{Attribute, value_under}
use Rattle.attribute.specs.declared.form.Layout.{Layout}
use Rattle.attribute.specs.declared.form.Layout.TheVariants as L
use Rattle.attribute.specs.declared.value.Value.{Value}

-- what stands in the bytes: a number, the low and the high 64 bits, or a place and a length
pub record Numbers : Type 0 where
  pub low : ℕ
  pub high : ℕ

abbrev pub single : ℕ → Numbers
single n = record { low = n; high = 0 }

abbrev pub pair : ℕ → ℕ → Numbers
pair a b = record { low = a; high = b }

-- 7.5.5: a number that was read
unfoldable pub numbered : Answer (Read ℕ) → Answer (Read Numbers)
numbered r = and_then r (λ v. gives (single v.value) v.next)

-- 7.5.5, class constant: DW_FORM_data16
unfoldable pub wide_at : List ℕ → ℕ → RunTimeEndian → Answer (Read Numbers)
wide_at s at e = and_then (halves_at s at e) (λ v. gives (pair v.value.low v.value.high) v.next)

-- 7.5.5, class constant, and 7.6: DW_FORM_sdata, in two's complement
unfoldable pub signed_at : List ℕ → ℕ → Answer (Read Numbers)
signed_at s at = and_then (sleb_at s at 64) (λ v. gives (single (word 64 v.value)) v.next)

-- DWARF 2, 7.5.4: DW_FORM_ref_addr has the width of an address; DWARF 3 and 4, 7.5.4, DWARF 5, 7.5.5: of an offset
abbrev pub ref_addr : {A : Type 0} → Encoding → A → A → A
ref_addr c address offset = cond (eqb c.version 2) address offset

-- the bytes that it has
abbrev pub ref_addr_size : Encoding → ℕ
ref_addr_size c = ref_addr c c.address_size (word_size c.format)

-- and is read so
unfoldable pub ref_addr_at : List ℕ → ℕ → Encoding → RunTimeEndian → Answer (Read ℕ)
ref_addr_at s at c e = ref_addr c (address_at s at c.address_size e) (offset_at s at c.format e)

-- 7.5.5, classes block and exprloc: a count, then as many bytes: their place, counted from `start`, and the count
unfoldable pub block_after : List ℕ → ℕ → Answer (Read ℕ) → Answer (Read Numbers)
block_after s start r =
    and_then r (λ n. and_then (skip_at s n.next n.value) (λ q. gives (pair (start + n.next) n.value) q))

-- 7.5.5, class string: the same of bytes that a zero byte ends
unfoldable pub string_at : List ℕ → ℕ → ℕ → Answer (Read Numbers)
string_at s start at =
    and_then (null_terminated_at s at) (λ v. gives (pair (start + v.value.start) v.value.len) v.next)

-- 7.5.3, DW_FORM_implicit_const; 01, question 18: the constant is the specification's own
unfoldable pub constant_of : Specification → ℕ → Answer (Read Numbers)
constant_of x at = cond (eqb x.form implicit_const) (gives (single x.constant) at) (refused 18)

-- 7.5.5: what stands at a place of a part that starts at `start`
unfoldable pub raw_at : List ℕ → ℕ → Encoding → RunTimeEndian → Specification → Layout → ℕ → Answer (Read Numbers)
raw_at s start c e x L.U8 at = numbered (word_at s at 1 e)
raw_at s start c e x L.U16 at = numbered (word_at s at 2 e)
raw_at s start c e x L.U24 at = numbered (word_at s at 3 e)
raw_at s start c e x L.U32 at = numbered (word_at s at 4 e)
raw_at s start c e x L.U64 at = numbered (word_at s at 8 e)
raw_at s start c e x L.U128 at = wide_at s at e
raw_at s start c e x L.Offset at = numbered (offset_at s at c.format e)
raw_at s start c e x L.Address at = numbered (address_at s at c.address_size e)
raw_at s start c e x L.RefAddr at = numbered (ref_addr_at s at c e)
raw_at s start c e x L.Uleb128 at = numbered (uleb_at s at 64)
raw_at s start c e x L.Sleb128 at = signed_at s at
raw_at s start c e x L.Block1 at = block_after s start (word_at s at 1 e)
raw_at s start c e x L.Block2 at = block_after s start (word_at s at 2 e)
raw_at s start c e x L.Block4 at = block_after s start (word_at s at 4 e)
raw_at s start c e x L.Block at = block_after s start (uleb_at s at 64)
raw_at s start c e x L.NullTerminated at = string_at s start at
raw_at s start c e x L.Present at = gives (single 1) at
raw_at s start c e x L.ImplicitConst at = constant_of x at
raw_at s start c e x L.Unknown at = refused 17

-- 7.5.3: DW_FORM_indirect reads another form, n times at most
unfoldable pub resolve : ℕ → List ℕ → ℕ → ℕ → Answer (Read ℕ)
resolve zero s f at = cond (eqb f indirect) (refused 2) (gives f at)
resolve (suc n) s f at =
    cond (eqb f indirect) (and_then (uleb_at s at 16) (λ r. resolve n s r.value r.next)) (gives f at)

-- 7.5.3: the form that a form is in the end; each takes a byte, so that the bytes run out first (`final_step`)
unfoldable pub final_form : List ℕ → ℕ → ℕ → Answer (Read ℕ)
final_form s f at = resolve (length s) s f at

-- 7.5.5 and 7.5.6: a value by its form's case, before its name is looked at
unfoldable pub form_at : List ℕ → ℕ → Encoding → RunTimeEndian → Specification → ℕ → Answer (Read Value)
form_at s start c e x at =
    and_then (final_form s x.form at)
    (λ f.
    and_then (raw_at s start c e x (row f.value).layout f.next)
    (λ n. gives (record { kind = (row f.value).kind; low = n.value.low; high = n.value.high }) n.next))

-- a value under its specification's name and form, with a mark
abbrev pub attribute : Specification → Bool → Value → Attribute
attribute x padded v = record { name = x.name; form = x.form; padded = padded; value = v }

-- 02, request 2: the LEB128 numbers that are read for a value of a form: those that name its form, then its own
unfoldable pub numbers_at : List ℕ → ℕ → ℕ → List Leb128
numbers_at s f at =
    form_numbers s f at ++ after (final_form s f at) (λ r. layout_numbers (row r.value).layout r.next)

-- gimli's parse_attribute; 02, request 2: the mark says whether one of those numbers is padded
unfoldable pub attribute_at : List ℕ → ℕ → Encoding → RunTimeEndian → Specification → ℕ → Answer (Read Attribute)
attribute_at s start c e x at =
    and_then (form_at s start c e x at)
    (λ v. gives (attribute x (any_padded s (numbers_at s x.form at)) (value_under c x.name v.value)) v.next)

-- 7.5.2: the values of an entry, one after another
unfoldable pub attributes_at : List ℕ → ℕ → Encoding → RunTimeEndian → List Specification → ℕ → Answer (Read (List Attribute))
attributes_at s start c e [] at = gives [] at
attributes_at s start c e (x ∷ xs) at =
    and_then (attribute_at s start c e x at)
    (λ a. and_then (attributes_at s start c e xs a.next) (λ r. gives (a.value ∷ r.value) r.next))
