-- Sizes by form, and skipping.
use Rattle.std.specs.Prelude.{List, [], ◌∷◌, ℕ}
use Rattle.std.proofs.Math.Option.{Option, none, some}
use Rattle.reader.specs.Answer.{Answer, got, refused, and_then, Read}
use Rattle.reader.specs.Fields.{word_size, skip_at}
use Rattle.reader.specs.Leb128.{uleb_at, past_at}
use Rattle.reader.specs.Words.{word_at}
use Rattle.reader.specs.declared.common.Encoding.{Encoding}
use Rattle.reader.specs.declared.endianity.RunTimeEndian.{RunTimeEndian}
use Rattle.abbrev.specs.Table.{Specification}
use Rattle.attribute.specs.Forms.{row}
use Rattle.attribute.specs.Read.{ref_addr_size, final_form}
use Rattle.attribute.specs.declared.form.Layout.{Layout}
use Rattle.attribute.specs.declared.form.Layout.TheVariants as L

-- DWARF 5, 7.5.5 and 7.5.6; DWARF 2 to 4, 7.5.4: what says where a value ends
pub data Ending : Type 0 where
  -- so many bytes, whatever they are
  sized : ℕ → Ending
  -- the first byte below a number: 128 for LEB128, 1 for a string
  ended : ℕ → Ending
  -- a count in a word of so many bytes, then as many bytes
  counted : ℕ → Ending
  -- the same after an unsigned LEB128 number
  measured : Ending
  -- 01, question 17
  unknown : Ending

-- the same by the layout of a form
unfoldable pub ending_of : Encoding → Layout → Ending
ending_of c L.U8 = sized 1
ending_of c L.U16 = sized 2
ending_of c L.U24 = sized 3
ending_of c L.U32 = sized 4
ending_of c L.U64 = sized 8
ending_of c L.U128 = sized 16
ending_of c L.Offset = sized (word_size c.format)
ending_of c L.Address = sized c.address_size
ending_of c L.RefAddr = sized (ref_addr_size c)
ending_of c L.Present = sized 0
ending_of c L.ImplicitConst = sized 0
ending_of c L.Uleb128 = ended 128
ending_of c L.Sleb128 = ended 128
ending_of c L.Block1 = counted 1
ending_of c L.Block2 = counted 2
ending_of c L.Block4 = counted 4
ending_of c L.Block = measured
ending_of c L.NullTerminated = ended 1
ending_of c L.Unknown = unknown

-- the bytes that a value has whatever they are; none where they decide
abbrev pub size_of : Ending → Option ℕ
size_of (sized n) = some n
size_of (ended m) = none
size_of (counted n) = none
size_of measured = none
size_of unknown = none

-- 01, `get_attribute_size`: sizes by form
unfoldable pub attribute_size : ℕ → Encoding → Option ℕ
attribute_size f c = size_of (ending_of c (row f).layout)

-- DWARF 5, 7.5.5, class block: past a count and as many bytes
unfoldable pub past_block : List ℕ → Answer (Read ℕ) → Answer ℕ
past_block s r = and_then r (λ n. skip_at s n.next n.value)

-- past a value, nothing of it judged but where it ends
abbrev pub past_ending : List ℕ → RunTimeEndian → Ending → ℕ → Answer ℕ
past_ending s e (sized n) at = skip_at s at n
past_ending s e (ended m) at = past_at s at m
past_ending s e (counted n) at = past_block s (word_at s at n e)
past_ending s e measured at = past_block s (uleb_at s at 64)
past_ending s e unknown at = refused 17

-- the same by the layout of a form
unfoldable pub past_layout : List ℕ → Encoding → RunTimeEndian → Layout → ℕ → Answer ℕ
past_layout s c e l at = past_ending s e (ending_of c l) at

-- the same of a form, after DW_FORM_indirect
unfoldable pub past_value : List ℕ → Encoding → RunTimeEndian → ℕ → ℕ → Answer ℕ
past_value s c e f at = and_then (final_form s f at) (λ r. past_layout s c e (row r.value).layout r.next)

-- gimli's skip_attributes. gimli sums sizes and moves late; where its sum wraps in a release build it goes on, and here the
-- answer is 2 (01, "Slips the bytes invite"); else the two agree
unfoldable pub past_values : List ℕ → Encoding → RunTimeEndian → List Specification → ℕ → Answer ℕ
past_values s c e [] at = got at
past_values s c e (x ∷ xs) at = and_then (past_value s c e x.form at) (λ p. past_values s c e xs p)
