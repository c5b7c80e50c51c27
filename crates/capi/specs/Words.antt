-- Answers as words, for callers in other languages: a status, and words in a lent slice.
use Rattle.std.specs.Prelude.{Bool, cond, List, [], ◌∷◌, ◌++◌, ◌≡◌, ℕ, ◌≤◌, eqb, ℤ, length, take, replicate}
use Rattle.std.proofs.Math.Option.{Option, none, some}
use Rattle.reader.specs.Answer.{Answer, got, refused, Read}
use Rattle.reader.specs.Fields.{word_size, address_at}
use Rattle.reader.specs.Twos.{word}
use Rattle.reader.specs.Words.{word_at}
use Rattle.reader.specs.declared.answer.Counted.{Counted}
use Rattle.reader.specs.declared.answer.Initial.{Initial}
use Rattle.reader.specs.declared.common.Encoding.{Encoding}
use Rattle.reader.specs.declared.common.Format.TheVariants.{Dwarf32, Dwarf64}
use Rattle.reader.specs.declared.endianity.RunTimeEndian.{RunTimeEndian}
use Rattle.reader.specs.declared.endianity.RunTimeEndian.TheVariants.{Little, Big}
use Rattle.abbrev.specs.Lookup.{Found}
use Rattle.abbrev.specs.Table.{Specification}
use Rattle.unit.specs.Header.{type_number, size_of_header}
use Rattle.unit.specs.Units.{Advanced}
use Rattle.unit.specs.declared.header.UnitHeader.{UnitHeader}
use Rattle.unit.specs.declared.header.UnitType.{UnitType}
use Rattle.unit.specs.declared.header.UnitType.TheVariants.{Compilation, «Type», Partial, Skeleton, SplitCompilation, SplitType}
use Rattle.attribute.specs.Forms.{case_of}
use Rattle.attribute.specs.Value.{Attribute}
use Rattle.entries.specs.Entry.{Entry}

-- ---- what is handed back

-- the words, then zeros, as many as are lent
abbrev pub fill : ℕ → List ℕ → List ℕ
fill n ws = take n (ws ++ replicate n 0)

-- a status is returned, and the lent slice has the words
pub record Says (status : ℕ) (ws before after : List ℕ) (r : ℕ) : Type 0 where
  pub status_is : r ≡ status
  pub words_are : after ≡ fill (length before) ws

-- 0, or the number of the refusal
abbrev pub status_of : {A : Type 0} → Answer A → ℕ
status_of (got a) = 0
status_of (refused n) = n

-- the words of a value; none after a refusal
abbrev pub words_or : {A : Type 0} → (A → List ℕ) → Answer A → List ℕ
words_or f (got a) = f a
words_or f (refused n) = []

-- an answer whose value has words
abbrev pub Gives : {A : Type 0} → (A → List ℕ) → Answer A → List ℕ → List ℕ → ℕ → Type 0
Gives f x before after r = Says (status_of x) (words_or f x) before after r

-- 1 and the words of what is there, or 0
abbrev pub if_there : {A : Type 0} → (A → List ℕ) → Option A → List ℕ
if_there f none = 0 ∷ []
if_there f (some a) = 1 ∷ f a

abbrev pub bit : Bool → ℕ
bit b = cond b 1 0

-- ---- what is asked by numbers

abbrev pub endian_of : Bool → RunTimeEndian
endian_of b = cond b Big Little

abbrev pub encoding_of : ℕ → Bool → ℕ → Encoding
encoding_of version is64 width = record { address_size = width; format = cond is64 Dwarf64 Dwarf32; version = version }

abbrev pub specification_by : ℕ → ℕ → ℕ → Specification
specification_by name form constant = record { name = name; form = form; constant = constant }

-- a word of 1, 2, 3, 4 or 8 bytes; 7 for another width
abbrev pub sized_word_at : List ℕ → ℕ → ℕ → RunTimeEndian → Answer (Read ℕ)
sized_word_at s at n e = cond (eqb n 3) (word_at s at 3 e) (address_at s at n e)

-- ---- the words of a value

-- a number and the next place
abbrev pub read_words : Read ℕ → List ℕ
read_words x = x.value ∷ x.next ∷ []

-- a LEB128 number, the next place, how many bytes it has, and whether fewer would do
abbrev pub counted_words : Read (Counted ℕ) → List ℕ
counted_words x = x.value.number ∷ x.next ∷ x.value.count ∷ bit x.value.padded ∷ []

-- a signed number is in two's complement of 64 bits
abbrev pub signed_words : Read (Counted ℤ) → List ℕ
signed_words x = word 64 x.value.number ∷ x.next ∷ x.value.count ∷ bit x.value.padded ∷ []

abbrev pub place_words : ℕ → List ℕ
place_words p = p ∷ []

-- the length, the bytes of the format's words, the next place
abbrev pub initial_words : Read Initial → List ℕ
initial_words x = x.value.unit_length ∷ word_size x.value.format ∷ x.next ∷ []

-- the signature and the type's offset, or the dwo_id
abbrev pub type_words : UnitType → List ℕ
type_words Compilation = []
type_words («Type» s o) = s ∷ o ∷ []
type_words Partial = []
type_words (Skeleton i) = i ∷ []
type_words (SplitCompilation i) = i ∷ []
type_words (SplitType s o) = s ∷ o ∷ []

-- offset, length, version, bytes of a word and of an address, table offset, header's size, number of the type, and what only that type has
abbrev pub header_words : UnitHeader → List ℕ
header_words h =
    h.offset ∷ h.unit_length ∷ h.encoding.version ∷ word_size h.encoding.format ∷ h.encoding.address_size
    ∷ h.debug_abbrev_offset ∷ size_of_header h ∷ type_number h.unit_type ∷ type_words h.unit_type

abbrev pub read_header_words : Read UnitHeader → List ℕ
read_header_words x = header_words x.value

-- where the list of units goes on, and the header or none
abbrev pub advanced_words : Advanced → List ℕ
advanced_words x = x.offset ∷ words_or (if_there header_words) x.answer

-- code, tag, children, first specification row, count
abbrev pub found_words : Found → List ℕ
found_words f = f.code ∷ f.tag ∷ f.children ∷ f.first ∷ f.count ∷ []

-- name, form, the number of the case, its two numbers and the mark
abbrev pub attribute_words : Attribute → List ℕ
attribute_words a = a.name ∷ a.form ∷ (case_of a.value.kind).number ∷ a.value.low ∷ a.value.high ∷ bit a.padded ∷ []

abbrev pub read_attribute_words : Read Attribute → List ℕ
read_attribute_words x = x.next ∷ attribute_words x.value

abbrev pub attributes_words : List Attribute → List ℕ
attributes_words [] = []
attributes_words (a ∷ rest) = attribute_words a ++ attributes_words rest

-- offset, depth in two's complement, tag, children, count, and the values that the entry has
abbrev pub entry_words : Entry → List ℕ
entry_words e = e.offset ∷ word 64 e.depth ∷ e.tag ∷ bit e.children ∷ e.count ∷ attributes_words (take e.count e.attrs)

-- ---- words stored one after another

-- the words from `at` on, as far as there is room, up to r
pub record Put (before after : List ℕ) (at r : ℕ) (ws : List ℕ) : Type 0 where
  pub inside : r ≤ length before
  pub words : take r after ≡ take (length before) (take at before ++ ws)
