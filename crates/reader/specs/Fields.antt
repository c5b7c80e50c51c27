-- Fields that headers and values share (DWARF 2 to 5; DWARF 2 has the 32-bit format alone).
use Rattle.std.specs.Prelude.{Bool, cond, ◌||◌, List, ℕ, ◌+◌, ◌-◌, leb, ltb, eqb}
use Rattle.std.proofs.Math.ListN as list
use Rattle.reader.specs.Answer.{Answer, got, refused, and_then, Read, gives}
use Rattle.reader.specs.Words.{word_at}
use Rattle.reader.specs.Leb128.{past_at}
use Rattle.reader.specs.declared.answer.Initial.{Initial}
use Rattle.reader.specs.declared.answer.Span.{Span}
use Rattle.reader.specs.declared.common.Format.{Format}
use Rattle.reader.specs.declared.common.Format.TheVariants.{Dwarf32, Dwarf64}
use Rattle.reader.specs.declared.endianity.RunTimeEndian.{RunTimeEndian}
use Rattle.reader.specs.declared.endianity.RunTimeEndian.TheVariants.{Little}

-- DWARF 3 to 5, 7.4: the bytes of an offset or a length
abbrev pub word_size : Format → ℕ
word_size Dwarf32 = 4
word_size Dwarf64 = 8

-- DWARF 3 to 5, 7.4: the bytes of an initial length, 0xffffffff before the 8 among them
abbrev pub initial_length_size : Format → ℕ
initial_length_size Dwarf32 = 4
initial_length_size Dwarf64 = 12

-- DWARF 3 to 5, 7.4: an offset or a length in its format
unfoldable pub offset_at : List ℕ → ℕ → Format → RunTimeEndian → Answer (Read ℕ)
offset_at s at f e = word_at s at (word_size f) e

-- 7.4: the length of what follows after 0xffffffff, and the format
unfoldable pub long_length_at : List ℕ → ℕ → RunTimeEndian → Answer (Read Initial)
long_length_at s at e =
    and_then (word_at s at 8 e) (λ r. gives (record { unit_length = r.value; format = Dwarf64 }) r.next)

-- DWARF 3 to 5, 7.2.2 and 7.4: an initial length; 01, question 5
unfoldable pub initial_length_at : List ℕ → ℕ → RunTimeEndian → Answer (Read Initial)
initial_length_at s at e =
    and_then (word_at s at 4 e)
    (λ r.
    cond (ltb r.value 0xfffffff0)
    (gives (record { unit_length = r.value; format = Dwarf32 }) r.next)
    (cond (eqb r.value 0xffffffff) (long_length_at s r.next e) (refused 5)))

-- 01, question 7: the widths that an address can have
unfoldable pub is_address_size : ℕ → Bool
is_address_size n = eqb n 1 || eqb n 2 || eqb n 4 || eqb n 8

-- 7.5.1: a header's byte that is such a width
unfoldable pub address_size_at : List ℕ → ℕ → Answer (Read ℕ)
address_size_at s at = and_then (word_at s at 1 Little) (λ r. cond (is_address_size r.value) (got r) (refused 7))

-- DWARF 5, 7.5.5, class address; DWARF 2 to 4, 7.5.4: an address, or an offset of version 2, of n bytes; the width is judged before the bytes
unfoldable pub address_at : List ℕ → ℕ → ℕ → RunTimeEndian → Answer (Read ℕ)
address_at s at n e = cond (is_address_size n) (word_at s at n e) (refused 7)

-- DWARF 5, 7.5.5, class string; DWARF 2 to 4, 7.5.4: bytes that end with a zero byte, without it
unfoldable pub null_terminated_at : List ℕ → ℕ → Answer (Read Span)
null_terminated_at s at = and_then (past_at s at 1) (λ p. gives (record { start = at; len = p - 1 - at }) p)

-- past n bytes, if they are there
unfoldable pub skip_at : List ℕ → ℕ → ℕ → Answer ℕ
skip_at s at n = cond (leb (at + n) (list.length s)) (got (at + n)) (refused 2)
