-- A unit's header and its questions (DWARF 2 to 5, section 7.5.1; DWARF 4 and 5 divide it).
use Rattle.std.specs.Prelude.{Bool, cond, ◌&&◌, ℕ, ◌+◌, ◌-◌, ◌*◌, ◌^◌, leb, ltb, eqb}
use Rattle.reader.specs.Answer.{Answer, got, refused}
use Rattle.reader.specs.Fields.{word_size, initial_length_size, is_address_size}
use Rattle.reader.specs.Sizes.{max_section}
use Rattle.unit.specs.declared.header.UnitHeader.{UnitHeader}
use Rattle.unit.specs.declared.header.UnitType.{UnitType}
use Rattle.unit.specs.declared.header.UnitType.TheVariants.{Compilation, «Type», Partial, Skeleton, SplitCompilation, SplitType}

-- DW_UT_compile, .. (DWARF 5, table 7.2)
abbrev pub type_number : UnitType → ℕ
type_number Compilation = 1
type_number («Type» s o) = 2
type_number Partial = 3
type_number (Skeleton i) = 4
type_number (SplitCompilation i) = 5
type_number (SplitType s o) = 6

-- DWARF 5, 7.5.1.2 and 7.5.1.3: the bytes of a dwo_id, or of a signature and a type offset
abbrev pub type_size : UnitType → ℕ → ℕ
type_size Compilation word = 0
type_size («Type» s o) word = 8 + word
type_size Partial word = 0
type_size (Skeleton i) word = 8
type_size (SplitCompilation i) word = 8
type_size (SplitType s o) word = 8 + word

-- 7.5.1: length, version, table offset and address width, what the type adds, and the type in version 5
unfoldable pub size_of_header : UnitHeader → ℕ
size_of_header h =
    initial_length_size h.encoding.format + 3 + word_size h.encoding.format
    + type_size h.unit_type (word_size h.encoding.format)
    + cond (eqb h.encoding.version 5) 1 0

-- 7.5.1, unit_length: where the unit ends, from its first byte
abbrev pub unit_end : UnitHeader → ℕ
unit_end h = initial_length_size h.encoding.format + h.unit_length

-- 1 where no section is so long
unfoldable pub length_including_self : UnitHeader → Answer ℕ
length_including_self h = cond (leb (unit_end h) max_section) (got (unit_end h)) (refused 1)

-- 01: from the header's size up to, not including, the unit's end
unfoldable pub in_bounds : UnitHeader → ℕ → Bool
in_bounds h offset = leb (size_of_header h) offset && ltb offset (unit_end h)

-- gimli's min_tombstone: -2 of the unit's address width, and every address above it; 7 for another width
unfoldable pub tombstone : UnitHeader → ℕ → Answer Bool
tombstone h address =
    cond (is_address_size h.encoding.address_size)
    (got (leb (2 ^ (8 * h.encoding.address_size) - 2) address))
    (refused 7)
