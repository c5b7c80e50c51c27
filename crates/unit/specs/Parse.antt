-- A unit header read (DWARF 2 to 5, section 7.5.1). The section and the versions let in are parameters.
use Rattle.std.specs.Prelude.{cond, ◌&&◌, List, ℕ, leb, eqb, length, take}
use Rattle.reader.specs.Answer.{Answer, refused, and_then, Read, gives}
use Rattle.reader.specs.declared.answer.Initial.{Initial}
use Rattle.reader.specs.Fields.{initial_length_at, address_size_at, offset_at, skip_at}
use Rattle.reader.specs.Sizes.{max_section}
use Rattle.reader.specs.Words.{word_at}
use Rattle.reader.specs.declared.common.Format.{Format}
use Rattle.reader.specs.declared.endianity.RunTimeEndian.{RunTimeEndian}
use Rattle.reader.specs.declared.endianity.RunTimeEndian.TheVariants.{Little}
use Rattle.unit.specs.declared.header.UnitHeader.{UnitHeader}
use Rattle.unit.specs.declared.header.UnitType.{UnitType}
use Rattle.unit.specs.declared.header.UnitType.TheVariants.{Compilation, «Type», Partial, Skeleton, SplitCompilation, SplitType}
use Rattle.unit.specs.declared.parse.Common.{Common}
use Rattle.unit.specs.declared.parse.Signature.{Signature}
use Rattle.unit.specs.declared.parse.SectionId.{SectionId}
use Rattle.unit.specs.declared.parse.SectionId.TheVariants as section

-- a section of units: the number of the unit type that it has before version 5, and the refusal of a version in a format, 0 where it is let in
pub record UnitSection : Type 0 where
  pub older : ℕ
  pub judge : ℕ → Format → ℕ

-- 01, question 6: versions 2 to 5, in either format
abbrev pub two_to_five : ℕ → Format → ℕ
two_to_five version format = cond (leb 2 version && leb version 5) 0 6

-- .debug_info: compilation units before version 5
abbrev pub debug_info : UnitSection
debug_info = record { older = 1; judge = two_to_five }

-- .debug_types (DWARF 4, 7.5.1.2): type units before version 5
abbrev pub debug_types : UnitSection
debug_types = record { older = 2; judge = two_to_five }

-- the section that the code means
abbrev pub section_of : SectionId → UnitSection
section_of section.DebugInfo = debug_info
section_of section.DebugTypes = debug_types

-- DWARF 4, 7.5.1.2; DWARF 5, 7.5.1.3: a type signature and the offset of the type in the unit
unfoldable pub signature_at : List ℕ → ℕ → Format → RunTimeEndian → Answer (Read Signature)
signature_at s at f e =
    and_then (word_at s at 8 e)
    (λ x. and_then (offset_at s x.next f e) (λ y. gives (record { signature = x.value; offset = y.value }) y.next))

-- DWARF 5, 7.5.1.1 to 7.5.1.3: what a unit of a type has behind the common fields; 01, question 8
unfoldable pub type_at : List ℕ → ℕ → ℕ → Format → RunTimeEndian → Answer (Read UnitType)
type_at s at n f e =
    cond (eqb n 1) (gives Compilation at)
    (cond (eqb n 2) (and_then (signature_at s at f e) (λ r. gives («Type» r.value.signature r.value.offset) r.next))
    (cond (eqb n 3) (gives Partial at)
    (cond (eqb n 4) (and_then (word_at s at 8 e) (λ r. gives (Skeleton r.value) r.next))
    (cond (eqb n 5) (and_then (word_at s at 8 e) (λ r. gives (SplitCompilation r.value) r.next))
    (cond (eqb n 6) (and_then (signature_at s at f e) (λ r. gives (SplitType r.value.signature r.value.offset) r.next))
    (refused 8))))))

-- DWARF 2 to 4, 7.5.1: table offset, address width
unfoldable pub older_at : List ℕ → ℕ → ℕ → Format → RunTimeEndian → Answer (Read Common)
older_at s at older f e =
    and_then (offset_at s at f e)
    (λ a. and_then (address_size_at s a.next) (λ w. gives (record { table = a.value; width = w.value; number = older }) w.next))

-- DWARF 5, 7.5.1.1: behind the unit type, address width and table offset
unfoldable pub typed_at : List ℕ → ℕ → ℕ → Format → RunTimeEndian → Answer (Read Common)
typed_at s at number f e =
    and_then (address_size_at s at)
    (λ w. and_then (offset_at s w.next f e) (λ a. gives (record { table = a.value; width = w.value; number = number }) a.next))

-- DWARF 5, 7.5.1.1: the same from the unit type on
unfoldable pub newer_at : List ℕ → ℕ → Format → RunTimeEndian → Answer (Read Common)
newer_at s at f e = and_then (word_at s at 1 Little) (λ t. typed_at s t.next t.value f e)

-- 7.5.1: table offset, address width and unit type by the version; 01, question 6
unfoldable pub common_at : UnitSection → List ℕ → ℕ → ℕ → Format → RunTimeEndian → Answer (Read Common)
common_at sec s at version f e =
    cond (eqb (sec.judge version f) 0)
    (cond (eqb version 5) (newer_at s at f e) (older_at s at sec.older f e))
    (refused (sec.judge version f))

-- 7.5.1: what follows the version
unfoldable pub rest_at : UnitSection → List ℕ → ℕ → Initial → ℕ → ℕ → RunTimeEndian → Answer (Read UnitHeader)
rest_at sec s at l version p e =
    and_then (common_at sec s p version l.format e)
    (λ c.
    and_then (type_at s c.next c.value.number l.format e)
    (λ t.
    gives
    (record {
      offset = at;
      unit_length = l.unit_length;
      encoding = record { address_size = c.value.width; format = l.format; version = version };
      debug_abbrev_offset = c.value.table;
      unit_type = t.value;
    })
    t.next))

-- 7.5.1: what follows the initial length, in the bytes up to the unit's end
unfoldable pub body_at : UnitSection → List ℕ → ℕ → Initial → ℕ → RunTimeEndian → Answer (Read UnitHeader)
body_at sec s at l p e = and_then (word_at s p 2 e) (λ v. rest_at sec s at l v.value v.next e)

-- 7.5.1: the header at a place of a section, and where its entries start. 01: length, then the unit's bytes are there, version, ..
unfoldable pub header_at : UnitSection → List ℕ → ℕ → RunTimeEndian → Answer (Read UnitHeader)
header_at sec s at e =
    cond (leb (length s) max_section)
    (and_then (initial_length_at s at e)
    (λ l. and_then (skip_at s l.next l.value.unit_length) (λ end. body_at sec (take end s) at l.value l.next e)))
    (refused 1)
