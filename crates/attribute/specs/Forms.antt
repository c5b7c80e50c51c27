-- Forms: DWARF 5, 7.5.5 and 7.5.6; DWARF 2 to 4, 7.5.4. The GNU extensions are in binutils' include/dwarf2.def:
-- 0x1f01 and 0x1f02 come from the GCC wiki's page DebugFission, 0x1f20 and 0x1f21 from DWARF issue 120604.1 (dwz).
use Rattle.std.specs.Prelude.{true, false, cond, List, [], ◌∷◌, ℕ, eqb}
use Rattle.attribute.specs.declared.form.Case.{Case}
use Rattle.attribute.specs.declared.form.Kind.{Kind}
use Rattle.attribute.specs.declared.form.Kind.TheVariants as K
use Rattle.attribute.specs.declared.form.Layout.{Layout}
use Rattle.attribute.specs.declared.form.Layout.TheVariants as L
use Rattle.attribute.specs.declared.form.Row.{Row}
use Rattle.attribute.specs.declared.form.Sort.TheVariants as S

-- a form's code, how its values stand in the bytes, and the case of `AttributeValue` that they are
pub data Form : Type 0 where
  form : ℕ → Layout → Kind → Form

-- every form but DW_FORM_indirect, which names another form in the bytes
unfoldable pub forms : List Form
forms =
    form 0x01 L.Address K.Addr  -- DW_FORM_addr
    ∷ form 0x03 L.Block2 K.Block  -- DW_FORM_block2
    ∷ form 0x04 L.Block4 K.Block  -- DW_FORM_block4
    ∷ form 0x05 L.U16 K.Data2  -- DW_FORM_data2
    ∷ form 0x06 L.U32 K.Data4  -- DW_FORM_data4
    ∷ form 0x07 L.U64 K.Data8  -- DW_FORM_data8
    ∷ form 0x08 L.NullTerminated K.String  -- DW_FORM_string
    ∷ form 0x09 L.Block K.Block  -- DW_FORM_block
    ∷ form 0x0a L.Block1 K.Block  -- DW_FORM_block1
    ∷ form 0x0b L.U8 K.Data1  -- DW_FORM_data1
    ∷ form 0x0c L.U8 K.Flag  -- DW_FORM_flag
    ∷ form 0x0d L.Sleb128 K.Sdata  -- DW_FORM_sdata
    ∷ form 0x0e L.Offset K.DebugStrRef  -- DW_FORM_strp
    ∷ form 0x0f L.Uleb128 K.Udata  -- DW_FORM_udata
    ∷ form 0x10 L.RefAddr K.DebugInfoRef  -- DW_FORM_ref_addr
    ∷ form 0x11 L.U8 K.UnitRef  -- DW_FORM_ref1
    ∷ form 0x12 L.U16 K.UnitRef  -- DW_FORM_ref2
    ∷ form 0x13 L.U32 K.UnitRef  -- DW_FORM_ref4
    ∷ form 0x14 L.U64 K.UnitRef  -- DW_FORM_ref8
    ∷ form 0x15 L.Uleb128 K.UnitRef  -- DW_FORM_ref_udata
    ∷ form 0x17 L.Offset K.SecOffset  -- DW_FORM_sec_offset
    ∷ form 0x18 L.Block K.Exprloc  -- DW_FORM_exprloc
    ∷ form 0x19 L.Present K.Flag  -- DW_FORM_flag_present
    ∷ form 0x1a L.Uleb128 K.DebugStrOffsetsIndex  -- DW_FORM_strx
    ∷ form 0x1b L.Uleb128 K.DebugAddrIndex  -- DW_FORM_addrx
    ∷ form 0x1c L.U32 K.DebugInfoRefSup  -- DW_FORM_ref_sup4
    ∷ form 0x1d L.Offset K.DebugStrRefSup  -- DW_FORM_strp_sup
    ∷ form 0x1e L.U128 K.Data16  -- DW_FORM_data16
    ∷ form 0x1f L.Offset K.DebugLineStrRef  -- DW_FORM_line_strp
    ∷ form 0x20 L.U64 K.DebugTypesRef  -- DW_FORM_ref_sig8
    ∷ form 0x21 L.ImplicitConst K.Sdata  -- DW_FORM_implicit_const
    ∷ form 0x22 L.Uleb128 K.DebugLocListsIndex  -- DW_FORM_loclistx
    ∷ form 0x23 L.Uleb128 K.DebugRngListsIndex  -- DW_FORM_rnglistx
    ∷ form 0x24 L.U64 K.DebugInfoRefSup  -- DW_FORM_ref_sup8
    ∷ form 0x25 L.U8 K.DebugStrOffsetsIndex  -- DW_FORM_strx1
    ∷ form 0x26 L.U16 K.DebugStrOffsetsIndex  -- DW_FORM_strx2
    ∷ form 0x27 L.U24 K.DebugStrOffsetsIndex  -- DW_FORM_strx3
    ∷ form 0x28 L.U32 K.DebugStrOffsetsIndex  -- DW_FORM_strx4
    ∷ form 0x29 L.U8 K.DebugAddrIndex  -- DW_FORM_addrx1
    ∷ form 0x2a L.U16 K.DebugAddrIndex  -- DW_FORM_addrx2
    ∷ form 0x2b L.U24 K.DebugAddrIndex  -- DW_FORM_addrx3
    ∷ form 0x2c L.U32 K.DebugAddrIndex  -- DW_FORM_addrx4
    ∷ form 0x1f01 L.Uleb128 K.DebugAddrIndex  -- DW_FORM_GNU_addr_index
    ∷ form 0x1f02 L.Uleb128 K.DebugStrOffsetsIndex  -- DW_FORM_GNU_str_index
    ∷ form 0x1f20 L.Offset K.DebugInfoRefSup  -- DW_FORM_GNU_ref_alt
    ∷ form 0x1f21 L.Offset K.DebugStrRefSup  -- DW_FORM_GNU_strp_alt
    ∷ []

-- DW_FORM_indirect
abbrev pub indirect : ℕ
indirect = 0x16

abbrev pub row_of : Layout → Kind → Row
row_of l k = record { layout = l; kind = k }

-- the row of a code; a form that is not known has one of its own
unfoldable pub row_in : ℕ → List Form → Row
row_in f [] = row_of L.Unknown K.Udata
row_in f (form code l k ∷ rest) = cond (eqb f code) (row_of l k) (row_in f rest)

unfoldable pub row : ℕ → Row
row f = row_in f forms

-- a case of `AttributeValue`: its number, in gimli's order, what its numbers are, and 01's "Outward values"
abbrev pub case_of : Kind → Case
case_of K.Addr = record { number = 1; sort = S.Other; outward = false }
case_of K.Block = record { number = 2; sort = S.Span; outward = false }
case_of K.Data1 = record { number = 3; sort = S.Constant 1; outward = false }
case_of K.Data2 = record { number = 4; sort = S.Constant 2; outward = false }
case_of K.Data4 = record { number = 5; sort = S.Constant 4; outward = false }
case_of K.Data8 = record { number = 6; sort = S.Constant 8; outward = false }
case_of K.Data16 = record { number = 7; sort = S.Halves; outward = false }
case_of K.Sdata = record { number = 8; sort = S.Signed; outward = false }
case_of K.Udata = record { number = 9; sort = S.Unsigned; outward = false }
case_of K.Exprloc = record { number = 10; sort = S.Span; outward = false }
case_of K.Flag = record { number = 11; sort = S.Flag; outward = false }
case_of K.SecOffset = record { number = 12; sort = S.Offset; outward = true }
case_of K.DebugAddrIndex = record { number = 13; sort = S.Other; outward = false }
case_of K.UnitRef = record { number = 14; sort = S.Other; outward = false }
case_of K.DebugInfoRef = record { number = 15; sort = S.Other; outward = true }
case_of K.DebugInfoRefSup = record { number = 16; sort = S.Other; outward = true }
case_of K.DebugLocListsIndex = record { number = 17; sort = S.Other; outward = false }
case_of K.DebugRngListsIndex = record { number = 18; sort = S.Other; outward = false }
case_of K.DebugTypesRef = record { number = 19; sort = S.Other; outward = true }
case_of K.DebugStrRef = record { number = 20; sort = S.Other; outward = true }
case_of K.DebugStrRefSup = record { number = 21; sort = S.Other; outward = true }
case_of K.DebugStrOffsetsIndex = record { number = 22; sort = S.Other; outward = false }
case_of K.DebugLineStrRef = record { number = 23; sort = S.Other; outward = true }
case_of K.String = record { number = 24; sort = S.String; outward = false }
