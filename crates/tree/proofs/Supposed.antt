-- What demand 3 supposes can be met: a table and a unit as bytes, with a jump, and each supposition computed.
use mathlib.Core.Bool.{false}
use mathlib.Core.Path.{◌≡◌, refl}
use mathlib.Core.Option.{Option, none, some, none-ne-some, some-injective}
use mathlib.Core.List.Permᴰ
use mathlib.Core.List.{List, [], ◌∷◌, map}
use Prim.Native.Nat.{ℕ}
use native.Mathlib.Omega.{arith}
use lib.IntN.{ℤ, pos}
use Rattle.reader.specs.Answer.{Answer, got, refused, gives}
use Rattle.reader.specs.Fields.{offset_at, initial_length_at, is_address_size, address_size_at, skip_at}
use Rattle.reader.specs.Leb128.{through, extent, leb128, uleb_at}
use Rattle.reader.specs.Words.{number, spelled, word_at}
use Rattle.reader.specs.declared.common.Format.TheVariants.{Dwarf32}
use Rattle.reader.specs.declared.endianity.RunTimeEndian.TheVariants.{Little}
use Rattle.abbrev.specs.Lookup.{row_at, judged_row, row_found, lookup}
use Rattle.abbrev.specs.Rows.{rows_from, Laid}
use Rattle.abbrev.specs.Table.{Declaration, entry_limit, judged, pair_at, constant_at, specifications_at, tag_at, children_at, tagged_at, head_at, declaration_at, declarations_at, abbreviations_at}
use Rattle.unit.specs.Header.{size_of_header, in_bounds}
use Rattle.unit.specs.Parse.{debug_info, type_at, older_at, common_at, rest_at, body_at, header_at}
use Rattle.unit.specs.Range.{part, unit_bytes, range_from}
use Rattle.unit.specs.declared.header.UnitHeader.{UnitHeader}
use Rattle.unit.specs.declared.header.UnitType.TheVariants.{Compilation}
use Rattle.attribute.specs.Attributes.{pad}
use Rattle.attribute.specs.Forms.{forms, row_in, row}
use Rattle.attribute.specs.Padded.{any_padded, layout_numbers, chain, form_numbers}
use Rattle.attribute.specs.Read.{numbered, raw_at, resolve, final_form, form_at, numbers_at, attribute_at, attributes_at}
use Rattle.attribute.specs.Value.{value_under}
use Rattle.attribute.specs.declared.form.Kind.TheVariants as K
use Rattle.entries.specs.Cursor.{opened_cursor}
use Rattle.entries.specs.Entry.{Entry, null_entry, entry_of, attr_of, sibling_of, jump_of}
use Rattle.entries.specs.Flat as flat
use Rattle.entries.specs.Open.{cursor_from}
use Rattle.entries.specs.Raw.{opened}
use Rattle.attribute.specs.declared.source.Source.{Source}
use Rattle.entries.specs.Read.{abbreviation_at, entry_after, entry_at}
use Rattle.entries.proofs.FlatLaws.{items_step}
use Rattle.tree.specs.Walk.{Item, Jumps, next_item, passed, next_at, move, walk, walk_says}
use Rattle.tree.specs.Demand.{closes, root_reading, walk_items, tree_walk, whole}
use Rattle.tree.proofs.Opened.{source_from, tree_from, opened_demand_3}

-- ---- the bytes

-- three abbreviations: one with children, one with children and a DW_AT_sibling of form DW_FORM_ref1, and one without either
abbrev pub table : List ℕ
table = 0x01 ∷ 0x11 ∷ 0x01 ∷ 0x00 ∷ 0x00 ∷ 0x02 ∷ 0x2e ∷ 0x01 ∷ 0x01 ∷ 0x11 ∷ 0x00 ∷ 0x00 ∷ 0x03 ∷ 0x34 ∷ 0x00 ∷ 0x00 ∷ 0x00 ∷ 0x00 ∷ []

-- a unit of version 4, and from its byte 11 on: root { A { B } C }, where A at 12 names C at 16 as its sibling
abbrev pub bytes : List ℕ
bytes = 0x01 ∷ 0x02 ∷ 0x10 ∷ 0x03 ∷ 0x00 ∷ 0x03 ∷ 0x00 ∷ []

abbrev pub unit : List ℕ
unit = 0x0e ∷ 0x00 ∷ 0x00 ∷ 0x00 ∷ 0x04 ∷ 0x00 ∷ 0x00 ∷ 0x00 ∷ 0x00 ∷ 0x00 ∷ 0x08 ∷ bytes

-- the table's words
abbrev pub rows : List ℕ
rows = 1 ∷ 0x11 ∷ 1 ∷ 0 ∷ 0 ∷ 2 ∷ 0x2e ∷ 1 ∷ 0 ∷ 1 ∷ 3 ∷ 0x34 ∷ 0 ∷ 1 ∷ 0 ∷ []

abbrev pub specs : List ℕ
specs = 1 ∷ 0x11 ∷ 0 ∷ []

abbrev pub header : UnitHeader
header =
    record {
      offset = 0;
      unit_length = 14;
      encoding = record { address_size = 8; format = Dwarf32; version = 4 };
      debug_abbrev_offset = 0;
      unit_type = Compilation;
    }

abbrev pub declarations : List Declaration
declarations =
    record { code = 1; tag = 0x11; children = 1; specifications = [] }
    ∷ record { code = 2; tag = 0x2e; children = 1; specifications = record { name = 1; form = 0x11; constant = 0 } ∷ [] }
    ∷ record { code = 3; tag = 0x34; children = 0; specifications = [] }
    ∷ []

-- ---- as they are read

pub table_read : abbreviations_at table 0 entry_limit 3 1 ≡ got declarations
unfolding abbreviations_at declarations_at declaration_at head_at tagged_at tag_at children_at specifications_at pair_at judged constant_at uleb_at leb128 extent through number word_at spelled
table_read = refl

pub table_laid : Laid 15 3 rows specs declarations
table_laid = record { row_choice = rows_from 0 declarations; all = Permᴰ.refl (rows_from 0 declarations); rows_are = refl; specs_are = refl }

pub header_read : header_at debug_info unit 0 Little ≡ gives header 11
unfolding header_at body_at rest_at common_at older_at type_at initial_length_at offset_at address_size_at is_address_size skip_at word_at spelled number
header_read = refl

pub unit_whole : unit_bytes header unit ≡ got unit
unfolding unit_bytes part
unit_whole = refl

pub root_first : size_of_header header ≡ 11
unfolding size_of_header
root_first = refl

pub part_there : range_from header unit 11 ≡ got bytes
unfolding range_from in_bounds size_of_header part
part_there = refl

pub tree_opened : (tree_from 64 header unit 11 Little).answer ≡ got tt
unfolding cursor_from opened_cursor opened range_from in_bounds size_of_header part
tree_opened = refl

-- ---- the root's flat reading

abbrev src : Source
src = source_from header 11 Little

abbrev root : flat.Item
root = record { value = entry_of 64 11 (pos 0) (row_at rows 0) []; next = 1 }

-- A, with the offset of C
abbrev a : flat.Item
a = record { value = entry_of 64 12 (pos 1) (row_at rows 1) (record { name = 1; form = 0x11; padded = false; value = record { kind = K.UnitRef; low = 16; high = 0 } } ∷ []); next = 3 }

abbrev b : flat.Item
b = record { value = entry_of 64 14 (pos 2) (row_at rows 2) []; next = 4 }

abbrev b_null : flat.Item
b_null = record { value = null_entry 64 15 (pos 2); next = 5 }

abbrev c : flat.Item
c = record { value = entry_of 64 16 (pos 1) (row_at rows 2) []; next = 6 }

abbrev c_null : flat.Item
c_null = record { value = null_entry 64 17 (pos 1); next = 7 }

abbrev pub items : List flat.Item
items = root ∷ a ∷ b ∷ b_null ∷ c ∷ c_null ∷ []

abbrev at : ℕ → ℤ → Answer flat.Item
at p d = entry_at 64 src bytes rows specs p d

root_at : at 0 (pos 0) ≡ got root
unfolding entry_at entry_after abbreviation_at uleb_at leb128 extent through number lookup row_found judged_row attributes_at
root_at = refl

a_at : at 1 (pos 1) ≡ got a
unfolding entry_at entry_after abbreviation_at uleb_at leb128 extent through number lookup row_found judged_row attributes_at attribute_at form_at final_form resolve row row_in forms raw_at numbered word_at spelled value_under any_padded layout_numbers chain form_numbers numbers_at
a_at = refl

b_at : at 3 (pos 2) ≡ got b
unfolding entry_at entry_after abbreviation_at uleb_at leb128 extent through number lookup row_found judged_row attributes_at
b_at = refl

b_null_at : at 4 (pos 2) ≡ got b_null
unfolding entry_at entry_after abbreviation_at uleb_at leb128 extent through number
b_null_at = refl

c_at : at 5 (pos 1) ≡ got c
unfolding entry_at entry_after abbreviation_at uleb_at leb128 extent through number lookup row_found judged_row attributes_at
c_at = refl

c_null_at : at 6 (pos 1) ≡ got c_null
unfolding entry_at entry_after abbreviation_at uleb_at leb128 extent through number
c_null_at = refl

abbrev from : ℕ → ℤ → Answer (List flat.Item)
from p d = flat.items_from 64 src bytes rows specs closes p d

under_root_lem : from 1 (pos 1) ≡ got (a ∷ b ∷ b_null ∷ c ∷ c_null ∷ [])
under_root_lem =
    rw (items_step 64 src bytes rows specs closes 1 (pos 1), a_at)
    (rw (items_step 64 src bytes rows specs closes 3 (pos 2), b_at)
    (rw (items_step 64 src bytes rows specs closes 4 (pos 2), b_null_at)
    (rw (items_step 64 src bytes rows specs closes 5 (pos 1), c_at)
    (rw (items_step 64 src bytes rows specs closes 6 (pos 1), c_null_at)))))

pub root_read : root_reading 64 src bytes rows specs ≡ got items
unfolding root_reading
root_read = rw (root_at, under_root_lem)

-- ---- its jumps

abbrev pub walked : List (Item Entry)
walked = walk_items 64 src bytes rows specs items

-- A offers a jump to C, and no other item offers one
pub jumps_are : map (λ (i : Item Entry). i.jump) walked ≡ none ∷ some 16 ∷ none ∷ none ∷ none ∷ none ∷ []
unfolding jump_of sibling_of attr_of pad
jumps_are = refl

-- it leads just past the null that closes A
pub jumps_right : Jumps walked
unfolding jump_of sibling_of attr_of pad
jumps_right =
    ((λ t e. absurd (none-ne-some t e)), ((λ t e. let z = some-injective 16 t e in omega arith), ((λ t e. tt), ((λ t e. tt), ((λ t e. tt), ((λ t e. tt), tt))))))

-- ---- what the tree says

abbrev says : List ℤ → List (Answer (Option Entry))
says ks = tree_walk 64 bytes rows specs ks (tree_from 64 header unit 11 Little).tree

-- so demand 3 holds of it, for every list of levels
pub tree_walks : (ks : List ℤ) → says ks ≡ map whole (walk_says walked ks)
tree_walks = (opened_demand_3 64 header unit 11 Little bytes part_there tree_opened rows specs items root_read jumps_right).1

-- level 1 asked to its end: A, and C by A's jump; level 3 is refused
pub tree_jumps : says (pos 1 ∷ pos 1 ∷ pos 1 ∷ pos 3 ∷ [])
    ≡ got (some root.value) ∷ got (some a.value) ∷ got (some c.value) ∷ got none ∷ refused 21 ∷ []
unfolding walk_says walk move next_at next_item passed
tree_jumps = tree_walks (pos 1 ∷ pos 1 ∷ pos 1 ∷ pos 3 ∷ [])

-- the same with B visited between
pub tree_visits : says (pos 1 ∷ pos 2 ∷ pos 2 ∷ pos 1 ∷ pos 1 ∷ [])
    ≡ got (some root.value) ∷ got (some a.value) ∷ got (some b.value) ∷ got none ∷ got (some c.value) ∷ got none ∷ []
unfolding walk_says walk move next_at next_item passed
tree_visits = tree_walks (pos 1 ∷ pos 2 ∷ pos 2 ∷ pos 1 ∷ pos 1 ∷ [])
