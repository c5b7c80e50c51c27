-- Walks over a unit of any section, from its root and from its type entry: demand 3 as it stands for every unit.
use mathlib.Core.Bool.{Bool, true, false, cond, not}
use mathlib.Core.Path.{◌≡◌, refl, sym, ap, ◌∙◌}
use mathlib.Core.List.{List, map}
use Prim.Native.Nat.{ℕ, ◌+◌, ◌/◌, ◌^◌, ◌<◌}
use native.Mathlib.Omega.{arith}
use borrow.Author.Tests.{le-leb, lt-ltb, ltb-true}
use lib.Dec.{leb, ltb}
use lib.IntN.{ℤ, pos}
use lib.ListN.{length, take, drop, length-drop}
use lib.Seq.{length-take-le}
use Rattle.reader.specs.Answer.{Answer, got, refused, and_then, Read, gives}
use Rattle.reader.specs.declared.endianity.RunTimeEndian.{RunTimeEndian}
use Rattle.abbrev.specs.Rows.{table_rows, table_specs}
use Rattle.abbrev.specs.Table.{Limit, Declaration, abbreviations_at}
use Rattle.std.proofs.lemmas.Bool.{and_parts}
use Rattle.unit.specs.Header.{size_of_header, unit_end, in_bounds}
use Rattle.unit.specs.Parse.{UnitSection, section_of}
use Rattle.unit.specs.Range.{unit_bytes, range_from}
use Rattle.unit.specs.declared.header.UnitHeader.{UnitHeader}
use Rattle.unit.specs.declared.parse.SectionId.{SectionId}
use Rattle.unit.proofs.RangeLaws.{bytes_there, from_there}
use Rattle.unit.proofs.UnitsLaws.{UnitIn}
use Rattle.entries.specs.Cursor.{opened_cursor}
use Rattle.entries.specs.Entry.{Entry, is_null}
use Rattle.entries.specs.Flat as flat
use Rattle.entries.specs.Open.{no_null, sections_kept, first_entry, cursor_from, entry_from}
use Rattle.entries.specs.Raw.{judged, opened, start_of, unit_source, taken, raw_entry}
use Rattle.entries.specs.Read.{entry_at}
use Rattle.entries.specs.declared.raw.EntriesRaw.{EntriesRaw}
use Rattle.entries.proofs.RawLaws.{raw_keeps}
use Rattle.tree.specs.Demand.{root_reading, walk_items, tree_walk, whole}
use Rattle.tree.specs.Tree.{root_of}
use Rattle.tree.specs.Walk.{Jumps, walk_says}
use Rattle.tree.proofs.Opened.{source_from, tree_from, opened_demand_3}
use Rattle.typeunit.proofs.SearchLaws.{found_in_lem}
use Rattle.typeunit.proofs.TypeLaws.{with_unit}
use Rattle.typeunit.specs.Search.{type_offset, unit_with, bounded, type_unit}
use Rattle.typeunit.specs.Types.{TypeUnit, with_entry, type_table, type_entry}

-- a unit of a section, and an offset inside of it, from its header's size up to its end
module _ (sec : UnitSection) (units : List ℕ) (e : RunTimeEndian) (h : UnitHeader) (there : UnitIn sec units e h.offset h (h.offset + unit_end h)) where
  -- the unit's own bytes
  abbrev pub own_bytes : List ℕ
  own_bytes = take (unit_end h) (drop h.offset units)

  own_length : length own_bytes ≡ unit_end h
  own_length = length-take-le (unit_end h) (drop h.offset units) (rw (length-drop h.offset units) (omega (arith, there.there)))

  pub own_read : unit_bytes h units ≡ got own_bytes
  own_read = bytes_there h units there.short there.there

  module _ (offset : ℕ) (inside : in_bounds h offset ≡ true) where
    -- the part from the offset on
    abbrev pub bytes_from : List ℕ
    bytes_from = drop offset own_bytes

    pub part_is : range_from h own_bytes offset ≡ got bytes_from
    part_is = from_there h own_bytes offset own_length inside

    -- it ends with the unit, so that readers over it are opened
    part_short : offset + length bytes_from < 2 ^ 63
    unfolding in_bounds
    part_short =
        let b = and_parts (leb (size_of_header h) offset) (ltb offset (unit_end h)) inside in
        rw (length-drop offset own_bytes) (omega (arith, own_length, ltb-true offset (unit_end h) b.1, there.there, there.short))

    start : EntriesRaw
    start = start_of (source_from h offset e)

    opens : opened (length bytes_from) offset h.encoding e ≡ got start
    unfolding opened start
    opens = rw (lt-ltb _ _ part_short)

    pub tree_opens : (most : ℕ) → (tree_from most h own_bytes offset e).answer ≡ got tt
    unfolding cursor_from opened_cursor
    tree_opens most = rw (part_is, opens)

    -- demand 3: where the flat reading of the root at the offset is L and its jumps are right, the tree says what the plain walk of L says
    pub unit_demand_3 : (most : ℕ) (rows specs : List ℕ) (L : List flat.Item) → root_reading most (source_from h offset e) bytes_from rows specs ≡ got L → Jumps (walk_items most (source_from h offset e) bytes_from rows specs L)
        → ((root_of most bytes_from rows specs (tree_from most h own_bytes offset e).tree).answer ≡ got true)
        × ((ks : List ℤ) → tree_walk most bytes_from rows specs ks (tree_from most h own_bytes offset e).tree ≡ map whole (walk_says (walk_items most (source_from h offset e) bytes_from rows specs L) ks))
    unit_demand_3 most rows specs L reading jumps = opened_demand_3 most h own_bytes offset e bytes_from part_is (tree_opens most) rows specs L reading jumps

    -- an entry by its offset is 01's entry there, read raw at depth 0; question 20
    pub entry_there : (most : ℕ) (rows specs : List ℕ) → entry_from h own_bytes most rows specs offset e ≡ and_then (entry_at most (source_from h offset e) bytes_from rows specs 0 (pos 0)) (λ i. cond (is_null i.value) (refused 20) (got i.value))
    unfolding entry_from first_entry raw_entry start
    entry_there most rows specs =
        let k = raw_keeps (length bytes_from) start (record { inside = omega arith; short = part_short; near = omega arith }) in
        rw (part_is, opens, k) (by _ (entry_at most (source_from h offset e) bytes_from rows specs 0 (pos 0)))
      where
        named : (b : Bool) (x : Entry) → cond (not b) (got x) (refused 20) ≡ cond b (refused 20) (got x)
        named true x = refl
        named false x = refl

        by : (d : ℤ) (r : Answer (Read Entry)) → no_null (taken most start d r) ≡ and_then r (λ i. cond (is_null i.value) (refused 20) (got i.value))
        by d (got i) = named (is_null i.value) i.value
        by d (refused n) = refl

-- from the root, where the unit has any entry bytes
module _ (sec : UnitSection) (units : List ℕ) (e : RunTimeEndian) (h : UnitHeader) (there : UnitIn sec units e h.offset h (h.offset + unit_end h)) (some : size_of_header h < unit_end h) where
  pub root_inside : in_bounds h (size_of_header h) ≡ true
  unfolding in_bounds
  root_inside = rw (le-leb (size_of_header h) (size_of_header h) (omega arith), lt-ltb (size_of_header h) (unit_end h) some)

  abbrev pub root_bytes : List ℕ
  root_bytes = bytes_from sec units e h there (size_of_header h) root_inside

  pub root_demand_3 : (most : ℕ) (rows specs : List ℕ) (L : List flat.Item) → root_reading most (unit_source h e) root_bytes rows specs ≡ got L → Jumps (walk_items most (unit_source h e) root_bytes rows specs L)
      → ((root_of most root_bytes rows specs (tree_from most h (own_bytes sec units e h there) (size_of_header h) e).tree).answer ≡ got true)
      × ((ks : List ℤ)
      → tree_walk most root_bytes rows specs ks (tree_from most h (own_bytes sec units e h there) (size_of_header h) e).tree ≡ map whole (walk_says (walk_items most (unit_source h e) root_bytes rows specs L) ks))
  root_demand_3 = unit_demand_3 sec units e h there (size_of_header h) root_inside

-- ---- a type entry that was given

-- its parts, in the order of the questions
pub record TypeParts (id : SectionId) (l : Limit) (abbrevs units : List ℕ) (sig : ℕ) (e : RunTimeEndian) (m k : ℕ) (r : TypeUnit) : Type 0 where
  pub kept : sections_kept abbrevs units ≡ true
  pub found : unit_with (section_of id) units sig e ≡ got r.header
  pub inside : in_bounds r.header (type_offset r.header) ≡ true
  pub table : List Declaration
  pub table_read : abbreviations_at abbrevs r.header.debug_abbrev_offset l (m / 5) (k / 3) ≡ got table
  pub entry_read : with_entry l.most units (table_rows m table) (table_specs k table) e r.header ≡ got r

module _ (id : SectionId) (l : Limit) (abbrevs units : List ℕ) (sig : ℕ) (e : RunTimeEndian) (m k : ℕ) {r : TypeUnit} where
  pub type_parts : type_entry l abbrevs units e m k (type_unit (section_of id) abbrevs units sig e) ≡ got r → TypeParts id l abbrevs units sig e m k r
  unfolding type_unit bounded type_table type_entry with_entry
  type_parts = by_sizes (sections_kept abbrevs units) refl
    where
      Parts : Type 0
      Parts = TypeParts id l abbrevs units sig e m k r

      by_entry : sections_kept abbrevs units ≡ true → (h : UnitHeader) → unit_with (section_of id) units sig e ≡ got h → in_bounds h (type_offset h) ≡ true
          → (t : List Declaration) → abbreviations_at abbrevs h.debug_abbrev_offset l (m / 5) (k / 3) ≡ got t
          → with_entry l.most units (table_rows m t) (table_specs k t) e h ≡ got r → h ≡ r.header → Parts
      by_entry s h f b t a q p =
          record {
            kept = s;
            found = f ∙ ap got p;
            inside = rw p at b;
            table = t;
            table_read = rw p at a;
            entry_read = rw p at q;
          }

      own_header : (h : UnitHeader) (t : List Declaration) → with_entry l.most units (table_rows m t) (table_specs k t) e h ≡ got r → h ≡ r.header
      own_header h t = in_bytes_lem (unit_bytes h units)
        where
          in_entry : (x : Answer Entry) → ◌≡◌ {A = Answer TypeUnit} (and_then x (λ x. got (record { header = h; entry = x }))) (got r) → h ≡ r.header
          in_entry (got x) q = cc
          in_entry (refused n) q = absurd (cc)

          in_bytes_lem : (u : Answer (List ℕ))
              → ◌≡◌ {A = Answer TypeUnit} (and_then u (λ u. and_then (entry_from h u l.most (table_rows m t) (table_specs k t) (type_offset h) e) (λ x. got (record { header = h; entry = x })))) (got r) → h ≡ r.header
          in_bytes_lem (got u) q = in_entry (entry_from h u l.most (table_rows m t) (table_specs k t) (type_offset h) e) q
          in_bytes_lem (refused n) q = absurd (cc)

      by_table : sections_kept abbrevs units ≡ true → (h : UnitHeader) → unit_with (section_of id) units sig e ≡ got h → in_bounds h (type_offset h) ≡ true
          → (a : Answer (List Declaration)) → abbreviations_at abbrevs h.debug_abbrev_offset l (m / 5) (k / 3) ≡ a
          → and_then a (λ t. with_entry l.most units (table_rows m t) (table_specs k t) e h) ≡ got r → Parts
      by_table s h f b (got t) a q = by_entry s h f b t a q (own_header h t q)
      by_table s h f b (refused n) a q = absurd (cc)

      by_bounds : sections_kept abbrevs units ≡ true → (h : UnitHeader) → unit_with (section_of id) units sig e ≡ got h → (b : Bool) → in_bounds h (type_offset h) ≡ b
          → type_entry l abbrevs units e m k (cond b (got h) (refused 19)) ≡ got r → Parts
      by_bounds s h f true b q = by_table s h f b (abbreviations_at abbrevs h.debug_abbrev_offset l (m / 5) (k / 3)) refl q
      by_bounds s h f false b q = absurd (cc)

      by_search : sections_kept abbrevs units ≡ true → (a : Answer UnitHeader) → unit_with (section_of id) units sig e ≡ a → type_entry l abbrevs units e m k (and_then a bounded) ≡ got r → Parts
      by_search s (got h) f q = by_bounds s h f (in_bounds h (type_offset h)) refl q
      by_search s (refused n) f q = absurd (cc)

      by_sizes : (b : Bool) → sections_kept abbrevs units ≡ b → type_entry l abbrevs units e m k (judged b (and_then (unit_with (section_of id) units sig e) bounded)) ≡ got r → Parts
      by_sizes true s q = by_search s (unit_with (section_of id) units sig e) refl q
      by_sizes false s q = absurd (cc)

  -- it lies in its section, so that all from the type's offset on is there
  module _ (p : TypeParts id l abbrevs units sig e m k r) where
    pub type_in : UnitIn (section_of id) units e r.header.offset r.header (r.header.offset + unit_end r.header)
    type_in = found_in_lem id units sig e p.found

    -- the bytes from the type's offset to the unit's end, and the table in rows
    abbrev pub type_bytes : List ℕ
    type_bytes = bytes_from (section_of id) units e r.header type_in (type_offset r.header) p.inside

    abbrev pub type_read : Answer (Read Entry)
    type_read = entry_at l.most (source_from r.header (type_offset r.header) e) type_bytes (table_rows m p.table) (table_specs k p.table) 0 (pos 0)

    -- the entry is 01's entry there, read raw at depth 0, and no null
    pub record EntryThere : Type 0 where
      pub next : ℕ
      pub read : type_read ≡ gives r.entry next
      pub some : is_null r.entry ≡ false

    pub type_entry_there : EntryThere
    unfolding with_entry
    type_entry_there = by type_read refl whole_entry
      where
        noted : Read Entry → Answer Entry
        noted i = cond (is_null i.value) (refused 20) (got i.value)

        whole_entry : with_unit r.header (and_then type_read noted) ≡ got r
        whole_entry =
            sym (rw (own_read (section_of id) units e r.header type_in) (ap (with_unit r.header) (entry_there (section_of id) units e r.header type_in (type_offset r.header) p.inside l.most (table_rows m p.table) (table_specs k p.table))))
            ∙ p.entry_read

        by_null : (i : Read Entry) → type_read ≡ got i → (b : Bool) → is_null i.value ≡ b → with_unit r.header (cond b (refused 20) (got i.value)) ≡ got r → EntryThere
        by_null i t true n q = absurd (cc)
        by_null i t false n q =
            let z : i.value ≡ r.entry = cc in
            record { next = i.next; read = t ∙ ap (λ (x : Entry). gives x i.next) z; some = rw z at n }

        by : (x : Answer (Read Entry)) → type_read ≡ x → with_unit r.header (and_then x noted) ≡ got r → EntryThere
        by (got i) t q = by_null i t (is_null i.value) refl q
        by (refused n) t q = absurd (cc)

    -- demand 3 from the type entry, with the rows that the table call left
    pub type_demand_3 : (rows specs : List ℕ) (L : List flat.Item) → root_reading l.most (source_from r.header (type_offset r.header) e) type_bytes rows specs ≡ got L
        → Jumps (walk_items l.most (source_from r.header (type_offset r.header) e) type_bytes rows specs L)
        → ((root_of l.most type_bytes rows specs (tree_from l.most r.header (own_bytes (section_of id) units e r.header type_in) (type_offset r.header) e).tree).answer ≡ got true)
        × ((ks : List ℤ)
        → tree_walk l.most type_bytes rows specs ks (tree_from l.most r.header (own_bytes (section_of id) units e r.header type_in) (type_offset r.header) e).tree
        ≡ map whole (walk_says (walk_items l.most (source_from r.header (type_offset r.header) e) type_bytes rows specs L) ks))
    type_demand_3 rows specs L = unit_demand_3 (section_of id) units e r.header type_in (type_offset r.header) p.inside l.most rows specs L
