-- What `shelflist` prints of two sections (document 01, "Readings"), as lines, each with the place that a listing can go on from.
use Rattle.std.specs.Prelude.{cond, ◌&&◌, List, [], ◌∷◌, ℕ, zero, suc, ◌+◌, ◌-◌, ◌*◌, ◌/◌, eqb, leb, ℤ, pos, length}
use Rattle.reader.specs.Answer.{Answer, got, refused, and_then, if_some}
use Rattle.reader.specs.Fields.{word_size}
use Rattle.reader.specs.declared.endianity.RunTimeEndian.TheVariants.{Little}
use Rattle.abbrev.specs.Rows.{table_rows, table_specs}
use Rattle.abbrev.specs.Table.{entry_limit, abbreviations_at}
use Rattle.unit.specs.Header.{size_of_header}
use Rattle.unit.specs.Parse.{debug_info}
use Rattle.unit.specs.Range.{unit_bytes, entries_buf}
use Rattle.unit.specs.Units.{next_unit}
use Rattle.unit.specs.declared.header.UnitHeader.{UnitHeader}
use Rattle.entries.specs.Entry.{Entry}
use Rattle.entries.specs.Flat.{Item, Reading, reading_from}
use Rattle.entries.specs.Raw.{keeps_raw, moved_to, start_of, unit_source}
use Rattle.entries.specs.declared.raw.EntriesRaw.{EntriesRaw}
use Rattle.listing.specs.Text.{Line, unit_line, entry_line, null_line, refused_line, end_line}
use Rattle.listing.specs.declared.place.ListingPlace.{ListingPlace}

-- a line, and where it stands: its unit's offset, and the offset in the unit and the depth of the item that it is for, both 0 at the unit's own line
pub record Placed : Type 0 where
  pub line : Line
  pub place : ListingPlace

abbrev pub place_in : ℕ → ℕ → ℤ → ListingPlace
place_in unit offset depth = record { unit = unit; offset = offset; depth = depth }

-- before a unit's own line
abbrev pub place_of : ℕ → ListingPlace
place_of unit = place_in unit 0 (pos 0)

abbrev pub put : ListingPlace → Line → Placed
put p l = record { line = l; place = p }

-- what follows an answer; a refusal prints a line and stops
abbrev pub or_stop : {A : Type 0} → ListingPlace → Answer A → (A → List Placed) → List Placed
or_stop p (got a) f = f a
or_stop p (refused n) f = put p (refused_line n) ∷ []

-- unit offset, version, format bits, address width
abbrev pub head_line : UnitHeader → Line
head_line h = unit_line h.offset h.encoding.version (8 * word_size h.encoding.format) h.encoding.address_size

-- offset in unit, depth, tag and value count; a null, which has no tag, has `null` for the last two
abbrev pub item_text : (offset : ℕ) (depth : ℤ) (tag count : ℕ) → Line
item_text offset depth tag count = cond (eqb tag 0) (null_line offset depth) (entry_line offset depth tag count)

abbrev pub item_line : Entry → Line
item_line e = item_text e.offset e.depth e.tag e.count

abbrev pub item_placed : ℕ → Item → Placed
item_placed unit i = put (place_in unit i.value.offset i.value.depth) (item_line i.value)

-- the lines of some items of a unit, and what follows them
abbrev pub items_then : ℕ → List Item → List Placed → List Placed
items_then unit [] rest = rest
items_then unit (i ∷ l) rest = item_placed unit i ∷ items_then unit l rest

-- of a reading over bytes that start at an offset: a refusal is the last line
abbrev pub read_lines : ℕ → ℕ → Reading → List Placed → List Placed
read_lines unit start r rest =
    items_then unit r.items
    (if_some r.stop rest (λ x. put (place_in unit (start + x.at) x.depth) (refused_line x.number) ∷ []))

-- the items from a state on, and what follows them
unfoldable pub item_lines : (most unit : ℕ) → EntriesRaw → (s rows specs : List ℕ) → List Placed → List Placed
item_lines most unit w s rows specs rest = read_lines unit w.start (reading_from most w s rows specs) rest

-- two sections, and how many words are lent for a table
pub record Shelf : Type 0 where
  pub abbrevs : List ℕ
  pub info : List ℕ
  pub rows : ℕ
  pub specs : ℕ

-- the bytes of a unit's entries, out of its section
abbrev pub entries_in : UnitHeader → List ℕ → Answer (List ℕ)
entries_in h info = and_then (unit_bytes h info) (entries_buf h)

-- where a unit's entries start; sections are little-endian
abbrev pub beginning : UnitHeader → EntriesRaw
beginning h = start_of (unit_source h Little)

-- the state at a place in a unit, which keeps 01's sizes over the bytes of its entries, or 1
unfoldable pub state_at : UnitHeader → List ℕ → ListingPlace → Answer EntriesRaw
state_at h s p =
    cond (leb (size_of_header h) p.offset && keeps_raw (length s) (moved_to (beginning h) (p.offset - size_of_header h) p.depth))
    (got (moved_to (beginning h) (p.offset - size_of_header h) p.depth))
    (refused 1)

-- the entries from a state on with the unit's own table in the lent words, and what follows them; without entry bytes there are none, and the table is unread
unfoldable pub part_lines : Shelf → UnitHeader → List ℕ → ListingPlace → EntriesRaw → List Placed → List Placed
part_lines x h s p w rest =
    cond (eqb (length s) 0)
    rest
    (or_stop p (abbreviations_at x.abbrevs h.debug_abbrev_offset entry_limit (x.rows / 5) (x.specs / 3))
    (λ t. item_lines entry_limit.most p.unit w s (table_rows x.rows t) (table_specs x.specs t) rest))

-- the entries of a unit from a place on, and what follows them
unfoldable pub unit_entries : Shelf → UnitHeader → ListingPlace → List Placed → List Placed
unit_entries x h p rest =
    or_stop p (entries_in h x.info) (λ s. or_stop p (state_at h s p) (λ w. part_lines x h s p w rest))

-- a unit: its line, then its entries
abbrev pub unit_all : Shelf → ℕ → UnitHeader → List Placed → List Placed
unit_all x at h rest = put (place_of at) (head_line h) ∷ unit_entries x h (place_in at (size_of_header h) (pos 0)) rest

-- the units from an offset of their section on, n at most; `end` once, after the last
unfoldable pub units_within : Shelf → ℕ → ℕ → List Placed
units_within x zero at = []
units_within x (suc n) at =
    or_stop (place_of at) (next_unit debug_info x.info at Little).answer
    (λ o. if_some o (put (place_of at) end_line ∷ []) (λ h. unit_all x at h (units_within x n (next_unit debug_info x.info at Little).offset)))

-- each takes a byte, so that the bytes run out first (`units_step`)
unfoldable pub unit_lines : Shelf → ℕ → List Placed
unit_lines x at = units_within x (suc (length x.info - at)) at

-- from the middle of a unit on; a place where no unit is, is refused with 1
unfoldable pub inner_lines : Shelf → ListingPlace → List Placed
inner_lines x p =
    or_stop p (next_unit debug_info x.info p.unit Little).answer
    (λ o. if_some o (put p (refused_line 1) ∷ []) (λ h. unit_entries x h p (unit_lines x (next_unit debug_info x.info p.unit Little).offset)))

-- the listing from a place on; the whole is that from `place_of 0` on
unfoldable pub listing_from : Shelf → ListingPlace → List Placed
listing_from x p = cond (eqb p.offset 0) (unit_lines x p.unit) (inner_lines x p)
