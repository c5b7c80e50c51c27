-- A unit read flat.
use Rattle.std.specs.Prelude.{Bool, false, cond, List, [], ◌∷◌, ℕ, zero, suc, ◌-◌, leb, ℤ, length}
use Rattle.std.proofs.Math.Option.{Option, none, some}
use Rattle.reader.specs.Answer.{Answer, got, refused, and_then, if_some, Read}
use Rattle.reader.specs.declared.endianity.RunTimeEndian.{RunTimeEndian}
use Rattle.unit.specs.Header.{size_of_header}
use Rattle.unit.specs.Range.{entries_buf}
use Rattle.unit.specs.declared.header.UnitHeader.{UnitHeader}
use Rattle.entries.specs.Entry.{Entry}
use Rattle.entries.specs.Raw.{moved_to, opened, source_of}
use Rattle.attribute.specs.declared.source.Source.{Source}
use Rattle.entries.specs.Read.{entry_at, after_entry}
use Rattle.entries.specs.declared.raw.EntriesRaw.{EntriesRaw}

-- an item: an entry or a null, and the place after it
abbrev pub Item : Type 0
Item = Read Entry

-- where the n-th of some items stands, and its depth, where the first stands at a place and a depth
abbrev pub place_at : ℕ → List Item → ℕ → ℕ
place_at at l zero = at
place_at at [] (suc n) = at
place_at at (i ∷ l) (suc n) = place_at i.next l n

abbrev pub depth_at : ℤ → List Item → ℕ → ℤ
depth_at d l zero = d
depth_at d [] (suc n) = d
depth_at d (i ∷ l) (suc n) = depth_at (after_entry i.value) l n

-- a refusal: its number, and the place and depth of the refused entry
pub record Stop : Type 0 where
  pub number : ℕ
  pub at : ℕ
  pub depth : ℤ

-- items read raw one after another, and the refusal that ended them
pub record Reading : Type 0 where
  pub items : List Item
  pub stop : Option Stop

-- no item is left
abbrev pub nothing : Reading
nothing = record { items = []; stop = none }

abbrev pub before : Item → Reading → Reading
before i r = record { items = i ∷ r.items; stop = r.stop }

-- an item that was read and, unless it is the last, what follows it; or a refusal
abbrev pub read_on : (Entry → Bool) → ℕ → ℤ → (Item → Reading) → Answer Item → Reading
read_on last at d more (got i) = before i (cond (last i.value) nothing (more i))
read_on last at d more (refused n) = record { items = []; stop = some (record { number = n; at = at; depth = d }) }

-- all items, or the refusal
abbrev pub all_of : Reading → Answer (List Item)
all_of r = if_some r.stop (got r.items) (λ x. refused x.number)

module _ (most : ℕ) (src : Source) (s rows specs : List ℕ) where
  -- until no byte is left, one is the last, or an entry is refused; n at most
  unfoldable pub read_within : (Entry → Bool) → ℕ → ℕ → ℤ → Reading
  read_within last zero at d = nothing
  read_within last (suc n) at d =
      cond (leb (length s) at)
      nothing
      (read_on last at d (λ i. read_within last n i.next (after_entry i.value)) (entry_at most src s rows specs at d))

  -- each takes a byte, so that the bytes run out first (`reading_step`)
  unfoldable pub read_from : (Entry → Bool) → ℕ → ℤ → Reading
  read_from last at d = read_within last (length s - at) at d

  unfoldable pub items_from : (Entry → Bool) → ℕ → ℤ → Answer (List Item)
  items_from last at d = all_of (read_from last at d)

-- no item is the last: reading goes on until no byte is left
abbrev pub never : Entry → Bool
never e = false

-- the items that a raw reader reads from a state on
abbrev pub reading_from : ℕ → EntriesRaw → (s rows specs : List ℕ) → Reading
reading_from most w s rows specs = read_from most (source_of w) s rows specs never w.position w.depth

-- the state behind the first n of some items
abbrev pub after_items : EntriesRaw → List Item → ℕ → EntriesRaw
after_items w l n = moved_to w (place_at w.position l n) (depth_at w.depth l n)

-- 01, "Walks": the flat reading of a unit reads entries raw from the header's size until no byte is left; questions 19 and 1
unfoldable pub unit_reading : ℕ → UnitHeader → (u rows specs : List ℕ) → RunTimeEndian → Answer Reading
unit_reading most h u rows specs e =
    and_then (entries_buf h u)
    (λ s. and_then (opened (length s) (size_of_header h) h.encoding e) (λ w. got (reading_from most w s rows specs)))

-- all its items, or the refusal that ended it
abbrev pub flat_reading : ℕ → UnitHeader → (u rows specs : List ℕ) → RunTimeEndian → Answer (List Item)
flat_reading most h u rows specs e = and_then (unit_reading most h u rows specs e) all_of
