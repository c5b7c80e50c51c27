-- What the functions that write lines promise.
use Rattle.std.specs.Prelude.{cond, List, [], ◌∷◌, ◌++◌, ◌≡◌, ℕ, ◌+◌, ◌≤◌, leb, length, take, get_or, Option, Some, None, is_some, Result, Ok, Err, All}
use Rattle.std.specs.declared.ops.ControlFlow.{ControlFlow}
use Rattle.std.specs.declared.ops.ControlFlow.TheVariants.{Continue, Break}
use Rattle.reader.specs.Errors.{number_of}
use Rattle.reader.specs.declared.error.Error.{Error}
use Rattle.reader.specs.Sizes.{max_section}
use Rattle.reader.specs.Twos.{twos}
use Rattle.abbrev.specs.Lent.{Same}
use Rattle.unit.specs.Header.{size_of_header, unit_end}
use Rattle.unit.specs.declared.header.UnitHeader.{UnitHeader}
use Rattle.listing.specs.Listing.{Placed, put, place_in, head_line, item_text, Shelf}
use Rattle.listing.specs.Piece.{room}
use Rattle.listing.specs.Text.{Line, refused_line, end_line, text}
use Rattle.listing.specs.declared.list.Listing as declared_list
use Rattle.listing.specs.declared.place.ListingPlace.{ListingPlace}
use Rattle.listing.specs.declared.lines.Lines.{Lines}

-- ---- text stored

-- the same lines in the same buffer, with t behind their text
pub record Put (a b : Lines) (t : List ℕ) : Type 0 where
  pub lent : b.out.ghost_name ≡ a.out.ghost_name
  pub same : length b.out.now ≡ length a.out.now
  pub ends : b.end ≡ a.end + length t
  pub bytes : take b.end b.out.now ≡ take a.end a.out.now ++ t
  pub count : b.count ≡ a.count
  pub next : b.next ≡ a.next

-- a line written, within a line's room
pub record Lined (a b : Lines) (l : Line) : Type 0 where
  pub put : Put a b (text l)
  pub most : b.end ≤ a.end + room

abbrev pub view_line : Result (Option UnitHeader) Error → Line
view_line (Ok (Some h)) = head_line h
view_line (Ok None) = end_line
view_line (Err e) = refused_line (number_of e)

-- ---- line by line

-- how many lines there are, their bytes, and where the first stands that found no room
pub record Part : Type 0 where
  pub count : ℕ
  pub bytes : List ℕ
  pub next : Option ListingPlace

abbrev pub part_of : Lines → Part
part_of l = record { count = l.count; bytes = take l.end l.out.now; next = l.next }

-- with one more line: it is held, or has no room
unfoldable pub add : ℕ → Part → Placed → Part
add n p l =
    cond (is_some p.next) p
    (cond (leb (length p.bytes + room) n)
    (record { count = p.count + 1; bytes = p.bytes ++ text l.line; next = p.next })
    (record { count = p.count; bytes = p.bytes; next = Some l.place }))

abbrev pub adds : ℕ → Part → List Placed → Part
adds n p [] = p
adds n p (l ∷ ls) = adds n (add n p l) ls

-- what follows is added, unless they break off
abbrev pub followed : ℕ → ControlFlow (Unit {0}) (Unit {0}) → Part → List Placed → Part
followed n (Continue u) p rest = adds n p rest
followed n (Break u) p rest = p

-- the lines of `all`, with what follows them unless they break off
pub record Written (a b : Lines) (all : List Placed → List Placed) (flow : ControlFlow (Unit {0}) (Unit {0})) : Type 0 where
  pub lent : b.out.ghost_name ≡ a.out.ghost_name
  pub same : length b.out.now ≡ length a.out.now
  pub is : (rest : List Placed) → adds (length a.out.now) (part_of a) (all rest) ≡ followed (length a.out.now) flow (part_of b) rest

-- ---- items as words

-- the line of an item: its offset, its depth in two's complement, its tag and its count of values
abbrev pub words_line : ℕ → List ℕ → Placed
words_line unit w =
    let depth = twos 64 (get_or w 1 0) in
    put (place_in unit (get_or w 0 0) depth) (item_text (get_or w 0 0) depth (get_or w 2 0) (get_or w 3 0))

-- items whose tags have 16 bits
abbrev pub Items : List (List ℕ) → Type 0
Items items = All (λ w. get_or w 2 0 ≤ 65535) items

-- ---- units

-- a unit that lies in a section of so many bytes
pub record Fit (count : ℕ) (h : UnitHeader) : Type 0 where
  pub short : count ≤ max_section
  pub there : h.offset + unit_end h ≤ count
  pub header : size_of_header h ≤ unit_end h

abbrev pub shelf_of : declared_list.Listing → Shelf
shelf_of x = record { abbrevs = x.abbrevs.now; info = x.info.now; rows = length x.lent.now.rows.now; specs = length x.lent.now.specs.now }

-- the same sections, as many words in the same slices, and the same lines' place
pub record Lent (x y : declared_list.Listing) : Type 0 where
  pub shelf : shelf_of y ≡ shelf_of x
  pub lent : y.lent.ghost_name ≡ x.lent.ghost_name
  pub lines : y.lines.ghost_name ≡ x.lines.ghost_name
  pub same : Same x.lent.now y.lent.now
