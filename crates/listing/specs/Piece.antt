-- A listing in pieces: the leading lines that a buffer has room for.
use Rattle.std.specs.Prelude.{cond, List, [], ◌∷◌, ◌++◌, ℕ, ◌-◌, leb, length}
use Rattle.listing.specs.Listing.{Placed, place_of}
use Rattle.listing.specs.Text.{text}
use Rattle.listing.specs.declared.place.ListingPlace.{ListingPlace}

-- the bytes of some lines
abbrev pub texts : List Placed → List ℕ
texts [] = []
texts (l ∷ ls) = text l.line ++ texts ls

-- the room that a line is begun with; none is longer (`text_most`)
abbrev pub room : ℕ
room = 72

-- the leading lines that n bytes hold, each begun only with that room
abbrev pub fitting : ℕ → List Placed → List Placed
fitting n [] = []
fitting n (l ∷ ls) = cond (leb room n) (l ∷ fitting (n - length (text l.line)) ls) []

-- the place of the first of some lines; zeros where there is none
abbrev pub first_place : List Placed → ListingPlace
first_place [] = place_of 0
first_place (l ∷ ls) = l.place
