-- What `list` promises.
use Rattle.std.specs.Prelude.{List, ◌++◌, ◌≡◌, ℕ, ◌-◌, ltb, length, drop, replicate, is_some, unwrap_or}
use Rattle.listing.specs.Listing.{Placed, place_of, listing_from}
use Rattle.listing.specs.Piece.{texts, fitting, first_place}
use Rattle.listing.specs.declared.list.Listed.{Listed}
use Rattle.listing.specs.declared.place.ListingPlace.{ListingPlace}

-- the text of a piece of the listing from a place on, zeros behind it, and where the lines behind it begin; the lent rows are zero
pub record ListedAs (abbrevs info rows₀ specs₀ : List ℕ) (p : ListingPlace) (out₀ rows specs out : List ℕ) (r : Listed) : Type 0 where
  pub lines : List Placed
  pub lines_are : lines ≡ listing_from (record { abbrevs = abbrevs; info = info; rows = length rows₀; specs = length specs₀ }) p
  pub bytes_is : r.bytes ≡ length (texts (fitting (length out₀) lines))
  pub out_is : out ≡ texts (fitting (length out₀) lines) ++ replicate (length out₀ - r.bytes) 0
  pub count_is : r.lines ≡ length (fitting (length out₀) lines)
  pub more_is : is_some r.next ≡ ltb r.lines (length lines)
  pub place_is : unwrap_or r.next (place_of 0) ≡ first_place (drop r.lines lines)
  pub rows_are : rows ≡ replicate (length rows₀) 0
  pub specs_are : specs ≡ replicate (length specs₀) 0
