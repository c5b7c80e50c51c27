-- What `tehkumir_list` promises.
use Rattle.std.specs.Prelude.{List, [], ◌∷◌, ℕ, is_some, unwrap_or}
use Rattle.listing.specs.Listing.{place_of}
use Rattle.listing.specs.Listed.{ListedAs}
use Rattle.listing.specs.declared.list.Listed.{Listed}
use Rattle.listing.specs.declared.place.ListingPlace.{ListingPlace}
use Rattle.reader.specs.Twos.{word}
use Rattle.capi.specs.Words.{Says, bit}

-- bytes, lines, 1 where there are lines behind them, and where the first of these stands
abbrev pub listed_words : Listed → List ℕ
listed_words x =
    let p = unwrap_or x.next (place_of 0) in
    x.bytes ∷ x.lines ∷ bit (is_some x.next) ∷ p.unit ∷ p.offset ∷ word 64 p.depth ∷ []

-- a piece of a listing in the lent bytes, and its counts as words
pub record ListedWords (abbrevs info rows₀ specs₀ : List ℕ) (place : ListingPlace) (text₀ rows specs text before after : List ℕ) (r : ℕ) : Type 0 where
  pub listed : Listed
  pub is : ListedAs abbrevs info rows₀ specs₀ place text₀ rows specs text listed
  pub says : Says 0 (listed_words listed) before after r
