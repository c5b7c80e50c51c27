-- What the private functions ask for and promise.
use Rattle.std.specs.Prelude.{◌≡◌, cond, ◌&&◌, List, [], ◌∷◌, ◌++◌, ℕ, ◌+◌, ◌-◌, ◌*◌, ◌^◌, ◌≤◌, ◌<◌, ltb, leb, ℤ, nat_abs, length, take, drop, get_or}
use Rattle.reader.specs.Answer.{got, refused, if_some}
use Rattle.reader.specs.Sizes.{max_section}
use Rattle.reader.specs.Twos.{twos}
use Rattle.entries.specs.Flat.{Item, Reading}
use Rattle.entries.specs.Steps.{KeptRaw}
use Rattle.entries.specs.declared.raw.EntriesRaw.{EntriesRaw}
use Rattle.listing.specs.Text.{ascii}
use Rattle.sheet.specs.Sheet.{sheet_line, item_line, page_of, in_bytes, page_size, Shown}

-- a text from a place on, in the place of what was there
abbrev pub splice : ℕ → List ℕ → List ℕ → List ℕ
splice at t l = take at l ++ t ++ drop (at + length t) l

-- numbers that have their columns; a null, which has the tag 0, has no values
pub record Fair (offset : ℕ) (depth : ℤ) (tag count : ℕ) : Type 0 where
  pub offset_small : offset < 10 ^ 10
  pub depth_small : nat_abs depth < 10 ^ 10
  pub tag_small : tag < 16 ^ 4
  pub count_small : count < 10 ^ 2
  pub null_empty : tag ≡ 0 → count ≡ 0

-- a line of a page that begins with the `first`-th item, if the k-th has one
abbrev pub placed : (first k : ℕ) → List ℕ → List ℕ → List ℕ
placed first k t page = cond (leb first k && ltb (k - first) 60) (splice ((k - first) * 33) (t ++ ascii "\n") page) page

-- those of some items, of which the first is the k-th
abbrev pub placed_all : (first k : ℕ) → List Item → List ℕ → List ℕ
placed_all first k [] page = page
placed_all first k (i ∷ l) page = placed_all first (k + 1) l (placed first k (item_line i) page)

-- the line of an item by its words: its offset, its depth in two's complement, its tag and its count of values
abbrev pub words_line : List ℕ → List ℕ
words_line w = sheet_line (get_or w 0 0) (twos 64 (get_or w 1 0)) (get_or w 2 0) (get_or w 3 0)

-- the lines of items by their words
abbrev pub placed_words : (first k : ℕ) → List (List ℕ) → List ℕ → List ℕ
placed_words first k [] page = page
placed_words first k (w ∷ ws) page = placed_words first (k + 1) ws (placed first k (words_line w) page)

-- the words of an item whose numbers have their columns
abbrev pub FairWords : List ℕ → Type 0
FairWords w = Fair (get_or w 0 0) (twos 64 (get_or w 1 0)) (get_or w 2 0) (get_or w 3 0)

-- the number of the first item of page n; no unit has so many items that a higher page had one
abbrev pub first_on : ℕ → ℕ
first_on n = cond (ltb n 67108864) (n * 60) 4026531840

-- a state over a unit's bytes
pub record Opened (count : ℕ) (w : EntriesRaw) : Type 0 where
  pub kept : KeptRaw count w
  pub short : w.start + count ≤ max_section

-- a page of a reading; blank where a refusal ended it
abbrev pub page_from : ℕ → Reading → List ℕ → Shown
page_from n r lent =
    if_some r.stop
    (record { answer = got tt; page = in_bytes (page_of n (got r.items)) ++ drop page_size lent })
    (λ x. record { answer = refused x.number; page = in_bytes (page_of n (refused x.number)) ++ drop page_size lent })

-- how many of the first `seen` items have a line on a page that begins with the `first`-th
abbrev pub lines_of : (first seen : ℕ) → ℕ
lines_of first seen = cond (ltb seen first) 0 (cond (ltb (seen - first) 60) (seen - first) 60)
