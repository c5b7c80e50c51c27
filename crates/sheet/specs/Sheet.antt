-- Document 02, request 3: the shelf sheet, a unit's flat reading on pages of 60 lines of 32 characters and a line feed.
use Rattle.std.specs.Prelude.{cond, List, [], ◌∷◌, ◌++◌, map, ℕ, ◌-◌, ◌*◌, eqb, ltb, leb, ℤ, length, take, drop, replicate}
use Rattle.reader.specs.Answer.{Answer, got, refused, and_then}
use Rattle.reader.specs.Sizes.{max_section}
use Rattle.reader.specs.declared.endianity.RunTimeEndian.{RunTimeEndian}
use Rattle.unit.specs.declared.header.UnitHeader.{UnitHeader}
use Rattle.entries.specs.Flat.{Item, flat_reading}
use Rattle.listing.specs.Text.{ascii, numeral, signed_numeral}

-- ---- a line

-- at the right of w columns, with as many of a character before it as it leaves
unfoldable pub padded : (character : ℕ) → ℕ → List ℕ → List ℕ
padded c w t = replicate (w - length t) c ++ t

-- at the right of w columns
abbrev pub right : ℕ → List ℕ → List ℕ
right w t = padded 32 w t

-- a tag: `0x` and four small hexadecimal digits; of a null, which has the tag 0, `null` and two blanks
abbrev pub tag_text : ℕ → List ℕ
tag_text tag = cond (eqb tag 0) (ascii "null  ") (ascii "0x" ++ padded 48 4 (numeral 16 tag))

-- an offset, a depth, a tag and a count of values
unfoldable pub sheet_line : (offset : ℕ) (depth : ℤ) (tag count : ℕ) → List ℕ
sheet_line offset depth tag count =
    right 10 (numeral 10 offset) ++ ascii " " ++ right 11 (signed_numeral depth) ++ ascii " " ++ tag_text tag ++ ascii " " ++ right 2 (numeral 10 count)

abbrev pub item_line : Item → List ℕ
item_line i = sheet_line i.value.offset i.value.depth i.value.tag i.value.count

-- an unused one
abbrev pub blank_line : List ℕ
blank_line = replicate 32 32

-- ---- a page

-- items 60 n to 60 n + 59, counted from 0
abbrev pub on_page : ℕ → List Item → List Item
on_page n items = take 60 (drop (60 * n) items)

-- their lines, and unused ones up to 60
abbrev pub filled : List Item → List (List ℕ)
filled items = map item_line items ++ replicate (60 - length items) blank_line

-- page n of a unit's items; of a unit that refuses blank lines
unfoldable pub page_of : ℕ → Answer (List Item) → List (List ℕ)
page_of n (got items) = filled (on_page n items)
page_of n (refused k) = filled []

-- each line with a line feed
abbrev pub in_bytes : List (List ℕ) → List ℕ
in_bytes [] = []
in_bytes (l ∷ ls) = l ++ ascii "\n" ++ in_bytes ls

-- ---- a page that is lent

-- 60 lines of 33 bytes
abbrev pub page_size : ℕ
page_size = 1980

-- what is said, and what the lent page then holds
pub record Shown : Type 0 where
  pub answer : Answer (Unit {0})
  pub page : List ℕ

-- question 23 before all others; bytes past the page stay
unfoldable pub shown : ℕ → Answer (List Item) → List ℕ → Shown
shown n r lent =
    cond (ltb (length lent) page_size)
    (record { answer = refused 23; page = lent })
    (record { answer = and_then r (λ _. got tt); page = in_bytes (page_of n r) ++ drop page_size lent })

-- a unit's flat reading; 01's question 1 is asked of its size first, so that each number has its columns
unfoldable pub sheet_reading : ℕ → UnitHeader → (u rows specs : List ℕ) → RunTimeEndian → Answer (List Item)
sheet_reading most h u rows specs e = cond (leb (length u) max_section) (flat_reading most h u rows specs e) (refused 1)
