-- Items that are only passed: what is told of them, and their words.
use Rattle.std.specs.Prelude.{Bool, true, false, cond, List, [], ◌∷◌, ◌++◌, ℕ, ◌*◌, ltb, length, take, drop}
use Rattle.std.proofs.Math.Option.{Option, none, some}
use Rattle.reader.specs.Answer.{Answer, got, refused, if_some}
use Rattle.reader.specs.Twos.{word}
use Rattle.abbrev.specs.Lookup.{Found}
use Rattle.entries.specs.Entry.{Entry}
use Rattle.entries.specs.Flat.{Item, Reading, reading_from, after_items}
use Rattle.entries.specs.Raw.{keeps_raw, Moved, Taken}
use Rattle.entries.specs.declared.raw.EntriesRaw.{EntriesRaw}

-- what is told of an entry
pub record Passed : Type 0 where
  pub tag : ℕ
  pub count : ℕ

-- of what a code stands for: what is told of an entry, or none for a null
abbrev pub told_if : Option Found → Option Passed
told_if none = none
told_if (some f) = some (record { tag = f.tag; count = f.count })

-- of an item that read_entry reads: what is told of an entry, or none for a null
abbrev pub told_of : Answer Bool → Entry → Answer (Option Passed)
told_of (got true) e = got (some (record { tag = e.tag; count = e.count }))
told_of (got false) e = got none
told_of (refused n) e = refused n

abbrev pub told : Taken → Moved (Option Passed)
told x = record { answer = told_of x.answer x.entry; raw = x.raw }

-- ---- one after another

-- offset, depth in two's complement, tag and count of values; a null has 0 for the last two
abbrev pub item_words : Item → List ℕ
item_words i = i.value.offset ∷ word 64 i.value.depth ∷ i.value.tag ∷ i.value.count ∷ []

abbrev pub items_words : List Item → List ℕ
items_words [] = []
items_words (i ∷ l) = item_words i ++ items_words l

-- items, what is said, and the state behind them
pub record PassedItems : Type 0 where
  pub items : List Item
  pub answer : Answer (Unit {0})
  pub raw : EntriesRaw

-- the first m items of a reading; with room for one more, the refusal that ended it
abbrev pub first_of : ℕ → EntriesRaw → Reading → PassedItems
first_of m w r =
    record {
      items = take m r.items;
      answer = cond (ltb (length r.items) m) (if_some r.stop (got tt) (λ x. refused x.number)) (got tt);
      raw = after_items w r.items m;
    }

-- at most m items from a state on; 01, question 1
unfoldable pub passed_items : (most m : ℕ) → EntriesRaw → (s rows specs : List ℕ) → PassedItems
passed_items most m w s rows specs =
    cond (keeps_raw (length s) w)
    (first_of m w (reading_from most w s rows specs))
    (record { items = []; answer = refused 1; raw = w })

-- the items' words in lent words, which keep what they hold behind them
abbrev pub with_words : List Item → List ℕ → List ℕ
with_words l before = items_words l ++ drop (length l * 4) before
