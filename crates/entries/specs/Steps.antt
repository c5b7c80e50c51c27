-- What the private functions ask for and promise.
use Rattle.std.specs.Prelude.{◌≡◌, Bool, true, false, cond, ◌||◌, List, [], ◌∷◌, ℕ, ◌+◌, ◌/◌, ◌^◌, ◌≤◌, ◌<◌, eqb, ℤ, pos, ◌-ℤ◌, nat_abs, length}
use Rattle.std.proofs.Math.Option.{Option, none, some}
use Rattle.reader.specs.Answer.{Answer, got, refused, and_then, if_some, Read, end_of}
use Rattle.abbrev.specs.Lookup.{Found, declaration_of}
use Rattle.abbrev.specs.Table.{Specification}
use Rattle.attribute.specs.Attributes.{read_attributes}
use Rattle.attribute.specs.Value.{Attribute}
use Rattle.entries.specs.Cursor.{Cursor, Called, go_on, settled, jumped, depth_past, item_next, advanced, seek}
use Rattle.entries.specs.Entry.{Entry, sibling}
use Rattle.entries.specs.Raw.{moved_to, entry_here, Taken}
use Rattle.entries.specs.Read.{raised}
use Rattle.entries.specs.declared.pass.Passing.{Passing}
use Rattle.entries.specs.declared.raw.EntriesRaw.{EntriesRaw}

-- a state that keeps 01's sizes over so many bytes
pub record KeptRaw (count : ℕ) (w : EntriesRaw) : Type 0 where
  pub inside : w.position ≤ count
  pub short : w.start + count < 2 ^ 63
  pub near : nat_abs w.depth ≤ w.position

-- a place that a kept state can move on to
pub record Onward (w : EntriesRaw) (next : ℕ) : Type 0 where
  pub above : w.position < next
  pub short : w.start + next < 2 ^ 63
  pub near : nat_abs w.depth ≤ w.position

-- the entry of a found row with its values in their places, read up to a place
abbrev pub took_entry : EntriesRaw → Found → List Attribute → ℕ → Taken
took_entry w f attrs next =
    record {
      answer = got true;
      entry = entry_here w f attrs;
      raw = moved_to w next (raised f.children w.depth);
    }

-- whether a name is among those of some specifications
abbrev pub names_any : ℕ → List Specification → Bool
names_any n [] = false
names_any n (x ∷ xs) = eqb x.name n || names_any n xs

-- the specifications of what a code stands for are there
abbrev pub HasSpecs : List ℕ → Option Found → Type 0
HasSpecs specs none = Unit {0}
HasSpecs specs (some f) = f.first + f.count ≤ length specs / 3

-- whether it can offer a jump: an entry with children and with a specification for it
abbrev pub may_jump : List ℕ → Option Found → Bool
may_jump specs o =
    if_some o false (λ f. cond (eqb f.children 1) (names_any sibling (declaration_of specs f).specifications) false)

-- what there is, none after a refusal
abbrev pub if_got : {A : Type 0} → Answer A → Option A
if_got (got a) = some a
if_got (refused n) = none

-- the depth after a code, by what it stands for
abbrev pub depth_by : Option Found → ℤ → ℤ
depth_by o d = if_some o (d -ℤ pos 1) (λ f. raised f.children d)

-- where what a code stands for ends, from the place behind the code
abbrev pub code_end : ℕ → List ℕ → List ℕ → EntriesRaw → Option Found → ℕ → Answer ℕ
code_end most s specs w o p =
    if_some o (got p) (λ f. end_of (read_attributes most s w.start w.encoding w.endian specs f p))

-- the state there
abbrev pub passed_code : ℕ → List ℕ → List ℕ → EntriesRaw → Option Found → ℕ → Answer EntriesRaw
passed_code most s specs w o p =
    and_then (code_end most s specs w o p) (λ q. got (moved_to w q (depth_by o w.depth)))

-- where reading goes on after an item, its jump taken
abbrev pub past_item : ℕ → EntriesRaw → ℤ → Answer (Read Entry) → Option EntriesRaw
past_item count w d (got r) = some (jumped count (moved_to w r.next d) r.value)
past_item count w d (refused n) = none

-- a null that is reached is held, or is "no more"
abbrev pub asked_as : Bool → Called → Called
asked_as nulls r = cond nulls r (settled r)

module _ (most : ℕ) (s rows specs : List ℕ) where
  unfoldable pub passed_item : EntriesRaw → Option EntriesRaw
  passed_item w = past_item (length s) w (depth_past most s rows specs w) (item_next most s rows specs w)

  -- items were passed: what is sought from one place is what is reached from the other
  pub record Arrived (from : Cursor → EntriesRaw) (wanted : Entry → Bool) (p q : Passing) : Type 0 where
    pub kept : KeptRaw (length s) q.raw
    pub same : go_on wanted (seek most s rows specs from wanted) (advanced most s rows specs p.raw p.last.offset p.last.depth) ≡ settled (advanced most s rows specs q.raw q.last.offset q.last.depth)
