-- Document 01, "The plain walk": items, and the walk over a list of them. What is in quotes are its words.
use Rattle.std.specs.Prelude.{◌≡◌, Bool, not, ◌&&◌, cond, List, [], ◌∷◌, ℕ, ℤ, pos}
use Rattle.std.proofs.Math.Option.{Option, none, some}
use Rattle.std.proofs.Math.IntN.{suc_ℤ}
use Rattle.std.specs.Int.Signed.{lt_z, le_z}
use Rattle.reader.specs.Answer.{Answer, got, refused, if_some}
use Rattle.entries.specs.Read.{same_depth}

-- ---- items

-- an entry or a null, read raw: its offset, that of the next byte, its depth, whether it is a null, whether it has children, the jump that it offers, and its entry whole
pub record Item (X : Type 0) : Type 0 where
  pub at : ℕ
  pub next : ℕ
  pub depth : ℤ
  pub null : Bool
  pub children : Bool
  pub jump : Option ℕ
  pub body : X

module _ {X : Type 0} where
  -- "The items after an entry, up to but not including the first that is no deeper, are under it": of an entry of depth d, and the items after it
  abbrev pub under : ℤ → List (Item X) → List (Item X)
  under d [] = []
  under d (i ∷ l) = cond (lt_z d i.depth) (i ∷ under d l) []

  -- the entries at a depth
  abbrev pub entries_at : ℤ → List (Item X) → List (Item X)
  entries_at d [] = []
  entries_at d (i ∷ l) = cond (same_depth i.depth d && not i.null) (i ∷ entries_at d l) (entries_at d l)

  -- "of those one deeper, the entries are its children and a null closes it": of an entry, and the items after it
  abbrev pub children_of : Item X → List (Item X) → List (Item X)
  children_of e l = entries_at (suc_ℤ e.depth) (under e.depth l)

-- ---- answers

-- what a call says: an entry, "no more", or a refusal
abbrev pub Reply : Type 0 → Type 0
Reply X = Answer (Option (Item X))

module _ {X : Type 0} where
  -- the answer, whole
  abbrev pub entry : Item X → Reply X
  entry i = got (some i)

  -- "no more"
  abbrev pub no_more : Reply X
  no_more = got none

  -- an entry reached is the answer, whole; a null reached is "no more"
  abbrev pub reached : Item X → Reply X
  reached i = cond i.null no_more (entry i)

-- ---- the walk

-- "The walk holds an item", with the items after it; or it "has ended", with the depth d "of the last item held or passed"
pub data Walk (X : Type 0) : Type 0 where
  on : Item X → List (Item X) → Walk X
  ended : ℤ → Walk X

-- "A level k not from 1 to d + 1 is refused"
abbrev pub in_range : ℤ → ℤ → Bool
in_range k d = le_z (pos 1) k && le_z k (suc_ℤ d)

module _ {X : Type 0} where
  -- "an item, first the root, of depth d"
  abbrev pub depth_of : Walk X → ℤ
  depth_of (on h l) = h.depth
  depth_of (ended d) = d

  -- "moves on from an entry with children to the next item"; "If none is left, the walk has ended"
  unfoldable pub next_item : Item X → List (Item X) → Reply X × Walk X
  next_item h [] = (no_more, ended h.depth)
  next_item h (i ∷ l) = (reached i, on i l)

  -- the last item held or passed after i, h being the last before it: "items skipped by the jump of an entry held or passed in that same call do not count as passed"
  unfoldable pub passed : Item X → Item X → Item X
  passed h i = if_some h.jump i (λ t. cond (lt_z h.depth i.depth) h i)

  -- "from any other item it moves on to the next at depth k", h being the last item held or passed
  unfoldable pub next_at : ℤ → Item X → List (Item X) → Reply X × Walk X
  next_at k h [] = (no_more, ended h.depth)
  next_at k h (i ∷ l) = cond (same_depth i.depth k) (reached i, on i l) (next_at k (passed h i) l)

  -- the sentences "For d + 1 the walk moves on ..", "For k up to d it stays .." and, once it has ended, "levels 1 to d + 1 say .."
  unfoldable pub move : ℤ → Walk X → Reply X × Walk X
  move k (ended d) = (no_more, ended d)
  move k (on h l) =
      cond (same_depth k (suc_ℤ h.depth))
      (cond h.children (next_item h l) (no_more, on h l))
      (cond (h.null && same_depth h.depth k) (no_more, on h l) (next_at k h l))

  -- one call: a level that is not in range "is refused with 21 and changes nothing"
  unfoldable pub walk : ℤ → Walk X → Reply X × Walk X
  walk k w = cond (in_range k (depth_of w)) (move k w) (refused 21, w)

-- what a list of calls says, "each on the state last handed back"
abbrev pub replies : {R S : Type 0} → (ℤ → S → R × S) → List ℤ → S → List R
replies f [] s = []
replies f (k ∷ ks) s = (f k s).0 ∷ replies f ks (f k s).1

-- what the walk of a root's flat reading says: the root, and the answers to the calls
unfoldable pub walk_says : {X : Type 0} → List (Item X) → List ℤ → List (Reply X)
walk_says [] ks = []
walk_says (i ∷ l) ks = entry i ∷ replies walk ks (on i l)

-- ---- what demand 3 supposes of jumps

module _ {X : Type 0} where
  -- an offset is just past the last of some items, where there are any
  abbrev pub JustPast : ℕ → List (Item X) → Type 0
  JustPast t [] = Unit {0}
  JustPast t (i ∷ []) = t ≡ i.next
  JustPast t (i ∷ j ∷ l) = JustPast t (j ∷ l)

  -- each jump that is offered leads just past the last item under its entry
  abbrev pub Jumps : List (Item X) → Type 0
  Jumps [] = Unit {0}
  Jumps (i ∷ l) = ((t : ℕ) → i.jump ≡ some t → JustPast t (under i.depth l)) × Jumps l
