-- The tree as a program that reads item after item, over any read. Offsets are offsets in the unit.
use mathlib.Core.Path.{◌≡◌}
use mathlib.Core.Bool.{Bool, true, false, ◌&&◌, cond}
use mathlib.Core.Option.{Option, none, some}
use mathlib.Core.List.{List, [], ◌∷◌}
use Prim.Native.Nat.{ℕ, zero, suc, ◌-◌, ◌≤◌, ◌<◌}
use lib.Dec.{eqb}
use lib.IntN.{ℤ, pos, suc_ℤ, pred_ℤ}
use Rattle.reader.specs.Answer.{Answer, got, refused, and_then, Holds}
use Rattle.entries.specs.Read.{same_depth}
use Rattle.tree.specs.Walk.{Item, Reply, entry, no_more, reached, in_range, replies}

-- ---- the read

-- the end, the item at an offset and a depth, the depth that its refusal leaves, and the entry of a null that is set with an offset and a depth
pub record Reads (X : Type 0) : Type 0 where
  pub fin : ℕ
  pub read : ℕ → ℤ → Answer (Item X)
  pub leaves : ℕ → ℤ → ℤ
  pub blank : ℕ → ℤ → X

-- what is supposed of an item read at an offset a and a depth d: it stands there and ends further on, not past the end; a null has no children;
-- a jump is offered by an entry with children only, not before the next byte and not past the end
pub record Fits {X : Type 0} (fin a : ℕ) (d : ℤ) (i : Item X) : Type 0 where
  pub at_is : i.at ≡ a
  pub depth_is : i.depth ≡ d
  pub onward : a < i.next
  pub inside : i.next ≤ fin
  pub bare : i.null ≡ true → i.children ≡ false
  pub offered : (t : ℕ) → i.jump ≡ some t → (i.children ≡ true) × (i.next ≤ t) × (t ≤ fin)

-- each item that is read fits its place
abbrev pub Fair : {X : Type 0} → Reads X → Type 0
Fair R = (a : ℕ) (d : ℤ) → Holds (Fits R.fin a d) (R.read a d)

-- ---- the flat reading of a root

module _ {X : Type 0} where
  -- 01, "Walks": the depth after an item
  abbrev pub after : Item X → ℤ
  after i = cond i.null (pred_ℤ i.depth) (cond i.children (suc_ℤ i.depth) i.depth)

  -- an item, and the rest after it
  abbrev pub followed : Item X → Answer (List (Item X)) → Answer (List (Item X))
  followed i rest = and_then rest (λ l. got (i ∷ l))

  -- "through the first null at depth 1"
  abbrev pub through : Item X → Answer (List (Item X)) → Answer (List (Item X))
  through i rest = cond (i.null && same_depth i.depth (pos 1)) (got (i ∷ [])) (followed i rest)

module _ {X : Type 0} (R : Reads X) where
  -- the items from an offset and a depth on; each moves on, so that as many as there are bytes come to the end (`items_is` is the rule without a count)
  unfoldable pub items : ℕ → ℕ → ℤ → Answer (List (Item X))
  items zero a d = got []
  items (suc n) a d =
      cond (eqb a R.fin) (got []) (and_then (R.read a d) (λ i. through i (items n i.next (after i))))

  -- 01: "all items read raw from it at depth 0 through the first null at depth 1 or to the end; a root without children stands alone"; question 20
  unfoldable pub flat : ℕ → Answer (List (Item X))
  flat p =
      and_then (R.read p (pos 0))
      (λ i.
      cond i.null (refused 20)
      (cond i.children (followed i (items (R.fin - i.next) i.next (pos 1))) (got (i ∷ []))))

-- ---- the tree

-- whether there is a root, the offset and the depth of the next read, and the item held
pub record State (X : Type 0) : Type 0 where
  pub rooted : Bool
  pub at : ℕ
  pub depth : ℤ
  pub held : Item X

module _ {X : Type 0} where
  -- an item that was read is held
  abbrev pub hold : Item X → State X
  hold i = record { rooted = true; at = i.next; depth = after i; held = i }

  -- a jump: "The depth is then that entry's own"
  abbrev pub jump_by : Option ℕ → State X → State X
  jump_by none s = s
  jump_by (some t) s = record { rooted = s.rooted; at = t; depth = s.held.depth; held = s.held }

module _ {X : Type 0} (R : Reads X) where
  -- a null that is set at the end
  abbrev pub made : ℕ → ℤ → Item X
  made a d =
      record { at = a; next = R.fin; depth = d; null = true; children = false; jump = none; body = R.blank a d }

  -- nothing is left: "A null set there keeps the offset and depth last read"
  abbrev pub stop : State X → State X
  stop s =
      record { rooted = s.rooted; at = R.fin; depth = s.depth; held = made s.held.at s.held.depth }

  -- a refusal: "one set after a refusal has those of the refused entry"
  abbrev pub halt : State X → State X
  halt s =
      record { rooted = s.rooted; at = R.fin; depth = R.leaves s.at s.depth; held = made s.at s.depth }

  -- what follows the item that is read, if one is
  unfoldable pub fetched : State X → (Item X → Reply X × State X) → Answer (Item X) → Reply X × State X
  fetched s f (got i) = f i
  fetched s f (refused n) = (refused n, halt s)

  unfoldable pub fetch : State X → (Item X → Reply X × State X) → Reply X × State X
  fetch s f = cond (eqb s.at R.fin) (no_more, stop s) (fetched s f (R.read s.at s.depth))

  -- on to the next item at depth k, by jumps (`loop_is` is the rule without a count)
  unfoldable pub seek : ℕ → ℤ → State X → Reply X × State X
  seek zero k s = (refused 0, s)
  seek (suc n) k s =
      fetch (jump_by s.held.jump s) (λ i. cond (same_depth i.depth k) (reached i, hold i) (seek n k (hold i)))

  unfoldable pub climb : ℤ → State X → Reply X × State X
  climb k s =
      cond (same_depth k (suc_ℤ s.held.depth))
      (cond s.held.children (fetch s (λ i. (reached i, hold i))) (no_more, s))
      (cond (s.held.null && same_depth s.held.depth k) (no_more, s) (seek (suc R.fin) k s))

  -- one call; question 21
  unfoldable pub tree : ℤ → State X → Reply X × State X
  tree k s = cond (s.rooted && in_range k s.held.depth) (climb k s) (refused 21, s)

  -- "A root is read at depth 0"; question 20
  unfoldable pub root : ℕ → Answer (State X)
  root p = and_then (R.read p (pos 0)) (λ i. cond i.null (refused 20) (got (hold i)))

  -- what a tree walk says: "one successful root, then any list of level calls"
  unfoldable pub tree_says : ℕ → List ℤ → Answer (List (Reply X))
  tree_says p ks = and_then (root p) (λ s. got (entry s.held ∷ replies tree ks s))

-- the state that a list of calls leaves
abbrev pub left : {A S : Type 0} → (ℤ → S → A × S) → List ℤ → S → S
left f [] s = s
left f (k ∷ ks) s = left f ks (f k s).1
