-- Items whose depth is a natural number: from a root on all are. The proofs go by them, since `omega` reads no ℤ.
use mathlib.Core.Path.{◌≡◌, refl, sym, ◌∙◌, ap, subst}
use mathlib.Core.Bool.{Bool, true, false, ◌&&◌, cond, true≢false, false≢true}
use mathlib.Core.Option.{Option}
use mathlib.Core.List.{List, [], ◌∷◌}
use Prim.Native.Nat.{ℕ, zero, suc, ◌-◌, ◌≤◌, ◌<◌}
use native.Mathlib.Omega.{arith}
use borrow.Author.Tests.{ltb-true, ltb-false, leb-true, leb-false, eqb-true, eqb-false}
use borrow.Table.Steps.{cases}
use lib.Dec.{leb, eqb}
use lib.IntN.{ℤ, pos, pred_ℤ, nat_abs}
use Rattle.reader.specs.Answer.{Answer, got, refused, Holds}
use Rattle.tree.specs.Walk.{Item, in_range}
use Rattle.tree.proofs.Program.{Reads, Fits, Fair, after}

pub ruleset tests = (arith, ltb-true, ltb-false, leb-true, leb-false, eqb-true, eqb-false)

pub in_range_lem : (k d : ℕ) → in_range (pos k) (pos d) ≡ true → (1 ≤ k) × (k ≤ suc d)
in_range_lem k d t =
    cases (leb 1 k)
    (λ a. (leb-true 1 k a, let b : leb k (suc d) ≡ true = rw a at t in leb-true k (suc d) b))
    (λ a. absurd (false≢true (rw a at t)))

-- an answer's value is what it got
pub holds_self : {A : Type 0} (r : Answer A) → Holds (λ a. r ≡ got a) r
holds_self (got a) = refl
holds_self (refused n) = tt

-- ---- the items

pub record NatItem (X : Type 0) : Type 0 where
  pub at : ℕ
  pub next : ℕ
  pub depth : ℕ
  pub null : Bool
  pub children : Bool
  pub jump : Option ℕ
  pub body : X

pred_pos : (n : ℕ) → 1 ≤ n → pred_ℤ (pos n) ≡ pos (n - 1)
pred_pos zero p = absurd (omega arith)
pred_pos (suc n) p = ap pos (omega arith)

module _ {X : Type 0} where
  abbrev pub up : NatItem X → Item X
  up i =
      record { at = i.at; next = i.next; depth = pos i.depth; null = i.null; children = i.children; jump = i.jump; body = i.body }

  pub down : (i : Item X) (d : ℕ) → i.depth ≡ pos d → (j : NatItem X) × (i ≡ up j)
  down i d e = (
    record { at = i.at; next = i.next; depth = d; null = i.null; children = i.children; jump = i.jump; body = i.body },
    λ j. record { at = i.at; next = i.next; depth = e j; null = i.null; children = i.children; jump = i.jump; body = i.body },
  )

  -- the depth after an item
  abbrev pub nat_after : NatItem X → ℕ
  nat_after i = cond i.null (i.depth - 1) (cond i.children (suc i.depth) i.depth)

  pub after_up : (i : NatItem X) → (i.null ≡ true → 1 ≤ i.depth) → after (up i) ≡ pos (nat_after i)
  after_up i p =
      cases i.null (λ n. rw n (pred_pos i.depth (p n))) (λ n. rw n (cases i.children (λ c. rw c) (λ c. rw c)))

  -- it falls by at most one
  pub after_ge : (d : ℕ) (i : NatItem X) → d < i.depth → d ≤ nat_after i
  after_ge d i h =
      cases i.null (λ e. rw e (omega arith)) (λ e. rw e (cases i.children (λ c. rw c (omega arith)) (λ c. rw c (omega arith))))

  pub after_children : (h : NatItem X) → (h.null ≡ true → h.children ≡ false) → h.children ≡ true → nat_after h ≡ suc h.depth
  after_children h b c = cases h.null (λ n. absurd (true≢false (sym c ∙ b n))) (λ n. rw (n, c))

  -- after an item that is no null at depth k it is k or deeper
  pub after_from : (k : ℕ) (h : NatItem X) → k ≤ h.depth → (h.null && eqb h.depth k) ≡ false → k ≤ nat_after h
  after_from k h q t =
      cases h.null
      (λ n. let u : eqb h.depth k ≡ false = rw n at t in rw n (omega tests))
      (λ n. rw n (cases h.children (λ c. rw c (omega arith)) (λ c. rw c q)))

  -- after a null at depth 1 it is 0
  pub after_last : (i : NatItem X) → (i.null && eqb i.depth 1) ≡ true → nat_after i ≡ 0
  after_last i t =
      cases i.null
      (λ n. let u : eqb i.depth 1 ≡ true = rw n at t in rw n (omega tests))
      (λ n. absurd (false≢true (rw n at t)))

-- ---- as they are read

module _ {X : Type 0} (R : Reads X) where
  -- read one after another from an offset and a depth on, until the depth is 0 or the end has come
  abbrev pub Run : ℕ → ℕ → List (NatItem X) → Type 0
  Run a d [] = 1 ≤ d → a ≡ R.fin
  Run a d (i ∷ l) = (1 ≤ d) × (R.read a (pos d) ≡ got (up i)) × Run i.next (nat_after i) l

module _ {X : Type 0} (R : Reads X) (fair : Fair R) where
  pub fit : (a : ℕ) (d : ℤ) {i : Item X} → R.read a d ≡ got i → Fits R.fin a d i
  fit a d e = subst (Holds (Fits R.fin a d)) e (fair a d)

  pub read_depth : (a d : ℕ) (i : NatItem X) → R.read a (pos d) ≡ got (up i) → i.depth ≡ d
  read_depth a d i g = ap nat_abs (fit a (pos d) g).depth_is

  -- at a natural depth the item read is one of these
  pub read_nat : (a d : ℕ) → Holds (λ i. (j : NatItem X) × (i ≡ up j) × (R.read a (pos d) ≡ got (up j))) (R.read a (pos d))
  read_nat a d = go (R.read a (pos d)) refl
    where
      go : (r : Answer (Item X)) → R.read a (pos d) ≡ r → Holds (λ i. (j : NatItem X) × (i ≡ up j) × (R.read a (pos d) ≡ got (up j))) r
      go (got i) g = let (j, u) = down i d (fit a (pos d) g).depth_is in (j, u, g ∙ ap got u)
      go (refused n) g = tt
