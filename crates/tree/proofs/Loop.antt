-- The tree whatever is read, from any state: its loop without a count, what each call keeps, and that the entries given rise.
use mathlib.Core.Path.{◌≡◌, refl, sym, ◌∙◌, ap, subst}
use mathlib.Core.Bool.{Bool, true, false, ◌&&◌, cond}
use mathlib.Core.Option.{Option, none, some, none-ne-some}
use mathlib.Core.List.{List, [], ◌∷◌}
use Prim.Native.Nat.{ℕ, zero, suc, ◌+◌, ◌-◌, ◌≤◌, ◌<◌}
use native.Mathlib.Omega.{arith}
use borrow.Author.Tests.{eq-eqb}
use borrow.Table.Steps.{cases}
use lib.Dec.{eqb}
use lib.IntN.{ℤ, pos, negsuc, suc_ℤ, pred_ℤ, nat_abs}
use lib.ListN.{length}
use Rattle.reader.specs.Answer.{Answer, got, refused, and_then, Holds}
use Rattle.reader.proofs.Answers.{holds_then, then_same, cond_by}
use Rattle.entries.specs.Read.{same_depth}
use Rattle.tree.specs.Walk.{Item, Reply, entry, no_more, reached, in_range, replies}
use Rattle.tree.proofs.Program.{Reads, Fits, Fair, after, through, items, State, hold, jump_by, stop, fetched, fetch, seek, climb, tree, root, tree_says, left}
use Rattle.tree.proofs.Natural.{tests, holds_self, fit}

-- ---- without a count

module _ {X : Type 0} (R : Reads X) where
  fetched_same : (P : Item X → Type 0) (s : State X) (f g : Item X → Reply X × State X) (r : Answer (Item X)) → Holds P r → ((i : Item X) → P i → f i ≡ g i) → fetched R s f r ≡ fetched R s g r
  unfolding fetched
  fetched_same P s f g (got i) h k = k i h
  fetched_same P s f g (refused n) h k = refl

module _ {X : Type 0} (R : Reads X) (fair : Fair R) where
  -- a count of turns beyond what is left to read changes nothing
  items_count : (m n a : ℕ) (d : ℤ) → a ≤ R.fin → R.fin - a ≤ m → R.fin - a ≤ n → items R m a d ≡ items R n a d
  unfolding items
  items_count zero zero a d h p q = refl
  items_count zero (suc n) a d h p q = rw (eq-eqb a R.fin (omega arith))
  items_count (suc m) zero a d h p q = rw (eq-eqb a R.fin (omega arith))
  items_count (suc m) (suc n) a d h p q =
      ap (cond (eqb a R.fin) (got []))
      (then_same (Fits R.fin a d) (R.read a d) _ _ (fair a d) (λ i f.
      ap (through i) (items_count m n i.next (after i) f.inside (omega (arith, f.onward, f.inside)) (omega (arith, f.onward, f.inside)))))

  abbrev pub items_from : ℕ → ℤ → Answer (List (Item X))
  items_from a d = items R (R.fin - a) a d

  -- the items from an offset and a depth on, of the flat reading
  pub items_is : (a : ℕ) (d : ℤ) → a ≤ R.fin
      → items_from a d ≡ cond (eqb a R.fin) (got []) (and_then (R.read a d) (λ i. through i (items_from i.next (after i))))
  unfolding items
  items_is a d h =
      items_count (R.fin - a) (suc (R.fin - a)) a d h (omega arith) (omega arith)
      ∙ ap (cond (eqb a R.fin) (got []))
      (then_same (Fits R.fin a d) (R.read a d) _ _ (fair a d) (λ i f.
      ap (through i) (items_count (R.fin - a) (R.fin - i.next) i.next (after i) f.inside (omega (arith, f.onward, f.inside)) (omega arith))))

  fetch_same : (s : State X) (f g : Item X → Reply X × State X) → ((i : Item X) → Fits R.fin s.at s.depth i → f i ≡ g i) → fetch R s f ≡ fetch R s g
  unfolding fetch
  fetch_same s f g h =
      ap (cond (eqb s.at R.fin) (no_more, stop R s)) (fetched_same R (Fits R.fin s.at s.depth) s f g (R.read s.at s.depth) (fair s.at s.depth) h)

  -- a jump goes forward
  jump_on : (a : ℕ) (d : ℤ) (i : Item X) → Fits R.fin a d i → (o : Option ℕ) → i.jump ≡ o → i.next ≤ (jump_by o (hold i)).at
  jump_on a d i f none e = omega arith
  jump_on a d i f (some t) e = (f.offered t e).1

  seek_count : (m n : ℕ) (k : ℤ) (a : ℕ) (d : ℤ) (i : Item X) → Fits R.fin a d i → R.fin - i.next < m → R.fin - i.next < n → seek R m k (hold i) ≡ seek R n k (hold i)
  unfolding seek
  seek_count zero n k a d i f p q = absurd (omega arith)
  seek_count (suc m) zero k a d i f p q = absurd (omega arith)
  seek_count (suc m) (suc n) k a d i f p q =
      let j = jump_on a d i f i.jump refl in
      fetch_same (jump_by i.jump (hold i)) _ _ (λ v g.
      ap (cond (same_depth v.depth k) (reached v, hold v))
      (seek_count m n k _ _ v g (omega (arith, g.onward, g.inside)) (omega (arith, g.onward, g.inside))))

  abbrev pub loop : ℤ → State X → Reply X × State X
  loop k s = seek R (suc R.fin) k s

  -- the loop, from any state
  pub loop_is : (k : ℤ) (s : State X)
      → loop k s ≡ fetch R (jump_by s.held.jump s) (λ i. cond (same_depth i.depth k) (reached i, hold i) (loop k (hold i)))
  unfolding seek
  loop_is k s =
      fetch_same (jump_by s.held.jump s) _ _ (λ i f.
      ap (cond (same_depth i.depth k) (reached i, hold i)) (seek_count R.fin (suc R.fin) k _ _ i f (omega (arith, f.onward, f.inside)) (omega arith)))

-- ---- what each call keeps

-- a state whose jump goes forward, and whose depths stand in a relation D to its offset
pub record Sound {X : Type 0} (fin : ℕ) (D : ℕ → ℤ → Type 0) (s : State X) : Type 0 where
  pub forward : (t : ℕ) → s.held.jump ≡ some t → (s.at ≤ t) × (t ≤ fin)
  pub inside : s.at ≤ fin
  pub deep : D s.at s.depth
  pub held_deep : D s.at s.held.depth

-- what is asked of D: it holds further on, and each read keeps it
pub record Keeps {X : Type 0} (R : Reads X) (D : ℕ → ℤ → Type 0) : Type 0 where
  pub later : (a b : ℕ) (d : ℤ) → a ≤ b → D a d → D b d
  pub next : (a : ℕ) (d : ℤ) (i : Item X) → R.read a d ≡ got i → D a d → D i.next (after i)
  pub refusal : (a : ℕ) (d : ℤ) (n : ℕ) → R.read a d ≡ refused n → a < R.fin → D a d → D R.fin (R.leaves a d)

-- a call from offset n: the state is sound still and has not gone back, and an entry given is the item held, read at n or beyond
pub record Good {X : Type 0} (fin : ℕ) (D : ℕ → ℤ → Type 0) (n : ℕ) (x : Reply X × State X) : Type 0 where
  pub sound : Sound fin D x.1
  pub on : n ≤ x.1.at
  pub holds : (e : Item X) → x.0 ≡ entry e → (x.1 ≡ hold e) × (e.null ≡ false) × (n ≤ e.at) × (e.at < e.next)

module _ {X : Type 0} {fin : ℕ} {D : ℕ → ℤ → Type 0} {n : ℕ} {s : State X} where
  says_none : Sound fin D s → n ≤ s.at → Good fin D n (no_more, s)
  says_none S p = record { sound = S; on = p; holds = λ e z. absurd (let y : ◌≡◌ {A = ℕ} 0 1 = cc in omega arith) }

  says_refused : {r : ℕ} → Sound fin D s → n ≤ s.at → Good fin D n (refused r, s)
  says_refused S p = record { sound = S; on = p; holds = λ e z. absurd (let y : ◌≡◌ {A = ℕ} 0 1 = cc in omega arith) }

module _ {X : Type 0} (R : Reads X) (fair : Fair R) (D : ℕ → ℤ → Type 0) (K : Keeps R D) where
  hold_sound : (a : ℕ) (d : ℤ) (i : Item X) → D a d → R.read a d ≡ got i → Sound R.fin D (hold i)
  hold_sound a d i p g =
      let f = fit R fair a d g in
      record {
        forward = λ t e. ((f.offered t e).1, (f.offered t e).2);
        inside = f.inside;
        deep = K.next a d i g p;
        held_deep = rw f.depth_is (K.later a i.next d (omega (arith, f.onward)) p);
      }

  good_item : (n a : ℕ) (d : ℤ) (i : Item X) → n ≤ a → D a d → R.read a d ≡ got i → Good R.fin D n (reached i, hold i)
  good_item n a d i p q g = go i.null refl
    where
      go : (b : Bool) → i.null ≡ b → Good R.fin D n (cond b no_more (entry i), hold i)
      go true _ = says_none (hold_sound a d i q g) (omega (arith, (fit R fair a d g).onward))
      go false m =
          let f = fit R fair a d g in
          record {
            sound = hold_sound a d i q g;
            on = omega (arith, f.onward);
            holds =
                λ e z.
                let w : i ≡ e = cc in
                subst (λ (e : Item X). (hold i ≡ hold e) × (e.null ≡ false) × (n ≤ e.at) × (e.at < e.next)) w (refl, m, omega (arith, f.at_is), omega (arith, f.at_is, f.onward));
          }

  -- what is left of soundness after a jump
  record Ready (n : ℕ) (s : State X) : Type 0 where
    pub on : n ≤ s.at
    pub inside : s.at ≤ R.fin
    pub deep : D s.at s.depth
    pub held_deep : D s.at s.held.depth

  ready : (n : ℕ) (s : State X) → n ≤ s.at → Sound R.fin D s → Ready n s
  ready n s p S = record { on = p; inside = S.inside; deep = S.deep; held_deep = S.held_deep }

  jump_ready : (n : ℕ) (s : State X) (o : Option ℕ) → s.held.jump ≡ o → n ≤ s.at → Sound R.fin D s → Ready n (jump_by o s)
  jump_ready n s none e p S = ready n s p S
  jump_ready n s (some t) e p S =
      let f = S.forward t e in
      let h = K.later s.at t s.held.depth f.0 S.held_deep in
      record { on = omega arith; inside = f.1; deep = h; held_deep = h }

  -- a state at the end offers no jump
  end_sound : {s : State X} → s.held.jump ≡ none → s.at ≡ R.fin → D R.fin s.depth → D R.fin s.held.depth → Sound R.fin D s
  end_sound {s} j e p q =
      record { forward = λ t z. absurd (none-ne-some t (sym j ∙ z)); inside = omega arith; deep = rw e p; held_deep = rw e q }

  fetch_good : (n : ℕ) (s : State X) (f : Item X → Reply X × State X) → Ready n s → ((i : Item X) → R.read s.at s.depth ≡ got i → Good R.fin D n (f i)) → Good R.fin D n (fetch R s f)
  unfolding fetch fetched
  fetch_good n s f r h =
      cond_by (Good R.fin D n) (eqb s.at R.fin) _ _
      (λ _. says_none (end_sound refl refl (K.later s.at R.fin _ r.inside r.deep) (K.later s.at R.fin _ r.inside r.held_deep)) (omega (arith, r.on, r.inside)))
      (λ c. go c (R.read s.at s.depth) refl)
    where
      go : eqb s.at R.fin ≡ false → (x : Answer (Item X)) → R.read s.at s.depth ≡ x → Good R.fin D n (fetched R s f x)
      go c (got i) e = h i e
      go c (refused m) e =
          says_refused (end_sound refl refl (K.refusal s.at s.depth m e (omega (tests, r.inside)) r.deep) (K.later s.at R.fin _ r.inside r.deep)) (omega (arith, r.on, r.inside))

  -- one turn of the loop: the state is sound still, and has gone on
  pub turn_sound : (s : State X) → Sound R.fin D s → (i : Item X) → R.read (jump_by s.held.jump s).at (jump_by s.held.jump s).depth ≡ got i → Sound R.fin D (hold i) × (s.at < i.next)
  turn_sound s S i g =
      let r = jump_ready s.at s s.held.jump refl (omega arith) S in
      (hold_sound _ _ i r.deep g, omega (arith, r.on, (fit R fair _ _ g).onward))

  seek_good : (m n : ℕ) (k : ℤ) (s : State X) → n ≤ s.at → Sound R.fin D s → Good R.fin D n (seek R m k s)
  unfolding seek
  seek_good zero n k s p S = says_refused S p
  seek_good (suc m) n k s p S =
      let t = jump_by s.held.jump s in
      let r = jump_ready n s s.held.jump refl p S in
      fetch_good n t _ r (λ i e.
      cond_by (Good R.fin D n) (same_depth i.depth k) _ _
      (λ _. good_item n t.at t.depth i r.on r.deep e)
      (λ _. seek_good m n k (hold i) (omega (arith, r.on, (fit R fair _ _ e).onward)) (hold_sound t.at t.depth i r.deep e)))

  pub tree_good : (k : ℤ) (s : State X) → Sound R.fin D s → Good R.fin D s.at (tree R k s)
  unfolding tree climb
  tree_good k s S =
      let here : s.at ≤ s.at = omega arith in
      let stays : Good R.fin D s.at (no_more, s) = says_none S here in
      let G = Good R.fin D s.at in
      cond_by G (s.rooted && in_range k s.held.depth) _ _
      (λ _.
      cond_by G (same_depth k (suc_ℤ s.held.depth)) _ _
      (λ _.
      cond_by G s.held.children _ _
      (λ _. fetch_good s.at s _ (ready s.at s here S) (λ i e. good_item s.at s.at s.depth i here S.deep e))
      (λ _. stays))
      (λ _. cond_by G (s.held.null && same_depth s.held.depth k) _ _ (λ _. stays) (λ _. seek_good (suc R.fin) s.at k s here S)))
      (λ _. says_refused S here)

  pub left_sound : (ks : List ℤ) (s : State X) → Sound R.fin D s → Sound R.fin D (left (tree R) ks s)
  left_sound [] s S = S
  left_sound (k ∷ ks) s S = left_sound ks (tree R k s).1 (tree_good k s S).sound

  -- a root's state
  pub root_sound : (p : ℕ) → D p (pos 0) → Holds (λ s. Sound R.fin D s × (s.held.at ≡ p) × (p < s.at)) (root R p)
  unfolding root
  root_sound p z =
      holds_then _ (λ s. Sound R.fin D s × (s.held.at ≡ p) × (p < s.at)) (R.read p (pos 0)) _ (holds_self (R.read p (pos 0))) (λ i g.
      let f = fit R fair p (pos 0) g in
      cond_by (Holds (λ (s : State X). Sound R.fin D s × (s.held.at ≡ p) × (p < s.at))) i.null _ _
      (λ _. tt)
      (λ _. (hold_sound p (pos 0) i z g, f.at_is, f.onward)))

-- no depth is further from 0 than the offset, counted from n, and m more; in a part of a unit that starts at n, m is 0
abbrev pub Within : ℕ → ℕ → ℕ → ℤ → Type 0
Within n m a d = n + nat_abs d ≤ m + a

pred_abs : (d : ℤ) → nat_abs (pred_ℤ d) ≤ suc (nat_abs d)
pred_abs (pos zero) = omega arith
pred_abs (pos (suc n)) = omega arith
pred_abs (negsuc n) = omega arith

suc_abs : (d : ℤ) → nat_abs (suc_ℤ d) ≤ suc (nat_abs d)
suc_abs (pos n) = omega arith
suc_abs (negsuc zero) = omega arith
suc_abs (negsuc (suc n)) = omega arith

after_abs : {X : Type 0} (i : Item X) → nat_abs (after i) ≤ suc (nat_abs i.depth)
after_abs i =
    cases i.null (λ n. rw n (pred_abs i.depth)) (λ n. rw n (cases i.children (λ c. rw c (suc_abs i.depth)) (λ c. rw c (omega arith))))

module _ {X : Type 0} (R : Reads X) (fair : Fair R) (off : (a : ℕ) (d : ℤ) (r : ℕ) → R.read a d ≡ refused r → nat_abs (R.leaves a d) ≤ suc (nat_abs d)) where
  pub within : (n m : ℕ) → Keeps R (Within n m)
  within n m =
      record {
        later = λ a b d h p. omega arith;
        next = λ a d i g p. let f = fit R fair a d g in let q = ap nat_abs f.depth_is in omega (arith, f.onward, after_abs i);
        refusal = λ a d r g h p. omega (arith, off a d r g);
      }

  -- where a refusal leaves a depth at most one off, each call keeps the bound
  pub keeps : (n m : ℕ) (k : ℤ) (s : State X) → Sound R.fin (Within n m) s → Sound R.fin (Within n m) (tree R k s).1
  keeps n m k s S = (tree_good R fair (Within n m) (within n m) k s S).sound

-- ---- the entries given rise

-- nothing is asked of depths
abbrev pub Any : ℕ → ℤ → Type 0
Any a d = Unit {0}

pub any : {X : Type 0} (R : Reads X) → Keeps R Any
any R = record { later = λ a b d h p. tt; next = λ a d i g p. tt; refusal = λ a d r g h p. tt }

-- the entries that some answers give
abbrev pub given : {A : Type 0} → List (Answer (Option A)) → List A
given [] = []
given (got none ∷ rs) = given rs
given (got (some e) ∷ rs) = e ∷ given rs
given (refused n ∷ rs) = given rs

module _ {X : Type 0} where
  -- their offsets strictly rise: each is n or more and before the end, and beyond the one before
  abbrev pub Rising : ℕ → ℕ → List (Item X) → Type 0
  Rising fin n [] = Unit {0}
  Rising fin n (e ∷ es) = (n ≤ e.at) × (e.at < fin) × Rising fin (suc e.at) es

  pub weaker : (fin m n : ℕ) (l : List (Item X)) → m ≤ n → Rising fin n l → Rising fin m l
  weaker fin m n [] p r = tt
  weaker fin m n (e ∷ l) p (a, b, r) = (omega arith, b, r)

  count : (fin n : ℕ) (l : List (Item X)) → Rising fin n l → length l ≤ fin - n
  count fin n [] r = omega arith
  count fin n (e ∷ l) (a, b, r) = let c = count fin (suc e.at) l r in omega arith

module _ {X : Type 0} (R : Reads X) (fair : Fair R) where
  -- from any sound state on the entries given rise
  pub rising : (ks : List ℤ) (s : State X) → Sound R.fin Any s → Rising R.fin s.at (given (replies (tree R) ks s))
  rising [] s S = tt
  rising (k ∷ ks) s S = go (tree R k s) (tree_good R fair Any (any R) k s S) (rising ks)
    where
      go : (x : Reply X × State X) → Good R.fin Any s.at x → ((s : State X) → Sound R.fin Any s → Rising R.fin s.at (given (replies (tree R) ks s)))
          → Rising R.fin s.at (given (x.0 ∷ replies (tree R) ks x.1))
      go (got none, t) G rec = weaker _ _ _ (given (replies (tree R) ks t)) G.on (rec t G.sound)
      go (got (some i), t) G rec =
          let (w, _, a, b) = G.holds i refl in
          let q : t.at ≡ i.next = ap (λ (s : State X). s.at) w in
          (a, omega (arith, G.sound.inside), weaker _ _ _ (given (replies (tree R) ks t)) (omega arith) (rec t G.sound))
      go (refused n, t) G rec = weaker _ _ _ (given (replies (tree R) ks t)) G.on (rec t G.sound)

  says_rising : (p : ℕ) (ks : List ℤ) → Holds (λ rs. Rising R.fin p (given rs)) (tree_says R p ks)
  unfolding tree_says
  says_rising p ks =
      holds_then _ (λ rs. Rising R.fin p (given rs)) (root R p) _ (root_sound R fair Any (any R) p tt) (λ s (S, a, b).
      (omega arith, omega (arith, S.inside), weaker _ _ _ (given (replies (tree R) ks s)) (omega arith) (rising ks s S)))

  -- whatever is read and whatever jumps are offered, from a root at p on the entries given rise
  pub rises : (p : ℕ) (ks : List ℤ) (rs : List (Reply X)) → tree_says R p ks ≡ got rs → Rising R.fin p (given rs)
  rises p ks rs e = subst (Holds (λ rs. Rising R.fin p (given rs))) e (says_rising p ks)

  -- and are at most as many as there are bytes
  pub at_most : (p : ℕ) (ks : List ℤ) (rs : List (Reply X)) → tree_says R p ks ≡ got rs → length (given rs) ≤ R.fin - p
  at_most p ks rs e = count R.fin p (given rs) (rises p ks rs e)
