-- The corollary of demand 3, whole: from a parent's answer on, its level asked to its end gives its children.
use mathlib.Core.Path.{◌≡◌, refl, sym, ◌∙◌, ap, subst}
use mathlib.Core.Bool.{Bool, true, false, not, ◌&&◌, cond}
use mathlib.Core.Option.{Option, none, some}
use mathlib.Core.List.{List, [], ◌∷◌, ◌++◌, map, Memᴰ}
use Prim.Native.Nat.{ℕ, zero, suc, ◌+◌, ◌-◌, ◌≤◌}
use native.Mathlib.Omega.{arith}
use borrow.Author.Tests.{eqb-true}
use lib.IntN.{ℤ, pos, negsuc, suc_ℤ}
use lib.ListN.{length, replicate}
use lib.Signed.{lt_z}
use Rattle.reader.specs.Answer.{Answer, got, refused, Holds}
use Rattle.reader.proofs.Answers.{holds_then, holds_map, cond_by}
use Rattle.attribute.proofs.FormLaws.{both}
use Rattle.entries.specs.Cursor.{keeps_cursor}
use Rattle.entries.specs.Entry.{Entry, is_null}
use Rattle.entries.specs.Flat as flat
use Rattle.entries.specs.Raw.{source_of}
use Rattle.attribute.specs.declared.source.Source.{Source}
use Rattle.entries.specs.Read.{after_entry, entry_at, same_depth}
use Rattle.entries.proofs.FlatLaws.{Stands, entry_stands, Chain, items_chain}
use Rattle.tree.specs.Walk.{Item, under, entries_at, children_of, Jumps, Reply, replies}
use Rattle.tree.specs.Tree.{Tree, next_of, root_of}
use Rattle.tree.specs.Demand.{closes, under_root, root_reading, walk_items, said_by, tree_replies, tree_walk}
use Rattle.tree.proofs.Program.{State}
use Rattle.tree.proofs.Agree.{cons_same}
use Rattle.tree.proofs.Loop.{Rising, weaker, Any, any, tree_good}
use Rattle.tree.proofs.Children.{Deeper, heard, listed}
use Rattle.tree.proofs.Real.{real_reads, real_fair, state_of, Keeps, next_same}
use Rattle.tree.proofs.Demand.{bodies, said_entry, tree_after, ListsChildren, home, real_children, Rises, sound}

-- ---- what is claimed

module _ {A : Type 0} where
  -- the last of some, or a where there are none
  abbrev pub last_of : A → List A → A
  last_of a [] = a
  last_of a (b ∷ l) = last_of b l

  -- it holds of each
  abbrev pub Each : (A → Type 0) → List A → Type 0
  Each P [] = Unit {0}
  Each P (a ∷ l) = P a × Each P l

-- how many calls are at level k
abbrev pub asked : ℤ → List ℤ → ℕ
asked k [] = 0
asked k (j ∷ ks) = cond (same_depth j k) (suc (asked k ks)) (asked k ks)

module _ (most : ℕ) (src : Source) (s rows specs : List ℕ) where
  -- the entry e stands in the flat reading L, and the tree t, asked by the calls ks, gives its children there
  pub record ChildrenGiven (L : List flat.Item) (e : Entry) (ks : List ℤ) (t : Tree) : Type 0 where
    pub before : List (Item Entry)
    pub own : Item Entry
    pub behind : List (Item Entry)
    pub stands : walk_items most src s rows specs L ≡ before ++ (own ∷ behind)
    pub is : own.body ≡ e
    pub kids : List Entry
    pub kids_are : kids ≡ bodies (children_of own behind)
    -- each lies under it, one deeper
    pub below : Each (λ x. Memᴰ x (bodies (under e.depth behind)) × (x.depth ≡ suc_ℤ e.depth)) kids
    -- their offsets strictly rise, beyond its own
    pub rise : Rises (src.start + length s) (suc e.offset) kids
    -- the calls one level deeper than it give the first of them, each once, in order, and then "no more"
    pub gives : heard (suc_ℤ e.depth) ks (tree_replies most s rows specs ks t) ≡ listed (asked (suc_ℤ e.depth) ks) kids
    -- where there are as many calls, all of them and then "no more"
    pub to_end : length kids ≤ asked (suc_ℤ e.depth) ks
        → heard (suc_ℤ e.depth) ks (tree_replies most s rows specs ks t)
        ≡ map (λ x. got (some x)) kids ++ replicate (asked (suc_ℤ e.depth) ks - length kids) (got none)

-- ---- the answers

module _ {A : Type 0} where
  listed_none : (n : ℕ) → listed {A = A} n [] ≡ replicate n (got none)
  listed_none zero = refl
  listed_none (suc n) = cons_same refl (listed_none n)

  listed_end : (n : ℕ) (l : List A) → length l ≤ n → listed n l ≡ map (λ x. got (some x)) l ++ replicate (n - length l) (got none)
  listed_end n [] h = let e : n ≡ n - 0 = omega arith in listed_none n ∙ ap (λ (m : ℕ). replicate m (got none)) e
  listed_end zero (x ∷ l) h = absurd (omega arith)
  listed_end (suc n) (x ∷ l) h =
      let e : n - length l ≡ suc n - suc (length l) = omega arith in
      cons_same refl (listed_end n l (omega arith) ∙ ap (λ (m : ℕ). map (λ x. got (some x)) l ++ replicate m (got none)) e)

heard_asked : {R S : Type 0} (f : ℤ → S → R × S) (k : ℤ) (ks : List ℤ) (s : S) → length (heard k ks (replies f ks s)) ≡ asked k ks
heard_asked f k [] s = refl
heard_asked {R} f k (j ∷ ks) s = go (same_depth j k) (heard_asked f k ks (f j s).1)
  where
    go : (b : Bool) → length (heard k ks (replies f ks (f j s).1)) ≡ asked k ks
        → length (cond b ((f j s).0 ∷ heard k ks (replies f ks (f j s).1)) (heard k ks (replies f ks (f j s).1))) ≡ cond b (suc (asked k ks)) (asked k ks)
    go true h = ap suc h
    go false h = h

-- ---- the items

same_is : (a b : ℤ) → same_depth a b ≡ true → a ≡ b
same_is (pos a) (pos b) t = ap pos (eqb-true a b t)
same_is (pos a) (negsuc b) t = absurd (let y : ◌≡◌ {A = ℕ} 0 1 = cc in omega arith)
same_is (negsuc a) (pos b) t = absurd (let y : ◌≡◌ {A = ℕ} 0 1 = cc in omega arith)
same_is (negsuc a) (negsuc b) t = ap negsuc (eqb-true a b t)

each_of : {A : Type 0} (P : A → Type 0) (l : List A) {x : A} → Each P l → Memᴰ x l → P x
each_of {A = A} P [] _ x5 = elim x5 [ ]
each_of P (a ∷ l) (p, r) (Memᴰ.head q) = subst P (sym q) p
each_of P (a ∷ l) (p, r) (Memᴰ.tail m) = each_of P l r m

each_behind : {A : Type 0} (P : A → Type 0) (before : List A) (a : A) (l : List A) → Each P (before ++ (a ∷ l)) → P a × Each P l
each_behind P [] a l z = z
each_behind P (b ∷ before) a l z = each_behind P before a l z.1

each_under : (P : Item Entry → Type 0) (d : ℤ) (l : List (Item Entry)) → Each P l → Each P (under d l)
each_under P d [] z = tt
each_under P d (i ∷ l) z = cond_by (Each P) (lt_z d i.depth) _ _ (λ _. (z.0, each_under P d l z.1)) (λ _. tt)

-- what holds of all items at a depth holds of the entries there
each_entry : (P : Item Entry → Type 0) (d : ℤ) (l : List (Item Entry)) → ((i : Item Entry) → Memᴰ i l → i.depth ≡ d → P i) → Each P (entries_at d l)
each_entry P d [] f = tt
each_entry P d (i ∷ l) f =
    let rest = each_entry P d l (λ j m. f j (Memᴰ.tail m)) in
    cond_by (Each P) (same_depth i.depth d && not i.null) _ _ (λ t. (f i (Memᴰ.head refl) (same_is i.depth d (both _ _ t).0), rest)) (λ _. rest)

each_body : (P : Entry → Type 0) (l : List (Item Entry)) → Each (λ i. P i.body) l → Each P (bodies l)
each_body P [] z = tt
each_body P (i ∷ l) z = (z.0, each_body P l z.1)

mem_body : {i : Item Entry} (l : List (Item Entry)) → Memᴰ i l → Memᴰ i.body (bodies l)
mem_body {i = i} [] x' = elim x' [ ]
mem_body (j ∷ l) (Memᴰ.head q) = Memᴰ.head (ap (λ (i : Item Entry). i.body) q)
mem_body (j ∷ l) (Memᴰ.tail m) = Memᴰ.tail (mem_body l m)

-- an item's offset and depth are its entry's
pub record Faithful (i : Item Entry) : Type 0 where
  pub at_is : i.at ≡ i.body.offset
  pub depth_is : i.depth ≡ i.body.depth

-- ---- their offsets

rising_behind : (fin n : ℕ) (before : List (Item Entry)) (i : Item Entry) (l : List (Item Entry)) → Rising fin n (before ++ (i ∷ l)) → Rising fin (suc i.at) l
rising_behind fin n [] i l r = r.2
rising_behind fin n (b ∷ before) i l r = rising_behind fin (suc b.at) before i l r.2

rising_under : (fin n : ℕ) (d : ℤ) (l : List (Item Entry)) → Rising fin n l → Rising fin n (under d l)
rising_under fin n d [] r = tt
rising_under fin n d (i ∷ l) r = cond_by (Rising fin n) (lt_z d i.depth) _ _ (λ _. (r.0, r.1, rising_under fin (suc i.at) d l r.2)) (λ _. tt)

rising_entries : (fin n : ℕ) (d : ℤ) (l : List (Item Entry)) → Rising fin n l → Rising fin n (entries_at d l)
rising_entries fin n d [] r = tt
rising_entries fin n d (i ∷ l) r =
    let rest = rising_entries fin (suc i.at) d l r.2 in
    cond_by (Rising fin n) (same_depth i.depth d && not i.null) _ _ (λ _. (r.0, r.1, rest)) (λ _. weaker fin n (suc i.at) (entries_at d l) (omega (arith, r.0)) rest)

rises_bodies : (fin n : ℕ) (l : List (Item Entry)) → Each Faithful l → Rising fin n l → Rises fin n (bodies l)
rises_bodies fin n [] z r = tt
rises_bodies fin n (i ∷ l) z r =
    let q = z.0.at_is in
    (omega (arith, q, r.0), omega (arith, q, r.1), rises_bodies fin (suc i.body.offset) l z.1 (subst (λ (a : ℕ). Rising fin (suc a) l) q r.2))

module _ (most : ℕ) (src : Source) (s rows specs : List ℕ) where
  faithful : (l : List flat.Item) → Each Faithful (walk_items most src s rows specs l)
  faithful [] = tt
  faithful (i ∷ l) = (record { at_is = refl; depth_is = refl }, faithful l)

  rising_item : (i : flat.Item) (p : ℕ) (d : ℤ) (l : List flat.Item) → Stands most src s rows specs p d i → Rising (src.start + length s) (src.start + i.next) (walk_items most src s rows specs l)
      → Rising (src.start + length s) (src.start + p) (walk_items most src s rows specs (i ∷ l))
  rising_item i p d l x r = (
    omega (arith, x.offset),
    omega (arith, x.offset, x.above, x.within),
    weaker (src.start + length s) (suc i.value.offset) (src.start + i.next) (walk_items most src s rows specs l) (omega (arith, x.offset, x.above)) r,
  )

  rising_chain : (p : ℕ) (d : ℤ) (l : List flat.Item) → Chain most src s rows specs p d l → Rising (src.start + length s) (src.start + p) (walk_items most src s rows specs l)
  rising_chain p d [] c = tt
  rising_chain p d (i ∷ l) c = rising_item i p d l c.0 (rising_chain i.next (after_entry i.value) l c.1)

  -- the offsets of a root's flat reading rise
  pub reading_rises : Holds (λ L. Rising (src.start + length s) (src.start + 0) (walk_items most src s rows specs L)) (root_reading most src s rows specs)
  unfolding root_reading
  reading_rises =
      let P : List flat.Item → Type 0 = λ L. Rising (src.start + length s) (src.start + 0) (walk_items most src s rows specs L) in
      holds_then (Stands most src s rows specs 0 (pos 0)) P (entry_at most src s rows specs 0 (pos 0)) _ (entry_stands most src s rows specs 0 (pos 0))
      (λ i x.
      let Q : List flat.Item → Type 0 = λ l. Rising (src.start + length s) (src.start + i.next) (walk_items most src s rows specs l) in
      cond_by (Holds P) (is_null i.value) (refused 20) _ (λ _. tt)
      (λ _.
      holds_then Q P (under_root most src s rows specs i) _
      (cond_by (Holds Q) i.value.children _ (got [])
      (λ _. holds_map (Chain most src s rows specs i.next (pos 1)) Q (flat.items_from most src s rows specs closes i.next (pos 1)) (λ l c. rising_chain i.next (pos 1) l c) (items_chain most src s rows specs closes i.next (pos 1)))
      (λ _. tt))
      (λ l r. rising_item i 0 (pos 0) l x r)))

  -- ---- put together

  given_by : (L : List flat.Item) (e : Entry) (ks : List ℤ) (t : Tree) → root_reading most src s rows specs ≡ got L → ListsChildren most src s rows specs L ks e t → ChildrenGiven most src s rows specs L e ks t
  given_by L e ks t q z =
      let fin = src.start + length s in
      let own = z.own in
      let items = under own.depth z.behind in
      let k = suc_ℤ own.depth in
      let f = each_behind Faithful z.before own z.behind (subst (Each Faithful) z.stands (faithful L)) in
      let fs = each_under Faithful own.depth z.behind f.1 in
      let r = rising_behind fin (src.start + 0) z.before own z.behind (subst (Rising fin (src.start + 0)) z.stands (subst (Holds _) q reading_rises)) in
      let at_own = f.0.at_is ∙ ap (λ (e : Entry). e.offset) z.is in
      let depth_own = f.0.depth_is ∙ ap (λ (e : Entry). e.depth) z.is in
      let says = z.lists ∙ ap (λ (n : ℕ). listed n (bodies (children_of own z.behind))) (heard_asked _ (suc_ℤ e.depth) ks t) in
      record {
        before = z.before;
        own = own;
        behind = z.behind;
        stands = z.stands;
        is = z.is;
        kids = bodies (children_of own z.behind);
        kids_are = refl;
        below =
            subst (λ (c : ℤ). Each (λ x. Memᴰ x (bodies (under c z.behind)) × (x.depth ≡ suc_ℤ c)) (bodies (children_of own z.behind))) depth_own
            (each_body _ (entries_at k items) (each_entry _ k items (λ i m p. (mem_body items m, sym (each_of Faithful items fs m).depth_is ∙ p))));
        rise =
            subst (λ (a : ℕ). Rises fin (suc a) (bodies (children_of own z.behind))) at_own
            (rises_bodies fin (suc own.at) (entries_at k items) (each_entry Faithful k items (λ i m p. each_of Faithful items fs m))
            (rising_entries fin (suc own.at) k items (rising_under fin (suc own.at) own.depth z.behind r)));
        gives = says;
        to_end = λ h. says ∙ listed_end (asked (suc_ℤ e.depth) ks) (bodies (children_of own z.behind)) h;
      }

  -- a tree that has given an answer: where that is an entry, the tree holds it
  abbrev Held : Answer (Option Entry) → Tree → Type 0
  Held r t = (e : Entry) → r ≡ got (some e) → (t.cursor.entry ≡ e) × (is_null t.cursor.entry ≡ false)

  last_held : (js : List ℤ) (r : Answer (Option Entry)) (t : Tree) → Keeps most src s t.cursor → Held r t → Held (last_of r (tree_replies most s rows specs js t)) (tree_after most s rows specs js t)
  last_held [] r t h H = H
  last_held (k ∷ js) r t h H =
      let R = real_reads most src s rows specs in
      let n = next_of most s rows specs k t in
      let i = (state_of (length s) n.tree).held in
      let z = next_same most src s rows specs k t h in
      let g = tree_good R (real_fair most src s rows specs) Any (any R) k (state_of (length s) t) (sound most src s rows specs t h) in
      last_held js (said_by n) n.tree z.keeps (λ e q.
      let v = said_entry n.answer i e q in
      (v.1, (g.holds i (ap (λ (x : Reply Entry × State Entry). x.0) z.says ∙ v.0)).1))

module _ (most : ℕ) (src : Source) (s rows specs : List ℕ) (t : Tree) (L : List flat.Item)
    (over : source_of t.cursor.input ≡ src) (sizes : keeps_cursor most (length s) t.cursor ≡ true)
    (reading : root_reading most src s rows specs ≡ got L) (jumps : Jumps (walk_items most src s rows specs L)) where
  -- after the root and any calls js, the last of which gave the entry e (where there are none: the root), only levels deeper than e being asked
  pub children_given : (js : List ℤ) (e : Entry)
      → last_of (got none) (tree_walk most s rows specs js t) ≡ got (some e)
      → (ks : List ℤ) → Deeper e.depth ks
      → ChildrenGiven most src s rows specs L e ks (tree_after most s rows specs js (root_of most s rows specs t).tree)
  children_given js e q ks d =
      let r = root_of most s rows specs t in
      let u = tree_after most s rows specs js r.tree in
      let b = home most src s rows specs t L over sizes reading jumps in
      let z = last_held most src s rows specs js (said_by r) r.tree b.keeps (λ e q. ((said_entry r.answer (state_of (length s) r.tree).held e q).1, b.no_null_lem)) e q in
      given_by most src s rows specs L e ks u reading
      (subst (λ (e : Entry). Deeper e.depth ks → ListsChildren most src s rows specs L ks e u) z.0 (real_children most src s rows specs t L over sizes reading jumps js ks z.1) d)
