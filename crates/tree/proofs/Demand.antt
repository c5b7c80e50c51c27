-- Demand 3 for the real tree, and what follows from it.
use mathlib.Core.Path.{◌≡◌, refl, sym, ◌∙◌, ap, subst}
use mathlib.Core.Bool.{Bool, true, false, cond}
use mathlib.Core.Option.{none, some}
use mathlib.Core.List.{List, [], ◌∷◌, ◌++◌, map}
use Prim.Native.Nat.{ℕ, zero, suc, ◌+◌, ◌-◌, ◌≤◌, ◌<◌}
use native.Mathlib.Omega.{arith}
use lib.IntN.{ℤ, pos, suc_ℤ}
use lib.ListN.{length, length-map}
use Rattle.reader.specs.Answer.{Answer, got, refused, and_then, Holds}
use Rattle.reader.proofs.Answers.{holds_then, cond_by}
use Rattle.entries.specs.Cursor.{keeps_cursor}
use Rattle.entries.specs.Entry.{Entry, is_null}
use Rattle.entries.specs.Flat as flat
use Rattle.entries.specs.Raw.{source_of}
use Rattle.attribute.specs.declared.source.Source.{Source}
use Rattle.entries.specs.Read.{same_depth}
use Rattle.entries.proofs.CursorLaws.{cursor_kept}
use Rattle.tree.specs.Walk.{Item, children_of, Jumps, Reply, entry, replies, walk_says}
use Rattle.tree.specs.Tree.{Tree, Answered, next_of, root_of}
use Rattle.tree.specs.Demand.{root_reading, walk_items, said, said_by, tree_replies, tree_walk, whole}
use Rattle.tree.proofs.Program.{Reads, Fair, flat as flat_of, State, hold, tree, root, tree_says, left}
use Rattle.tree.proofs.Natural.{holds_self}
use Rattle.tree.proofs.Agree.{cons_same, rooted, agree, Only21, All21, only_21}
use Rattle.tree.proofs.Loop.{given, Rising, rising, Any, Sound}
use Rattle.tree.proofs.Children.{Deeper, heard, listed, Lists, children_listed}
use Rattle.tree.proofs.Real.{jump_offered, real_reads, real_fair, state_of, reply, seen, Keeps, next_same, Begun, RootLeft, root_left, root_same, flat_same}

module _ (most : ℕ) (src : Source) (s rows specs : List ℕ) where
  abbrev R : Reads Entry
  R = real_reads most src s rows specs

  abbrev fair : Fair R
  fair = real_fair most src s rows specs

  -- ---- what the tree over the read says is what the real tree says

  whole_reply : (a : Answer Bool) (i : Item Entry) → said a i.body ≡ whole (reply a i)
  whole_reply (got true) i = refl
  whole_reply (got false) i = refl
  whole_reply (refused n) i = refl

  -- from any state that keeps the sizes
  pub replies_real : (ks : List ℤ) (t : Tree) → Keeps most src s t.cursor → tree_replies most s rows specs ks t ≡ map whole (replies (tree R) ks (state_of (length s) t))
  replies_real [] t h = refl
  replies_real (k ∷ ks) t h =
      let z = next_same most src s rows specs k t h in
      subst (λ (x : Reply Entry × State Entry). tree_replies most s rows specs (k ∷ ks) t ≡ whole x.0 ∷ map whole (replies (tree R) ks x.1)) (sym z.says)
      (cons_same (whole_reply (next_of most s rows specs k t).answer _) (replies_real ks (next_of most s rows specs k t).tree z.keeps))

  -- from a root, whatever its jumps
  pub says_real : (t : Tree) → Keeps most src s t.cursor → (ks : List ℤ)
      → Holds (λ rs. tree_walk most s rows specs ks t ≡ map whole rs) (tree_says R src.start ks)
  unfolding tree_says
  says_real t h ks =
      let r = root_of most s rows specs t in
      holds_then (λ x. Begun most src s rows specs x r) (λ rs. said_by r ∷ tree_replies most s rows specs ks r.tree ≡ map whole rs) (root R src.start) _ (root_same most src s rows specs t h)
      (λ x b.
      subst (λ (x : State Entry). said_by r ∷ tree_replies most s rows specs ks r.tree ≡ map whole (entry x.held ∷ replies (tree R) ks x)) b.state
      (cons_same (ap (λ (a : Answer Bool). said a r.tree.cursor.entry) b.answer) (replies_real ks r.tree b.keeps)))

  -- a root is no null
  root_entry : (p : ℕ) → Holds (λ x. x.held.null ≡ false) (root R p)
  unfolding root
  root_entry p =
      holds_then (λ i. R.read p (pos 0) ≡ got i) (λ x. x.held.null ≡ false) (R.read p (pos 0)) _ (holds_self (R.read p (pos 0)))
      (λ i _. cond_by (Holds (λ x. x.held.null ≡ false)) i.null (refused 20) (got (hold i)) (λ _. tt) (λ n. n))

  -- a root was read
  pub record RootThere (r : Answered) : Type 0 where
    pub answer : r.answer ≡ got true
    pub state : root R src.start ≡ got (state_of (length s) r.tree)
    pub keeps : Keeps most src s r.tree.cursor
    pub no_null_lem : is_null r.tree.cursor.entry ≡ false

  -- ---- where the root's flat reading is L

  module _ {L : List flat.Item} (e : root_reading most src s rows specs ≡ got L) where
    flat_is : flat_of R src.start ≡ got (walk_items most src s rows specs L)
    flat_is = flat_same most src s rows specs ∙ ap (λ (r : Answer (List flat.Item)). and_then r (λ l. got (walk_items most src s rows specs l))) e

    -- the root is there
    pub begun : (t : Tree) → Keeps most src s t.cursor → RootThere (root_of most s rows specs t)
    begun t h =
        let r = root_of most s rows specs t in
        let g = (rooted R fair src.start _ flat_is).root_is in
        let b = subst (Holds (λ x. Begun most src s rows specs x r)) g (root_same most src s rows specs t h) in
        record {
          answer = b.answer;
          state = g ∙ ap got (sym b.state);
          keeps = b.keeps;
          no_null_lem = ap (λ (x : State Entry). x.held.null) b.state ∙ subst (Holds (λ x. x.held.null ≡ false)) g (root_entry src.start);
        }

-- demand 3: over any bytes and tables, from any tree over them that keeps 01's sizes, where a root's flat reading is L and its jumps are right,
-- the root is answered, and for every list of levels the tree says what the plain walk of L says
pub demand_3 : (most : ℕ) (src : Source) (s rows specs : List ℕ) (t : Tree) (L : List flat.Item)
    → source_of t.cursor.input ≡ src
    → keeps_cursor most (length s) t.cursor ≡ true
    → root_reading most src s rows specs ≡ got L
    → Jumps (walk_items most src s rows specs L)
    → ((root_of most s rows specs t).answer ≡ got true)
    × ((ks : List ℤ)
    → tree_walk most s rows specs ks t
    ≡ map whole (walk_says (walk_items most src s rows specs L) ks))
demand_3 most src s rows specs t L o z e j =
    let h : Keeps most src s t.cursor = record { source = o; sizes = z } in (
      (begun most src s rows specs e t h).answer,
      λ ks.
          subst (Holds (λ rs. tree_walk most s rows specs ks t ≡ map whole rs))
          (agree (real_reads most src s rows specs) (real_fair most src s rows specs) src.start _ (flat_is most src s rows specs e) j ks)
          (says_real most src s rows specs t h ks),
    )

-- ---- lists of answers made whole

whole_21 : (r : Reply Entry) → Only21 r → Only21 (whole r)
whole_21 (got (some i)) h = tt
whole_21 (got none) h = tt
whole_21 (refused n) h = h

all_whole_21 : (rs : List (Reply Entry)) → All21 rs → All21 (map whole rs)
all_whole_21 [] h = tt
all_whole_21 (r ∷ rs) h = (whole_21 r h.0, all_whole_21 rs h.1)

heard_whole : (k : ℤ) (ks : List ℤ) (rs : List (Reply Entry)) → heard k ks (map whole rs) ≡ map whole (heard k ks rs)
heard_whole k [] rs = refl
heard_whole k (j ∷ ks) [] = refl
heard_whole k (j ∷ ks) (r ∷ rs) = go (same_depth j k) (heard_whole k ks rs)
  where
    go : (b : Bool) → heard k ks (map whole rs) ≡ map whole (heard k ks rs) → cond b (whole r ∷ heard k ks (map whole rs)) (heard k ks (map whole rs)) ≡ map whole (cond b (r ∷ heard k ks rs) (heard k ks rs))
    go true h = cons_same refl h
    go false h = h

-- the entries of some items
abbrev pub bodies : List (Item Entry) → List Entry
bodies l = map (λ (i : Item Entry). i.body) l

listed_whole : (n : ℕ) (l : List (Item Entry)) → map whole (listed n l) ≡ listed n (bodies l)
listed_whole zero l = refl
listed_whole (suc n) [] = cons_same refl (listed_whole n [])
listed_whole (suc n) (i ∷ l) = cons_same refl (listed_whole n l)

-- what is said of an entry that was given
pub said_entry : (a : Answer Bool) (i : Item Entry) (e : Entry) → said a i.body ≡ got (some e) → (reply a i ≡ entry i) × (i.body ≡ e)
said_entry (got true) i e q = (refl, let z : i.body ≡ e = cc in z)
said_entry (got false) i e q = absurd (let y : ◌≡◌ {A = ℕ} 0 1 = cc in omega arith)
said_entry (refused n) i e q = absurd (let y : ◌≡◌ {A = ℕ} 0 1 = cc in omega arith)

-- ---- calls

module _ (most : ℕ) (s rows specs : List ℕ) where
  -- the tree that a list of calls leaves
  abbrev pub tree_after : List ℤ → Tree → Tree
  tree_after ks t = left (λ (k : ℤ) (u : Tree). (said_by (next_of most s rows specs k u), (next_of most s rows specs k u).tree)) ks t

module _ (most : ℕ) (src : Source) (s rows specs : List ℕ) where
  -- the same calls of the tree over the read
  record After (js : List ℤ) (t : Tree) : Type 0 where
    pub state : left (tree (real_reads most src s rows specs)) js (state_of (length s) t) ≡ state_of (length s) (tree_after most s rows specs js t)
    pub keeps : Keeps most src s (tree_after most s rows specs js t).cursor

  after : (js : List ℤ) (t : Tree) → Keeps most src s t.cursor → After js t
  after [] t h = record { state = refl; keeps = h }
  after (k ∷ js) t h =
      let z = next_same most src s rows specs k t h in
      let a = after js (next_of most s rows specs k t).tree z.keeps in
      record { state = ap (λ (x : Reply Entry × State Entry). left (tree (real_reads most src s rows specs)) js x.1) z.says ∙ a.state; keeps = a.keeps }

  -- the entry e stands in the flat reading L, and of the answers to calls from the tree t those one level deeper are its children, each once, in order, and then "no more"
  pub record ListsChildren (L : List flat.Item) (ks : List ℤ) (e : Entry) (t : Tree) : Type 0 where
    pub before : List (Item Entry)
    pub own : Item Entry
    pub behind : List (Item Entry)
    pub stands : walk_items most src s rows specs L ≡ before ++ (own ∷ behind)
    pub is : own.body ≡ e
    pub lists : heard (suc_ℤ e.depth) ks (tree_replies most s rows specs ks t)
        ≡ listed (length (heard (suc_ℤ e.depth) ks (tree_replies most s rows specs ks t))) (bodies (children_of own behind))

  lists_real : (L : List flat.Item) (ks : List ℤ) (t : Tree) → Keeps most src s t.cursor
      → Lists (real_reads most src s rows specs) (walk_items most src s rows specs L) ks (state_of (length s) t) → ListsChildren L ks t.cursor.entry t
  lists_real L ks t h z =
      let k = suc_ℤ t.cursor.entry.depth in
      let rs = replies (tree (real_reads most src s rows specs)) ks (state_of (length s) t) in
      let own = (state_of (length s) t).held in
      let w : heard k ks (tree_replies most s rows specs ks t) ≡ map whole (heard k ks rs) = ap (heard k ks) (replies_real most src s rows specs ks t h) ∙ heard_whole k ks rs in
      let n : length (heard k ks rs) ≡ length (heard k ks (tree_replies most s rows specs ks t)) = sym (ap length w ∙ length-map (heard k ks rs) whole) in
      record {
        before = z.before;
        own = own;
        behind = z.behind;
        stands = z.stands;
        is = refl;
        lists = w ∙ ap (map whole) z.lists ∙ listed_whole (length (heard k ks rs)) (children_of own z.behind) ∙ ap (λ (n : ℕ). listed n (bodies (children_of own z.behind))) n;
      }

-- ---- under the suppositions of demand 3

module _ (most : ℕ) (src : Source) (s rows specs : List ℕ) (t : Tree) (L : List flat.Item)
    (over : source_of t.cursor.input ≡ src) (sizes : keeps_cursor most (length s) t.cursor ≡ true)
    (reading : root_reading most src s rows specs ≡ got L) (jumps : Jumps (walk_items most src s rows specs L)) where
  -- no call refuses but with 21
  pub real_only_21 : (ks : List ℤ) → All21 (tree_walk most s rows specs ks t)
  real_only_21 ks =
      let f = flat_is most src s rows specs reading in
      let a = agree (real_reads most src s rows specs) (real_fair most src s rows specs) src.start _ f jumps ks in
      subst All21 (sym ((demand_3 most src s rows specs t L over sizes reading jumps).1 ks))
      (all_whole_21 (walk_says (walk_items most src s rows specs L) ks) (only_21 (real_reads most src s rows specs) (real_fair most src s rows specs) src.start _ f jumps ks _ a))

  -- the root
  pub home : RootThere most src s rows specs (root_of most s rows specs t)
  home = begun most src s rows specs reading t (record { source = over; sizes = sizes })

  -- the root is no null
  pub root_no_null : is_null (root_of most s rows specs t).tree.cursor.entry ≡ false
  root_no_null = home.no_null_lem

  -- from an entry that is held after any calls, only deeper levels being asked
  pub real_children : (js ks : List ℤ)
      → is_null (tree_after most s rows specs js (root_of most s rows specs t).tree).cursor.entry ≡ false
      → Deeper (tree_after most s rows specs js (root_of most s rows specs t).tree).cursor.entry.depth ks
      → ListsChildren most src s rows specs L ks (tree_after most s rows specs js (root_of most s rows specs t).tree).cursor.entry (tree_after most s rows specs js (root_of most s rows specs t).tree)
  real_children js ks n d =
      let R = real_reads most src s rows specs in
      let a = after most src s rows specs js (root_of most s rows specs t).tree home.keeps in
      lists_real most src s rows specs L ks (tree_after most s rows specs js (root_of most s rows specs t).tree) a.keeps
      (subst (λ (x : State Entry). x.held.null ≡ false → Deeper x.held.depth ks → Lists R (walk_items most src s rows specs L) ks x) a.state
      (children_listed R (real_fair most src s rows specs) src.start _ (flat_is most src s rows specs reading) jumps _ home.state js ks) n d)

-- ---- whatever is read and whatever jumps are offered

-- the offsets of some entries strictly rise: each is n or more and before the end, and beyond the one before
abbrev pub Rises : ℕ → ℕ → List Entry → Type 0
Rises fin n [] = Unit {0}
Rises fin n (e ∷ es) = (n ≤ e.offset) × (e.offset < fin) × Rises fin (suc e.offset) es

few : (fin n : ℕ) (es : List Entry) → Rises fin n es → length es ≤ fin - n
few fin n [] r = omega arith
few fin n (e ∷ es) (a, b, r) = let c = few fin (suc e.offset) es r in omega arith

rises_later : (fin m n : ℕ) (es : List Entry) → m ≤ n → Rises fin n es → Rises fin m es
rises_later fin m n [] h r = tt
rises_later fin m n (e ∷ es) h r = (omega (arith, r.0), r.1, r.2)

module _ (most : ℕ) (src : Source) (s rows specs : List ℕ) where
  rises_from : (ks : List ℤ) (t : Tree) (n : ℕ) → Keeps most src s t.cursor
      → Rising (src.start + length s) n (given (replies (tree (real_reads most src s rows specs)) ks (state_of (length s) t)))
      → Rises (src.start + length s) n (given (tree_replies most s rows specs ks t))
  rises_from [] t n h r = tt
  rises_from (k ∷ ks) t n h r =
      let z = next_same most src s rows specs k t h in
      go (next_of most s rows specs k t) (λ m q. rises_from ks (next_of most s rows specs k t).tree m z.keeps q)
      (subst (λ (x : Reply Entry × State Entry). Rising (src.start + length s) n (given (x.0 ∷ replies (tree (real_reads most src s rows specs)) ks x.1))) z.says r)
    where
      go : (r : Answered)
          → ((m : ℕ) → Rising (src.start + length s) m (given (replies (tree (real_reads most src s rows specs)) ks (state_of (length s) r.tree))) → Rises (src.start + length s) m (given (tree_replies most s rows specs ks r.tree)))
          → Rising (src.start + length s) n (given ((seen (length s) r).0 ∷ replies (tree (real_reads most src s rows specs)) ks (state_of (length s) r.tree)))
          → Rises (src.start + length s) n (given (said_by r ∷ tree_replies most s rows specs ks r.tree))
      go r rec = by r.answer
        where
          by : (a : Answer Bool)
              → Rising (src.start + length s) n (given (reply a (state_of (length s) r.tree).held ∷ replies (tree (real_reads most src s rows specs)) ks (state_of (length s) r.tree)))
              → Rises (src.start + length s) n (given (said a r.tree.cursor.entry ∷ tree_replies most s rows specs ks r.tree))
          by (got true) (a, b, q) = (a, b, rec (suc r.tree.cursor.entry.offset) q)
          by (got false) q = rec n q
          by (refused m) q = rec n q

  -- a state that keeps the sizes offers no jump back and none past the end
  pub sound : (t : Tree) → Keeps most src s t.cursor → Sound (src.start + length s) Any (state_of (length s) t)
  sound t h =
      let w = t.cursor.input in
      let o = ap (λ (x : Source). x.start) h.source in
      let k = (cursor_kept most (length s) t.cursor h.sizes).0 in
      record {
        forward = λ j q. let b = jump_offered t.cursor.entry (w.start + w.position) (w.start + length s) j q in (b.1, omega (arith, b.2, o));
        inside = omega (arith, k.inside, o);
        deep = tt;
        held_deep = tt;
      }

  module _ (t : Tree) (over : source_of t.cursor.input ≡ src) (sizes : keeps_cursor most (length s) t.cursor ≡ true) (ks : List ℤ) where
    -- the entries that any calls give rise, from where the tree stands on
    pub entries_rise : Rises (src.start + length s) (src.start + t.cursor.input.position) (given (tree_replies most s rows specs ks t))
    entries_rise =
        let R = real_reads most src s rows specs in
        let h : Keeps most src s t.cursor = record { source = over; sizes = sizes } in
        rises_from ks t (src.start + t.cursor.input.position) h
        (subst (λ (a : ℕ). Rising (src.start + length s) (a + t.cursor.input.position) (given (replies (tree R) ks (state_of (length s) t)))) (ap (λ (x : Source). x.start) over)
        (rising R (real_fair most src s rows specs) ks (state_of (length s) t) (sound t h)))

    -- and are at most as many as there are bytes left
    pub entries_few : length (given (tree_replies most s rows specs ks t)) ≤ length s - t.cursor.input.position
    entries_few =
        let n = few (src.start + length s) (src.start + t.cursor.input.position) (given (tree_replies most s rows specs ks t)) entries_rise in
        omega (arith, n)

  module _ (t : Tree) (over : source_of t.cursor.input ≡ src) (sizes : keeps_cursor most (length s) t.cursor ≡ true) (ks : List ℤ) where
    -- the same from a root on, read or refused
    pub said_rise : Rises (src.start + length s) src.start (given (tree_walk most s rows specs ks t))
    said_rise = go (root_of most s rows specs t) (root_left most src s rows specs t (record { source = over; sizes = sizes }))
      where
        go : (r : Answered) → RootLeft most src s rows specs r → Rises (src.start + length s) src.start (given (said_by r ∷ tree_replies most s rows specs ks r.tree))
        go r l = by r.answer refl (entries_rise r.tree l.keeps.source l.keeps.sizes ks)
          where
            by : (a : Answer Bool) → r.answer ≡ a → Rises (src.start + length s) (src.start + r.tree.cursor.input.position) (given (tree_replies most s rows specs ks r.tree))
                → Rises (src.start + length s) src.start (given (said a r.tree.cursor.entry ∷ tree_replies most s rows specs ks r.tree))
            by (got true) q z =
                let f = l.first q in
                let k = (cursor_kept most (length s) r.tree.cursor l.keeps.sizes).0 in
                (omega (arith, f.0), omega (arith, f.0, f.1, k.inside), rises_later _ _ _ (given (tree_replies most s rows specs ks r.tree)) (omega (arith, f.0, f.1)) z)
            by (got false) q z = rises_later _ _ _ (given (tree_replies most s rows specs ks r.tree)) (omega arith) z
            by (refused n) q z = rises_later _ _ _ (given (tree_replies most s rows specs ks r.tree)) (omega arith) z

    pub said_few : length (given (tree_walk most s rows specs ks t)) ≤ length s
    said_few =
        let n = few (src.start + length s) src.start (given (tree_walk most s rows specs ks t)) said_rise in
        omega (arith, n)
