-- Asked again and again one level deeper, with only deeper levels between, the tree gives an entry's children.
use mathlib.Core.Path.{◌≡◌, refl, sym, ◌∙◌, ap, subst}
use mathlib.Core.Bool.{Bool, true, false, ◌&&◌, cond, true≢false, false≢true}
use mathlib.Core.Option.{Option, none, some}
use mathlib.Core.List.{List, [], ◌∷◌, ◌++◌, map, tail}
use Prim.Native.Nat.{ℕ, zero, suc, ◌-◌, ◌≤◌, ◌<◌}
use native.Mathlib.Omega.{arith}
use borrow.Author.Tests.{eqb-true, ltb-true, lt-ltb, le-ltb, le-leb, eq-eqb, ne_eqb}
use borrow.Table.Steps.{cases}
use lib.Dec.{leb, ltb, eqb}
use lib.IntN.{ℤ, pos, negsuc, suc_ℤ}
use lib.ListN.{length}
use lib.Seq.{append_snoc}
use lib.Signed.{lt_z}
use Rattle.reader.specs.Answer.{Answer, got, Holds}
use Rattle.reader.proofs.Answers.{cond_by}
use Rattle.entries.specs.Read.{same_depth}
use Rattle.tree.specs.Walk.{Item, under, entries_at, children_of, Jumps, Reply, entry, no_more, reached, Walk, on, ended, in_range, depth_of, next_item, passed, next_at, move, walk, replies}
use Rattle.tree.proofs.Program.{Reads, Fair, flat, State, hold, tree, root, left}
use Rattle.tree.proofs.Natural.{tests, in_range_lem, NatItem, up, nat_after, after_ge, after_children, after_from, Run, fit, read_depth}
use Rattle.tree.proofs.Agree.{cons_same, passed_none, passed_some, Rel, holding, done, step, replies_same, rooted}
use Rattle.tree.proofs.Loop.{Any, any, tree_good, left_sound, root_sound}

-- ---- what is claimed

-- each call is at a level deeper than d
abbrev pub Deeper : ℤ → List ℤ → Type 0
Deeper d [] = Unit {0}
Deeper d (k ∷ ks) = (lt_z d k ≡ true) × Deeper d ks

module _ {A : Type 0} where
  -- of the answers to some calls, those to the calls at level k
  abbrev pub heard : ℤ → List ℤ → List A → List A
  heard k [] rs = []
  heard k (j ∷ ks) [] = []
  heard k (j ∷ ks) (r ∷ rs) = cond (same_depth j k) (r ∷ heard k ks rs) (heard k ks rs)

  -- n answers: some entries, each once, in order, and then "no more"
  abbrev pub listed : ℕ → List A → List (Answer (Option A))
  listed zero es = []
  listed (suc n) [] = got none ∷ listed n []
  listed (suc n) (e ∷ es) = got (some e) ∷ listed n es

-- the entry held stands in L, and of the answers to calls from there those one level deeper are its children, each once, in order, and then "no more"
pub record Lists {X : Type 0} (R : Reads X) (L : List (Item X)) (ks : List ℤ) (s : State X) : Type 0 where
  pub before : List (Item X)
  pub behind : List (Item X)
  pub stands : L ≡ before ++ (s.held ∷ behind)
  pub lists : heard (suc_ℤ s.held.depth) ks (replies (tree R) ks s)
      ≡ listed (length (heard (suc_ℤ s.held.depth) ks (replies (tree R) ks s))) (children_of s.held behind)

-- ---- the children still to come

not_in_range : (k d : ℕ) → in_range (pos k) (pos d) ≡ false → 1 ≤ k → suc d < k
not_in_range k d t p = let u : leb k (suc d) ≡ false = rw (le-leb 1 k p) at t in omega tests

both : (a b : Bool) → (a && b) ≡ true → (a ≡ true) × (b ≡ true)
both true b e = (refl, e)
both false b e = absurd (false≢true e)

module _ {X : Type 0} where
  -- the children of an entry of depth d, of the items after it or of some that are still to come
  abbrev kids : ℕ → List (NatItem X) → List (Item X)
  kids d l = entries_at (pos (suc d)) (under (pos d) (map up l))

  kids_deeper : (d : ℕ) (i : NatItem X) (l : List (NatItem X)) → suc d < i.depth → kids d (i ∷ l) ≡ kids d l
  kids_deeper d i l h = rw (lt-ltb d i.depth (omega arith), ne_eqb i.depth (suc d) (omega arith))

  kids_entry : (d : ℕ) (i : NatItem X) (l : List (NatItem X)) → i.depth ≡ suc d → i.null ≡ false → kids d (i ∷ l) ≡ up i ∷ kids d l
  kids_entry d i l h n = rw (lt-ltb d i.depth (omega arith), eq-eqb i.depth (suc d) h, n)

  kids_null : (d : ℕ) (i : NatItem X) (l : List (NatItem X)) → i.depth ≡ suc d → i.null ≡ true → kids d (i ∷ l) ≡ kids d l
  kids_null d i l h n = rw (lt-ltb d i.depth (omega arith), eq-eqb i.depth (suc d) h, n)

  -- the first of them, as an answer
  abbrev first : List (Item X) → Reply X
  first [] = no_more
  first (e ∷ es) = entry e

  listed_first : (n : ℕ) (es : List (Item X)) → listed (suc n) es ≡ first es ∷ listed n (tail es)
  listed_first n [] = refl
  listed_first n (e ∷ es) = refl

  reached_null : (i : NatItem X) → i.null ≡ true → reached (up i) ≡ no_more
  reached_null i n = ap (λ (b : Bool). cond b no_more (entry (up i))) n

  reached_entry : (i : NatItem X) → i.null ≡ false → reached (up i) ≡ entry (up i)
  reached_entry i n = ap (λ (b : Bool). cond b no_more (entry (up i))) n

  -- the last item passed is no higher
  passed_deep : (d : ℕ) (h i : NatItem X) → d ≤ h.depth → d ≤ i.depth → (j : NatItem X) × (passed (up h) (up i) ≡ up j) × (d ≤ j.depth)
  passed_deep d h i a b = go h.jump refl
    where
      go : (o : Option ℕ) → h.jump ≡ o → (j : NatItem X) × (passed (up h) (up i) ≡ up j) × (d ≤ j.depth)
      go none e = (i, passed_none (up h) (up i) e, b)
      go (some t) e =
          cases (ltb h.depth i.depth)
          (λ u. (h, passed_some (up h) (up i) e ∙ rw u, a))
          (λ u. (i, passed_some (up h) (up i) e ∙ rw u, b))

  after_null : (h : NatItem X) → h.null ≡ true → nat_after h ≡ h.depth - 1
  after_null h n = rw n

  after_leaf : (h : NatItem X) → h.null ≡ false → h.children ≡ false → nat_after h ≡ h.depth
  after_leaf h n c = rw (n, c)

module _ {X : Type 0} (R : Reads X) (fair : Fair R) (d : ℕ) where
  kids_none : (l : List (NatItem X)) (a c : ℕ) → c ≤ d → Run R a c l → kids d l ≡ []
  kids_none [] a c h r = refl
  kids_none (i ∷ l) a c h (_, g, r) = rw (le-ltb d i.depth (omega (arith, read_depth R fair a c i g)))

  -- the entry is held, or an item under it
  record Kid (h : NatItem X) (l : List (NatItem X)) : Type 0 where
    pub deep : d ≤ h.depth
    pub entry : h.depth ≡ d → h.null ≡ false
    pub bare : h.null ≡ true → h.children ≡ false
    pub run : Run R h.next (nat_after h) l

  -- the same of a walk, or it has ended there; m are the children still to come
  data Kids : Walk X → List (Item X) → Type 0 where
    kid : (h : NatItem X) (l : List (NatItem X)) (m : List (Item X)) → Kid h l → m ≡ kids d l → Kids (on (up h) (map up l)) m
    over : (c : ℕ) → d ≤ c → Kids (ended (pos c)) []

  -- a call one level deeper than the entry takes the first of m, and a deeper one takes none
  data Turn (k : ℕ) (m : List (Item X)) (x : Reply X × Walk X) : Type 0 where
    takes : k ≡ suc d → x.0 ≡ first m → Kids x.1 (tail m) → Turn k m x
    keeps : suc d < k → Kids x.1 m → Turn k m x

  turn_end : (k c : ℕ) → d < k → d ≤ c → Turn k [] (no_more, ended (pos c))
  turn_end k c p q = cases (eqb k (suc d)) (λ t. takes (eqb-true k (suc d) t) refl (over c q)) (λ t. keeps (omega tests) (over c q))

  -- an item under the entry is reached
  reach : (k a : ℕ) (i : NatItem X) (l : List (NatItem X)) → d < k → R.read a (pos k) ≡ got (up i) → Run R i.next (nat_after i) l → Turn k (kids d (i ∷ l)) (reached (up i), on (up i) (map up l))
  reach k a i l h g r =
      let e = read_depth R fair a k i g in
      let K : Kid i l = record { deep = omega arith; entry = λ z. absurd (omega arith); bare = (fit R fair a (pos k) g).bare; run = r } in
      cases (eqb k (suc d))
      (λ t.
      let u : i.depth ≡ suc d = omega tests in
      cases i.null
      (λ n.
      let z : kids d l ≡ [] = kids_none l i.next (nat_after i) (rw n (omega arith)) r in
      rw (kids_null d i l u n ∙ z) (takes (eqb-true k (suc d) t) (reached_null i n) (kid i l [] K (sym z))))
      (λ n. rw (kids_entry d i l u n) (takes (eqb-true k (suc d) t) (reached_entry i n) (kid i l (kids d l) K refl))))
      (λ t.
      let u : suc d < k = omega tests in
      rw (kids_deeper d i l (omega arith)) (keeps u (kid i l (kids d l) K refl)))

  next_at_turn : (k : ℕ) → d < k → (l : List (NatItem X)) (a c : ℕ) (h : NatItem X) → d ≤ h.depth → k ≤ c → Run R a c l → Turn k (kids d l) (next_at (pos k) (up h) (map up l))
  unfolding next_at
  next_at_turn k p [] a c h q q' r = turn_end k h.depth p q
  next_at_turn k p (i ∷ l) a c h q q' (_, g, r) =
      let D = read_depth R fair a c i g in
      cond_by (Turn k (kids d (i ∷ l))) (eqb i.depth k) _ _
      (λ t. let e : c ≡ k = omega tests in reach k a i l p (rw e at g) r)
      (λ t.
      let j : k < i.depth = omega tests in
      let (v, w, z) = passed_deep d h i q (omega arith) in
      rw (kids_deeper d i l (omega arith), w) (next_at_turn k p l i.next (nat_after i) v z (after_ge k i j) r))

  down_turn : (k : ℕ) (h : NatItem X) (l : List (NatItem X)) → d < k → d ≤ h.depth → nat_after h ≡ k → Run R h.next (nat_after h) l → Turn k (kids d l) (next_item (up h) (map up l))
  unfolding next_item
  down_turn k h [] p a e r = turn_end k h.depth p a
  down_turn k h (i ∷ l) p a e (_, g, r) = reach k h.next i l p (rw e at g) r

  -- the walk stays: one level deeper than the entry, none is left
  stay_turn : (k : ℕ) (h : NatItem X) (l : List (NatItem X)) → d < k → (k ≡ suc d → nat_after h ≤ d) → Kid h l → Turn k (kids d l) (no_more, on (up h) (map up l))
  stay_turn k h l p s K =
      cases (eqb k (suc d))
      (λ t.
      let e = eqb-true k (suc d) t in
      let z : kids d l ≡ [] = kids_none l h.next (nat_after h) (s e) K.run in
      rw z (takes e refl (kid h l [] K (sym z))))
      (λ t. keeps (omega tests) (kid h l (kids d l) K refl))

  move_turn : (k : ℕ) (h : NatItem X) (l : List (NatItem X)) → d < k → k ≤ suc h.depth → Kid h l → Turn k (kids d l) (move (pos k) (on (up h) (map up l)))
  unfolding move
  move_turn k h l p q K =
      cond_by (Turn k (kids d l)) (eqb k (suc h.depth)) _ _
      (λ t.
      cond_by (Turn k (kids d l)) h.children _ _
      (λ c. down_turn k h l p K.deep (omega (tests, after_children h K.bare c)) K.run)
      (λ c. stay_turn k h l p (λ z. let a = K.deep in omega (tests, after_leaf h (K.entry (omega tests)) c)) K))
      (λ t.
      cond_by (Turn k (kids d l)) (h.null && eqb h.depth k) _ _
      (λ u. let v = both h.null (eqb h.depth k) u in stay_turn k h l p (λ z. omega (tests, after_null h v.0, eqb-true h.depth k v.1)) K)
      (λ u. next_at_turn k p l h.next (nat_after h) h K.deep (after_from k h (omega tests) u) K.run))

  walk_turn : (k : ℕ) {w : Walk X} {m : List (Item X)} → d < k → Kids w m → Turn k m (walk (pos k) w)
  unfolding walk move
  walk_turn k p (kid h l m K e) =
      rw e (cond_by (Turn k (kids d l)) (in_range (pos k) (pos h.depth)) _ _
      (λ t. move_turn k h l p (in_range_lem k h.depth t).1 K)
      (λ t. keeps (omega (arith, K.deep, not_in_range k h.depth t (omega arith))) (kid h l (kids d l) K refl)))
  walk_turn k p (over c q) =
      cond_by (Turn k []) (in_range (pos k) (pos c)) _ _ (λ _. turn_end k c p q) (λ t. keeps (omega (arith, not_in_range k c t (omega arith))) (over c q))

  -- the answers one level deeper than the entry, to calls on a walk
  abbrev hears : List ℤ → Walk X → List (Reply X)
  hears ks w = heard (pos (suc d)) ks (replies walk ks w)

  listing : (ks : List ℤ) (w : Walk X) (m : List (Item X)) → Deeper (pos d) ks → Kids w m → hears ks w ≡ listed (length (hears ks w)) m
  listing [] w m D K = refl
  listing (pos k ∷ ks) w m (p, D) K = go (walk_turn k (ltb-true d k p) K) (listing ks)
    where
      go : Turn k m (walk (pos k) w) → ((w : Walk X) (m : List (Item X)) → Deeper (pos d) ks → Kids w m → hears ks w ≡ listed (length (hears ks w)) m)
          → hears (pos k ∷ ks) w ≡ listed (length (hears (pos k ∷ ks) w)) m
      go (takes e f v) rec = rw (eq-eqb k (suc d) e) (rw (listed_first _ m) (cons_same f (rec _ _ D v)))
      go (keeps h v) rec = rw (ne_eqb k (suc d) (omega arith)) (rec _ _ D v)
  listing (negsuc k ∷ ks) w m (p, D) K = absurd (false≢true p)

-- ---- where the walk stands in the flat reading

module _ {X : Type 0} (L : List (Item X)) where
  abbrev Part : Walk X → Type 0
  Part (on h l) = (before : List (Item X)) × (L ≡ before ++ (h ∷ l))
  Part (ended d) = Unit {0}

  abbrev Parts : Reply X × Walk X → Type 0
  Parts x = Part x.1

  further : (before : List (Item X)) (i : Item X) (l : List (Item X)) → L ≡ before ++ (i ∷ l) → L ≡ (before ++ (i ∷ [])) ++ l
  further before i l e = e ∙ sym (append_snoc before i l)

  next_at_part : (k : ℤ) (h : Item X) (l before : List (Item X)) → L ≡ before ++ l → Parts (next_at k h l)
  unfolding next_at
  next_at_part k h [] before e = tt
  next_at_part k h (i ∷ l) before e =
      cond_by Parts (same_depth i.depth k) _ _ (λ _. (before, e)) (λ _. next_at_part k (passed h i) l (before ++ (i ∷ [])) (further before i l e))

  next_item_part : (h : Item X) (l before : List (Item X)) → L ≡ before ++ l → Parts (next_item h l)
  unfolding next_item
  next_item_part h [] before e = tt
  next_item_part h (i ∷ l) before e = (before, e)

  move_part : (k : ℤ) (w : Walk X) → Part w → Parts (move k w)
  unfolding move
  move_part k (ended d) P = tt
  move_part k (on h l) P =
      let z = further P.0 h l P.1 in
      cond_by Parts (same_depth k (suc_ℤ h.depth)) _ _
      (λ _. cond_by Parts h.children _ _ (λ _. next_item_part h l (P.0 ++ (h ∷ [])) z) (λ _. P))
      (λ _. cond_by Parts (h.null && same_depth h.depth k) _ _ (λ _. P) (λ _. next_at_part k h l (P.0 ++ (h ∷ [])) z))

  left_part : (ks : List ℤ) (w : Walk X) → Part w → Part (left walk ks w)
  unfolding walk
  left_part [] w P = P
  left_part (k ∷ ks) w P = left_part ks (walk k w).1 (cond_by Parts (in_range k (depth_of w)) _ _ (λ _. move_part k w P) (λ _. P))

-- ---- of the tree

module _ {X : Type 0} (R : Reads X) (fair : Fair R) where
  left_rel : (ks : List ℤ) {s : State X} {w : Walk X} → Rel R fair s w → Rel R fair (left (tree R) ks s) (left walk ks w)
  left_rel [] m = m
  left_rel (k ∷ ks) m = left_rel ks (step R fair k m).state

  lists_from : (L : List (Item X)) (ks : List ℤ) {s : State X} {w : Walk X} → Rel R fair s w → Part L w → s.held.null ≡ false → Deeper s.held.depth ks → Lists R L ks s
  lists_from L ks (done e a d) P n D = absurd (true≢false n)
  lists_from L ks (holding h l m) P n D =
      record {
        before = P.0;
        behind = map up l;
        stands = P.1;
        lists =
            rw (replies_same R fair ks (holding h l m))
            (listing R fair h.depth ks _ _ D (kid h l (kids h.depth l) (record { deep = omega arith; entry = λ _. n; bare = m.bare; run = m.run }) refl));
      }

  -- from an entry that is held after any calls, only deeper levels being asked
  pub children_listed : (p : ℕ) (L : List (Item X)) → flat R p ≡ got L → Jumps L → (s : State X) → root R p ≡ got s → (js ks : List ℤ)
      → (left (tree R) js s).held.null ≡ false → Deeper (left (tree R) js s).held.depth ks → Lists R L ks (left (tree R) js s)
  children_listed p L e j s g js ks =
      let r = rooted R fair p L e in
      subst (Holds (λ (s : State X). (left (tree R) js s).held.null ≡ false → Deeper (left (tree R) js s).held.depth ks → Lists R L ks (left (tree R) js s)))
      (sym r.root_is ∙ g)
      (lists_from L ks (left_rel js (holding r.first r.rest (r.held j))) (left_part L js (on (up r.first) (map up r.rest)) ([], sym r.whole)))

  left_snoc : (ks : List ℤ) (k : ℤ) (s : State X) → left (tree R) (ks ++ (k ∷ [])) s ≡ (tree R k (left (tree R) ks s)).1
  left_snoc [] k s = refl
  left_snoc (j ∷ ks) k s = left_snoc ks k (tree R j s).1

  -- from an answer: calls js, and then a call at k that gave the entry e
  pub children_of_answer : (p : ℕ) (L : List (Item X)) → flat R p ≡ got L → Jumps L → (s : State X) → root R p ≡ got s → (js : List ℤ) (k : ℤ) (e : Item X)
      → (tree R k (left (tree R) js s)).0 ≡ entry e → (ks : List ℤ) → Deeper e.depth ks → Lists R L ks (hold e)
  children_of_answer p L f j s g js k e a ks D =
      let S = (subst (Holds _) g (root_sound R fair Any (any R) p tt)).0 in
      let G = (tree_good R fair Any (any R) k (left (tree R) js s) (left_sound R fair Any (any R) js s S)).holds e a in
      let q : left (tree R) (js ++ (k ∷ [])) s ≡ hold e = left_snoc js k s ∙ G.0 in
      subst (λ (s : State X). s.held.null ≡ false → Deeper s.held.depth ks → Lists R L ks s) q (children_listed p L f j s g (js ++ (k ∷ [])) ks) G.1 D
