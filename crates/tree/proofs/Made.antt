-- A tree that keeps 01's sizes says 1 only where a row that breaks them is found; over a table that was read it never does.
use mathlib.Core.Path.{◌≡◌, refl, ◌∙◌, ap, subst}
use mathlib.Core.Bool.{Bool, true, false, ◌&&◌}
use mathlib.Core.Option.{Option, none, some, map}
use mathlib.Core.List.{List, [], ◌∷◌}
use mathlib.Core.Logic.{⊎_elim}
use Prim.Native.Nat.{ℕ, zero, suc, ◌-◌, ◌/◌}
use native.Mathlib.Omega.{arith}
use lib.Dec.{eqb, leb}
use lib.IntN.{ℤ, pos, suc_ℤ}
use lib.ListN.{length}
use Rattle.reader.specs.Answer.{Answer, got, refused, and_then, Holds}
use Rattle.reader.specs.Leb128.{uleb_at}
use Rattle.reader.specs.declared.endianity.RunTimeEndian.{RunTimeEndian}
use Rattle.reader.proofs.Answers.{cond_by}
use Rattle.abbrev.specs.Lookup.{Found, lookup, declaration_of, declared_in}
use Rattle.abbrev.specs.Rows.{Left}
use Rattle.abbrev.specs.Table.{Declaration, Limit, abbreviations_at}
use Rattle.abbrev.proofs.Lookups.{table_lookup}
use Rattle.unit.specs.Range.{range_from}
use Rattle.unit.specs.declared.header.UnitHeader.{UnitHeader}
use Rattle.attribute.specs.Read.{attributes_at}
use Rattle.attribute.proofs.LateLaws.{Late, uleb_late, attributes_late}
use Rattle.entries.specs.Cursor.{keeps_cursor}
use Rattle.entries.specs.Entry.{Entry}
use Rattle.entries.specs.Raw.{source_of}
use Rattle.attribute.specs.declared.source.Source.{Source}
use Rattle.entries.specs.Read.{known, abbreviation_at, entry_after, entry_at, same_depth}
use Rattle.tree.specs.Walk.{Item, Reply, reached, in_range}
use Rattle.tree.specs.Tree.{Tree, next_of, root_of}
use Rattle.tree.specs.Demand.{said, tree_replies, tree_walk}
use Rattle.tree.proofs.Program.{Reads, State, hold, jump_by, fetched, fetch, seek, climb, tree}
use Rattle.tree.proofs.Real.{item_at, real_reads, state_of, reply, next_same, root_left}
use Rattle.tree.proofs.Kept.{next_kept, root_kept}
use Rattle.tree.proofs.Corollary.{Each}
use Rattle.tree.proofs.Opened.{tree_from, opened_kept}

-- ---- what 1 is said of

-- of an answer: if it is 1, then B
abbrev By : {A : Type 0} → Type 0 → Answer A → Type 0
By B (got a) = Unit {0}
By B (refused n) = n ≡ 1 → B

by_late : {A : Type 0} (B : Type 0) (r : Answer A) → Late r → By B r
by_late B (got a) h = tt
by_late B (refused n) h = λ e. absurd (omega (arith, h, e))

by_then : {A C : Type 0} (B : Type 0) (r : Answer A) (f : A → Answer C) → By B r → ((a : A) → By B (f a)) → By B (and_then r f)
by_then B (got a) f h k = k a
by_then B (refused n) f h k = h

-- some code finds a row that breaks 01's sizes
abbrev pub HasBroken : ℕ → List ℕ → List ℕ → Type 0
HasBroken most rows specs = (c : ℕ) × (lookup most rows specs c ≡ refused 1)

module _ (most : ℕ) (src : Source) (s rows specs : List ℕ) where
  abbrev Bad : Type 0
  Bad = HasBroken most rows specs

  code_by_lem : (p : ℕ) → By Bad (abbreviation_at most s rows specs p)
  unfolding abbreviation_at
  code_by_lem p =
      by_then Bad (uleb_at s p 64) _ (by_late Bad (uleb_at s p 64) (uleb_late s p 64))
      (λ r. cond_by (By Bad) (eqb r.value 0) _ _ (λ _. tt) (λ _. row_by r.value r.next (lookup most rows specs r.value) refl))
    where
      row_by : (c q : ℕ) (r : Answer (Option Found)) → lookup most rows specs c ≡ r → By Bad (known r q)
      row_by c q (got none) e = λ z. absurd (omega (arith, z))
      row_by c q (got (some f)) e = tt
      row_by c q (refused n) e = λ z. (c, e ∙ ap refused z)

  pub entry_by : (p : ℕ) (d : ℤ) → By Bad (entry_at most src s rows specs p d)
  unfolding entry_at entry_after
  entry_by p d = by_then Bad (abbreviation_at most s rows specs p) _ (code_by_lem p) (λ r. go r.value r.next)
    where
      go : (o : Option Found) (q : ℕ) → By Bad (entry_after most src s specs p d (record { value = o; next = q }))
      go none q = tt
      go (some f) q =
          let xs = (declaration_of specs f).specifications in
          let values = attributes_at s src.start src.encoding src.endian xs q in
          by_then Bad values _ (by_late Bad values (attributes_late s src.start src.encoding src.endian xs q)) (λ _. tt)

-- the tree over any read
module _ {X : Type 0} (R : Reads X) (B : Type 0) (reads : (a : ℕ) (d : ℤ) → By B (R.read a d)) where
  abbrev Says : Reply X × State X → Type 0
  Says x = By B x.0

  reached_by : (i : Item X) → By B (reached i)
  reached_by i = cond_by (By B) i.null _ _ (λ _. tt) (λ _. tt)

  fetch_by : (s : State X) (f : Item X → Reply X × State X) → ((i : Item X) → Says (f i)) → Says (fetch R s f)
  unfolding fetch fetched
  fetch_by s f h = cond_by Says (eqb s.at R.fin) _ _ (λ _. tt) (λ _. go (R.read s.at s.depth) (reads s.at s.depth))
    where
      go : (r : Answer (Item X)) → By B r → Says (fetched R s f r)
      go (got i) z = h i
      go (refused n) z = z

  seek_by : (n : ℕ) (k : ℤ) (s : State X) → Says (seek R n k s)
  unfolding seek
  seek_by zero k s = λ z. absurd (omega (arith, z))
  seek_by (suc n) k s = fetch_by (jump_by s.held.jump s) _ (λ i. cond_by Says (same_depth i.depth k) _ _ (λ _. reached_by i) (λ _. seek_by n k (hold i)))

  tree_by : (k : ℤ) (s : State X) → Says (tree R k s)
  unfolding tree climb
  tree_by k s =
      cond_by Says (s.rooted && in_range k s.held.depth) _ _
      (λ _.
      cond_by Says (same_depth k (suc_ℤ s.held.depth)) _ _
      (λ _. cond_by Says s.held.children _ _ (λ _. fetch_by s _ reached_by) (λ _. tt))
      (λ _. cond_by Says (s.held.null && same_depth s.held.depth k) _ _ (λ _. tt) (λ _. seek_by (suc R.fin) k s)))
      (λ _. λ z. absurd (omega (arith, z)))

module _ (most : ℕ) (s rows specs : List ℕ) (t : Tree) (kept : keeps_cursor most (length s) t.cursor ≡ true) where
  -- a level call on a tree that keeps 01's sizes
  pub next_1 : (k : ℤ) → (next_of most s rows specs k t).answer ≡ refused 1 → HasBroken most rows specs
  unfolding item_at
  next_1 k q =
      let src = source_of t.cursor.input in
      let B = HasBroken most rows specs in
      let reads : (a : ℕ) (d : ℤ) → By B (item_at most src s rows specs a d) =
      λ a d. cond_by (By B) (leb src.start a) _ _ (λ _. by_then B (entry_at most src s rows specs (a - src.start) d) _ (entry_by most src s rows specs (a - src.start) d) (λ _. tt)) (λ _ z. absurd (omega (arith, z))) in
      let r = next_of most s rows specs k t in
      let z = next_same most src s rows specs k t (record { source = refl; sizes = kept }) in
      let b = subst (λ (x : Reply Entry × State Entry). By B x.0) z.says (tree_by (real_reads most src s rows specs) B reads k (state_of (length s) t)) in
      subst (λ (a : Answer Bool). By B (reply a (state_of (length s) r.tree).held)) q b refl

  -- a root
  pub root_1 : (root_of most s rows specs t).answer ≡ refused 1 → HasBroken most rows specs
  root_1 q =
      let src = source_of t.cursor.input in
      ⊎_elim (λ z. absurd (omega (arith, z))) (λ (z : entry_at most src s rows specs 0 (pos 0) ≡ refused 1). subst (By (HasBroken most rows specs)) z (entry_by most src s rows specs 0 (pos 0)) refl)
      ((root_left most src s rows specs t (record { source = refl; sizes = kept })).refusal 1 q)

-- ---- over rows that keep the sizes no call says 1

-- an answer that is not 1
abbrev pub Not1 : Answer (Option Entry) → Type 0
Not1 r = r ≡ refused 1 → ⊥

said_1 : (a : Answer Bool) (x : Entry) → said a x ≡ refused 1 → a ≡ refused 1
said_1 (got true) x q = absurd (let y : ◌≡◌ {A = ℕ} 0 1 = cc in omega arith)
said_1 (got false) x q = absurd (let y : ◌≡◌ {A = ℕ} 0 1 = cc in omega arith)
said_1 (refused n) x q = let z : n ≡ 1 = cc in ap refused z

module _ (most : ℕ) (s rows specs : List ℕ) (whole : HasBroken most rows specs → ⊥) where
  replies_not_1 : (ks : List ℤ) (t : Tree) → keeps_cursor most (length s) t.cursor ≡ true → Each Not1 (tree_replies most s rows specs ks t)
  replies_not_1 [] t h = tt
  replies_not_1 (k ∷ ks) t h =
      let r = next_of most s rows specs k t in
      (λ q. whole (next_1 most s rows specs t h k (said_1 r.answer r.tree.cursor.entry q)), replies_not_1 ks r.tree (next_kept most s rows specs t h k))

  pub walk_not_1 : (t : Tree) → keeps_cursor most (length s) t.cursor ≡ true → (ks : List ℤ) → Each Not1 (tree_walk most s rows specs ks t)
  walk_not_1 t h ks =
      let r = root_of most s rows specs t in
      (λ q. whole (root_1 most s rows specs t h (said_1 r.answer r.tree.cursor.entry q)), replies_not_1 ks r.tree (root_kept most s rows specs t h))

-- a tree opened by a header, over a table as it was read into lent words: neither its root nor any calls say 1
pub opened_not_1 : (l : Limit) (abbrevs : List ℕ) (at m k : ℕ) (rows specs : List ℕ) {d : List Declaration}
    → Left m k rows specs (abbreviations_at abbrevs at l (m / 5) (k / 3)) → abbreviations_at abbrevs at l (m / 5) (k / 3) ≡ got d
    → (h : UnitHeader) (u : List ℕ) (offset : ℕ) (e : RunTimeEndian) (s : List ℕ)
    → range_from h u offset ≡ got s → (tree_from l.most h u offset e).answer ≡ got tt
    → (ks : List ℤ) → Each Not1 (tree_walk l.most s rows specs ks (tree_from l.most h u offset e).tree)
opened_not_1 l abbrevs at m k rows specs {d} left read h u offset e s inside answered =
    walk_not_1 l.most s rows specs sound (tree_from l.most h u offset e).tree (opened_kept l.most h u offset e s inside answered)
  where
    sound : HasBroken l.most rows specs → ⊥
    sound (c, q) =
        let z : and_then (lookup l.most rows specs c) (λ o. got (map (declaration_of specs) o)) ≡ got (declared_in d c) = subst (Holds _) read (table_lookup abbrevs at l m k rows specs left) c in
        let z' : refused 1 ≡ got (declared_in d c) = rw q at z in
        let y : ◌≡◌ {A = ℕ} 0 1 = cc in omega (arith, y)
