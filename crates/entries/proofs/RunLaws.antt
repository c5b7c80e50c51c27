-- Laws of items that a raw reader reads or passes one after another.
use mathlib.Core.Bool.{Bool, true, false, not, cond}
use mathlib.Core.Path.{◌≡◌, refl, sym, ap, ◌∙◌, subst}
use mathlib.Core.List.{List, [], ◌∷◌, ◌++◌, append_assoc, append-nil}
use mathlib.Core.Option.{Option, none, some}
use Prim.Native.Nat.{ℕ, zero, suc, ◌+◌, ◌*◌, ◌/◌, ◌≤◌, ◌<◌}
use native.Mathlib.Omega.{arith}
use borrow.Author.Tests.{eqb-true, leb-true, leb-false, le-leb, lt-leb, lt-ltb, le-ltb}
use lib.Dec.{ltb}
use lib.IntN.{ℤ}
use lib.ListN.{length, take, drop, length-append}
use lib.Seq.{take_all, take_at, drop-append-add, drop-drop}
use Rattle.std.specs.Prelude.{Ok, Err, Some, None, unwrap_or}
use Rattle.std.specs.Prelude as code
use Rattle.reader.specs.Answer.{Answer, got, refused, if_some}
use Rattle.reader.specs.Errors.{number_of}
use Rattle.reader.specs.Twos.{word}
use Rattle.reader.specs.declared.error.Error.{Error}
use Rattle.entries.specs.Cursor.{item_next}
use Rattle.entries.specs.Entry.{is_null}
use Rattle.entries.specs.Flat.{Item, place_at, depth_at, Stop, Reading, nothing, before, never, reading_from, after_items}
use Rattle.entries.specs.Pass.{Passed, told_of, told, item_words, items_words, first_of, with_words}
use Rattle.entries.specs.Raw.{moved_to, empty_raw, source_of, Moved, raw_entry}
use Rattle.entries.specs.Read.{after_entry}
use Rattle.entries.specs.Steps.{KeptRaw}
use Rattle.reader.specs.Views.{view}
use Rattle.entries.specs.Views.{PassedAs, view_if, passed_of}
use Rattle.entries.specs.declared.flat.PassedEntries.{PassedEntries}
use Rattle.entries.specs.declared.raw.EntriesRaw.{EntriesRaw}
use Rattle.entries.proofs.FlatLaws.{Stands, reading_step}
use Rattle.entries.proofs.SeekLaws.{stands, item_kept, was_read, was_refused}

-- ---- the state behind some items

place_snoc : (at : ℕ) (xs : List Item) (i : Item) (l : List Item) → place_at at (xs ++ (i ∷ l)) (suc (length xs)) ≡ i.next
place_snoc at [] i l = refl
place_snoc at (x ∷ xs) i l = place_snoc x.next xs i l

depth_snoc : (d : ℤ) (xs : List Item) (i : Item) (l : List Item) → depth_at d (xs ++ (i ∷ l)) (suc (length xs)) ≡ after_entry i.value
depth_snoc d [] i l = refl
depth_snoc d (x ∷ xs) i l = depth_snoc (after_entry x.value) xs i l

-- behind one more
pub after_snoc : (w : EntriesRaw) (xs : List Item) (i : Item) (l : List Item) → after_items w (xs ++ (i ∷ l)) (suc (length xs)) ≡ moved_to w i.next (after_entry i.value)
after_snoc w xs i l =
    ap (λ (p : ℕ). moved_to w p (depth_at w.depth (xs ++ (i ∷ l)) (suc (length xs)))) (place_snoc w.position xs i l)
    ∙ ap (moved_to w i.next) (depth_snoc w.depth xs i l)

place_over : (at : ℕ) (l : List Item) (n : ℕ) → length l ≤ n → place_at at l n ≡ place_at at l (length l)
place_over at [] zero h = refl
place_over at [] (suc n) h = refl
place_over at (i ∷ l) zero h = absurd (omega arith)
place_over at (i ∷ l) (suc n) h = place_over i.next l n (omega arith)

depth_over : (d : ℤ) (l : List Item) (n : ℕ) → length l ≤ n → depth_at d l n ≡ depth_at d l (length l)
depth_over d [] zero h = refl
depth_over d [] (suc n) h = refl
depth_over d (i ∷ l) zero h = absurd (omega arith)
depth_over d (i ∷ l) (suc n) h = depth_over (after_entry i.value) l n (omega arith)

-- there are no more
pub after_over : (w : EntriesRaw) (l : List Item) (n : ℕ) → length l ≤ n → after_items w l n ≡ after_items w l (length l)
after_over w l n h =
    ap (λ (p : ℕ). moved_to w p (depth_at w.depth l n)) (place_over w.position l n h)
    ∙ ap (moved_to w (place_at w.position l (length l))) (depth_over w.depth l n h)

-- ---- words

pub words_length : (l : List Item) → length (items_words l) ≡ length l * 4
words_length [] = refl
words_length (i ∷ l) = let n = words_length l in omega (arith, n)

pub words_snoc : (l : List Item) (i : Item) → items_words (l ++ (i ∷ [])) ≡ items_words l ++ item_words i
words_snoc [] i = refl
words_snoc (x ∷ l) i = ap (λ (m : List ℕ). item_words x ++ m) (words_snoc l i)

-- ---- an item at a time

-- some items, and then a reading
abbrev pub behind : List Item → Reading → Reading
behind l r = record { items = l ++ r.items; stop = r.stop }

abbrev pub tag_in : Option Passed → ℕ
tag_in none = 0
tag_in (some p) = p.tag

abbrev pub count_in : Option Passed → ℕ
count_in none = 0
count_in (some p) = p.count

-- the two numbers of what is told, 0 for a null
pub tag_told : (o : code.Option (ℕ × ℕ)) → (unwrap_or o (0, 0)).0 ≡ tag_in (view_if passed_of o)
tag_told None = refl
tag_told (Some x) = refl

pub count_told : (o : code.Option (ℕ × ℕ)) → (unwrap_or o (0, 0)).1 ≡ count_in (view_if passed_of o)
count_told None = refl
count_told (Some x) = refl

module _ (most : ℕ) (s rows specs : List ℕ) where
  abbrev pub reading : EntriesRaw → Reading
  reading w = reading_from most w s rows specs

  -- no byte is left
  pub reading_none : (w : EntriesRaw) → length s ≤ w.position → reading w ≡ nothing
  reading_none w h = reading_step most (source_of w) s rows specs never w.position w.depth ∙ rw (le-leb (length s) w.position h)

  module _ (w : EntriesRaw) (h : w.position < length s) where
    pub reading_item : (i : Item) → item_next most s rows specs w ≡ got i → reading w ≡ before i (reading (moved_to w i.next (after_entry i.value)))
    reading_item i e = reading_step most (source_of w) s rows specs never w.position w.depth ∙ rw (lt-leb (length s) w.position h, e)

    pub reading_refused : {n : ℕ} → item_next most s rows specs w ≡ refused n → reading w ≡ record { items = []; stop = some (record { number = n; at = w.position; depth = w.depth }) }
    reading_refused e = reading_step most (source_of w) s rows specs never w.position w.depth ∙ rw (lt-leb (length s) w.position h, e)

  -- the state behind an item that was read keeps the sizes
  pub next_kept : (w : EntriesRaw) (i : Item) → KeptRaw (length s) w → item_next most s rows specs w ≡ got i → KeptRaw (length s) (moved_to w i.next (after_entry i.value))
  next_kept w i k e =
      let z : Stands most (source_of w) s rows specs w.position w.depth i = rw e at (stands most s rows specs w) in
      subst (λ (d : ℤ). KeptRaw (length s) (moved_to w i.next d)) z.after (item_kept most s rows specs w i k e)

  -- an item that was told
  pub record ItemTold (w : EntriesRaw) (x : Moved (Option Passed)) (o : Option Passed) : Type 0 where
    pub item : Item
    pub read : item_next most s rows specs w ≡ got item
    pub raw_is : x.raw ≡ moved_to w item.next (after_entry item.value)
    pub told_is : told_of (got (not (is_null item.value))) item.value ≡ got o
    pub at : Stands most (source_of w) s rows specs w.position w.depth item

  module _ (w : EntriesRaw) (k : KeptRaw (length s) w) {x : Moved (Option Passed)} (e : x ≡ told (raw_entry most w s rows specs)) where
    pub item_told : {o : Option Passed} → x.answer ≡ got o → ItemTold w x o
    item_told {o} h = go (raw_entry most w s rows specs).answer refl
      where
        t : told_of (raw_entry most w s rows specs).answer (raw_entry most w s rows specs).entry ≡ got o
        t = sym (ap (λ (y : Moved (Option Passed)). y.answer) e) ∙ h

        there : {b : Bool} → (raw_entry most w s rows specs).answer ≡ got b → ItemTold w x o
        there q =
            let z = was_read most s rows specs w k refl q in
            let v : Stands most (source_of w) s rows specs w.position w.depth z.item = rw z.read at (stands most s rows specs w) in
            record {
              item = z.item;
              read = z.read;
              raw_is = ap (λ (y : Moved (Option Passed)). y.raw) e ∙ z.raw_is ∙ ap (moved_to w z.item.next) v.after;
              told_is = sym (ap (λ (a : Answer Bool). told_of a z.item.value) z.said_is) ∙ sym (ap (told_of (raw_entry most w s rows specs).answer) z.entry_is) ∙ t;
              at = v;
            }

        go : (a : Answer Bool) → (raw_entry most w s rows specs).answer ≡ a → ItemTold w x o
        go (got b) q = there q
        go (refused n) q = absurd (let f : told_of (refused n) (raw_entry most w s rows specs).entry ≡ got o = sym (ap (λ (a : Answer Bool). told_of a (raw_entry most w s rows specs).entry) q) ∙ t in let z : ◌≡◌ {A = ℕ} 0 1 = cc in omega arith)

    pub item_refused : {n : ℕ} → x.answer ≡ refused n → item_next most s rows specs w ≡ refused n
    item_refused {n} h = go (raw_entry most w s rows specs).answer refl
      where
        t : told_of (raw_entry most w s rows specs).answer (raw_entry most w s rows specs).entry ≡ refused n
        t = sym (ap (λ (y : Moved (Option Passed)). y.answer) e) ∙ h

        by : (a : Answer Bool) → (raw_entry most w s rows specs).answer ≡ a → told_of a (raw_entry most w s rows specs).entry ≡ refused n → item_next most s rows specs w ≡ refused n
        by (got true) q f = absurd (let z : ◌≡◌ {A = ℕ} 0 1 = cc in omega arith)
        by (got false) q f = absurd (let z : ◌≡◌ {A = ℕ} 0 1 = cc in omega arith)
        by (refused m) q f = let z : m ≡ n = cc in was_refused most s rows specs w k refl q ∙ ap refused z

        go : (a : Answer Bool) → (raw_entry most w s rows specs).answer ≡ a → item_next most s rows specs w ≡ refused n
        go a q = by a q (sym (ap (λ (b : Answer Bool). told_of b (raw_entry most w s rows specs).entry) q) ∙ t)

  -- its words
  told_words : (w : EntriesRaw) (x : Moved (Option Passed)) (o : Option Passed) (z : ItemTold w x o) → item_words z.item ≡ ((w.start + w.position) ∷ word 64 w.depth ∷ tag_in o ∷ count_in o ∷ [])
  told_words w x o z =
      ap (λ (a : ℕ). a ∷ word 64 z.item.value.depth ∷ z.item.value.tag ∷ z.item.value.count ∷ []) z.at.offset
      ∙ ap (λ (d : ℤ). (w.start + w.position) ∷ word 64 d ∷ z.item.value.tag ∷ z.item.value.count ∷ []) z.at.depth
      ∙ by (is_null z.item.value) refl o z.told_is
    where
      by : (b : Bool) → is_null z.item.value ≡ b → (o : Option Passed) → told_of (got (not b)) z.item.value ≡ got o
          → ◌≡◌ {A = List ℕ} ((w.start + w.position) ∷ word 64 w.depth ∷ z.item.value.tag ∷ z.item.value.count ∷ []) ((w.start + w.position) ∷ word 64 w.depth ∷ tag_in o ∷ count_in o ∷ [])
      by true q none t =
          ap (λ (n : ℕ). (w.start + w.position) ∷ word 64 w.depth ∷ n ∷ z.item.value.count ∷ []) (eqb-true z.item.value.tag 0 q)
          ∙ ap (λ (n : ℕ). (w.start + w.position) ∷ word 64 w.depth ∷ 0 ∷ n ∷ []) (z.at.empty q)
      by true q (some p) t = absurd (let y : ◌≡◌ {A = ℕ} 0 1 = cc in omega arith)
      by false q none t = absurd (let y : ◌≡◌ {A = ℕ} 0 1 = cc in omega arith)
      by false q (some p) t =
          let y : ◌≡◌ {A = Passed} (record { tag = z.item.value.tag; count = z.item.value.count }) p = cc in
          ap (λ (r : Passed). (w.start + w.position) ∷ word 64 w.depth ∷ r.tag ∷ r.count ∷ []) y

  -- ---- the loop over items

  -- items were passed: their words lie in the lent ones, and the rest is read from the state on
  pub record Run (w₀ : EntriesRaw) (lent : List ℕ) (w : EntriesRaw) (out : List ℕ) (count : ℕ) : Type 0 where
    pub items : List Item
    pub kept : KeptRaw (length s) w
    pub count_is : count ≡ length items
    pub inside : count ≤ length lent / 4
    pub spent : count ≤ w.position
    pub same : length out ≡ length lent
    pub raw_is : (l : List Item) → after_items w₀ (items ++ l) (length items) ≡ w
    pub is : reading w₀ ≡ behind items (reading w)
    pub words_are : out ≡ with_words items lent

  pub run_begun : (w : EntriesRaw) (lent : List ℕ) → KeptRaw (length s) w → Run w lent w lent 0
  run_begun w lent k =
      record { items = []; kept = k; count_is = refl; inside = omega arith; spent = omega arith; same = refl; raw_is = λ l. refl; is = refl; words_are = refl }

  module _ {w₀ : EntriesRaw} {lent : List ℕ} {w : EntriesRaw} {out : List ℕ} {count : ℕ} (t : Run w₀ lent w out count) where
    done : List Item
    done = t.items

    few : length done ≤ length lent / 4
    unfolding done
    few = omega (arith, t.count_is, t.inside)

    -- their words, and those of one more
    next_words : (i : Item) → take (count * 4) out ++ item_words i ++ drop (count * 4 + 4) out ≡ with_words (done ++ (i ∷ [])) lent
    unfolding done
    next_words i =
        let n = words_length done in
        let a : length (items_words done) ≡ count * 4 = omega (arith, n, t.count_is) in
        let l = length-append done (i ∷ []) in
        let b : length (done ++ (i ∷ [])) * 4 ≡ length done * 4 + 4 = omega (arith, l) in
        let f : take (count * 4) out ≡ items_words done = ap (take (count * 4)) t.words_are ∙ take_at (items_words done) (drop (length done * 4) lent) (count * 4) a in
        let g : drop (count * 4 + 4) out ≡ drop (length done * 4 + 4) lent =
        ap (drop (count * 4 + 4)) t.words_are ∙ ap (λ (k : ℕ). drop (k + 4) (items_words done ++ drop (length done * 4) lent)) (sym a)
        ∙ drop-append-add (items_words done) (drop (length done * 4) lent) 4 ∙ drop-drop 4 (length done * 4) lent in
        ap (λ (x : List ℕ). x ++ item_words i ++ drop (count * 4 + 4) out) f
        ∙ ap (λ (x : List ℕ). items_words done ++ item_words i ++ x) g
        ∙ ap (λ (x : List ℕ). x ++ drop (length done * 4 + 4) lent) (sym (words_snoc done i))
        ∙ ap (λ (k : ℕ). items_words (done ++ (i ∷ [])) ++ drop k lent) (sym b)

    -- one more
    pub run_further : {x : Moved (Option Passed)} {o : Option Passed} {out' : List ℕ} → empty_raw (length s) w ≡ false → count < length lent / 4 → x ≡ told (raw_entry most w s rows specs) → x.answer ≡ got o → length out' ≡ length out
        → out' ≡ take (count * 4) out ++ ((w.start + w.position) ∷ word 64 w.depth ∷ tag_in o ∷ count_in o ∷ []) ++ drop (count * 4 + 4) out → Run w₀ lent x.raw out' (count + 1)
    unfolding done empty_raw
    run_further {x} {o} {out'} b r e a l p =
        let h : w.position < length s = leb-false _ _ b in
        let z = item_told w t.kept e a in
        let i = z.item in
        let v = moved_to w i.next (after_entry i.value) in
        let n : length (done ++ (i ∷ [])) ≡ suc (length done) = length-append done (i ∷ []) ∙ omega arith in
        let moved : v ≡ moved_to w₀ i.next (after_entry i.value) = ap (λ (u : EntriesRaw). moved_to u i.next (after_entry i.value)) (sym (t.raw_is [])) in
        let words : out' ≡ with_words (done ++ (i ∷ [])) lent = p ∙ ap (λ (y : List ℕ). take (count * 4) out ++ y ++ drop (count * 4 + 4) out) (sym (told_words w x o z)) ∙ next_words i in
        subst (λ (y : EntriesRaw). Run w₀ lent y out' (count + 1)) (sym z.raw_is)
        (record {
          items = done ++ (i ∷ []);
          kept = next_kept w i t.kept z.read;
          count_is = omega (arith, n, t.count_is);
          inside = omega (arith, r);
          spent = omega (arith, t.spent, z.at.above);
          same = l ∙ t.same;
          raw_is = λ l. ap (λ (y : List Item). after_items w₀ y (length (done ++ (i ∷ [])))) (append_assoc done (i ∷ []) l) ∙ ap (after_items w₀ (done ++ (i ∷ l))) n ∙ after_snoc w₀ done i l ∙ sym moved;
          is = t.is ∙ ap (behind done) (reading_item w h i z.read) ∙ ap (λ (y : List Item). as_reading y (reading v).stop) (sym (append_assoc done (i ∷ []) (reading v).items));
          words_are = words;
        })
      where
        as_reading : List Item → Option Stop → Reading
        as_reading y o = record { items = y; stop = o }

    -- what is passed where a reading ends behind some items
    passed_as : (r : Reading) (p : PassedEntries) → reading w ≡ r → r.items ≡ [] → p.count ≡ count → p.raw ≡ w
        → view p.answer ≡ cond (ltb (length done) (length lent / 4)) (if_some r.stop (got tt) (λ x. refused x.number)) (got tt)
        → PassedAs (first_of (length lent / 4) w₀ (reading w₀)) lent out p
    unfolding done
    passed_as r p e q c d v =
        let f : reading w₀ ≡ record { items = done; stop = r.stop } = t.is ∙ ap (behind done) e ∙ ap (λ (y : List Item). as_reading (done ++ y) r.stop) q ∙ ap (λ (y : List Item). as_reading y r.stop) (append-nil done) in
        let g : take (length lent / 4) done ≡ done = take_all (length lent / 4) done few in
        subst (λ (y : Reading). PassedAs (first_of (length lent / 4) w₀ y) lent out p) (sym f)
        (record {
          answer_is = v;
          count_is = c ∙ t.count_is ∙ sym (ap length g);
          raw_is = d ∙ sym (t.raw_is []) ∙ ap (λ (y : List Item). after_items w₀ y (length done)) (append-nil done) ∙ sym (after_over w₀ done (length lent / 4) few);
          words_are = t.words_are ∙ ap (λ (y : List Item). with_words y lent) (sym g);
        })
      where
        as_reading : List Item → Option Stop → Reading
        as_reading y o = record { items = y; stop = o }

    at_most : {b : Bool} → ltb (length done) (length lent / 4) ≡ b → (x : Answer (Unit {0})) → cond (ltb (length done) (length lent / 4)) x (got tt) ≡ cond b x (got tt)
    at_most e x = ap (λ (c : Bool). cond c x (got tt)) e

    -- no byte is left
    pub run_ended : empty_raw (length s) w ≡ true → PassedAs (first_of (length lent / 4) w₀ (reading w₀)) lent out (record { answer = Ok tt; count = count; raw = w })
    unfolding empty_raw
    run_ended h =
        passed_as nothing (record { answer = Ok tt; count = count; raw = w }) (reading_none w (leb-true _ _ h)) refl refl refl (by (ltb (length done) (length lent / 4)))
      where
        by : (b : Bool) → ◌≡◌ {A = Answer (Unit {0})} (got tt) (cond b (got tt) (got tt))
        by true = refl
        by false = refl

    -- an item is refused
    pub run_refused : {e : Error} → empty_raw (length s) w ≡ false → count < length lent / 4 → record { answer = refused (number_of e); raw = w } ≡ told (raw_entry most w s rows specs)
        → PassedAs (first_of (length lent / 4) w₀ (reading w₀)) lent out (record { answer = Err e; count = count; raw = w })
    unfolding done empty_raw
    run_refused {e} h r q =
        passed_as (record { items = []; stop = some (record { number = number_of e; at = w.position; depth = w.depth }) }) (record { answer = Err e; count = count; raw = w }) (reading_refused w (leb-false _ _ h) (item_refused w t.kept q refl)) refl refl refl
        (sym (at_most (lt-ltb (length done) (length lent / 4) (omega (arith, t.count_is))) _))

    -- no words are left: what follows is not looked at
    pub run_full : length lent / 4 ≤ count → PassedAs (first_of (length lent / 4) w₀ (reading w₀)) lent out (record { answer = Ok tt; count = count; raw = w })
    unfolding done
    run_full h =
        let m : length lent / 4 ≡ length done = omega (arith, t.count_is, t.inside) in
        let l = length-append done (reading w).items in
        let g : take (length lent / 4) (done ++ (reading w).items) ≡ done = take_at done (reading w).items (length lent / 4) (sym m) in
        subst (λ (y : Reading). PassedAs (first_of (length lent / 4) w₀ y) lent out (record { answer = Ok tt; count = count; raw = w })) (sym t.is)
        (record {
          answer_is = sym (ap (λ (c : Bool). cond c (if_some (reading w).stop (got tt) (λ x. refused x.number)) (got tt)) (le-ltb (length (done ++ (reading w).items)) (length lent / 4) (omega (arith, l))));
          count_is = t.count_is ∙ sym (ap length g);
          raw_is = sym (t.raw_is (reading w).items) ∙ ap (after_items w₀ (done ++ (reading w).items)) (sym m);
          words_are = t.words_are ∙ ap (λ (y : List Item). with_words y lent) (sym g);
        })
