-- Laws of the lines of items.
use mathlib.Core.Bool.{Bool, true, false, cond}
use mathlib.Core.Path.{◌≡◌, refl, sym, ap, ◌∙◌, subst}
use mathlib.Core.List.{List, [], ◌∷◌, ◌++◌, map}
use mathlib.Core.Option.{Option, none, some}
use Prim.Native.Nat.{ℕ, zero, suc, ◌+◌, ◌*◌, ◌/◌, ◌^◌, ◌≤◌, ◌<◌}
use native.Mathlib.Omega.{arith}
use borrow.Author.Tests.{leb-true, leb-false, lt-ltb, ltb-true}
use lib.Dec.{leb, ltb}
use lib.IntN.{ℤ, pos, negsuc, nat_abs}
use lib.Signed.{mag}
use lib.ListN.{length, get_or, take, drop, length-append}
use lib.Seq.{take_all}
use Rattle.std.specs.declared.ops.ControlFlow.TheVariants.{Continue, Break}
use Rattle.reader.specs.Answer.{Answer, got, refused, if_some}
use Rattle.reader.proofs.Signs.{twos_word}
use Rattle.entries.specs.Cursor.{item_next}
use Rattle.entries.specs.Flat.{Item, place_at, Stop, Reading, nothing}
use Rattle.entries.specs.Pass.{item_words, items_words, PassedItems, first_of, passed_items}
use Rattle.entries.specs.Raw.{moved_to, source_of}
use Rattle.entries.specs.Read.{after_entry}
use Rattle.entries.specs.Steps.{KeptRaw}
use Rattle.reader.specs.Views.{view}
use Rattle.entries.specs.Views.{PassedAs}
use Rattle.entries.specs.declared.flat.PassedEntries.{PassedEntries}
use Rattle.entries.specs.declared.raw.EntriesRaw.{EntriesRaw}
use Rattle.entries.proofs.CallsLaws.{passed_reading}
use Rattle.entries.proofs.FlatLaws.{Stands}
use Rattle.entries.proofs.RawLaws.{raw_keeps}
use Rattle.entries.proofs.RunLaws.{behind, next_kept, reading, reading_none, reading_item, reading_refused, words_length}
use Rattle.entries.proofs.SeekLaws.{stands}
use Rattle.listing.specs.Listing.{Placed, place_in, put, item_placed, items_then, read_lines, item_lines}
use Rattle.listing.specs.Text.{refused_line}
use Rattle.listing.specs.Written.{words_line, Items, Written}
use Rattle.std.specs.List.{All}
use Rattle.std.specs.Simd.{first_chunks}
use Rattle.std.proofs.lemmas.List.Elements.{All-nil, All-cons, All-head, All-tail, All-take, All-map, All-weaker}
use Rattle.std.proofs.Math.Nat.{le-div_iff_mul-le}
use Rattle.listing.specs.declared.lines.Lines.{Lines}
use Rattle.listing.proofs.LinesLaws.{Going, going_further, going_broken}

-- ---- sizes

mag_le : (d : ℤ) → mag d ≤ nat_abs d
mag_le (pos n) = omega arith
mag_le (negsuc n) = omega arith

-- the depth of a state that keeps 01's sizes
pub kept_mag : (count : ℕ) (w : EntriesRaw) → KeptRaw count w → mag w.depth < 2 ^ 63
kept_mag count w k = omega (arith, mag_le w.depth, k.near, k.inside, k.short)

pub kept_offset : (count : ℕ) (w : EntriesRaw) → KeptRaw count w → w.start + w.position < 2 ^ 64
kept_offset count w k = omega (arith, k.inside, k.short)

-- ---- items

-- its words give its line back
pub record Fair (i : Item) : Type 0 where
  pub small : i.value.tag ≤ 65535
  pub near : mag i.value.depth < 2 ^ 63

line_back : (unit : ℕ) (i : Item) → Fair i → words_line unit (item_words i) ≡ item_placed unit i
line_back unit i f = rw (twos_word 64 i.value.depth (omega arith) f.near)

lines_back : (unit : ℕ) (l : List Item) → All Fair l → map (words_line unit) (map item_words l) ≡ map (item_placed unit) l
lines_back unit [] h = refl
lines_back unit (i ∷ l) h = rw (line_back unit i (All-head Fair i l h), lines_back unit l (All-tail Fair i l h))

-- the words of items, four by four
chunks_are : (k : ℕ) (l : List Item) (z : List ℕ) → length l ≤ k → take (length l) (first_chunks 4 k (items_words l ++ z)) ≡ map item_words l
chunks_are k [] z h = refl
chunks_are zero (i ∷ l) z h = absurd (omega arith)
chunks_are (suc k) (i ∷ l) z h = ap (λ (x : List (List ℕ)). item_words i ∷ x) (chunks_are k l z (omega arith))

items_then_lem : (unit : ℕ) (l : List Item) (rest : List Placed) → items_then unit l rest ≡ map (item_placed unit) l ++ rest
items_then_lem unit [] rest = refl
items_then_lem unit (i ∷ l) rest = ap (λ (x : List Placed). item_placed unit i ∷ x) (items_then_lem unit l rest)

items_append : (unit : ℕ) (l m : List Item) (rest : List Placed) → items_then unit (l ++ m) rest ≡ items_then unit l (items_then unit m rest)
items_append unit [] m rest = refl
items_append unit (i ∷ l) m rest = ap (λ (x : List Placed). item_placed unit i ∷ x) (items_append unit l m rest)

-- the lines of some items and of a reading behind them
pub lines_behind : (unit start : ℕ) (l : List Item) (r : Reading) (rest : List Placed) → read_lines unit start (behind l r) rest ≡ map (item_placed unit) l ++ read_lines unit start r rest
lines_behind unit start l r rest = items_append unit l r.items _ ∙ items_then_lem unit l _

module _ (most : ℕ) (s rows specs : List ℕ) where
  -- behind an item that was read
  after_item : (w : EntriesRaw) (i : Item) → KeptRaw (length s) w → item_next most s rows specs w ≡ got i → KeptRaw (length s) (moved_to w i.next (after_entry i.value)) × (w.position < i.next)
  after_item w i k e =
      let z : Stands most (source_of w) s rows specs w.position w.depth i = rw e at (stands most s rows specs w) in
      (next_kept most s rows specs w i k e, z.above)

  -- by how a reading starts: with nothing, with a refusal, or with an item
  pub starts : (w : EntriesRaw) (P : Reading → Type 0) → (length s ≤ w.position → P nothing)
      → ((n : ℕ) → w.position < length s → P (record { items = []; stop = some (record { number = n; at = w.position; depth = w.depth }) }))
      → ((i : Item) → w.position < length s → item_next most s rows specs w ≡ got i → P (behind (i ∷ []) (reading most s rows specs (moved_to w i.next (after_entry i.value)))))
      → P (reading most s rows specs w)
  starts w P f g h = by (leb (length s) w.position) refl
    where
      item : (r : Answer Item) → item_next most s rows specs w ≡ r → w.position < length s → P (reading most s rows specs w)
      item (got i) e l = subst P (sym (reading_item most s rows specs w l i e)) (h i l e)
      item (refused n) e l = subst P (sym (reading_refused most s rows specs w l e)) (g n l)

      by : (b : Bool) → leb (length s) w.position ≡ b → P (reading most s rows specs w)
      by true q = subst P (sym (reading_none most s rows specs w (leb-true _ _ q))) (f (leb-true _ _ q))
      by false q = item (item_next most s rows specs w) refl (leb-false _ _ q)

  -- what holds of each item read from a state that keeps the sizes holds of all of a reading
  reading_all : (P : Item → Type 0) → ((w : EntriesRaw) → KeptRaw (length s) w → (i : Item) → item_next most s rows specs w ≡ got i → P i)
      → (n : ℕ) (w : EntriesRaw) → KeptRaw (length s) w → length s ≤ n + w.position → All P (reading most s rows specs w).items
  reading_all P f zero w k l = starts w (λ r. All P r.items) (λ _. All-nil P) (λ n h. All-nil P) (λ i h e. absurd (omega arith))
  reading_all P f (suc n) w k l =
      starts w (λ r. All P r.items) (λ _. All-nil P) (λ n h. All-nil P)
      (λ i h e. let z = after_item w i k e in All-cons P i _ (f w k i e) (reading_all P f n (moved_to w i.next (after_entry i.value)) z.0 (omega (arith, z.1))))

  -- items go on
  reading_up : (n : ℕ) (w : EntriesRaw) → KeptRaw (length s) w → length s ≤ n + w.position → (m : ℕ) → w.position ≤ place_at w.position (reading most s rows specs w).items m
  reading_up n w k l zero = omega arith
  reading_up zero w k l (suc m) = starts w (λ r. w.position ≤ place_at w.position r.items (suc m)) (λ _. omega arith) (λ n h. omega arith) (λ i h e. absurd (omega arith))
  reading_up (suc n) w k l (suc m) =
      starts w (λ r. w.position ≤ place_at w.position r.items (suc m)) (λ _. omega arith) (λ n h. omega arith)
      (λ i h e. let z = after_item w i k e in omega (arith, z.1, reading_up n (moved_to w i.next (after_entry i.value)) z.0 (omega (arith, z.1)) m))

  -- a reading that is only a refusal is of the item that is read next
  refused_here : (w : EntriesRaw) (x : Stop) → (reading most s rows specs w).items ≡ [] → (reading most s rows specs w).stop ≡ some x → (x.at ≡ w.position) × (x.depth ≡ w.depth)
  refused_here w x =
      starts w (λ r. r.items ≡ [] → r.stop ≡ some x → (x.at ≡ w.position) × (x.depth ≡ w.depth))
      (λ _ a b. absurd (let z : ◌≡◌ {A = ℕ} 0 1 = cc in omega arith))
      (λ n h a b. let z : record { number = n; at = w.position; depth = w.depth } ≡ x = cc in (ap (λ (y : Stop). y.at) (sym z), ap (λ (y : Stop). y.depth) (sym z)))
      (λ i h e a b. absurd (let z : ◌≡◌ {A = ℕ} 0 1 = cc in omega arith))

  -- ---- a pass over items

  module _ (w : EntriesRaw) (k : KeptRaw (length s) w) (m : ℕ) where
    abbrev X : PassedItems
    X = passed_items most m w s rows specs

    first_is : X ≡ first_of m w (reading most s rows specs w)
    unfolding passed_items
    first_is = rw (raw_keeps (length s) w k)

    pub pass_start : X.raw.start ≡ w.start
    pass_start = ap (λ (x : PassedItems). x.raw.start) first_is

    pub pass_kept : KeptRaw (length s) X.raw
    pass_kept = (passed_reading most s rows specs w m (raw_keeps (length s) w k)).kept

    pub pass_fair : All Fair X.items
    pass_fair =
        subst (λ (x : PassedItems). All Fair x.items) (sym first_is)
        (All-take Fair m (reading most s rows specs w).items
        (reading_all Fair
        (λ v q i e.
        let z : Stands most (source_of v) s rows specs v.position v.depth i = rw e at (stands most s rows specs v) in
        record { small = z.small; near = subst (λ (d : ℤ). mag d < 2 ^ 63) (sym z.depth) (kept_mag (length s) v q) })
        (length s) w k (omega arith)))

    pub pass_join : reading most s rows specs w ≡ behind X.items (reading most s rows specs X.raw)
    pass_join = (passed_reading most s rows specs w m (raw_keeps (length s) w k)).is

    pub pass_further : {u : Unit {0}} → 0 < m → w.position < length s → X.answer ≡ got u → w.position < X.raw.position
    pass_further {u} h l a = subst (λ (x : PassedItems). x.answer ≡ got u → w.position < x.raw.position) (sym first_is) (by m h) a
      where
        by : (m : ℕ) → 0 < m → (first_of m w (reading most s rows specs w)).answer ≡ got u → w.position < (first_of m w (reading most s rows specs w)).raw.position
        by zero h = absurd (omega arith)
        by (suc m) h =
            starts w (λ r. (first_of (suc m) w r).answer ≡ got u → w.position < (first_of (suc m) w r).raw.position) (λ q. absurd (omega arith))
            (λ n q a. absurd (let e : refused n ≡ got u = sym (ap (λ (b : Bool). cond b (refused n) (got tt)) (lt-ltb 0 (suc m) (omega arith))) ∙ a in let z : ◌≡◌ {A = ℕ} 0 1 = cc in omega arith))
            (λ i q e a. let z = after_item w i k e in omega (arith, z.1, reading_up (length s) (moved_to w i.next (after_entry i.value)) z.0 (omega arith) m))

    abbrev R : Reading
    R = reading most s rows specs w

    abbrev Rest : Reading
    Rest = reading most s rows specs X.raw

    abbrev verdict : Bool → Option Stop → Answer (Unit {0})
    verdict b o = cond b (if_some o (got tt) (λ x. refused x.number)) (got tt)

    stopped : (b : Bool) (o : Option Stop) {n : ℕ} → ltb (length R.items) m ≡ b → R.stop ≡ o → verdict b o ≡ refused n
        → Rest ≡ record { items = []; stop = some (record { number = n; at = X.raw.position; depth = X.raw.depth }) }
    stopped false o q e f = absurd (let z : ◌≡◌ {A = ℕ} 0 1 = cc in omega arith)
    stopped true none q e f = absurd (let z : ◌≡◌ {A = ℕ} 0 1 = cc in omega arith)
    stopped true (some x) {n} q e f =
        let num : x.number ≡ n = cc in
        let all : X.items ≡ R.items = ap (λ (y : PassedItems). y.items) first_is ∙ take_all m R.items (omega (arith, ltb-true (length R.items) m q)) in
        let len = ap (λ (r : Reading). length r.items) pass_join ∙ length-append X.items Rest.items in
        let none_left : Rest.items ≡ [] = nil Rest.items (omega (arith, len, ap length all)) in
        let stop : Rest.stop ≡ some x = sym (ap (λ (r : Reading). r.stop) pass_join) ∙ e in
        let z = refused_here X.raw x none_left stop in
        ap (λ (l : List Item). as_reading l Rest.stop) none_left
        ∙ ap (as_reading []) (stop ∙ ap (λ (n : ℕ). some (stop_of n x.at x.depth)) num ∙ ap (λ (a : ℕ). some (stop_of n a x.depth)) z.0 ∙ ap (λ (d : ℤ). some (stop_of n X.raw.position d)) z.1)
      where
        as_reading : List Item → Option Stop → Reading
        as_reading l o = record { items = l; stop = o }

        stop_of : ℕ → ℕ → ℤ → Stop
        stop_of n a d = record { number = n; at = a; depth = d }

        nil : (l : List Item) → length l ≡ 0 → l ≡ []
        nil [] e = refl
        nil (i ∷ l) e = absurd (omega arith)

    pub pass_stop : {n : ℕ} → X.answer ≡ refused n → reading most s rows specs X.raw ≡ record { items = []; stop = some (record { number = n; at = X.raw.position; depth = X.raw.depth }) }
    pass_stop a = stopped (ltb (length R.items) m) R.stop refl refl (sym (ap (λ (x : PassedItems). x.answer) first_is) ∙ a)

-- ---- the loop over items

-- no item is left
pub lines_ended : (most unit : ℕ) (s rows specs : List ℕ) (w : EntriesRaw) → length s ≤ w.position → (rest : List Placed) → item_lines most unit w s rows specs rest ≡ rest
unfolding item_lines
lines_ended most unit s rows specs w h rest = ap (λ (x : Reading). read_lines unit w.start x rest) (reading_none most s rows specs w h)

module _ (most : ℕ) (s rows specs : List ℕ) {w : EntriesRaw} {before after : List ℕ} {r : PassedEntries} (k : KeptRaw (length s) w) (z : PassedAs (passed_items most (length before / 4) w s rows specs) before after r) where
  abbrev m : ℕ
  m = length before / 4

  abbrev Y : PassedItems
  Y = passed_items most m w s rows specs

  -- the words of the items that were passed
  abbrev pub passed : List (List ℕ)
  passed = take r.count (first_chunks 4 (length after / 4) after)

  fair : All Fair Y.items
  fair = pass_fair most s rows specs w k m

  pub passed_few : r.count ≤ length after / 4
  passed_few =
      (le-div_iff_mul-le {k = 4} {x = r.count} {y = length after} (omega arith)).1
      (omega (arith, ap length z.words_are, length-append (items_words Y.items) (drop (length Y.items * 4) before), words_length Y.items, z.count_is))

  pub passed_is : passed ≡ map item_words Y.items
  passed_is =
      ap (λ (n : ℕ). take n (first_chunks 4 (length after / 4) after)) z.count_is ∙ ap (λ (x : List ℕ). take (length Y.items) (first_chunks 4 (length after / 4) x)) z.words_are
      ∙ chunks_are (length after / 4) Y.items (drop (length Y.items * 4) before) (omega (arith, passed_few, z.count_is))

  pub passed_small : Items passed
  passed_small =
      rw passed_is (All-map (λ (v : List ℕ). get_or v 2 0 ≤ 65535) item_words Y.items (All-weaker Fair (λ (i : Item). i.value.tag ≤ 65535) (λ i f. f.small) Y.items fair))

  pub passed_kept : KeptRaw (length s) r.raw
  passed_kept = rw z.raw_is (pass_kept most s rows specs w k m)

  pub passed_less : {u : Unit {0}} → 0 < m → w.position < length s → view r.answer ≡ got u → w.position < r.raw.position
  passed_less h a e = rw z.raw_is (pass_further most s rows specs w k m h a (sym z.answer_is ∙ e))

  pub passed_offset : r.raw.start + r.raw.position < 2 ^ 64
  passed_offset = kept_offset (length s) r.raw passed_kept

  module _ (unit : ℕ) where
    abbrev lines_from : EntriesRaw → List Placed → List Placed
    lines_from v = item_lines most unit v s rows specs

    -- the lines of the items that were passed, and of what is read behind them
    pub passed_lines : (rest : List Placed) → lines_from w rest ≡ map (words_line unit) passed ++ lines_from r.raw rest
    unfolding item_lines
    passed_lines rest =
        let lines : map (words_line unit) passed ≡ map (item_placed unit) Y.items = ap (map (words_line unit)) passed_is ∙ lines_back unit Y.items fair in
        ap (λ (x : Reading). read_lines unit w.start x rest) (pass_join most s rows specs w k m) ∙ lines_behind unit w.start Y.items (reading most s rows specs Y.raw) rest
        ∙ ap (λ (x : List Placed). x ++ read_lines unit w.start (reading most s rows specs Y.raw) rest) (sym lines)
        ∙ ap (λ (n : ℕ). map (words_line unit) passed ++ read_lines unit n (reading most s rows specs Y.raw) rest) (sym (pass_start most s rows specs w k m))
        ∙ ap (λ (v : EntriesRaw). map (words_line unit) passed ++ read_lines unit v.start (reading most s rows specs v) rest) (sym z.raw_is)

    -- a refusal's line is all that is left
    pub passed_refused : {n : ℕ} → view r.answer ≡ refused n → (rest : List Placed) → lines_from r.raw rest ≡ put (place_in unit (r.raw.start + r.raw.position) r.raw.depth) (refused_line n) ∷ []
    unfolding item_lines
    passed_refused {n} e rest =
        subst (λ (v : EntriesRaw). lines_from v rest ≡ put (place_in unit (v.start + v.position) v.depth) (refused_line n) ∷ []) (sym z.raw_is)
        (ap (λ (x : Reading). read_lines unit Y.raw.start x rest) (pass_stop most s rows specs w k m (sym z.answer_is ∙ e)))

    -- added to those before them
    module _ {a b c : Lines} {f : List Placed → List Placed} {u : Unit {0}} (t : Going a b f (lines_from w)) where
      pub items_added : Written b c (λ rest. map (words_line unit) passed ++ rest) (Continue u) → Going a c f (lines_from r.raw)
      items_added = going_further t (lines_from r.raw) passed_lines

      pub items_broken : {v : Unit {0}} → Written b c (λ rest. map (words_line unit) passed ++ rest) (Break u) → Written a c f (Break v)
      items_broken = going_broken t (lines_from r.raw) passed_lines
