-- Laws of pages.
use mathlib.Core.Bool.{Bool, true, false, cond}
use mathlib.Core.Path.{◌≡◌, refl, sym, ap, ◌∙◌, subst}
use mathlib.Core.List.{List, [], ◌∷◌, ◌++◌, append_assoc, append-nil, map}
use mathlib.Core.Option.{Option, none, some}
use Prim.Native.Nat.{ℕ, zero, suc, ◌+◌, ◌-◌, ◌*◌, ◌/◌, ◌^◌, ◌≤◌, ◌<◌}
use native.Mathlib.Omega.{arith}
use native.Mathlib.Nat.{mul_comm}
use borrow.Author.Tests.{eq-eqb, lt-leb, le-leb, lt-ltb, le-ltb, ltb-true, ltb-false}
use lib.Dec.{ltb}
use lib.IntN.{ℤ, pos, negsuc, nat_abs}
use lib.Signed.{mag}
use lib.ListN.{length, take, drop, get_or, replicate, length-append, length-take, length-drop, length-replicate}
use lib.Seq.{drop-append-add, drop-drop, drop-cons, take-nil, drop-nil}
use native.Mathlib.Numerals.{add-one}
use Rattle.reader.specs.Answer.{Answer, got, refused, and_then, if_some}
use Rattle.reader.specs.Sizes.{max_section}
use Rattle.reader.specs.Twos.{word, twos}
use Rattle.reader.proofs.Signs.{twos_word}
use Rattle.entries.specs.Cursor.{item_next}
use Rattle.abbrev.specs.Table.{entry_limit}
use Rattle.unit.specs.Header.{size_of_header, unit_end}
use Rattle.unit.specs.Range.{entries_buf}
use Rattle.unit.specs.declared.header.UnitHeader.{UnitHeader}
use Rattle.reader.specs.declared.endianity.RunTimeEndian.{RunTimeEndian}
use Rattle.entries.specs.Flat.{Item, Stop, Reading, reading_from, all_of, unit_reading}
use Rattle.entries.specs.Pass.{item_words, PassedItems, passed_items}
use Rattle.entries.specs.Raw.{moved_to, source_of, start_of, unit_source, opened}
use Rattle.entries.specs.Read.{after_entry}
use Rattle.reader.specs.Views.{view}
use Rattle.entries.specs.Views.{PassedAs}
use Rattle.entries.specs.declared.flat.PassedEntries.{PassedEntries}
use Rattle.entries.specs.declared.raw.EntriesRaw.{EntriesRaw}
use Rattle.entries.proofs.FlatLaws.{Stands}
use Rattle.entries.proofs.KeepLaws.{entry_few, part_in}
use Rattle.entries.proofs.RunLaws.{behind, next_kept, reading, reading_none}
use Rattle.entries.proofs.SeekLaws.{stands}
use Rattle.listing.specs.Text.{ascii}
use Rattle.listing.proofs.ListLaws.{starts, pass_start, pass_kept, pass_join, pass_further, pass_stop, passed, passed_is, passed_few}
use Rattle.std.specs.List.{All, AllByRecursion}
use Rattle.std.proofs.lemmas.List.{drop_all, length-map}
use Rattle.std.proofs.lemmas.List.Elements.{All-map, All-weaker, All-from_recursion}
use Rattle.sheet.specs.Sheet.{sheet_line, item_line, blank_line, on_page, filled, page_of, in_bytes, page_size, Shown, shown, sheet_reading}
use Rattle.sheet.specs.Steps.{splice, Fair, placed, placed_all, words_line, placed_words, FairWords, first_on, lines_of, Opened, page_from}
use Rattle.sheet.proofs.ColumnLaws.{splice_length, splice_none}
use Rattle.sheet.proofs.LineLaws.{stored_then, line_length, Wide, bytes_length, bytes_append, bytes_more, wide_append, wide_blank}

-- ---- items whose numbers have their columns

abbrev pub FairItem : Item → Type 0
FairItem i = Fair i.value.offset i.value.depth i.value.tag i.value.count

abbrev pub AllFair : List Item → Type 0
AllFair l = AllByRecursion FairItem l

pub fair_left : (l m : List Item) → AllFair (l ++ m) → AllFair l
fair_left [] m h = tt
fair_left (i ∷ l) m h = (h.0, fair_left l m h.1)

mag_small : (d : ℤ) → nat_abs d < 10 ^ 10 → mag d < 2 ^ 63
mag_small (pos n) h = omega arith
mag_small (negsuc n) h = omega arith

pub wide_lines : (l : List Item) → AllFair l → Wide (map item_line l)
wide_lines [] h = tt
wide_lines (i ∷ l) h = (line_length h.0, wide_lines l h.1)

-- a unit whose bytes are no more than a section's
module _ (most : ℕ) (few : most < 100) (s rows specs : List ℕ) where
  abbrev R : EntriesRaw → Reading
  R w = reading most s rows specs w

  next_opened : (w : EntriesRaw) (i : Item) → Opened (length s) w → item_next most s rows specs w ≡ got i → Opened (length s) (moved_to w i.next (after_entry i.value)) × (w.position < i.next)
  next_opened w i o e =
      let z : Stands most (source_of w) s rows specs w.position w.depth i = rw e at (stands most s rows specs w) in
      (record { kept = next_kept most s rows specs w i o.kept e; short = o.short }, z.above)

  item_fair : (w : EntriesRaw) (i : Item) → Opened (length s) w → item_next most s rows specs w ≡ got i → FairItem i
  item_fair w i o e =
      let z : Stands most (source_of w) s rows specs w.position w.depth i = rw e at (stands most s rows specs w) in
      let c : i.value.count ≤ most = rw e at (entry_few most s rows specs w) in
      record {
        offset_small = omega (arith, z.offset, o.short, o.kept.inside);
        depth_small = subst (λ (d : ℤ). nat_abs d < 10 ^ 10) (sym z.depth) (omega (arith, o.kept.near, o.kept.inside, o.short));
        tag_small = omega (arith, z.small);
        count_small = omega (arith, c, few);
        null_empty = λ q. z.empty (eq-eqb i.value.tag 0 q);
      }

  all_fair_lem : (n : ℕ) (w : EntriesRaw) → Opened (length s) w → length s ≤ n + w.position → AllFair (R w).items
  all_fair_lem zero w o l = starts most s rows specs w (λ r. AllFair r.items) (λ _. tt) (λ n h. tt) (λ i h e. absurd (omega arith))
  all_fair_lem (suc n) w o l =
      starts most s rows specs w (λ r. AllFair r.items) (λ _. tt) (λ n h. tt)
      (λ i h e. let z = next_opened w i o e in (item_fair w i o e, all_fair_lem n (moved_to w i.next (after_entry i.value)) z.0 (omega (arith, z.1))))

  pub items_fair : (w : EntriesRaw) → Opened (length s) w → AllFair (R w).items
  items_fair w o = all_fair_lem (length s) w o (omega arith)

  -- each item takes a byte
  all_few : (n : ℕ) (w : EntriesRaw) → Opened (length s) w → length s ≤ n + w.position → length (R w).items + w.position ≤ length s
  all_few zero w o l =
      starts most s rows specs w (λ r. length r.items + w.position ≤ length s) (λ _. omega (arith, o.kept.inside)) (λ n h. omega (arith, o.kept.inside)) (λ i h e. absurd (omega arith))
  all_few (suc n) w o l =
      starts most s rows specs w (λ r. length r.items + w.position ≤ length s) (λ _. omega (arith, o.kept.inside)) (λ n h. omega (arith, o.kept.inside))
      (λ i h e. let z = next_opened w i o e in omega (arith, z.1, all_few n (moved_to w i.next (after_entry i.value)) z.0 (omega (arith, z.1))))

  pub items_few : (w : EntriesRaw) → Opened (length s) w → length (R w).items ≤ max_section
  items_few w o = omega (arith, all_few (length s) w o (omega arith), o.short)

-- ---- the words of items

depth_back : (i : Item) → FairItem i → twos 64 (word 64 i.value.depth) ≡ i.value.depth
depth_back i h = twos_word 64 i.value.depth (omega arith) (mag_small i.value.depth h.depth_small)

pub words_placed : (first k : ℕ) (l : List Item) (p : List ℕ) → AllFair l → placed_words first k (map item_words l) p ≡ placed_all first k l p
words_placed first k [] p h = refl
words_placed first k (i ∷ l) p h =
    ap (λ (d : ℤ). placed_words first (k + 1) (map item_words l) (placed first k (sheet_line i.value.offset d i.value.tag i.value.count) p)) (depth_back i h.0)
    ∙ words_placed first (k + 1) l (placed first k (item_line i) p) h.1

pub words_fair : (l : List Item) → AllFair l → All FairWords (map item_words l)
words_fair l h =
    All-map FairWords item_words l
    (All-weaker FairItem (λ (i : Item). FairWords (item_words i)) (λ i f. subst (λ (d : ℤ). Fair i.value.offset d i.value.tag i.value.count) (sym (depth_back i f)) f) l (All-from_recursion FairItem l h))

pub placed_append : (first k : ℕ) (l m : List Item) (p : List ℕ) → placed_all first k (l ++ m) p ≡ placed_all first (k + length l) m (placed_all first k l p)
placed_append first k [] m p = ap (λ (n : ℕ). placed_all first n m p) e
  where
    e : k ≡ k + 0
    e = omega arith
placed_append first k (i ∷ l) m p =
    placed_append first (k + 1) l m (placed first k (item_line i) p) ∙ ap (λ (n : ℕ). placed_all first n m (placed_all first (k + 1) l (placed first k (item_line i) p))) e
  where
    e : k + 1 + length l ≡ k + suc (length l)
    e = omega arith

-- ---- lines in their places

splice_front : (t l : List ℕ) (n : ℕ) → length t ≡ n → splice 0 t l ≡ t ++ drop n l
splice_front t l n e = ap (λ (m : ℕ). t ++ drop m l) (omega arith ∙ e)

splice_tail : (at : ℕ) (t l : List ℕ) (n : ℕ) → at + length t ≤ n → n ≤ length l → drop n (splice at t l) ≡ drop n l
splice_tail at t l n h k =
    let m = n - (at + length t) in
    let f : length (take at l ++ t) ≡ at + length t = omega (arith, length-append (take at l) t, length-take at l) in
    let e : n ≡ length (take at l ++ t) + m = omega arith in
    let g : at + length t + m ≡ n = omega arith in
    ap (λ (x : ℕ). drop x (splice at t l)) e ∙ drop-append-add (take at l ++ t) (drop (at + length t) l) m ∙ drop-drop m (at + length t) l ∙ ap (λ (x : ℕ). drop x l) g

module _ (first : ℕ) where
  lines_zero : (k : ℕ) → k ≤ first → lines_of first k ≡ 0
  lines_zero k h = by (ltb k first) refl
    where
      by : (b : Bool) → ltb k first ≡ b → lines_of first k ≡ 0
      by true e = rw e
      by false e = let z = ltb-false k first e in let n : k - first ≡ 0 = omega arith in rw (e, n)

  lines_some : (k : ℕ) → first ≤ k → k - first ≤ 60 → lines_of first k ≡ k - first
  lines_some k h l = rw (le-ltb k first h) (by (ltb (k - first) 60) refl)
    where
      by : (b : Bool) → ltb (k - first) 60 ≡ b → cond (ltb (k - first) 60) (k - first) 60 ≡ k - first
      by true e = rw e
      by false e = let z = ltb-false (k - first) 60 e in rw e (omega arith)

  lines_full : (k : ℕ) → first ≤ k → 60 ≤ k - first → lines_of first k ≡ 60
  lines_full k h l = rw (le-ltb k first h, le-ltb (k - first) 60 l)

  placed_early : (k : ℕ) (t p : List ℕ) → k < first → placed first k t p ≡ p
  placed_early k t p h = rw (lt-leb first k h)

  placed_late : (k : ℕ) (t p : List ℕ) → first ≤ k → 60 ≤ k - first → placed first k t p ≡ p
  placed_late k t p h l = rw (le-leb first k h, le-ltb (k - first) 60 l)

  placed_here : (k : ℕ) (t p : List ℕ) → first ≤ k → k - first < 60 → placed first k t p ≡ splice ((k - first) * 33) (t ++ ascii "\n") p
  placed_here k t p h l = rw (le-leb first k h, lt-ltb (k - first) 60 l)

  -- by where the k-th item stands
  three : (k : ℕ) (P : Type 0) → (k < first → P) → (first ≤ k → k - first < 60 → P) → (first ≤ k → 60 ≤ k - first → P) → P
  three k P f g h = by (ltb k first) refl (ltb (k - first) 60) refl
    where
      by : (b : Bool) → ltb k first ≡ b → (c : Bool) → ltb (k - first) 60 ≡ c → P
      by true e c d = f (ltb-true k first e)
      by false e true d = g (ltb-false k first e) (ltb-true (k - first) 60 d)
      by false e false d = h (ltb-false k first e) (ltb-false (k - first) 60 d)

  pub placed_length : (k : ℕ) (t p : List ℕ) → length t ≡ 32 → page_size ≤ length p → length (placed first k t p) ≡ length p
  placed_length k t p w r =
      three k (length (placed first k t p) ≡ length p)
      (λ h. ap length (placed_early k t p h))
      (λ h l. ap length (placed_here k t p h l) ∙ splice_length ((k - first) * 33) p (t ++ ascii "\n") (omega (arith, length-append t (ascii "\n"))))
      (λ h l. ap length (placed_late k t p h l))

  pub placed_tail : (k : ℕ) (t p : List ℕ) → length t ≡ 32 → page_size ≤ length p → drop page_size (placed first k t p) ≡ drop page_size p
  placed_tail k t p w r =
      three k (drop page_size (placed first k t p) ≡ drop page_size p)
      (λ h. ap (drop page_size) (placed_early k t p h))
      (λ h l. ap (drop page_size) (placed_here k t p h l) ∙ splice_tail ((k - first) * 33) (t ++ ascii "\n") p page_size (omega (arith, length-append t (ascii "\n"))) r)
      (λ h l. ap (drop page_size) (placed_late k t p h l))

  pub all_length : (l : List Item) (k : ℕ) (p : List ℕ) → AllFair l → page_size ≤ length p → length (placed_all first k l p) ≡ length p
  all_length [] k p h r = refl
  all_length (i ∷ l) k p h r =
      let e = placed_length k (item_line i) p (line_length h.0) r in
      all_length l (k + 1) (placed first k (item_line i) p) h.1 (omega (arith, e)) ∙ e

  pub all_tail : (l : List Item) (k : ℕ) (p : List ℕ) → AllFair l → page_size ≤ length p → drop page_size (placed_all first k l p) ≡ drop page_size p
  all_tail [] k p h r = refl
  all_tail (i ∷ l) k p h r =
      let e = placed_length k (item_line i) p (line_length h.0) r in
      all_tail l (k + 1) (placed first k (item_line i) p) h.1 (omega (arith, e)) ∙ placed_tail k (item_line i) p (line_length h.0) r

  -- the items that have a line on the page
  abbrev pub window : List Item → List Item
  window l = take 60 (drop first l)

  module _ (p₀ : List ℕ) (r : page_size ≤ length p₀) where
    abbrev Ends : List (List ℕ) → ℕ → List Item → List (List ℕ)
    Ends ls k l = ls ++ map item_line (take (60 - length ls) (drop (first - k) l))

    abbrev After : ℕ → List Item → List (List ℕ) → List ℕ → Type 0
    After k l ls p = placed_all first (k + 1) l p ≡ splice 0 (in_bytes (Ends ls (k + 1) l)) p₀

    abbrev Next : ℕ → List Item → List (List ℕ) → List ℕ → Type 0
    Next k l ls p = length ls ≡ lines_of first (k + 1) → p ≡ splice 0 (in_bytes ls) p₀ → After k l ls p

    -- with the lines ls of the first k items stored, those of the rest
    rest_placed : (l : List Item) (k : ℕ) (ls : List (List ℕ)) (p : List ℕ) → AllFair l → Wide ls → length ls ≡ lines_of first k → p ≡ splice 0 (in_bytes ls) p₀
        → placed_all first k l p ≡ splice 0 (in_bytes (Ends ls k l)) p₀
    rest_placed [] k ls p h w n e =
        e ∙ ap (λ (x : List (List ℕ)). splice 0 (in_bytes x) p₀) (sym (append-nil ls)) ∙ ap (λ (x : List Item). splice 0 (in_bytes (ls ++ map item_line x)) p₀) (sym (ap (take (60 - length ls)) (drop-nil (first - k)) ∙ take-nil (60 - length ls)))
    rest_placed (i ∷ l) k ls p h w n e =
        three k (placed_all first k (i ∷ l) p ≡ splice 0 (in_bytes (Ends ls k (i ∷ l))) p₀)
        (λ a. early a (rest_placed l (k + 1) ls p h.1 w)) (λ a b. here a b (λ w' n' e'. rest_placed l (k + 1) (ls ++ (item_line i ∷ [])) (placed first k (item_line i) p) h.1 w' n' e')) (λ a b. late a b (rest_placed l (k + 1) ls p h.1 w))
      where
        early : k < first → Next k l ls p → placed_all first k (i ∷ l) p ≡ splice 0 (in_bytes (Ends ls k (i ∷ l))) p₀
        early a more =
            let d : first - k ≡ suc (first - (k + 1)) = omega arith in
            let z = lines_zero (k + 1) (omega arith) in
            let y = lines_zero k (omega arith) in
            ap (placed_all first (k + 1) l) (placed_early k (item_line i) p a)
            ∙ more (n ∙ y ∙ sym z) e
            ∙ ap (λ (m : ℕ). splice 0 (in_bytes (ls ++ map item_line (take (60 - length ls) (drop m (i ∷ l))))) p₀) (sym d)

        here : first ≤ k → k - first < 60
            → (Wide (ls ++ (item_line i ∷ [])) → length (ls ++ (item_line i ∷ [])) ≡ lines_of first (k + 1) → placed first k (item_line i) p ≡ splice 0 (in_bytes (ls ++ (item_line i ∷ []))) p₀ → After k l (ls ++ (item_line i ∷ [])) (placed first k (item_line i) p))
            → placed_all first k (i ∷ l) p ≡ splice 0 (in_bytes (Ends ls k (i ∷ l))) p₀
        here a b more =
            let y : length ls ≡ k - first = n ∙ lines_some k a (omega arith) in
            let z : length (ls ++ (item_line i ∷ [])) ≡ lines_of first (k + 1) = length-append ls (item_line i ∷ []) ∙ omega (arith, y) ∙ sym (lines_some (k + 1) (omega arith) (omega arith)) in
            let bytes = bytes_length ls w in
            let wide = line_length h.0 in
            let q : placed first k (item_line i) p ≡ splice 0 (in_bytes ls ++ (item_line i ++ ascii "\n")) p₀ =
            stored_then 0 p₀ (in_bytes ls) (item_line i ++ ascii "\n") ((k - first) * 33) e (omega (arith, bytes, y)) (omega (arith, length-append (item_line i) (ascii "\n"))) (placed_here k (item_line i) p a b) in
            let q' : placed first k (item_line i) p ≡ splice 0 (in_bytes (ls ++ (item_line i ∷ []))) p₀ = q ∙ ap (λ (t : List ℕ). splice 0 t p₀) (sym (bytes_more ls (item_line i))) in
            let d : first - (k + 1) ≡ 0 = omega arith in
            let none : first - k ≡ 0 = omega arith in
            let m : 60 - length ls ≡ suc (60 - length (ls ++ (item_line i ∷ []))) = omega (arith, length-append ls (item_line i ∷ []), y) in
            let from : take (60 - length ls) (drop (first - k) (i ∷ l)) ≡ i ∷ take (60 - length (ls ++ (item_line i ∷ []))) l =
            ap (λ (x : ℕ). take (60 - length ls) (drop x (i ∷ l))) none ∙ ap (λ (x : ℕ). take x (i ∷ l)) m in
            let to : take (60 - length (ls ++ (item_line i ∷ []))) (drop (first - (k + 1)) l) ≡ take (60 - length (ls ++ (item_line i ∷ []))) l =
            ap (λ (x : ℕ). take (60 - length (ls ++ (item_line i ∷ []))) (drop x l)) d in
            more (wide_append ls (item_line i ∷ []) w (wide, tt)) z q'
            ∙ ap (λ (x : List Item). splice 0 (in_bytes ((ls ++ (item_line i ∷ [])) ++ map item_line x)) p₀) to
            ∙ ap (λ (x : List (List ℕ)). splice 0 (in_bytes x) p₀) (append_assoc ls (item_line i ∷ []) (map item_line (take (60 - length (ls ++ (item_line i ∷ []))) l)))
            ∙ ap (λ (x : List Item). splice 0 (in_bytes (ls ++ map item_line x)) p₀) (sym from)

        late : first ≤ k → 60 ≤ k - first → Next k l ls p → placed_all first k (i ∷ l) p ≡ splice 0 (in_bytes (Ends ls k (i ∷ l))) p₀
        late a b more =
            let y : length ls ≡ 60 = n ∙ lines_full k a b in
            let z = lines_full (k + 1) (omega arith) (omega arith) in
            let m : 60 - length ls ≡ 0 = omega arith in
            ap (placed_all first (k + 1) l) (placed_late k (item_line i) p a b)
            ∙ more (y ∙ sym z) e
            ∙ ap (λ (m : ℕ). splice 0 (in_bytes (ls ++ map item_line (take m (drop (first - (k + 1)) l)))) p₀) m
            ∙ ap (λ (m : ℕ). splice 0 (in_bytes (ls ++ map item_line (take m (drop (first - k) (i ∷ l))))) p₀) (sym m)

    -- all items
    pub all_placed : (l : List Item) → AllFair l → placed_all first 0 l p₀ ≡ splice 0 (in_bytes (map item_line (window l))) p₀
    all_placed l h =
        rest_placed l 0 [] p₀ h tt (sym (lines_zero 0 (omega arith))) (sym (splice_none 0 p₀)) ∙ ap (λ (m : ℕ). splice 0 (in_bytes (map item_line (take 60 (drop m l)))) p₀) e
      where
        e : first - 0 ≡ first
        e = omega arith

-- ---- a page

-- the items of a page, by the number of its first
pub window_page : (n : ℕ) (l : List Item) → length l ≤ max_section → window (first_on n) l ≡ on_page n l
window_page n l h = by (ltb n 67108864) refl
  where
    by : (b : Bool) → ltb n 67108864 ≡ b → window (first_on n) l ≡ on_page n l
    by true e = rw e (ap (λ (m : ℕ). take 60 (drop m l)) (mul_comm n 60))
    by false e =
        let z = ltb-false n 67108864 e in
        rw e (ap (take 60) (drop_all 4026531840 l (omega arith) ∙ sym (drop_all (60 * n) l (omega arith))))

window_length : (first : ℕ) (l : List Item) → length (window first l) ≡ lines_of first (length l)
window_length first l = by (ltb (length l) first) refl (ltb (length l - first) 60) refl
  where
    long : length (window first l) ≡ length (take 60 (drop first l))
    long = refl

    by : (b : Bool) → ltb (length l) first ≡ b → (c : Bool) → ltb (length l - first) 60 ≡ c → length (window first l) ≡ lines_of first (length l)
    by true e c d = let z = ltb-true (length l) first e in rw e (omega (arith, length-take 60 (drop first l), length-drop first l))
    by false e true d = let z = ltb-false (length l) first e in let y = ltb-true (length l - first) 60 d in rw (e, d) (omega (arith, length-take 60 (drop first l), length-drop first l))
    by false e false d = let z = ltb-false (length l) first e in let y = ltb-false (length l - first) 60 d in rw (e, d) (omega (arith, length-take 60 (drop first l), length-drop first l))

pub fair_take : (n : ℕ) (l : List Item) → AllFair l → AllFair (take n l)
fair_take zero l h = tt
fair_take (suc n) [] h = tt
fair_take (suc n) (i ∷ l) h = (h.0, fair_take n l h.1)

pub fair_drop : (n : ℕ) (l : List Item) → AllFair l → AllFair (drop n l)
fair_drop zero l h = h
fair_drop (suc n) [] h = tt
fair_drop (suc n) (i ∷ l) h = fair_drop n l h.1

pub filled_wide : (l : List Item) → AllFair l → Wide (filled l)
filled_wide l h = wide_append (map item_line l) (replicate (60 - length l) blank_line) (wide_lines l h) (wide_blank (60 - length l))

pub filled_length : (l : List Item) → length l ≤ 60 → length (filled l) ≡ 60
filled_length l h =
    length-append (map item_line l) (replicate (60 - length l) blank_line) ∙ omega (arith, length-map l item_line, length-replicate (60 - length l) blank_line)

filled_bytes : (l : List Item) → AllFair l → length l ≤ 60 → length (in_bytes (filled l)) ≡ page_size
filled_bytes l h k = bytes_length (filled l) (filled_wide l h) ∙ omega (arith, filled_length l k)

most_lines : (first : ℕ) (l : List Item) → length (window first l) ≤ 60
most_lines first l = omega (arith, length-take 60 (drop first l))

-- the lines of the items that have one, and unused ones behind them
pub page_filled : (n : ℕ) (l : List Item) (p₀ p q : List ℕ) → AllFair l → length l ≤ max_section → page_size ≤ length p₀ → p ≡ placed_all (first_on n) 0 l p₀
    → q ≡ splice (lines_of (first_on n) (length l) * 33) (in_bytes (replicate (60 - lines_of (first_on n) (length l)) blank_line)) p
    → q ≡ in_bytes (page_of n (got l)) ++ drop page_size p₀
unfolding page_of
page_filled n l p₀ p q h k r e f =
    let first = first_on n in
    let w = window first l in
    let fair : AllFair w = fair_take 60 (drop first l) (fair_drop first l h) in
    let len : length w ≡ lines_of first (length l) = window_length first l in
    let most = most_lines first l in
    let lines = map item_line w in
    let g = e ∙ all_placed first p₀ r l h in
    let a : lines_of first (length l) * 33 ≡ 0 + length (in_bytes lines) = omega (arith, bytes_length lines (wide_lines w fair), length-map w item_line, len) in
    let blanks = replicate (60 - lines_of first (length l)) blank_line in
    let b : lines_of first (length l) * 33 + length (in_bytes blanks) ≤ length p₀ = omega (arith, bytes_length blanks (wide_blank (60 - lines_of first (length l))), length-replicate (60 - lines_of first (length l)) blank_line, len) in
    let c : in_bytes lines ++ in_bytes blanks ≡ in_bytes (filled w) = sym (bytes_append lines blanks) ∙ ap (λ (m : ℕ). in_bytes (lines ++ replicate (60 - m) blank_line)) (sym len) in
    stored_then 0 p₀ (in_bytes lines) (in_bytes blanks) (lines_of first (length l) * 33) g a b f
    ∙ ap (λ (t : List ℕ). splice 0 t p₀) c
    ∙ splice_front (in_bytes (filled w)) p₀ page_size (filled_bytes w fair most)
    ∙ ap (λ (x : List Item). in_bytes (filled x) ++ drop page_size p₀) (window_page n l k)

-- a blank page
pub page_blank : (n k : ℕ) (p₀ p q : List ℕ) → drop page_size p ≡ drop page_size p₀ → q ≡ splice (0 * 33) (in_bytes (replicate (60 - 0) blank_line)) p → q ≡ in_bytes (page_of n (refused k)) ++ drop page_size p₀
unfolding page_of
page_blank n k p₀ p q e f = f ∙ splice_front (in_bytes (filled [])) p page_size (filled_bytes [] tt (omega arith)) ∙ ap (λ (x : List ℕ). in_bytes (filled []) ++ x) e

-- ---- what is said of a lent page

pub shown_short : (n : ℕ) (r : Answer (List Item)) (p : List ℕ) → length p < page_size → shown n r p ≡ record { answer = refused 23; page = p }
unfolding shown
shown_short n r p h = rw (lt-ltb (length p) page_size h)

pub shown_long : (n : ℕ) (r : Answer (List Item)) (p : List ℕ) → page_size ≤ length p → shown n r p ≡ record { answer = and_then r (λ _. got tt); page = in_bytes (page_of n r) ++ drop page_size p }
unfolding shown
shown_long n r p h = rw (le-ltb (length p) page_size h)

-- a blank page at the front of what is lent
pub blank_shown : (n k : ℕ) (p p₁ q : List ℕ) → page_size ≤ length p → length p₁ ≡ 1980 → q ≡ splice (0 * 33) (in_bytes (replicate (60 - 0) blank_line)) p₁
    → record { answer = refused k; page = q ++ drop page_size p } ≡ shown n (refused k) p
blank_shown n k p p₁ q r e h =
    let z : drop page_size p₁ ≡ [] = drop_all page_size p₁ (omega (arith, e)) in
    let b = page_blank n k p₁ p₁ q refl h ∙ ap (λ (x : List ℕ). in_bytes (page_of n (refused k)) ++ x) z ∙ append-nil (in_bytes (page_of n (refused k))) in
    ap (λ (x : List ℕ). record { answer = refused k; page = x ++ drop page_size p }) b ∙ sym (shown_long n (refused k) p r)

-- what stands of a reading's page at the front of what is lent
pub page_front : (n : ℕ) (r : Reading) (p p₁ : List ℕ) (a : Answer (Unit {0})) (q : List ℕ) → length p₁ ≡ 1980 → record { answer = a; page = q } ≡ page_from n r p₁
    → record { answer = a; page = q ++ drop page_size p } ≡ page_from n r p
page_front n r p p₁ a q e h = go r.stop h
  where
    z : drop page_size p₁ ≡ []
    z = drop_all page_size p₁ (omega (arith, e))

    full : (b : Answer (Unit {0})) (t : List ℕ) → ◌≡◌ {A = Shown} (record { answer = a; page = q }) (record { answer = b; page = t ++ drop page_size p₁ }) → ◌≡◌ {A = Shown} (record { answer = a; page = q ++ drop page_size p }) (record { answer = b; page = t ++ drop page_size p })
    full b t f =
        let g : q ≡ t = ap (λ (x : Shown). x.page) f ∙ ap (λ (x : List ℕ). t ++ x) z ∙ append-nil t in
        let i : a ≡ b = ap (λ (x : Shown). x.answer) f in
        ap (λ (x : Answer (Unit {0})). record { answer = x; page = q ++ drop page_size p }) i ∙ ap (λ (x : List ℕ). record { answer = b; page = x ++ drop page_size p }) g

    go : (o : Option Stop) → ◌≡◌ {A = Shown} (record { answer = a; page = q }) (page_from n (record { items = r.items; stop = o }) p₁) → ◌≡◌ {A = Shown} (record { answer = a; page = q ++ drop page_size p }) (page_from n (record { items = r.items; stop = o }) p)
    go none f = full (got tt) (in_bytes (page_of n (got r.items))) f
    go (some x) f = full (refused x.number) (in_bytes (page_of n (refused x.number))) f

-- a refusal is shown alike on every page
pub shown_refused : (m n k : ℕ) (p : List ℕ) → shown m (refused k) p ≡ shown n (refused k) p
unfolding shown page_of
shown_refused m n k p = refl

-- ---- the loop over words

-- the first i items have their lines
pub record Placing (first k : ℕ) (items : List (List ℕ)) (p₀ p : List ℕ) (i : ℕ) : Type 0 where
  pub same : length p ≡ length p₀
  pub is : placed_words first k items p₀ ≡ placed_words first (k + i) (drop i items) p

pub placing_further : {first k i : ℕ} {items : List (List ℕ)} {p₀ p q : List ℕ} → Placing first k items p₀ p i → i < length items → All FairWords items → page_size ≤ length p₀
    → q ≡ placed first (k + i) (words_line (get_or items i [])) p → Placing first k items p₀ q (i + 1)
placing_further {first} {k} {i} {items} {p₀} {p} {q} t h f r e =
    let l = placed_length first (k + i) _ p (line_length (f i [] h)) (omega (arith, t.same)) in
    let a : k + i + 1 ≡ k + (i + 1) = omega arith in
    record {
      same = ap length e ∙ l ∙ t.same;
      is =
          t.is ∙ ap (λ (x : List (List ℕ)). placed_words first (k + i) x p) (drop-cons items i [] h) ∙ ap (placed_words first (k + i + 1) (drop (suc i) items)) (sym e)
          ∙ ap (λ (n : ℕ). placed_words first n (drop (suc i) items) q) a ∙ ap (λ (n : ℕ). placed_words first (k + (i + 1)) (drop n items) q) (sym (add-one i));
    }

-- ---- the loop over items

module _ (most : ℕ) (few : most < 100) (s rows specs : List ℕ) (n : ℕ) where
  abbrev first : ℕ
  first = first_on n

  abbrev read : EntriesRaw → Reading
  read w = reading most s rows specs w

  -- the lines of the items so far are stored, and those of the rest are still to come
  pub record Going (p₀ : List ℕ) (raw : EntriesRaw) (p : List ℕ) (here : EntriesRaw) (seen : ℕ) : Type 0 where
    pub from : Opened (length s) raw
    pub opened : Opened (length s) here
    pub room : page_size ≤ length p₀
    pub same : length p ≡ length p₀
    pub tail : drop page_size p ≡ drop page_size p₀
    pub count : length (read raw).items ≡ seen + length (read here).items
    pub stop : (read raw).stop ≡ (read here).stop
    pub is : placed_all first 0 (read raw).items p₀ ≡ placed_all first seen (read here).items p

  module _ {p₀ : List ℕ} {raw : EntriesRaw} {p : List ℕ} {here : EntriesRaw} {seen : ℕ} (t : Going p₀ raw p here seen) where
    module _ {before after : List ℕ} {r : PassedEntries} (z : PassedAs (passed_items most (length before / 4) here s rows specs) before after r) where
      abbrev m : ℕ
      m = length before / 4

      abbrev X : PassedItems
      X = passed_items most m here s rows specs

      join : read here ≡ behind X.items (read X.raw)
      join = pass_join most s rows specs here t.opened.kept m

      fair : AllFair X.items
      fair = fair_left X.items (read X.raw).items (subst (λ (y : Reading). AllFair y.items) join (items_fair most few s rows specs here t.opened))

      -- the words of the items that were passed
      abbrev items : List (List ℕ)
      items = passed most s rows specs t.opened.kept z

      items_are : items ≡ map item_words X.items
      items_are = passed_is most s rows specs t.opened.kept z

      pub going_there : r.count ≤ length after / 4
      going_there = passed_few most s rows specs t.opened.kept z

      pub going_fair : All FairWords items
      going_fair = subst (All FairWords) (sym items_are) (words_fair X.items fair)

      all : length (read raw).items ≡ seen + r.count + length (read X.raw).items
      all = t.count ∙ omega (arith, ap (λ (y : Reading). length y.items) join, length-append X.items (read X.raw).items, z.count_is)

      pub going_few : seen + r.count ≤ max_section
      going_few = omega (arith, all, items_few most few s rows specs raw t.from)

      pub going_less : {u : Unit {0}} → 0 < length before / 4 → here.position < length s → view r.answer ≡ got u → here.position < r.raw.position
      going_less h a e =
          let f = pass_further most s rows specs here t.opened.kept m h a (sym z.answer_is ∙ e) in
          omega (arith, f, ap (λ (y : EntriesRaw). y.position) z.raw_is)

      module _ {q : List ℕ} (e : q ≡ placed_words first seen items p) where
        stored : q ≡ placed_all first seen X.items p
        stored = e ∙ ap (λ (w : List (List ℕ)). placed_words first seen w p) items_are ∙ words_placed first seen X.items p fair

        long : page_size ≤ length p
        long = omega (arith, t.room, t.same)

        -- as many items as there was room for
        pub going_further : Going p₀ raw q r.raw (seen + r.count)
        going_further =
            subst (λ (y : EntriesRaw). Going p₀ raw q y (seen + r.count)) (sym z.raw_is)
            (record {
              from = t.from;
              opened = record { kept = pass_kept most s rows specs here t.opened.kept m; short = omega (arith, pass_start most s rows specs here t.opened.kept m, t.opened.short) };
              room = t.room;
              same = ap length stored ∙ all_length first X.items seen p fair long ∙ t.same;
              tail = ap (drop page_size) stored ∙ all_tail first X.items seen p fair long ∙ t.tail;
              count = all;
              stop = t.stop ∙ ap (λ (y : Reading). y.stop) join;
              is =
                  t.is ∙ ap (λ (y : Reading). placed_all first seen y.items p) join ∙ placed_append first seen X.items (read X.raw).items p
                  ∙ ap (λ (c : ℕ). placed_all first (seen + c) (read X.raw).items (placed_all first seen X.items p)) (sym z.count_is)
                  ∙ ap (placed_all first (seen + r.count) (read X.raw).items) (sym stored);
            })

      -- a refusal leaves a blank page
      pub going_stopped : {k : ℕ} {q : List ℕ} → view r.answer ≡ refused k → q ≡ splice (0 * 33) (in_bytes (replicate (60 - 0) blank_line)) p → record { answer = refused k; page = q } ≡ page_from n (read raw) p₀
      going_stopped {k} {q} a e =
          let f = pass_stop most s rows specs here t.opened.kept m (sym z.answer_is ∙ a) in
          let o = t.stop ∙ ap (λ (y : Reading). y.stop) join ∙ ap (λ (y : Reading). y.stop) f in
          ap (λ (y : List ℕ). said k y) (page_blank n k p₀ p q t.tail e) ∙ sym (ap shown_as o)
        where
          said : ℕ → List ℕ → Shown
          said k y = record { answer = refused k; page = y }

          shown_as : Option Stop → Shown
          shown_as o =
              if_some o (record { answer = got tt; page = in_bytes (page_of n (got (read raw).items)) ++ drop page_size p₀ })
              (λ x. record { answer = refused x.number; page = in_bytes (page_of n (refused x.number)) ++ drop page_size p₀ })

    -- no item is left
    pub going_ended : {q : List ℕ} → length s ≤ here.position → q ≡ splice (lines_of first seen * 33) (in_bytes (replicate (60 - lines_of first seen) blank_line)) p → record { answer = got tt; page = q } ≡ page_from n (read raw) p₀
    going_ended {q} h e =
        let f = reading_none most s rows specs here h in
        let o = t.stop ∙ ap (λ (y : Reading). y.stop) f in
        let items = (read raw).items in
        let c : seen ≡ length items = omega (arith, t.count, ap (λ (y : Reading). length y.items) f) in
        let i : p ≡ placed_all first 0 items p₀ = sym (t.is ∙ ap (λ (y : Reading). placed_all first seen y.items p) f) in
        let g = e ∙ ap (λ (k : ℕ). splice (lines_of first k * 33) (in_bytes (replicate (60 - lines_of first k) blank_line)) p) c in
        ap said (page_filled n items p₀ p q (items_fair most few s rows specs raw t.from) (items_few most few s rows specs raw t.from) t.room i g) ∙ sym (ap shown_as o)
      where
        said : List ℕ → Shown
        said y = record { answer = got tt; page = y }

        shown_as : Option Stop → Shown
        shown_as o =
            if_some o (record { answer = got tt; page = in_bytes (page_of n (got (read raw).items)) ++ drop page_size p₀ })
            (λ x. record { answer = refused x.number; page = in_bytes (page_of n (refused x.number)) ++ drop page_size p₀ })

-- an entry's values are fewer than two digits can say
pub values_few : entry_limit.most < 100
values_few = omega arith

-- ---- a unit

module _ (most : ℕ) (h : UnitHeader) (u rows specs : List ℕ) (e : RunTimeEndian) where
  pub reading_long : max_section < length u → sheet_reading most h u rows specs e ≡ refused 1
  unfolding sheet_reading
  reading_long l = rw (lt-leb (length u) max_section l)

  pub reading_outside : {n : ℕ} → length u ≤ max_section → entries_buf h u ≡ refused n → sheet_reading most h u rows specs e ≡ refused n
  unfolding sheet_reading unit_reading
  reading_outside l b = rw (le-leb (length u) max_section l, b)

  module _ {s : List ℕ} (l : length u ≤ max_section) (b : entries_buf h u ≡ got s) where
    -- its entries' bytes lie in it
    buf_room : size_of_header h + length s ≤ length u
    unfolding entries_buf
    buf_room = (part_in u (size_of_header h) (unit_end h) b).0

    pub start_opened : Opened (length s) (start_of (unit_source h e))
    start_opened = record { kept = record { inside = omega arith; short = omega (arith, buf_room); near = omega arith }; short = omega (arith, buf_room) }

    pub reading_of : sheet_reading most h u rows specs e ≡ all_of (reading_from most (start_of (unit_source h e)) s rows specs)
    unfolding sheet_reading unit_reading opened
    reading_of = rw (le-leb (length u) max_section l, b, lt-ltb (size_of_header h + length s) (2 ^ 63) (omega (arith, buf_room)))

    pub page_shown : (n : ℕ) (p : List ℕ) → page_size ≤ length p → page_from n (reading_from most (start_of (unit_source h e)) s rows specs) p ≡ shown n (sheet_reading most h u rows specs e) p
    page_shown n p r = by (reading_from most (start_of (unit_source h e)) s rows specs) ∙ ap (λ (x : Answer (List Item)). shown n x p) (sym reading_of)
      where
        stopped : (l : List Item) (o : Option Stop) → page_from n (record { items = l; stop = o }) p ≡ shown n (all_of (record { items = l; stop = o })) p
        stopped l none = sym (shown_long n (got l) p r)
        stopped l (some x) = sym (shown_long n (refused x.number) p r)

        by : (x : Reading) → page_from n x p ≡ shown n (all_of x) p
        by x = stopped x.items x.stop
