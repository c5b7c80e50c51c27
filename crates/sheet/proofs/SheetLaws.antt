-- Document 02, request 3: what the pages of a unit are.
use mathlib.Core.Bool.{Bool, true, false, cond, ◌&&◌}
use mathlib.Core.Path.{◌≡◌, refl, sym, ap, ◌∙◌, subst}
use mathlib.Core.List.{List, [], ◌∷◌, ◌++◌, append_assoc, append-nil, map}
use Prim.Native.Nat.{ℕ, zero, suc, ◌+◌, ◌-◌, ◌*◌, ◌≤◌, ◌<◌}
use native.Mathlib.Omega.{arith}
use borrow.Author.Tests.{leb-true, leb-false}
use lib.Dec.{eqb, leb}
use lib.IntN.{ℤ, pos, negsuc}
use lib.ListN.{length, take, drop, get_or, replicate, length-take, length-drop}
use lib.Seq.{take_all}
use Rattle.std.proofs.lemmas.List.{drop_at, drop_all, length-map, map-append, get_or-take, get_or-drop, get_or_append_left, get_or_default}
use Rattle.std.proofs.Math.ListN.{get_or-map}
use Rattle.std.proofs.Math.Seq.{get_or-append_right, take-add}
use mathlib.Core.Option.{Option, none, some}
use Rattle.reader.specs.Answer.{Answer, got, refused, if_some}
use Rattle.unit.proofs.RangeLaws.{Or19, buf_19}
use Rattle.reader.specs.Sizes.{max_section}
use Rattle.reader.specs.declared.endianity.RunTimeEndian.{RunTimeEndian}
use Rattle.unit.specs.Range.{entries_buf}
use Rattle.unit.specs.declared.header.UnitHeader.{UnitHeader}
use Rattle.entries.specs.Flat.{Item, Stop, Reading, reading_from, all_of}
use Rattle.entries.specs.Raw.{start_of, unit_source}
use Rattle.entries.proofs.RunLaws.{reading_none}
use Rattle.listing.specs.Text.{ascii, digit, numeral, numeral_within, signed_numeral}
use Rattle.sheet.specs.Sheet.{padded, right, tag_text, sheet_line, item_line, blank_line, on_page, filled, page_of, in_bytes, page_size, Shown, shown, sheet_reading}
use Rattle.sheet.proofs.LineLaws.{Wide, bytes_length}
use Rattle.sheet.proofs.PageLaws.{AllFair, FairItem, items_fair, start_opened, reading_of, reading_long, reading_outside, filled_wide, filled_length, fair_take, fair_drop, shown_short, shown_long}

-- ---- a line

-- an entry, a null, a negative depth, letters in a tag
pub line_entry : sheet_line 11 (pos 0) 0x11 1 ≡ ascii "        11           0 0x0011  1"
unfolding sheet_line padded signed_numeral numeral numeral_within digit
line_entry = refl

pub line_null : sheet_line 1090 (negsuc 9) 0 0 ≡ ascii "      1090         -10 null    0"
unfolding sheet_line padded signed_numeral numeral numeral_within digit
line_null = refl

pub line_letters : sheet_line 65535 (negsuc 999) 0xfa9e 64 ≡ ascii "     65535       -1000 0xfa9e 64"
unfolding sheet_line padded signed_numeral numeral numeral_within digit
line_letters = refl

zero_right : right 2 (numeral 10 0) ≡ ascii " 0"
unfolding padded numeral numeral_within digit
zero_right = refl

null_end : (l : List ℕ) → l ++ ascii " " ++ ascii "null  " ++ ascii " " ++ ascii " 0" ≡ l ++ ascii " null    0"
null_end l = simp append_assoc

null_line_lem : (offset : ℕ) (depth : ℤ) → sheet_line offset depth 0 0 ≡ right 10 (numeral 10 offset) ++ ascii " " ++ right 11 (signed_numeral depth) ++ ascii " null    0"
unfolding sheet_line
null_line_lem offset depth =
    let place = right 10 (numeral 10 offset) ++ ascii " " ++ right 11 (signed_numeral depth) in
    ap (λ (t : List ℕ). place ++ ascii " " ++ ascii "null  " ++ ascii " " ++ t) zero_right ∙ null_end place

-- ---- a page

on_page_few : (n : ℕ) (l : List Item) → length (on_page n l) ≤ 60
on_page_few n l = omega (arith, length-take 60 (drop (60 * n) l))

on_page_fair : (n : ℕ) (l : List Item) → AllFair l → AllFair (on_page n l)
on_page_fair n l h = fair_take 60 (drop (60 * n) l) (fair_drop (60 * n) l h)

map_at : (l : List Item) (j : ℕ) (d : List ℕ) (z : Item) → j < length l → get_or (map item_line l) j d ≡ item_line (get_or l j z)
map_at l j d z h = get_or_default (map item_line l) j d (item_line z) (omega (arith, length-map l item_line)) ∙ get_or-map item_line l j z

blank_at : (n j : ℕ) → get_or (replicate n blank_line) j blank_line ≡ blank_line
blank_at zero j = refl
blank_at (suc n) zero = refl
blank_at (suc n) (suc j) = blank_at n j

fair_at : (l : List Item) (j : ℕ) (z : Item) → AllFair l → j < length l → FairItem (get_or l j z)
fair_at [] j z h k = absurd (omega arith)
fair_at (i ∷ l) zero z h k = h.0
fair_at (i ∷ l) (suc j) z h k = fair_at l j z h.1 (omega arith)

-- line j of page n is that of item 60 n + j, counted from 0
pub line_is : (n j : ℕ) (items : List Item) (z : Item) → j < 60 → 60 * n + j < length items → get_or (page_of n (got items)) j blank_line ≡ item_line (get_or items (60 * n + j) z)
unfolding page_of
line_is n j items z h k =
    let l = on_page n items in
    let there : j < length l = omega (arith, length-take 60 (drop (60 * n) items), length-drop (60 * n) items) in
    get_or_append_left (map item_line l) (replicate (60 - length l) blank_line) blank_line j (omega (arith, length-map l item_line))
    ∙ map_at l j blank_line z there ∙ ap item_line (get_or-take 60 (drop (60 * n) items) j z h ∙ get_or-drop (60 * n) items j z)

-- and unused where there is none
pub line_unused : (n j : ℕ) (items : List Item) → length items ≤ 60 * n + j → get_or (page_of n (got items)) j blank_line ≡ blank_line
unfolding page_of
line_unused n j items h =
    let l = on_page n items in
    get_or-append_right (map item_line l) (replicate (60 - length l) blank_line) j blank_line (omega (arith, length-map l item_line, length-take 60 (drop (60 * n) items), length-drop (60 * n) items))
    ∙ blank_at (60 - length l) (j - length (map item_line l))

-- a page past the last item, however high its number, is blank
pub page_past : (n : ℕ) (items : List Item) → length items ≤ 60 * n → page_of n (got items) ≡ replicate 60 blank_line
unfolding page_of
page_past n items h = ap (λ (l : List Item). filled (take 60 l)) (drop_all (60 * n) items h)

-- and so is every page of a unit that refuses
pub page_refused : (n k : ℕ) → page_of n (refused k) ≡ replicate 60 blank_line
unfolding page_of
page_refused n k = refl

-- ---- all pages

-- the first m pages one after another
abbrev pub pages : ℕ → List Item → List (List ℕ)
pages zero items = []
pages (suc m) items = pages m items ++ page_of m (got items)

abbrev pub blank : List ℕ → Bool
blank [] = true
blank (c ∷ l) = eqb c 32 && blank l

-- without blank lines
abbrev pub written : List (List ℕ) → List (List ℕ)
written [] = []
written (l ∷ ls) = cond (blank l) (written ls) (l ∷ written ls)

blank_append : (l m : List ℕ) → blank (l ++ m) ≡ blank l && blank m
blank_append [] m = refl
blank_append (c ∷ l) m = ap (λ (b : Bool). eqb c 32 && b) (blank_append l m) ∙ assoc (eqb c 32) (blank l) (blank m)
  where
    assoc : (a b c : Bool) → a && (b && c) ≡ (a && b) && c
    assoc true b c = refl
    assoc false b c = refl

blank_left : (l m : List ℕ) → blank l ≡ false → blank (l ++ m) ≡ false
blank_left l m e = blank_append l m ∙ ap (λ (b : Bool). b && blank m) e

blank_right : (l m : List ℕ) → blank m ≡ false → blank (l ++ m) ≡ false
blank_right l m e = blank_append l m ∙ ap (λ (b : Bool). blank l && b) e ∙ by (blank l)
  where
    by : (b : Bool) → b && false ≡ false
    by true = refl
    by false = refl

tag_written : (tag : ℕ) → blank (tag_text tag) ≡ false
tag_written tag = by (eqb tag 0)
  where
    by : (b : Bool) → blank (cond b (ascii "null  ") (ascii "0x" ++ padded 48 4 (numeral 16 tag))) ≡ false
    by true = refl
    by false = refl

-- a line that is used is not blank
pub line_written : (offset : ℕ) (depth : ℤ) (tag count : ℕ) → blank (sheet_line offset depth tag count) ≡ false
unfolding sheet_line
line_written offset depth tag count =
    let place = right 10 (numeral 10 offset) ++ ascii " " ++ right 11 (signed_numeral depth) ++ ascii " " in
    blank_left (place ++ tag_text tag ++ ascii " ") (right 2 (numeral 10 count)) (blank_left (place ++ tag_text tag) (ascii " ") (blank_right place (tag_text tag) (tag_written tag)))

written_append : (ls ms : List (List ℕ)) → written (ls ++ ms) ≡ written ls ++ written ms
written_append [] ms = refl
written_append (l ∷ ls) ms = by (blank l) (written_append ls ms)
  where
    by : (b : Bool) → written (ls ++ ms) ≡ written ls ++ written ms → cond b (written (ls ++ ms)) (l ∷ written (ls ++ ms)) ≡ cond b (written ls) (l ∷ written ls) ++ written ms
    by true e = e
    by false e = ap (λ (x : List (List ℕ)). l ∷ x) e

written_lines : (l : List Item) → written (map item_line l) ≡ map item_line l
written_lines [] = refl
written_lines (i ∷ l) = rw (line_written i.value.offset i.value.depth i.value.tag i.value.count) (ap (λ (x : List (List ℕ)). item_line i ∷ x) (written_lines l))

written_blank : (n : ℕ) → written (replicate n blank_line) ≡ []
written_blank zero = refl
written_blank (suc n) = written_blank n

written_page : (n : ℕ) (items : List Item) → written (page_of n (got items)) ≡ map item_line (on_page n items)
unfolding page_of
written_page n items =
    let l = on_page n items in
    written_append (map item_line l) (replicate (60 - length l) blank_line)
    ∙ ap (λ (x : List (List ℕ)). written (map item_line l) ++ x) (written_blank (60 - length l)) ∙ append-nil (written (map item_line l)) ∙ written_lines l

-- the first m pages without their blank lines have the lines of the first 60 m items, each once and in order
pub pages_first : (m : ℕ) (items : List Item) → written (pages m items) ≡ map item_line (take (60 * m) items)
pages_first zero items = refl
pages_first (suc m) items =
    written_append (pages m items) (page_of m (got items))
    ∙ ap (λ (x : List (List ℕ)). x ++ written (page_of m (got items))) (pages_first m items)
    ∙ ap (λ (x : List (List ℕ)). map item_line (take (60 * m) items) ++ x) (written_page m items)
    ∙ sym (map-append item_line (take (60 * m) items) (on_page m items))
    ∙ ap (map item_line) (sym (take-add (60 * m) 60 items))
    ∙ ap (λ (n : ℕ). map item_line (take n items)) e
  where
    e : 60 * m + 60 ≡ 60 * suc m
    e = omega arith

-- all pages together are the flat reading
pub pages_join : (m : ℕ) (items : List Item) → length items ≤ 60 * m → written (pages m items) ≡ map item_line items
pages_join m items h = pages_first m items ∙ ap (map item_line) (take_all (60 * m) items h)

-- ---- a unit

module _ (most : ℕ) (few : most < 100) (h : UnitHeader) (u rows specs : List ℕ) (e : RunTimeEndian) where
  -- the numbers of each item have their columns
  pub unit_fair : {items : List Item} → sheet_reading most h u rows specs e ≡ got items → AllFair items
  unit_fair {items} q = long (leb (length u) max_section) refl
    where
      none_got : {n : ℕ} → refused n ≡ got items → AllFair items
      none_got x = absurd (let z : ◌≡◌ {A = ℕ} 0 1 = cc in omega arith)

      of : (r : Reading) → AllFair r.items → (o : Option Stop) → if_some o (got r.items) (λ y. refused y.number) ≡ got items → AllFair items
      of r f none x = let z : r.items ≡ items = cc in subst AllFair z f
      of r f (some y) x = none_got x

      buf : (b : Answer (List ℕ)) → entries_buf h u ≡ b → length u ≤ max_section → AllFair items
      buf (got s) b l =
          let w = start_of (unit_source h e) in
          let r = reading_from most w s rows specs in
          of r (items_fair most few s rows specs w (start_opened most h u rows specs e l b)) r.stop (sym (reading_of most h u rows specs e l b) ∙ q)
      buf (refused n) b l =
          let z : n ≡ 19 = subst Or19 b (buf_19 h u) in
          none_got (sym (reading_outside most h u rows specs e l (b ∙ ap refused z)) ∙ q)

      long : (b : Bool) → leb (length u) max_section ≡ b → AllFair items
      long true x = buf (entries_buf h u) refl (leb-true (length u) max_section x)
      long false x = none_got (sym (reading_long most h u rows specs e (leb-false (length u) max_section x)) ∙ q)

  -- a null has `null` and two blanks for its tag, and a count of 0
  pub unit_null : {items : List Item} (j : ℕ) (z : Item) → sheet_reading most h u rows specs e ≡ got items → j < length items → (get_or items j z).value.tag ≡ 0
      → item_line (get_or items j z) ≡ right 10 (numeral 10 (get_or items j z).value.offset) ++ ascii " " ++ right 11 (signed_numeral (get_or items j z).value.depth) ++ ascii " null    0"
  unit_null {items} j z q l n =
      let i = get_or items j z in
      let f = fair_at items j z (unit_fair q) l in
      ap (λ (t : ℕ). sheet_line i.value.offset i.value.depth t i.value.count) n ∙ ap (sheet_line i.value.offset i.value.depth 0) (f.null_empty n) ∙ null_line_lem i.value.offset i.value.depth

  -- each line of each page of a unit has exactly 32 characters, and there are 60
  pub unit_wide : (n : ℕ) (r : Answer (List Item)) → sheet_reading most h u rows specs e ≡ r → Wide (page_of n r) × (length (page_of n r) ≡ 60)
  unfolding page_of
  unit_wide n (got items) q = let f = on_page_fair n items (unit_fair q) in (filled_wide (on_page n items) f, filled_length (on_page n items) (on_page_few n items))
  unit_wide n (refused k) q = (filled_wide [] tt, filled_length [] (omega arith))

  -- so a page has 1,980 bytes
  pub unit_page : (n : ℕ) → length (in_bytes (page_of n (sheet_reading most h u rows specs e))) ≡ page_size
  unit_page n = let z = unit_wide n (sheet_reading most h u rows specs e) refl in bytes_length (page_of n (sheet_reading most h u rows specs e)) z.0 ∙ omega (arith, z.1)

  -- bytes past the page stay, whatever is said
  pub tail_kept : (n : ℕ) (lent : List ℕ) → drop page_size (shown n (sheet_reading most h u rows specs e) lent).page ≡ drop page_size lent
  tail_kept n lent = by (leb page_size (length lent)) refl
    where
      r : Answer (List Item)
      r = sheet_reading most h u rows specs e

      by : (b : Bool) → leb page_size (length lent) ≡ b → drop page_size (shown n r lent).page ≡ drop page_size lent
      by true q = ap (λ (x : Shown). drop page_size x.page) (shown_long n r lent (leb-true page_size (length lent) q)) ∙ drop_at (in_bytes (page_of n r)) (drop page_size lent) page_size (unit_page n)
      by false q = ap (λ (x : Shown). drop page_size x.page) (shown_short n r lent (leb-false page_size (length lent) q))

  -- without entry bytes nothing is refused
  pub unit_empty : length u ≤ max_section → entries_buf h u ≡ got [] → sheet_reading most h u rows specs e ≡ got []
  unit_empty l b = reading_of most h u rows specs e l b ∙ ap all_of (reading_none most [] rows specs (start_of (unit_source h e)) (omega arith))

  -- and every page is blank
  pub unit_empty_page : (n : ℕ) → length u ≤ max_section → entries_buf h u ≡ got [] → page_of n (sheet_reading most h u rows specs e) ≡ replicate 60 blank_line
  unit_empty_page n l b = ap (page_of n) (unit_empty l b) ∙ page_past n [] (omega arith)
