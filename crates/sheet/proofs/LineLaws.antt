-- Laws of lines.
use mathlib.Core.Path.{◌≡◌, refl, sym, ap, ◌∙◌}
use mathlib.Core.List.{List, [], ◌∷◌, ◌++◌, append_assoc, append-nil}
use Prim.Native.Nat.{ℕ, zero, suc, ◌+◌, ◌-◌, ◌*◌, ◌^◌, ◌≤◌, ◌<◌}
use native.Mathlib.Omega.{arith}
use borrow.Author.Tests.{ne_eqb}
use lib.Dec.{eqb}
use lib.IntN.{ℤ}
use lib.ListN.{length, take, drop, set, replicate, length-append, length-take, length-drop, length-set, length-replicate, take-append-drop, drop_of_length-le}
use borrow.Rule.Slice.PartMut.{put_mid}
use Rattle.std.proofs.lemmas.Slice.{take-put_mid, drop-put_mid}
use Rattle.reader.proofs.Answers.{cond_by}
use Rattle.listing.specs.Text.{ascii, numeral, signed_numeral}
use Rattle.listing.proofs.TextLaws.{numeral_most}
use Rattle.sheet.specs.Sheet.{padded, right, tag_text, sheet_line, blank_line, in_bytes, page_size}
use Rattle.sheet.specs.Steps.{splice, Fair}
use Rattle.sheet.proofs.ColumnLaws.{padded_length, replicate_more, splice_length, splice_then, set_is, signed_short}

-- a text stored behind one that is stored
pub stored_then : (at : ℕ) (l : List ℕ) {x y : List ℕ} (t u : List ℕ) (n : ℕ) → x ≡ splice at t l → n ≡ at + length t → n + length u ≤ length l → y ≡ splice n u x → y ≡ splice at (t ++ u) l
stored_then at l t u n e f h g = g ∙ ap (splice n u) e ∙ splice_then at l t u n f h

-- ---- the columns of an item

pub tag_length : (tag : ℕ) → tag < 16 ^ 4 → length (tag_text tag) ≡ 6
tag_length tag h =
    cond_by (λ (t : List ℕ). length t ≡ 6) (eqb tag 0) _ (ascii "0x" ++ padded 48 4 (numeral 16 tag)) (λ _. refl)
    (λ _. length-append (ascii "0x") (padded 48 4 (numeral 16 tag)) ∙ omega (arith, padded_length 48 4 (numeral 16 tag) (numeral_most 16 3 tag (omega arith) h)))

-- a tag that is no null's
pub tag_some : (tag : ℕ) → (tag ≡ 0 → ⊥) → tag_text tag ≡ ascii "0x" ++ padded 48 4 (numeral 16 tag)
tag_some tag h = rw (ne_eqb tag 0 h)

module _ {offset : ℕ} {depth : ℤ} {tag count : ℕ} (f : Fair offset depth tag count) where
  pub offset_length : length (right 10 (numeral 10 offset)) ≡ 10
  offset_length = padded_length 32 10 (numeral 10 offset) (numeral_most 10 9 offset (omega arith) f.offset_small)

  pub depth_length : length (right 11 (signed_numeral depth)) ≡ 11
  depth_length = padded_length 32 11 (signed_numeral depth) (signed_short depth f.depth_small)

  pub count_length : length (right 2 (numeral 10 count)) ≡ 2
  count_length = padded_length 32 2 (numeral 10 count) (numeral_most 10 1 count (omega arith) f.count_small)

  abbrev t₁ : List ℕ
  t₁ = right 10 (numeral 10 offset)

  abbrev t₂ : List ℕ
  t₂ = t₁ ++ ascii " "

  abbrev t₃ : List ℕ
  t₃ = t₂ ++ right 11 (signed_numeral depth)

  abbrev t₄ : List ℕ
  t₄ = t₃ ++ ascii " "

  abbrev t₅ : List ℕ
  t₅ = t₄ ++ tag_text tag

  abbrev t₆ : List ℕ
  t₆ = t₅ ++ ascii " "

  abbrev t₇ : List ℕ
  t₇ = t₆ ++ right 2 (numeral 10 count)

  l₂ : length t₂ ≡ 11
  l₂ = length-append t₁ (ascii " ") ∙ omega (arith, offset_length)

  l₃ : length t₃ ≡ 22
  l₃ = length-append t₂ (right 11 (signed_numeral depth)) ∙ omega (arith, l₂, depth_length)

  l₄ : length t₄ ≡ 23
  l₄ = length-append t₃ (ascii " ") ∙ omega (arith, l₃)

  l₅ : length t₅ ≡ 29
  l₅ = length-append t₄ (tag_text tag) ∙ omega (arith, l₄, tag_length tag f.tag_small)

  l₆ : length t₆ ≡ 30
  l₆ = length-append t₅ (ascii " ") ∙ omega (arith, l₅)

  -- request 3: a line has 32 characters
  pub line_length : length (sheet_line offset depth tag count) ≡ 32
  unfolding sheet_line
  line_length = length-append t₆ (right 2 (numeral 10 count)) ∙ omega (arith, l₆, count_length)

  -- what is stored column by column
  pub line_stored : (at : ℕ) (l : List ℕ) {a b c d e g h i : List ℕ} → at + 33 ≤ length l
      → a ≡ splice at (right 10 (numeral 10 offset)) l → b ≡ splice (at + 10) (ascii " ") a → c ≡ splice (at + 11) (right 11 (signed_numeral depth)) b → d ≡ splice (at + 22) (ascii " ") c
      → e ≡ splice (at + 23) (tag_text tag) d → g ≡ splice (at + 29) (ascii " ") e → h ≡ splice (at + 30) (right 2 (numeral 10 count)) g → i ≡ splice (at + 32) (ascii "\n") h
      → i ≡ splice at (sheet_line offset depth tag count ++ ascii "\n") l
  unfolding sheet_line
  line_stored at l r ea eb ec ed ee eg eh ei =
      let fb = stored_then at l t₁ (ascii " ") (at + 10) ea (omega (arith, offset_length)) (omega arith) eb in
      let fc = stored_then at l t₂ (right 11 (signed_numeral depth)) (at + 11) fb (omega (arith, l₂)) (omega (arith, depth_length)) ec in
      let fd = stored_then at l t₃ (ascii " ") (at + 22) fc (omega (arith, l₃)) (omega arith) ed in
      let fe = stored_then at l t₄ (tag_text tag) (at + 23) fd (omega (arith, l₄)) (omega (arith, tag_length tag f.tag_small)) ee in
      let fg = stored_then at l t₅ (ascii " ") (at + 29) fe (omega (arith, l₅)) (omega arith) eg in
      let fh = stored_then at l t₆ (right 2 (numeral 10 count)) (at + 30) fg (omega (arith, l₆)) (omega (arith, count_length)) eh in
      stored_then at l t₇ (ascii "\n") (at + 32) fh (omega (arith, line_length)) (omega arith) ei

-- ---- the columns of a line, as they are stored

pub part_length : (n w : ℕ) (x : List ℕ) → n + w ≤ length x → length (take w (drop n x)) ≡ w
part_length n w x h = omega (arith, length-take w (drop n x), length-drop n x)

pub mid_is : (n w : ℕ) (x t : List ℕ) → length t ≡ w → n + w ≤ length x → put_mid n w x t ≡ splice n t x
mid_is n w x t e h =
    let y = put_mid n w x t in
    let f : n + w ≡ n + length t = omega arith in
    sym (take-append-drop (n + w) y) ∙ rw (take-put_mid n w x t (n + w) f (omega arith), drop-put_mid n w x t (n + w) (omega arith) (omega arith) e, f) refl

pub mid_length : (n w : ℕ) (x t : List ℕ) → length t ≡ w → n + w ≤ length x → length (put_mid n w x t) ≡ length x
mid_length n w x t e h = ap length (mid_is n w x t e h) ∙ splice_length n x t (omega arith)

-- as many columns as there are
pub column_is : (n w : ℕ) (x t : List ℕ) → n + w ≤ length x → padded 32 (length (take w (drop n x))) t ≡ padded 32 w t
column_is n w x t h = ap (λ (m : ℕ). padded 32 m t) (part_length n w x h)

-- the first columns stored in a line, and those up to the tag
abbrev pub line_first : (l c₁ : List ℕ) → List ℕ
line_first l c₁ = set (c₁ ++ drop 10 l) 10 32

abbrev pub line_third : (l c₁ c₂ c₃ : List ℕ) → List ℕ
line_third l c₁ c₂ c₃ = set (put_mid 23 6 (set (put_mid 11 11 (line_first l c₁) c₂) 22 32) c₃) 29 32

pub first_length : (l c₁ : List ℕ) → length l ≡ 33 → length c₁ ≡ 10 → length (line_first l c₁) ≡ 33
first_length l c₁ room n₁ = length-set (c₁ ++ drop 10 l) 10 32 ∙ length-append c₁ (drop 10 l) ∙ omega (arith, n₁, length-drop 10 l, room)

pub third_length : (l c₁ c₂ c₃ : List ℕ) → length l ≡ 33 → length c₁ ≡ 10 → length c₂ ≡ 11 → length c₃ ≡ 6 → length (line_third l c₁ c₂ c₃) ≡ 33
third_length l c₁ c₂ c₃ room n₁ n₂ n₃ =
    let b = line_first l c₁ in
    let c = put_mid 11 11 b c₂ in
    let d = set c 22 32 in
    let lb = first_length l c₁ room n₁ in
    let ld : length d ≡ 33 = length-set c 22 32 ∙ mid_length 11 11 b c₂ n₂ (omega (arith, lb)) ∙ lb in
    length-set (put_mid 23 6 d c₃) 29 32 ∙ mid_length 23 6 d c₃ n₃ (omega (arith, ld)) ∙ ld

module _ {offset : ℕ} {depth : ℤ} {tag count : ℕ} (f : Fair offset depth tag count) (l : List ℕ) (room : length l ≡ 33) where
  pub line_put : {c₁ c₂ c₃ c₄ : List ℕ} → c₁ ≡ right 10 (numeral 10 offset) → c₂ ≡ right 11 (signed_numeral depth) → c₃ ≡ tag_text tag → c₄ ≡ right 2 (numeral 10 count)
      → set (put_mid 30 2 (set (put_mid 23 6 (set (put_mid 11 11 (set (c₁ ++ drop 10 l) 10 32) c₂) 22 32) c₃) 29 32) c₄) 32 10 ≡ sheet_line offset depth tag count ++ ascii "\n"
  line_put {c₁} {c₂} {c₃} {c₄} e₁ e₂ e₃ e₄ =
      let n₁ : length c₁ ≡ 10 = ap length e₁ ∙ offset_length f in
      let n₂ : length c₂ ≡ 11 = ap length e₂ ∙ depth_length f in
      let n₃ : length c₃ ≡ 6 = ap length e₃ ∙ tag_length tag f.tag_small in
      let n₄ : length c₄ ≡ 2 = ap length e₄ ∙ count_length f in
      let a = c₁ ++ drop 10 l in
      let b = set a 10 32 in
      let c = put_mid 11 11 b c₂ in
      let d = set c 22 32 in
      let e = put_mid 23 6 d c₃ in
      let g = set e 29 32 in
      let h = put_mid 30 2 g c₄ in
      let la : length a ≡ 33 = length-append c₁ (drop 10 l) ∙ omega (arith, n₁, length-drop 10 l, room) in
      let lb : length b ≡ 33 = length-set a 10 32 ∙ la in
      let lc : length c ≡ 33 = mid_length 11 11 b c₂ n₂ (omega (arith, lb)) ∙ lb in
      let ld : length d ≡ 33 = length-set c 22 32 ∙ lc in
      let le : length e ≡ 33 = mid_length 23 6 d c₃ n₃ (omega (arith, ld)) ∙ ld in
      let lg : length g ≡ 33 = length-set e 29 32 ∙ le in
      let lh : length h ≡ 33 = mid_length 30 2 g c₄ n₄ (omega (arith, lg)) ∙ lg in
      let z : 10 ≡ 0 + length c₁ = omega arith in
      let first : a ≡ splice 0 (right 10 (numeral 10 offset)) l = ap (λ (n : ℕ). c₁ ++ drop n l) z ∙ ap (λ (x : List ℕ). splice 0 x l) e₁ in
      let w = line_length f in
      line_stored f 0 l (omega (arith, room)) first (set_is a 10 32 (omega (arith, la))) (mid_is 11 11 b c₂ n₂ (omega (arith, lb)) ∙ ap (λ (x : List ℕ). splice 11 x b) e₂) (set_is c 22 32 (omega (arith, lc)))
      (mid_is 23 6 d c₃ n₃ (omega (arith, ld)) ∙ ap (λ (x : List ℕ). splice 23 x d) e₃) (set_is e 29 32 (omega (arith, le))) (mid_is 30 2 g c₄ n₄ (omega (arith, lg)) ∙ ap (λ (x : List ℕ). splice 30 x g) e₄) (set_is h 32 10 (omega (arith, lh)))
      ∙ whole (sheet_line offset depth tag count ++ ascii "\n") (length-append (sheet_line offset depth tag count) (ascii "\n") ∙ omega (arith, w, room))
    where
      whole : (t : List ℕ) → length t ≡ length l → splice 0 t l ≡ t
      whole t e = ap (λ (x : List ℕ). t ++ x) (drop_of_length-le l (omega arith)) ∙ append-nil t

-- ---- lines one after another

-- each has 32 characters
abbrev pub Wide : List (List ℕ) → Type 0
Wide [] = Unit {0}
Wide (l ∷ ls) = (length l ≡ 32) × Wide ls

pub bytes_length : (ls : List (List ℕ)) → Wide ls → length (in_bytes ls) ≡ length ls * 33
bytes_length [] h = refl
bytes_length (l ∷ ls) h = length-append (l ++ ascii "\n") (in_bytes ls) ∙ omega (arith, length-append l (ascii "\n"), h.0, bytes_length ls h.1)

pub bytes_append : (ls ms : List (List ℕ)) → in_bytes (ls ++ ms) ≡ in_bytes ls ++ in_bytes ms
bytes_append [] ms = refl
bytes_append (l ∷ ls) ms = ap (λ (x : List ℕ). (l ++ ascii "\n") ++ x) (bytes_append ls ms) ∙ sym (append_assoc (l ++ ascii "\n") (in_bytes ls) (in_bytes ms))

pub bytes_more : (ls : List (List ℕ)) (l : List ℕ) → in_bytes (ls ++ (l ∷ [])) ≡ in_bytes ls ++ (l ++ ascii "\n")
bytes_more ls l = bytes_append ls (l ∷ []) ∙ ap (λ (x : List ℕ). in_bytes ls ++ x) (append-nil (l ++ ascii "\n"))

pub wide_append : (ls ms : List (List ℕ)) → Wide ls → Wide ms → Wide (ls ++ ms)
wide_append [] ms h k = k
wide_append (l ∷ ls) ms h k = (h.0, wide_append ls ms h.1 k)

pub wide_blank : (n : ℕ) → Wide (replicate n blank_line)
wide_blank zero = tt
wide_blank (suc n) = (refl, wide_blank n)

-- unused lines are stored up to the i-th
pub record Blanked (l₀ : List ℕ) (line : ℕ) (l : List ℕ) (i : ℕ) : Type 0 where
  pub same : length l ≡ length l₀
  pub is : l ≡ splice (line * 33) (in_bytes (replicate (i - line) blank_line)) l₀

pub blanked_further : {l₀ l m : List ℕ} {line i : ℕ} → Blanked l₀ line l i → line ≤ i → i < 60 → page_size ≤ length l₀ → length m ≡ length l → m ≡ splice (i * 33) (blank_line ++ ascii "\n") l → Blanked l₀ line m (i + 1)
blanked_further {l₀} {line = line} {i = i} s above h room k e =
    let n : suc (i - line) ≡ i + 1 - line = omega arith in
    let ls = replicate (i - line) blank_line in
    let a : length ls ≡ i - line = length-replicate (i - line) blank_line in
    let b = bytes_length ls (wide_blank (i - line)) in
    let f = stored_then (line * 33) l₀ (in_bytes ls) (blank_line ++ ascii "\n") (i * 33) s.is (omega (arith, a, b)) (omega arith) e in
    let g : in_bytes ls ++ (blank_line ++ ascii "\n") ≡ in_bytes (replicate (i + 1 - line) blank_line) =
    sym (bytes_append ls (blank_line ∷ [])) ∙ ap in_bytes (sym (replicate_more (i - line) blank_line)) ∙ ap (λ (j : ℕ). in_bytes (replicate j blank_line)) n in
    record { same = k ∙ s.same; is = f ∙ ap (λ (t : List ℕ). splice (line * 33) t l₀) g }
