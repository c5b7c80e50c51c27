-- A table that was laid out is found again, whichever row holds which abbreviation.
use mathlib.Core.Bool.{Bool, true, false, ◌&&◌}
use mathlib.Core.Option.{Option, none, some, map}
use mathlib.Core.Path.{◌≡◌, refl, sym, ap, ◌∙◌}
use mathlib.Core.List.Permᴰ
use mathlib.Core.List.{List, [], ◌∷◌, ◌++◌, append_assoc, Permᴰ}
use mathlib.Core.Logic.{inl, inr, ⊎_elim}
use Prim.Native.Nat.{ℕ, zero, suc, ◌+◌, ◌-◌, ◌*◌, ◌/◌, ◌≤◌, ◌<◌}
use native.Mathlib.Omega.{arith}
use native.Mathlib.Nat.{suc-add}
use borrow.Author.Tests.{ne_eqb, eqb-true, eqb-false, lt-ltb, le-ltb}
use lib.Dec.{eqb, ltb}
use lib.ListN.{length, take, drop, get_or, replicate, length-append}
use lib.Seq.{take_at, drop_at}
use Rattle.reader.specs.Answer.{Answer, got, refused, and_then, Holds}
use Rattle.reader.proofs.Answers.{cond_by}
use Rattle.abbrev.specs.Lookup.{column, index_of, spec_at, specs_from, fair, all_fair, specification_at, specification_in, Found, row_at, keeps_sizes, judged_row, row_found, leading, lookup, declaration_of, declared_in}
use Rattle.abbrev.specs.Rows.{spec_words, all_specs, Row, row_words, rows_words, rows_from, table_rows, Laid, Left}
use Rattle.abbrev.specs.Table.{Specification, Declaration, Limit, abbreviations_at}
use Rattle.abbrev.proofs.Attributes.{words_append}
use Rattle.abbrev.proofs.Bounds.{In, Proper, Sound, in_rows, sound}
use Rattle.std.proofs.lemmas.Bool.Decides.{nat_tests}
use Rattle.std.proofs.lemmas.Grind.{common_steps}
use Rattle.std.proofs.lemmas.List.{drop-take, drop-replicate}
use Rattle.abbrev.proofs.Columns.{length_column, leading_index}
use Rattle.abbrev.proofs.Laying.{spec_words_length}

in_perm : {A : Type 0} (a : A) {l m : List A} → Permᴰ l m → In a l → In a m
in_perm a Permᴰ.nil i = i
in_perm a (Permᴰ.cons e d) (inl p) = inl (p ∙ e)
in_perm a (Permᴰ.cons e d) (inr i) = inr (in_perm a d i)
in_perm a (Permᴰ.swap e f) (inl p) = inr (inl (p ∙ e))
in_perm a (Permᴰ.swap e f) (inr (inl p)) = inl (p ∙ f)
in_perm a (Permᴰ.swap e f) (inr (inr i)) = inr (inr i)
in_perm a (Permᴰ.trans d e) i = in_perm a e (in_perm a d i)

-- ---- the specifications of a row

-- a row's specifications lie from its first on
record Held (specs : List ℕ) (r : Row) : Type 0 where
  room : r.first + length r.declaration.specifications ≤ length specs / 3
  words : take (length r.declaration.specifications * 3) (drop (r.first * 3) specs) ≡ spec_words r.declaration.specifications

held : (first : ℕ) (u z : List ℕ) (t : List Declaration) → length u ≡ first * 3 → (r : Row) → In r (rows_from first t) → Held (u ++ (spec_words (all_specs t) ++ z)) r
held first u z [] h r i = elim i [ ]
held first u z (d ∷ t) h r i =
    let w = spec_words d.specifications in
    let v = spec_words (all_specs t) ++ z in
    let n : length w ≡ length d.specifications * 3 = spec_words_length d.specifications in
    let e : u ++ (spec_words (d.specifications ++ all_specs t) ++ z) ≡ u ++ (w ++ v) = rw (words_append, append_assoc) in
    let m : length (u ++ (w ++ v)) ≡ first * 3 + length d.specifications * 3 + length v = rw (length-append, length-append, h, n) (omega arith) in
    rw e
    (⊎_elim
    (λ p. rw p (record { room = omega arith; words = rw (drop_at u (w ++ v) (first * 3) h) (take_at w v (length d.specifications * 3) n) }))
    (λ j. rw (← append_assoc u w v) (held (first + length d.specifications) (u ++ w) z t (rw (length-append, h, n) (omega arith)) r j))
    i)

specs_from_lem : (xs : List Specification) (l : List ℕ) → take (length xs * 3) l ≡ spec_words xs → specs_from (length xs) l ≡ xs
specs_from_lem [] l e = refl
specs_from_lem (x ∷ xs) l e =
    let f : suc (length xs) * 3 ≡ 3 + length xs * 3 = omega arith in
    let g : take (3 + length xs * 3) l ≡ spec_words (x ∷ xs) = rw f at e in
    grind (arith, common_steps, drop-take 3 (length xs * 3) l, specs_from_lem xs (drop 3 l))

-- ---- the codes of rows, then zeros

abbrev codes : List Row → List ℕ
codes [] = []
codes (r ∷ rs) = r.declaration.code ∷ codes rs

codes_rows : (rs : List Row) (m : ℕ) (v : List ℕ) → column (length rs + m) (rows_words rs ++ v) ≡ codes rs ++ column m v
codes_rows [] m v = let e : 0 + m ≡ m = omega arith in rw e
codes_rows (r ∷ rs) m v = rw (suc-add (length rs) m, codes_rows rs m v)

zeros_head : (k : ℕ) → get_or (replicate {A = ℕ} k 0) 0 0 ≡ 0
zeros_head zero = refl
zeros_head (suc k) = refl

no_code : (c m k : ℕ) → (c ≡ 0 → ⊥) → index_of c (column m (replicate k 0)) ≡ m
no_code c zero k h = refl
no_code c (suc m) k h = rw (zeros_head k, ne_eqb 0 c (λ e. h (sym e)), drop-replicate {X = ℕ} 5 k 0) (ap suc (no_code c m (k - 5) h))

-- no row has the code
missed : (c : ℕ) (rs : List Row) (w : List ℕ) → ((r : Row) → In r rs → r.declaration.code ≡ c → ⊥) → index_of c w ≡ length w → index_of c (codes rs ++ w) ≡ length (codes rs ++ w)
missed c [] w h e = e
missed c (r ∷ rs) w h e = grind (arith, nat_tests, h r (inl refl), missed c rs w (λ y i. h y (inr i)) e)

-- what a row says
abbrev pub found_row : Row → Found
found_row r =
    record {
      code = r.declaration.code;
      tag = r.declaration.tag;
      children = r.declaration.children;
      first = r.first;
      count = length r.declaration.specifications;
    }

row_further : (r : Row) (l : List ℕ) (j : ℕ) → row_at (row_words r ++ l) (suc j) ≡ row_at l j
row_further r l j =
    let z : suc j * 5 ≡ suc (suc (suc (suc (suc (j * 5))))) = omega arith in
    let f : (k : ℕ) → suc j * 5 + k ≡ suc (suc (suc (suc (suc (j * 5 + k))))) = λ k. omega arith in
    rw (f 1, f 2, f 3, f 4, z)

-- the lowest row that has it
record Hit (c : ℕ) (rs : List Row) (w v : List ℕ) : Type 0 where
  r : Row
  in_list : In r rs
  code : r.declaration.code ≡ c
  below : index_of c (codes rs ++ w) < length rs
  is : row_at (rows_words rs ++ v) (index_of c (codes rs ++ w)) ≡ found_row r

hit : (c : ℕ) (rs : List Row) (w v : List ℕ) (y : Row) → In y rs → y.declaration.code ≡ c → Hit c rs w v
hit c [] w v y i q = elim i [ ]
hit c (x ∷ rs) w v y i q = by (eqb x.declaration.code c) refl (λ j. hit c rs w v y j q)
  where
    by : (b : Bool) → eqb x.declaration.code c ≡ b → (In y rs → Hit c rs w v) → Hit c (x ∷ rs) w v
    by true e more = record { r = x; in_list = inl refl; code = eqb-true _ _ e; below = rw e (omega arith); is = rw e }
    by false e more =
        let j : In y rs = ⊎_elim (λ p. absurd (eqb-false _ _ e (ap (λ z. z.declaration.code) (sym p) ∙ q))) (λ j. j) i in
        let t : Hit c rs w v = more j in
        record {
          r = t.r;
          in_list = inr t.in_list;
          code = t.code;
          below = rw e (omega (arith, t.below));
          is = rw e (row_further x (rows_words rs ++ v) (index_of c (codes rs ++ w)) ∙ t.is);
        }

-- ---- lookup over rows that a table call left

length_rows : (rs : List Row) → length (rows_words rs) ≡ length rs * 5
length_rows [] = refl
length_rows (r ∷ rs) = omega (arith, length_rows rs)

module _ {m k : ℕ} {rows specs : List ℕ} {t : List Declaration} (L : Laid m k rows specs t) where
  zeros : List ℕ
  zeros = replicate (m - length t * 5) 0

  more : ℕ
  more = length rows / 5 - length L.row_choice

  enough : length L.row_choice * 5 ≤ length rows
  enough = omega (arith, simp (length-append, length_rows) at (ap length L.rows_are))

  codes_are : column (length rows / 5) rows ≡ codes L.row_choice ++ column more zeros
  unfolding zeros more
  codes_are =
      let e : length rows / 5 ≡ length L.row_choice + (length rows / 5 - length L.row_choice) = omega (arith, enough) in
      ap (λ n. column n rows) e
      ∙ ap (column (length L.row_choice + (length rows / 5 - length L.row_choice))) L.rows_are
      ∙ codes_rows L.row_choice more zeros

  held_row : (r : Row) → In r (rows_from 0 t) → Held specs r
  held_row r i = rw L.specs_are (held 0 [] (replicate (k - length (all_specs t) * 3) 0) t refl r i)

  -- a row within 01's sizes is answered
  judged_row_lem : (most : ℕ) (r : Row) → Proper most r.declaration → Held specs r → judged_row most specs (found_row r) ≡ got (some (found_row r))
  unfolding judged_row
  judged_row_lem most r p h =
      let e = specs_from_lem r.declaration.specifications (drop (r.first * 3) specs) h.words in
      grind (arith, nat_tests, e)

  -- what is in the table is found, in the row that holds it
  pub lookup_row : (most : ℕ) → Sound most t → (r : Row) → In r (rows_from 0 t) → lookup most rows specs r.declaration.code ≡ got (some (found_row r))
  unfolding lookup row_found zeros
  lookup_row most S r i =
      let c = r.declaration.code in
      let h : Hit c L.row_choice (column more zeros) zeros = hit c L.row_choice (column more zeros) zeros r (in_perm r (Permᴰ.symm L.all) i) refl in
      let q : h.r ≡ r = S.one h.r r (in_perm h.r L.all h.in_list) i h.code in
      let p = S.proper r.declaration (in_rows 0 t r i) in
      let j = index_of c (codes L.row_choice ++ column more zeros) in
      let a : row_at rows j ≡ found_row r = ap (λ l. row_at l j) L.rows_are ∙ h.is ∙ ap found_row q in
      let b : j < length rows / 5 = omega (arith, h.below, enough) in
      rw (ne_eqb c 0 p.code_some, codes_are, lt-ltb j (length rows / 5) b, a) (judged_row_lem most r p (held_row r i))

  -- and nothing else
  pub lookup_none : (most c : ℕ) → ((r : Row) → In r (rows_from 0 t) → r.declaration.code ≡ c → ⊥) → lookup most rows specs c ≡ got none
  unfolding lookup row_found zeros
  lookup_none most c h = by (eqb c 0) refl
    where
      by : (b : Bool) → eqb c 0 ≡ b → lookup most rows specs c ≡ got none
      by true e = rw e
      by false e =
          let w : index_of c (codes L.row_choice ++ column more zeros) ≡ length (codes L.row_choice ++ column more zeros) =
          missed c L.row_choice (column more zeros) (λ x i. h x (in_perm x L.all i))
          (no_code c more (m - length t * 5) (eqb-false c 0 e) ∙ sym (length_column more zeros)) in
          let n : length (codes L.row_choice ++ column more zeros) ≡ length rows / 5 = sym (ap length codes_are) ∙ length_column (length rows / 5) rows in
          rw (e, codes_are, w, n, le-ltb (length rows / 5) (length rows / 5) (omega arith))

-- the declaration with a code, in the row that the table has for it; or no row has the code
data Searched (c first : ℕ) (t : List Declaration) : Type 0 where
  found : (r : Row) → In r (rows_from first t) → r.declaration.code ≡ c → declared_in t c ≡ some r.declaration → Searched c first t
  missing : ((r : Row) → In r (rows_from first t) → r.declaration.code ≡ c → ⊥) → declared_in t c ≡ none → Searched c first t

searched : (c first : ℕ) (t : List Declaration) → Searched c first t
searched c first [] = missing (λ r i e. i) refl
searched c first (d ∷ t) = by (eqb d.code c) refl (searched c (first + length d.specifications) t)
  where
    by : (b : Bool) → eqb d.code c ≡ b → Searched c (first + length d.specifications) t → Searched c first (d ∷ t)
    by true e s = found (record { declaration = d; first = first }) (inl refl) (eqb-true _ _ e) (rw e)
    by false e (found r i p q) = found r (inr i) p (rw e q)
    by false e (missing h q) =
        missing (λ r i p. ⊎_elim (λ z. eqb-false _ _ e (ap (λ x. x.declaration.code) (sym z) ∙ p)) (λ j. h r j p) i) (rw e q)

-- over the rows that a table call left, lookup finds exactly the table's declaration for each code, and none otherwise
pub lookup_exact : {m k : ℕ} {rows specs : List ℕ} {t : List Declaration} (most : ℕ) → Sound most t → Laid m k rows specs t
    → (c : ℕ) → and_then (lookup most rows specs c) (λ o. got (map (declaration_of specs) o)) ≡ got (declared_in t c)
lookup_exact {rows = rows} {specs = specs} {t = t} most S L c = by (searched c 0 t)
  where
    by : Searched c 0 t → and_then (lookup most rows specs c) (λ o. got (map (declaration_of specs) o)) ≡ got (declared_in t c)
    by (found r i p q) =
        let d = r.declaration in
        let e : specs_from (length d.specifications) (drop (r.first * 3) specs) ≡ d.specifications = specs_from_lem d.specifications (drop (r.first * 3) specs) (held_row L r i).words in
        let x : and_then (lookup most rows specs d.code) (λ o. got (map (declaration_of specs) o)) ≡ got (some d) = rw (lookup_row L most S r i, e) in
        ap (λ (n : ℕ). and_then (lookup most rows specs n) (λ o. got (map (declaration_of specs) o))) (sym p) ∙ x ∙ ap got (sym q)
    by (missing h q) = rw (lookup_none L most c h, q)

-- whichever row holds which declaration, a code is answered alike
pub lookup_same : {m k m' k' : ℕ} {rows rows' specs : List ℕ} {t : List Declaration} (most : ℕ) → Sound most t → Laid m k rows specs t → Laid m' k' rows' specs t
    → (c : ℕ) → lookup most rows specs c ≡ lookup most rows' specs c
lookup_same {rows = rows} {rows' = rows'} {specs = specs} {t = t} most S L L' c = by (searched c 0 t)
  where
    by : Searched c 0 t → lookup most rows specs c ≡ lookup most rows' specs c
    by (found r i p q) =
        ap (λ (n : ℕ). lookup most rows specs n) (sym p) ∙ lookup_row L most S r i ∙ sym (lookup_row L' most S r i) ∙ ap (λ (n : ℕ). lookup most rows' specs n) p
    by (missing h q) = lookup_none L most c h ∙ sym (lookup_none L' most c h)

-- the table in file order is one that the table call may leave
in_order : {m k : ℕ} {rows specs : List ℕ} {t : List Declaration} → Laid m k rows specs t → Laid m k (table_rows m t) specs t
in_order {t = t} L = record { row_choice = rows_from 0 t; all = Permᴰ.refl (rows_from 0 t); rows_are = refl; specs_are = L.specs_are }

-- and answers alike
pub lookup_in_order : {m k : ℕ} {rows specs : List ℕ} {t : List Declaration} (most : ℕ) → Sound most t → Laid m k rows specs t
    → (c : ℕ) → lookup most rows specs c ≡ lookup most (table_rows m t) specs c
lookup_in_order most S L = lookup_same most S L (in_order L)

-- the same of what the table call leaves
pub table_lookup : (s : List ℕ) (offset : ℕ) (l : Limit) (m k : ℕ) (rows specs : List ℕ) → Left m k rows specs (abbreviations_at s offset l (m / 5) (k / 3))
    → Holds (λ t. (c : ℕ) → and_then (lookup l.most rows specs c) (λ o. got (map (declaration_of specs) o)) ≡ got (declared_in t c)) (abbreviations_at s offset l (m / 5) (k / 3))
table_lookup s offset l m k rows specs h = go (abbreviations_at s offset l (m / 5) (k / 3)) (sound s offset l (m / 5) (k / 3)) h
  where
    go : (r : Answer (List Declaration)) → Holds (Sound l.most) r → Left m k rows specs r
        → Holds (λ t. (c : ℕ) → and_then (lookup l.most rows specs c) (λ o. got (map (declaration_of specs) o)) ≡ got (declared_in t c)) r
    go (got t) S L = lookup_exact l.most S L
    go (refused n) S L = tt

-- ---- the specifications of a found row, by number

pub spec_drop : (l : List ℕ) (j k : ℕ) → spec_at (drop j l) k ≡ spec_at l (j + k)
spec_drop l j k = grind (arith, common_steps)

pub length_specs : (n : ℕ) (l : List ℕ) → length (specs_from n l) ≡ n
length_specs zero l = refl
length_specs (suc n) l = ap suc (length_specs n (drop 3 l))

pub specs_nth : (n i : ℕ) (l : List ℕ) (d : Specification) → i < n → get_or (specs_from n l) i d ≡ spec_at l (i * 3)
specs_nth zero i l d h = absurd (omega arith)
specs_nth (suc n) zero l d h = refl
specs_nth (suc n) (suc i) l d h =
    let e : 3 + i * 3 ≡ suc i * 3 = omega arith in
    specs_nth n i (drop 3 l) d (omega arith) ∙ spec_drop l 3 (i * 3) ∙ ap (spec_at l) e

pub both : (a b : Bool) → (a && b) ≡ true → (a ≡ true) × (b ≡ true)
both true true e = (refl, refl)
both true false e = absurd cc
both false b e = absurd cc

pub fair_nth : (n i : ℕ) (l : List ℕ) → i < n → all_fair (specs_from n l) ≡ true → fair (spec_at l (i * 3)) ≡ true
fair_nth zero i l h e = absurd (omega arith)
fair_nth (suc n) zero l h e = (both (fair (spec_at l 0)) (all_fair (specs_from n (drop 3 l))) e).0
fair_nth (suc n) (suc i) l h e = grind (arith, nat_tests, fair_nth n i (drop 3 l), spec_drop l 3 (i * 3))

-- what a row that keeps the sizes has
pub record Kept (most : ℕ) (specs : List ℕ) (f : Found) : Type 0 where
  pub most_is : f.count ≤ most
  pub inside : f.first + f.count ≤ length specs / 3
  pub fairs : all_fair (declaration_of specs f).specifications ≡ true

pub kept : (most : ℕ) (specs : List ℕ) (f : Found) → keeps_sizes most specs f ≡ true → Kept most specs f
kept most specs f k = record { most_is = grind (arith, nat_tests); inside = grind (arith, nat_tests); fairs = grind (arith, nat_tests) }

-- each of them is there, and is the declaration's
pub attribute_nth : (most : ℕ) (specs : List ℕ) (f : Found) (i : ℕ) (d : Specification) → keeps_sizes most specs f ≡ true → i < f.count
    → specification_in specs f i ≡ got (some (get_or (declaration_of specs f).specifications i d))
unfolding specification_in specification_at
attribute_nth most specs f i d k h =
    let l = drop (f.first * 3) specs in
    let b = kept most specs f k in
    let e : f.first * 3 + i * 3 ≡ (f.first + i) * 3 = omega arith in
    let s : spec_at l (i * 3) ≡ spec_at specs ((f.first + i) * 3) = spec_drop specs (f.first * 3) (i * 3) ∙ ap (spec_at specs) e in
    let g : fair (spec_at specs ((f.first + i) * 3)) ≡ true = ap fair (sym s) ∙ fair_nth f.count i l h b.fairs in
    let n : get_or (specs_from f.count l) i d ≡ spec_at specs ((f.first + i) * 3) = specs_nth f.count i l d h ∙ s in
    rw (lt-ltb i f.count h, lt-ltb (f.first + i) (length specs / 3) (omega (arith, b.inside)), g, n)

-- a row that a lookup finds keeps the sizes
abbrev pub Keeps : ℕ → List ℕ → Option Found → Type 0
Keeps most specs none = Unit {0}
Keeps most specs (some f) = keeps_sizes most specs f ≡ true

pub lookup_keeps : (most : ℕ) (rows specs : List ℕ) (code : ℕ) → Holds (Keeps most specs) (lookup most rows specs code)
unfolding lookup row_found judged_row
lookup_keeps most rows specs code =
    cond_by (Holds (Keeps most specs)) (eqb code 0) (got none) _ (λ _. tt)
    (λ _.
    cond_by (Holds (Keeps most specs)) (ltb (index_of code (column (length rows / 5) rows)) (length rows / 5)) _ (got none)
    (λ _. cond_by (Holds (Keeps most specs)) (keeps_sizes most specs (row_at rows (index_of code (column (length rows / 5) rows)))) _ (refused 1) (λ h. h) (λ _. tt))
    (λ _. tt))

-- where the first n rows hold the codes 1, 2, 3, .., a code up to n is found in its own row
pub direct_row : (most n : ℕ) (rows specs : List ℕ) (code : ℕ) → n ≤ leading rows → 0 < code → code ≤ n → row_found most rows specs (code - 1) ≡ lookup most rows specs code
unfolding lookup leading
direct_row most n rows specs code h p q = grind (arith, nat_tests, leading_index 1 (code - 1) (column (length rows / 5) rows))
