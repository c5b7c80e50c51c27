-- Laws of a table that is read into rows.
use mathlib.Core.Bool.{Bool, true, false, cond}
use mathlib.Core.Logic.{⊎_elim}
use mathlib.Core.Option.{Option, none, some}
use mathlib.Core.Path.{◌≡◌, refl, sym, ap, ◌∙◌}
use mathlib.Core.List.{List, [], ◌∷◌, ◌++◌, append_assoc, append-nil}
use Prim.Native.Nat.{ℕ, zero, suc, ◌+◌, ◌-◌, ◌*◌, ◌/◌, ◌≤◌, ◌<◌}
use native.Mathlib.Omega.{arith}
use borrow.Author.Tests.{lt-ltb, le-ltb, ltb-true, leb-true}
use lib.Dec.{ltb, leb}
use lib.ListN.{length, take, length-append}
use Rattle.reader.specs.Answer.{Answer, got, refused, and_then, Read, gives}
use Rattle.std.proofs.lemmas.Bool.{cases_lt}
use Rattle.abbrev.specs.Lookup.{column}
use Rattle.abbrev.specs.Rows.{spec_words, all_specs, row_words, rows_words, rows_from}
use Rattle.abbrev.specs.Steps.{verdict, inserted_number, rest, Took, Placed, Next, NextIn, Same}
use Rattle.abbrev.specs.Table.{Specification, Declaration, Limit, entry_limit, declared, head_at, specifications_at, declaration_at, declarations_at, with_declaration, has}
use Rattle.abbrev.specs.declared.builder.TableBuilder.{TableBuilder}
use Rattle.abbrev.specs.declared.table.Head.{Head}
use Rattle.std.specs.Prelude.{Result, Err}
use Rattle.reader.specs.Errors.{number_of}
use Rattle.reader.proofs.Determined.{number_some}
use Rattle.reader.specs.declared.error.Error.{Error}
use Rattle.abbrev.proofs.Attributes.{words_append}
use Rattle.abbrev.proofs.Columns.{column_more}

-- what was read, with the next place
abbrev read : {A : Type 0} → A → ℕ → Option (Read A)
read v p = some (record { value = v; next = p })

-- one declaration
whole : (s : List ℕ) (l : Limit) (at : ℕ) (h : Head) (p : ℕ) (xs : List Specification) (q : ℕ) → head_at s at ≡ got (read h p) → specifications_at s l.over l.most p ≡ gives xs q
    → declaration_at s l at ≡ got (read (declared h xs) q)
unfolding declaration_at
whole s l at h p xs q e f = rw (e, f)

-- a table, by its first declaration
module _ (s : List ℕ) (l : Limit) (m free : ℕ) (seen : List ℕ) (at : ℕ) where
  broken : (k : ℕ) → declaration_at s l at ≡ refused k → declarations_at s l m free seen at ≡ refused k
  unfolding declarations_at
  broken k e = by m
    where
      by : (m : ℕ) → declarations_at s l m free seen at ≡ refused k
      by zero = rw e
      by (suc m) = rw e

  pub headless : {k : ℕ} → head_at s at ≡ refused k → declarations_at s l m free seen at ≡ refused k
  unfolding declaration_at
  headless {k} e = broken k (rw e)

  pub specless : {h : Head} {p k : ℕ} → head_at s at ≡ got (read h p) → specifications_at s l.over l.most p ≡ refused k → declarations_at s l m free seen at ≡ refused k
  unfolding declaration_at
  specless {k = k} e f = broken k (rw (e, f))

  pub empty : head_at s at ≡ got none → declarations_at s l m free seen at ≡ got []
  unfolding declaration_at declarations_at
  empty e = by m
    where
      by : (m : ℕ) → declarations_at s l m free seen at ≡ got []
      by zero = rw e
      by (suc m) = rw e

pub ruleset refused_steps = (headless, specless)

abbrev judge : Bool → Bool → Bool → Answer (List Declaration) → Answer (List Declaration)
judge seen row room t = cond seen (refused 14) (cond row (cond room t (refused 15)) (refused 15))

after : (s : List ℕ) (l : Limit) (m free : ℕ) (seen : List ℕ) (at : ℕ) (d : Declaration) (q : ℕ) → declaration_at s l at ≡ got (read d q)
    → declarations_at s l m free seen at
    ≡ judge (has d.code seen) (ltb 0 m) (leb (length d.specifications) free) (with_declaration d (declarations_at s l (m - 1) (free - length d.specifications) (seen ++ (d.code ∷ [])) q))
unfolding declarations_at
after s l zero free seen at d q e = rw e
after s l (suc m) free seen at d q e =
    let f : suc m - 1 ≡ m = omega arith in
    rw (e, f, lt-ltb 0 (suc m) (omega arith))

row_left : (n r : ℕ) → ltb 0 (r - n) ≡ ltb n r
row_left n r = ⊎_elim
    (λ h. lt-ltb 0 (r - n) (omega arith) ∙ sym (lt-ltb n r h))
    (λ h. le-ltb 0 (r - n) (omega arith) ∙ sym (le-ltb n r h))
    (cases_lt n r)

judged_no : (d r f : Bool) (t : Answer (List Declaration)) → (verdict d r f ≡ 0 → ⊥) → judge d r f t ≡ refused (verdict d r f)
judged_no true r f t h = refl
judged_no false false f t h = refl
judged_no false true false t h = refl
judged_no false true true t h = absurd (h refl)

judged_yes : (d r f : Bool) (t : Answer (List Declaration)) → verdict d r f ≡ 0 → (judge d r f t ≡ t) × (r ≡ true) × (f ≡ true)
judged_yes true r f t h = absurd (omega arith)
judged_yes false false f t h = absurd (omega arith)
judged_yes false true false t h = absurd (omega arith)
judged_yes false true true t h = (refl, refl, refl)

-- a declaration that was read, and what became of its row
module _ (at : ℕ) {s : List ℕ} {n first : ℕ} {rows specs rows' specs' : List ℕ} {h : Head} {p count q : ℕ} {A : Type 0} {r : Result A Error}
    (e : head_at s at ≡ got (read h p)) (t : Took s p first specs specs' count q)
    (w : length specs' ≡ length specs)
    (v : Placed n count (length specs' / 3 - first) (h.code ∷ h.tag ∷ h.children ∷ first ∷ count ∷ []) rows rows' r) where
  d : Declaration
  d = declared h t.xs

  next : Answer (List Declaration)
  next = with_declaration d (declarations_at s entry_limit (length rows / 5 - n - 1) (length specs / 3 - first - count) (column n rows ++ (h.code ∷ [])) q)

  judged : rest s at n first rows specs ≡ judge (has h.code (column n rows)) (ltb n (length rows / 5)) (leb count (length specs' / 3 - first)) next
  unfolding d next
  judged =
      rw (
        after s entry_limit (length rows / 5 - n) (length specs / 3 - first) (column n rows) at d q (whole s entry_limit at h p t.xs q e t.is),
        row_left,
        t.len,
        w,
      )

  pub kept : inserted_number r ≡ 0 → n ≤ length rows / 5 → first ≤ length specs / 3 → length rows' ≡ length rows → Next s at n first rows specs rows' specs' h.code count q
  unfolding d next
  kept z k g x =
      let j = judged_yes (has d.code (column n rows)) (ltb n (length rows / 5)) (leb count (length specs' / 3 - first)) next (sym v.is ∙ z) in
      let l : count ≤ length specs' / 3 - first = leb-true _ _ j.2 in
      let r : n < length rows / 5 = ltb-true _ _ j.1 in
      let m1 : length rows / 5 - n - 1 ≡ length rows / 5 - (n + 1) = omega arith in
      let m2 : length specs / 3 - first - count ≡ length specs / 3 - (first + count) = omega arith in
      let c = column_more n rows rows' _ k (v.kept z) in
      record {
        d = d;
        code_is = refl;
        count_is = t.len;
        row = r;
        room = omega arith;
        is = judged ∙ j.0 ∙ rw (m1, m2, c, x, w);
        rows_are = rw t.len (v.kept z);
        specs_are = t.kept (omega arith);
        column_is = c;
      }

pub unkept : (at : ℕ) {s : List ℕ} {n first : ℕ} {rows specs rows' specs' : List ℕ} {h : Head} {p count q : ℕ} {A : Type 0} {x : Error}
    → head_at s at ≡ got (read h p) → Took s p first specs specs' count q → length specs' ≡ length specs
    → Placed {A = A} n count (length specs' / 3 - first) (h.code ∷ h.tag ∷ h.children ∷ first ∷ count ∷ []) rows rows' (Err x)
    → rest s at n first rows specs ≡ refused (number_of x)
unkept at {n = n} {first} {rows} {specs' = specs'} {h} {count = count} {x = x} e t w v =
    judged at e t w v
    ∙ judged_no (has h.code (column n rows)) (ltb n (length rows / 5)) (leb count (length specs' / 3 - first)) _ (λ o. omega (arith, number_some x, v.is ∙ o))
    ∙ ap refused (sym v.is)

rows_snoc : (first : ℕ) (ds : List Declaration) (d : Declaration)
    → rows_words (rows_from first (ds ++ (d ∷ []))) ≡ rows_words (rows_from first ds) ++ row_words (record { declaration = d; first = first + length (all_specs ds) })
rows_snoc first [] d = let e : first + 0 ≡ first = omega arith in rw e
rows_snoc first (x ∷ ds) d =
    let e : first + length x.specifications + length (all_specs ds) ≡ first + (length x.specifications + length (all_specs ds)) = omega arith in
    rw (rows_snoc (first + length x.specifications) ds d, length-append, e)

specs_snoc : (ds : List Declaration) (d : Declaration) → all_specs (ds ++ (d ∷ [])) ≡ all_specs ds ++ d.specifications
specs_snoc [] d = append-nil d.specifications
specs_snoc (x ∷ ds) d = rw (specs_snoc ds d, append_assoc)

-- ds, and what the rest is
abbrev before : List Declaration → Answer (List Declaration) → Answer (List Declaration)
before ds r = and_then r (λ xs. got (ds ++ xs))

before_more : (ds : List Declaration) (d : Declaration) (r : Answer (List Declaration)) → before ds (with_declaration d r) ≡ before (ds ++ (d ∷ [])) r
before_more ds d (got xs) = rw (append_assoc ds (d ∷ []) xs)
before_more ds d (refused k) = refl

-- n declarations were read up to p, with `first` specifications
pub record Run (s : List ℕ) (at : ℕ) (rows₀ specs₀ : List ℕ) (n first p : ℕ) (rows specs : List ℕ) : Type 0 where
  pub done : List Declaration
  pub len : length done ≡ n
  pub used : length (all_specs done) ≡ first
  pub same_rows : length rows ≡ length rows₀
  pub same_specs : length specs ≡ length specs₀
  pub row : n ≤ length rows / 5
  pub room : first ≤ length specs / 3
  pub is : declarations_at s entry_limit (length rows₀ / 5) (length specs₀ / 3) [] at ≡ before done (rest s p n first rows specs)
  pub rows_are : take (n * 5) rows ≡ rows_words (rows_from 0 done)
  pub specs_are : take (first * 3) specs ≡ spec_words (all_specs done)

module _ {s : List ℕ} {at : ℕ} {rows₀ specs₀ : List ℕ} {n first p : ℕ} {rows specs : List ℕ} (t : Run s at rows₀ specs₀ n first p rows specs) where
  pub further : {rows' specs' : List ℕ} {code count q : ℕ} → Next s p n first rows specs rows' specs' code count q → length rows' ≡ length rows → length specs' ≡ length specs
      → Run s at rows₀ specs₀ (n + 1) (first + count) q rows' specs'
  further {rows'} {specs'} {code} {count} {q} x u v =
      let z : 0 + length (all_specs t.done) ≡ first = omega (arith, t.used) in
      record {
        done = t.done ++ (x.d ∷ []);
        len = rw (length-append, t.len);
        used = rw (specs_snoc, length-append, t.used, x.count_is);
        same_rows = u ∙ t.same_rows;
        same_specs = v ∙ t.same_specs;
        row = omega (arith, x.row);
        room = omega (arith, x.room);
        is = rw (t.is, x.is) (before_more t.done x.d (rest s q (n + 1) (first + count) rows' specs'));
        rows_are = rw (x.rows_are, t.rows_are, rows_snoc, z);
        specs_are = rw (x.specs_are, t.specs_are, specs_snoc, words_append);
      }

-- the same of a builder that began empty
pub record Building (s : List ℕ) (at p : ℕ) (b₀ b : TableBuilder) : Type 0 where
  pub same : Same b₀ b
  pub run : Run s at b₀.rows.now b₀.specs.now b.count b.used p b.rows.now b.specs.now

pub built : {s : List ℕ} {at p q : ℕ} {b₀ b b' : TableBuilder} → Building s at p b₀ b → Same b b' → NextIn s p b b' q → Building s at q b₀ b'
built t e x =
    record {
      same =
          record {
            rows_kept = e.rows_kept ∙ t.same.rows_kept;
            specs_kept = e.specs_kept ∙ t.same.specs_kept;
            rows_length = e.rows_length ∙ t.same.rows_length;
            specs_length = e.specs_length ∙ t.same.specs_length;
          };
      run = rw (x.count_is, x.used_is) (further t.run x.next e.rows_length e.specs_length);
    }
