-- Laws of the loops over an abbreviation's specifications.
use mathlib.Core.Bool.{Bool, true, false, cond, ◌&&◌}
use mathlib.Core.Path.{◌≡◌, refl, sym, ap, ◌∙◌}
use mathlib.Core.List.{List, [], ◌∷◌, ◌++◌, map, append_assoc, append-nil}
use Prim.Native.Nat.{ℕ, zero, suc, ◌+◌, ◌-◌, ◌*◌, ◌/◌, ◌^◌, ◌≤◌, ◌<◌}
use native.Mathlib.Omega.{arith}
use native.Mathlib.Numerals.{add-one}
use lib.ListN.{length, get_or, set, take, drop, replicate, length-append, drop_of_length-le}
use Rattle.std.proofs.lemmas.List.{map-set, length-map, drop-drop}
use Rattle.std.specs.Simd.{first_chunks}
use borrow.Author.Tests.{le-leb, lt-ltb, leb-true}
use lib.Dec.{leb, ltb}
use Rattle.reader.specs.Answer.{Answer, got, refused, and_then, Read, gives, end_of, Holds}
use Rattle.reader.specs.Fields.{skip_at}
use Rattle.reader.specs.declared.common.Encoding.{Encoding}
use Rattle.reader.specs.declared.endianity.RunTimeEndian.{RunTimeEndian}
use Rattle.reader.proofs.Answers.{then_then, then_got, holds_map}
use Rattle.reader.proofs.FieldLaws.{skip_there}
use Rattle.abbrev.specs.Lookup.{Found, spec_at, specs_from, fair, all_fair, keeps_sizes, declaration_of}
use Rattle.abbrev.specs.Table.{Specification}
use Rattle.abbrev.proofs.Lookups.{length_specs, kept}
use Rattle.attribute.specs.Attributes.{keeps_place, read_attributes, skip_attributes, filler, pad}
use Rattle.attribute.specs.Padded.{any_padded}
use Rattle.attribute.specs.Parts.{row_spec}
use Rattle.attribute.specs.Read.{form_at, attribute, numbers_at, attribute_at, attributes_at}
use Rattle.attribute.specs.Skip.{past_value, past_values}
use Rattle.attribute.specs.Value.{Attribute, value_under}
use Rattle.attribute.specs.Views.{view_attribute}
use Rattle.attribute.specs.declared.value.Attribute as declared_attribute
use Rattle.attribute.specs.declared.value.Value.{Value}
use Rattle.attribute.specs.declared.value.AttributeValue.TheVariants.{Flag}
use Rattle.attribute.proofs.FormLaws.{both}
use Rattle.attribute.proofs.ReadLaws.{Onward, attributes_past}

-- the specifications from the i-th row on
next_spec : (rows : List (List ℕ)) {xs : List Specification} → map row_spec rows ≡ xs → (i : ℕ) → i < length rows → {x : Specification} → x ≡ row_spec (get_or rows i []) → drop i xs ≡ x ∷ drop (i + 1) xs
next_spec rows v i h q = rw (← v, add-one i, q) (go rows i h)
  where
    go : (rows : List (List ℕ)) (i : ℕ) → i < length rows → drop i (map row_spec rows) ≡ row_spec (get_or rows i []) ∷ drop (suc i) (map row_spec rows)
    go [] i h = absurd (omega arith)
    go (r ∷ rs) zero h = refl
    go (r ∷ rs) (suc i) h = go rs i (omega arith)

no_spec : (rows : List (List ℕ)) {xs : List Specification} → map row_spec rows ≡ xs → (i : ℕ) → length rows ≤ i → drop i xs ≡ []
no_spec rows {xs} v i h = drop_of_length-le xs {i = i} (omega (arith, length-map rows row_spec, ap length v))

-- ---- attributes kept in an array

-- an attribute of the code whose view is the filler
abbrev pub nothing : declared_attribute.Attribute
nothing = record { name = 0; form = 0; padded = false; value = Flag false }

pub pad_none : (n : ℕ) (a : declared_attribute.Attribute) → view_attribute a ≡ filler → map view_attribute (replicate n a) ≡ pad n []
unfolding pad
pad_none zero a q = refl
pad_none (suc n) a q = ap (λ (x : Attribute). x ∷ map view_attribute (replicate n a)) q ∙ ap (λ (l : List Attribute). filler ∷ l) (pad_none n a q)

set_pad : (n : ℕ) (xs : List Attribute) (a : Attribute) → length xs < n → set (pad n xs) (length xs) a ≡ pad n (xs ++ (a ∷ []))
unfolding pad
set_pad zero xs a h = absurd (omega arith)
set_pad (suc n) [] a h = refl
set_pad (suc n) (x ∷ xs) a h = ap (λ (l : List Attribute). x ∷ l) (set_pad n xs a (omega arith))

-- attributes before those of an answer
abbrev before : List Attribute → Answer (Read (List Attribute)) → Answer (Read (List Attribute))
before vs r = and_then r (λ x. gives (vs ++ x.value) x.next)

before_none : (r : Answer (Read (List Attribute))) → r ≡ before [] r
before_none (got x) = refl
before_none (refused n) = refl

before_more : (vs : List Attribute) (a : Attribute) (r : Answer (Read (List Attribute))) → before vs (and_then r (λ x. gives (a ∷ x.value) x.next)) ≡ before (vs ++ (a ∷ [])) r
before_more vs a (got x) = ap (λ (l : List Attribute). gives l x.next) (sym (append_assoc vs (a ∷ []) x.value))
before_more vs a (refused n) = refl

-- i attributes are kept, and the rest is read from p on
pub record Kept (n : ℕ) (s : List ℕ) (start : ℕ) (c : Encoding) (e : RunTimeEndian) (xs : List Specification) (at : ℕ) (attrs : List declared_attribute.Attribute) (i p : ℕ) : Type 0 where
  pub vs : List Attribute
  pub is : map view_attribute attrs ≡ pad n vs
  pub len : length vs ≡ i
  pub rest : attributes_at s start c e xs at ≡ before vs (attributes_at s start c e (drop i xs) p)

pub kept_begun : (n : ℕ) (s : List ℕ) (start : ℕ) (c : Encoding) (e : RunTimeEndian) (xs : List Specification) (at : ℕ) (a : declared_attribute.Attribute) → view_attribute a ≡ filler → Kept n s start c e xs at (replicate n a) 0 at
kept_begun n s start c e xs at a q =
    record { vs = []; is = pad_none n a q; len = refl; rest = before_none (attributes_at s start c e xs at) }

module _ {n : ℕ} {s : List ℕ} {start : ℕ} {c : Encoding} {e : RunTimeEndian} {xs : List Specification} {at : ℕ} {attrs : List declared_attribute.Attribute} {i p : ℕ}
    (t : Kept n s start c e xs at attrs i p) where
  module _ (rows : List (List ℕ)) (v : map row_spec rows ≡ xs) (h : i < length rows) {x : Specification} (q : x ≡ row_spec (get_or rows i [])) where
    pub kept_more : length rows ≤ n → {r : ℕ} (a : declared_attribute.Attribute) → gives (view_attribute a) r ≡ attribute_at s start c e x p → Kept n s start c e xs at (set attrs i a) (i + 1) r
    unfolding attributes_at
    kept_more m {r} a f =
        let more = attributes_at s start c e (drop (i + 1) xs) r in
        record {
          vs = t.vs ++ (view_attribute a ∷ []);
          is = map-set view_attribute attrs i a ∙ ap (λ (y : List Attribute). set y i (view_attribute a)) t.is ∙ rw t.len at (set_pad n t.vs (view_attribute a) (omega (arith, t.len)));
          len = length-append t.vs (view_attribute a ∷ []) ∙ ap (λ (k : ℕ). k + 1) t.len;
          rest = t.rest ∙ rw (next_spec rows v i h q, ← f) (before_more t.vs (view_attribute a) more);
        }

    pub kept_stop : {k : ℕ} → refused k ≡ attribute_at s start c e x p → attributes_at s start c e xs at ≡ refused k
    unfolding attributes_at
    kept_stop f = t.rest ∙ rw (next_spec rows v i h q, ← f)

  pub kept_end : (rows : List (List ℕ)) → map row_spec rows ≡ xs → length rows ≤ i → attributes_at s start c e xs at ≡ gives t.vs p
  unfolding attributes_at
  kept_end rows v h = t.rest ∙ rw (no_spec rows v i h, append-nil t.vs)

-- ---- values passed

-- the specifications from the i-th on are left, from p on
pub record Passed (s : List ℕ) (start : ℕ) (c : Encoding) (e : RunTimeEndian) (xs : List Specification) (at i p : ℕ) : Type 0 where
  pub is : end_of (attributes_at s start c e xs at) ≡ end_of (attributes_at s start c e (drop i xs) p)

-- where one attribute and more end
end_more : (s : List ℕ) (start : ℕ) (c : Encoding) (e : RunTimeEndian) (x : Specification) (xs : List Specification) (p : ℕ) → end_of (attributes_at s start c e (x ∷ xs) p) ≡ and_then (end_of (form_at s start c e x p)) (λ q. end_of (attributes_at s start c e xs q))
unfolding attributes_at attribute_at
end_more s start c e x xs p = go (form_at s start c e x p)
  where
    ends : (a : Attribute) (r : Answer (Read (List Attribute))) → end_of (and_then r (λ y. gives (a ∷ y.value) y.next)) ≡ end_of r
    ends a (got y) = refl
    ends a (refused n) = refl

    go : (r : Answer (Read Value))
        → end_of (and_then (and_then r (λ v. gives (attribute x (any_padded s (numbers_at s x.form p)) (value_under c x.name v.value)) v.next)) (λ (a : Read Attribute). and_then (attributes_at s start c e xs a.next) (λ y. gives (a.value ∷ y.value) y.next)))
        ≡ and_then (end_of r) (λ q. end_of (attributes_at s start c e xs q))
    go (got v) = ends (attribute x (any_padded s (numbers_at s x.form p)) (value_under c x.name v.value)) (attributes_at s start c e xs v.next)
    go (refused n) = refl

module _ {s : List ℕ} {start : ℕ} {c : Encoding} {e : RunTimeEndian} {xs : List Specification} {at i p : ℕ} (t : Passed s start c e xs at i p) where
  module _ (rows : List (List ℕ)) (v : map row_spec rows ≡ xs) (h : i < length rows) {x : Specification} (q : x ≡ row_spec (get_or rows i [])) where
    passed_next : end_of (attributes_at s start c e xs at) ≡ and_then (end_of (form_at s start c e x p)) (λ y. end_of (attributes_at s start c e (drop (i + 1) xs) y))
    passed_next = t.is ∙ rw (next_spec rows v i h q) (end_more s start c e x (drop (i + 1) xs) p)

    pub passed_more : {r : ℕ} → got r ≡ end_of (form_at s start c e x p) → Passed s start c e xs at (i + 1) r
    passed_more f = record { is = passed_next ∙ rw (← f) }

    pub passed_stop : {k : ℕ} → refused k ≡ end_of (form_at s start c e x p) → refused k ≡ end_of (attributes_at s start c e xs at)
    passed_stop f = sym (passed_next ∙ rw (← f))

  pub passed_end : (rows : List (List ℕ)) → map row_spec rows ≡ xs → length rows ≤ i → got p ≡ end_of (attributes_at s start c e xs at)
  unfolding attributes_at
  passed_end rows v h = sym (t.is ∙ rw (no_spec rows v i h))

pub ruleset passed_laws = (passed_more, passed_stop, passed_end)

-- ---- values skipped

-- the specifications from the i-th on are left, after moving on by a sum
pub record Skipped (s : List ℕ) (c : Encoding) (e : RunTimeEndian) (xs : List Specification) (at i p sum : ℕ) : Type 0 where
  pub is : past_values s c e xs at ≡ and_then (skip_at s p sum) (λ q. past_values s c e (drop i xs) q)

pub skipped_begun : (s : List ℕ) (c : Encoding) (e : RunTimeEndian) (xs : List Specification) (at : ℕ) → at ≤ length s → Skipped s c e xs at 0 at 0
skipped_begun s c e xs at h =
    let z : at + 0 ≡ at = omega arith in
    record { is = rw (skip_there s at 0 (omega arith), z) }

module _ {s : List ℕ} {c : Encoding} {e : RunTimeEndian} {xs : List Specification} {at i p sum : ℕ} (t : Skipped s c e xs at i p sum) where
  module _ (rows : List (List ℕ)) (v : map row_spec rows ≡ xs) (h : i < length rows) {f : ℕ} (q : f ≡ (row_spec (get_or rows i [])).form) where
    skipped_next : past_values s c e xs at ≡ and_then (and_then (skip_at s p sum) (λ y. past_value s c e f y)) (λ y. past_values s c e (drop (i + 1) xs) y)
    unfolding past_values
    skipped_next = t.is ∙ rw (next_spec rows v i h refl, ← q) (sym (then_then (skip_at s p sum) (λ y. past_value s c e f y) (λ y. past_values s c e (drop (i + 1) xs) y)))

    pub skipped_more : {r more : ℕ} → skip_at s r more ≡ and_then (skip_at s p sum) (λ y. past_value s c e f y) → Skipped s c e xs at (i + 1) r more
    skipped_more g = record { is = skipped_next ∙ rw (← g) }

    pub skipped_stop : {k : ℕ} → refused k ≡ and_then (skip_at s p sum) (λ y. past_value s c e f y) → refused k ≡ past_values s c e xs at
    skipped_stop g = sym (skipped_next ∙ rw (← g))

  pub skipped_end : (rows : List (List ℕ)) → map row_spec rows ≡ xs → length rows ≤ i → skip_at s p sum ≡ past_values s c e xs at
  unfolding past_values
  skipped_end rows v h = sym (t.is ∙ rw (no_spec rows v i h) (then_got (skip_at s p sum)))

pub ruleset skipped_laws = (skipped_begun, skipped_more, skipped_stop, skipped_end)

-- 01, demand 3, of the functions' contracts: where an entry's values are read, skipping them ends on the same byte
pub read_skip : (most : ℕ) (s : List ℕ) (start : ℕ) (c : Encoding) (e : RunTimeEndian) (specs : List ℕ) (f : Found) (at : ℕ)
    → Holds (λ r. skip_attributes most s start c e specs f at ≡ got r.next) (read_attributes most s start c e specs f at)
unfolding read_attributes skip_attributes
read_skip most s start c e specs f at = go (keeps_place (length s) start at && keeps_sizes most specs f) refl
  where
    xs : List Specification
    xs = (declaration_of specs f).specifications

    go : (t : Bool) → keeps_place (length s) start at && keeps_sizes most specs f ≡ t
        → Holds (λ (r : Read (List Attribute)). cond t (past_values s c e xs at) (refused 1) ≡ got r.next) (cond t (attributes_at s start c e xs at) (refused 1))
    go true h =
        let k = (both (leb at (length s)) (ltb (start + length s) (2 ^ 63)) (both (keeps_place (length s) start at) (keeps_sizes most specs f) h).0).0 in
        holds_map (λ r. (past_values s c e xs at ≡ got r.next) × Onward s at r.next) (λ r. past_values s c e xs at ≡ got r.next) (attributes_at s start c e xs at) (λ r y. y.0) (attributes_past s start c e xs at (leb-true _ _ k))
    go false h = tt

-- ---- sizes that were judged

specs_part : (first count k : ℕ) (l : List ℕ) → first + count ≤ k → map row_spec (take count (drop first (first_chunks 3 k l))) ≡ specs_from count (drop (first * 3) l)
specs_part zero zero k l h = refl
specs_part zero (suc n) zero l h = absurd (omega arith)
specs_part zero (suc n) (suc k) l h = ap (λ (xs : List Specification). spec_at (take 3 l) 0 ∷ xs) (specs_part zero n k (drop 3 l) (omega arith)) ∙ ap (λ (x : Specification). x ∷ specs_from n (drop 3 l)) (row_is l)
  where
    row_is : (l : List ℕ) → spec_at (take 3 l) 0 ≡ spec_at l 0
    row_is [] = refl
    row_is (x ∷ []) = refl
    row_is (x ∷ y ∷ []) = refl
    row_is (x ∷ y ∷ z ∷ l) = refl
specs_part (suc i) n zero l h = absurd (omega arith)
specs_part (suc i) n (suc k) l h =
    let e : 3 + i * 3 ≡ suc i * 3 = omega arith in
    specs_part i n k (drop 3 l) (omega arith) ∙ ap (specs_from n) (drop-drop (i * 3) 3 l ∙ ap (λ (m : ℕ). drop m l) e)

-- rows of specifications that keep them
pub record Fair (rows : List (List ℕ)) (xs : List Specification) : Type 0 where
  pub is : map row_spec rows ≡ xs
  pub few : length rows ≤ 64
  pub fairs : all_fair (map row_spec rows) ≡ true

pub rows_fair : (specs : List ℕ) (f : Found) (rows : List (List ℕ)) → rows ≡ first_chunks 3 (length specs / 3) specs → keeps_sizes 64 specs f ≡ true → Fair (take (f.first + f.count - f.first) (drop f.first rows)) (declaration_of specs f).specifications
rows_fair specs f rows q h =
    let k = kept 64 specs f h in
    let c : f.first + f.count - f.first ≡ f.count = omega arith in
    let e : map row_spec (take (f.first + f.count - f.first) (drop f.first rows)) ≡ specs_from f.count (drop (f.first * 3) specs) =
    rw (c, q) (specs_part f.first f.count (length specs / 3) specs k.inside) in
    record {
      is = e;
      few = omega (arith, length-map (take (f.first + f.count - f.first) (drop f.first rows)) row_spec, ap length e, length_specs f.count (drop (f.first * 3) specs), k.most_is);
      fairs = ap all_fair e ∙ k.fairs;
    }

-- each of them
pub fair_row : (rows : List (List ℕ)) (i : ℕ) → i < length rows → all_fair (map row_spec rows) ≡ true → fair (row_spec (get_or rows i [])) ≡ true
fair_row [] i h e = absurd (omega arith)
fair_row (r ∷ rs) zero h e = (both (fair (row_spec r)) (all_fair (map row_spec rs)) e).0
fair_row (r ∷ rs) (suc i) h e = fair_row rs i (omega arith) (both (fair (row_spec r)) (all_fair (map row_spec rs)) e).1

-- where they are not kept
pub read_refused : (most : ℕ) (s : List ℕ) (start : ℕ) (c : Encoding) (e : RunTimeEndian) (specs : List ℕ) (f : Found) (at : ℕ) {A : Type 0} (a : A) {k : ℕ} → refused k ≡ cond (keeps_place (length s) start at && keeps_sizes most specs f) (got a) (refused 1)
    → read_attributes most s start c e specs f at ≡ refused k
unfolding read_attributes
read_refused most s start c e specs f at a {k} = go (keeps_place (length s) start at && keeps_sizes most specs f)
  where
    go : (t : Bool) → refused k ≡ cond t (got a) (refused 1) → cond t (attributes_at s start c e (declaration_of specs f).specifications at) (refused 1) ≡ refused k
    go true q = absurd (cc)
    go false q = let z : k ≡ 1 = cc in rw z

-- reading where they are kept
pub read_kept : (most : ℕ) (s : List ℕ) (start : ℕ) (c : Encoding) (e : RunTimeEndian) (specs : List ℕ) (f : Found) (at : ℕ) → at ≤ length s → start + length s < 2 ^ 63 → keeps_sizes most specs f ≡ true
    → read_attributes most s start c e specs f at ≡ attributes_at s start c e (declaration_of specs f).specifications at
unfolding read_attributes
read_kept most s start c e specs f at h l k = rw (le-leb at (length s) h, lt-ltb (start + length s) (2 ^ 63) l, k)
