-- What is read of bytes keeps 01's sizes, and the codes of a table differ.
use mathlib.Core.Bool.{Bool, true, false, cond}
use mathlib.Core.Option.{Option, none, some}
use mathlib.Core.Path.{◌≡◌, refl, sym, ap, ◌∙◌}
use mathlib.Core.List.{List, [], ◌∷◌, ◌++◌}
use mathlib.Core.Logic.{◌⊎◌, inl, inr}
use Prim.Native.Nat.{ℕ, zero, suc, ◌+◌, ◌-◌, ◌^◌, ◌≤◌, ◌<◌}
use native.Mathlib.Omega.{arith}
use borrow.Author.Tests.{leb-true, eqb-false, eq-eqb, le-leb}
use lib.Dec.{ltb, leb, eqb}
use lib.ListN.{length}
use Rattle.reader.specs.Answer.{Answer, got, refused, and_then, if_some, Read, Holds}
use Rattle.reader.specs.Leb128.{uleb_at}
use Rattle.reader.specs.Sizes.{max_section}
use Rattle.reader.specs.Words.{word_at}
use Rattle.reader.specs.declared.endianity.RunTimeEndian.TheVariants.{Little}
use Rattle.reader.proofs.Accepted.{uleb_below}
use Rattle.reader.proofs.Answers.{holds_then, cond_by}
use Rattle.reader.proofs.WordLaws.{word_in}
use Rattle.abbrev.specs.Lookup.{all_fair}
use Rattle.abbrev.specs.Rows.{Row, rows_from}
use Rattle.abbrev.specs.Table.{Specification, Declaration, Limit, judged, pair_at, constant_at, with_specification, specifications_at, tag_at, children_at, tagged_at, head_at, declared, declaration_at, with_declaration, has, declarations_at, abbreviations_at}
use Rattle.abbrev.specs.declared.table.Pair.{Pair}
use Rattle.abbrev.specs.declared.table.Head.{Head}
use Rattle.abbrev.proofs.Columns.{has_append}

-- membership
abbrev pub In : {A : Type 0} → A → List A → Type 0
In a [] = ⊥
In a (x ∷ xs) = (a ≡ x) ⊎ In a xs

-- a declaration within 01's sizes
pub record Proper (most : ℕ) (d : Declaration) : Type 0 where
  pub code_some : d.code ≡ 0 → ⊥
  pub tag_some : 0 < d.tag
  pub tag_small : d.tag ≤ 65535
  pub children_bit : d.children ≤ 1
  pub few : length d.specifications ≤ most
  pub smalls : all_fair d.specifications ≡ true

-- and a code has one row
pub record Sound (most : ℕ) (t : List Declaration) : Type 0 where
  pub proper : (d : Declaration) → In d t → Proper most d
  pub one : (a b : Row) → In a (rows_from 0 t) → In b (rows_from 0 t) → a.declaration.code ≡ b.declaration.code → a ≡ b

record Small (r : Read Pair) : Type 0 where
  name : r.value.name ≤ 65535
  form : r.value.form ≤ 65535

judged_small : (n f p : ℕ) → n < 2 ^ 16 → f < 2 ^ 16 → Holds Small (judged n f p)
unfolding judged
judged_small n f p h g =
    let s : Small (record { value = record { name = n; form = f }; next = p }) = record { name = omega arith; form = omega arith } in
    cond_by (Holds Small) (eqb n 0) _ _
    (λ _. cond_by (Holds Small) (eqb f 0) _ (refused 11) (λ _. s) (λ _. tt))
    (λ _. cond_by (Holds Small) (eqb f 0) (refused 12) _ (λ _. tt) (λ _. s))

pair_small : (s : List ℕ) (at : ℕ) → Holds Small (pair_at s at)
unfolding pair_at
pair_small s at =
    holds_then (λ r. r.value < 2 ^ 16) Small (uleb_at s at 16) _ (uleb_below s at 16)
    (λ n h. holds_then (λ r. r.value < 2 ^ 16) Small (uleb_at s n.next 16) _ (uleb_below s n.next 16) (λ f g. judged_small n.value f.value f.next h g))

record Few (m : ℕ) (r : Read (List Specification)) : Type 0 where
  few : length r.value ≤ m
  smalls : all_fair r.value ≡ true

few_more : (m : ℕ) (x : Specification) (r : Answer (Read (List Specification))) → x.name ≤ 65535 → x.form ≤ 65535 → Holds (Few m) r → Holds (Few (suc m)) (with_specification x r)
few_more m x (got y) h g f =
    record { few = omega (arith, f.few); smalls = rw (le-leb x.name 65535 h, le-leb x.form 65535 g) f.smalls }
few_more m x (refused k) h g f = tt

specs_few : (s : List ℕ) (over m at : ℕ) → Holds (Few m) (specifications_at s over m at)
unfolding specifications_at
specs_few s over zero at =
    holds_then Small (Few 0) (pair_at s at) _ (pair_small s at)
    (λ r h. cond_by (Holds (Few 0)) (eqb r.value.form 0) _ _ (λ _. record { few = omega arith; smalls = refl }) (λ _. tt))
specs_few s over (suc m) at =
    holds_then Small (Few (suc m)) (pair_at s at) _ (pair_small s at)
    (λ r h.
    cond_by (Holds (Few (suc m))) (eqb r.value.form 0) _ _ (λ _. record { few = omega arith; smalls = refl })
    (λ _.
    holds_then (λ c. Unit {0}) (Few (suc m)) (constant_at s r.next r.value.form) _ (any (constant_at s r.next r.value.form))
    (λ c _. few_more m _ (specifications_at s over m c.next) h.name h.form (specs_few s over m c.next))))
  where
    any : {A : Type 0} (r : Answer A) → Holds (λ c. Unit {0}) r
    any (got a) = tt
    any (refused n) = tt

-- of what may be none
abbrev IfAny : {A : Type 0} → (A → Type 0) → Option A → Type 0
IfAny P none = Unit {0}
IfAny P (some a) = P a

record Headed (r : Read Head) : Type 0 where
  code_some : r.value.code ≡ 0 → ⊥
  tag_some : 0 < r.value.tag
  tag_small : r.value.tag ≤ 65535
  children_bit : r.value.children ≤ 1

record Tag (r : Read ℕ) : Type 0 where
  some_tag : 0 < r.value
  small : r.value ≤ 65535

tag_small : (s : List ℕ) (at : ℕ) → Holds Tag (tag_at s at)
unfolding tag_at
tag_small s at =
    holds_then (λ r. r.value < 2 ^ 16) Tag (uleb_at s at 16) _ (uleb_below s at 16)
    (λ r h.
    cond_by (Holds Tag) (eqb r.value 0) (refused 9) (got r) (λ _. tt)
    (λ n. let z = eqb-false r.value 0 n in record { some_tag = omega arith; small = omega arith }))

children_bit : (s : List ℕ) (at : ℕ) → Holds (λ r. r.value ≤ 1) (children_at s at)
unfolding children_at
children_bit s at =
    holds_then _ (λ r. r.value ≤ 1) (word_at s at 1 Little) _ (word_in s at 1 Little)
    (λ r _. cond_by (Holds (λ r. r.value ≤ 1)) (leb r.value 1) (got r) (refused 10) (λ h. leb-true r.value 1 h) (λ _. tt))

tagged_proper : (s : List ℕ) (at code : ℕ) → (code ≡ 0 → ⊥) → Holds (IfAny Headed) (tagged_at s at code)
unfolding tagged_at
tagged_proper s at code n =
    holds_then Tag (IfAny Headed) (tag_at s at) _ (tag_small s at)
    (λ t h.
    holds_then (λ r. r.value ≤ 1) (IfAny Headed) (children_at s t.next) _ (children_bit s t.next)
    (λ c g. record { code_some = n; tag_some = h.some_tag; tag_small = h.small; children_bit = g }))

headed : (s : List ℕ) (at : ℕ) → Holds (IfAny Headed) (head_at s at)
unfolding head_at
headed s at =
    cond_by (Holds (IfAny Headed)) (ltb at (length s)) _ (got none)
    (λ _.
    holds_then (λ r. r.value < 2 ^ 64) (IfAny Headed) (uleb_at s at 64) _ (uleb_below s at 64)
    (λ c _.
    cond_by (Holds (IfAny Headed)) (eqb c.value 0) (got none) _ (λ _. tt)
    (λ n. tagged_proper s c.next c.value (eqb-false c.value 0 n))))
    (λ _. tt)

abbrev ProperRead : ℕ → Read Declaration → Type 0
ProperRead most r = Proper most r.value

declaration_proper : (s : List ℕ) (l : Limit) (at : ℕ) → Holds (IfAny (ProperRead l.most)) (declaration_at s l at)
unfolding declaration_at
declaration_proper s l at = holds_then (IfAny Headed) (IfAny (ProperRead l.most)) (head_at s at) _ (headed s at) go
  where
    go : (o : Option (Read Head)) → IfAny Headed o
        → Holds (IfAny (ProperRead l.most)) (if_some o (got none) (λ h. and_then (specifications_at s l.over l.most h.next) (λ r. got (some (record { value = declared h.value r.value; next = r.next })))))
    go none h = tt
    go (some h) k =
        holds_then (Few l.most) (IfAny (ProperRead l.most)) (specifications_at s l.over l.most h.next) _ (specs_few s l.over l.most h.next)
        (λ r f.
        record { code_some = k.code_some; tag_some = k.tag_some; tag_small = k.tag_small; children_bit = k.children_bit; few = f.few; smalls = f.smalls })

-- proper, and of a code that was not seen
abbrev Good : ℕ → List ℕ → List Declaration → Type 0
Good most seen [] = Unit {0}
Good most seen (d ∷ ds) = Proper most d × (has d.code seen ≡ false) × Good most (seen ++ (d.code ∷ [])) ds

good_more : (most : ℕ) (seen : List ℕ) (d : Declaration) (r : Answer (List Declaration)) → Proper most d → has d.code seen ≡ false → Holds (Good most (seen ++ (d.code ∷ []))) r → Holds (Good most seen) (with_declaration d r)
good_more most seen d (got ds) p h g = (p, h, g)
good_more most seen d (refused k) p h g = tt

goods : (s : List ℕ) (l : Limit) (m free : ℕ) (seen : List ℕ) (at : ℕ) → Holds (Good l.most seen) (declarations_at s l m free seen at)
unfolding declarations_at
goods s l zero free seen at =
    holds_then (IfAny (ProperRead l.most)) (Good l.most seen) (declaration_at s l at) _ (declaration_proper s l at) go
  where
    go : (o : Option (Read Declaration)) → IfAny (ProperRead l.most) o → Holds (Good l.most seen) (if_some o (got []) (λ d. cond (has d.value.code seen) (refused 14) (refused 15)))
    go none p = tt
    go (some d) p = cond_by (Holds (Good l.most seen)) (has d.value.code seen) (refused 14) (refused 15) (λ _. tt) (λ _. tt)
goods s l (suc m) free seen at =
    holds_then (IfAny (ProperRead l.most)) (Good l.most seen) (declaration_at s l at) _ (declaration_proper s l at) (go (λ f n p. goods s l m f n p))
  where
    go : ((f : ℕ) (n : List ℕ) (p : ℕ) → Holds (Good l.most n) (declarations_at s l m f n p))
        → (o : Option (Read Declaration)) → IfAny (ProperRead l.most) o
        → Holds (Good l.most seen)
        (if_some o (got [])
        (λ d.
        cond (has d.value.code seen) (refused 14)
        (cond (leb (length d.value.specifications) free)
        (with_declaration d.value (declarations_at s l m (free - length d.value.specifications) (seen ++ (d.value.code ∷ [])) d.next))
        (refused 15))))
    go more none p = tt
    go more (some d) p =
        cond_by (Holds (Good l.most seen)) (has d.value.code seen) (refused 14) _ (λ _. tt)
        (λ n.
        cond_by (Holds (Good l.most seen)) (leb (length d.value.specifications) free) _ (refused 15)
        (λ _. good_more l.most seen d.value (declarations_at s l m (free - length d.value.specifications) (seen ++ (d.value.code ∷ [])) d.next) p n (more (free - length d.value.specifications) (seen ++ (d.value.code ∷ [])) d.next))
        (λ _. tt))

not_before : (c : ℕ) (u v : List ℕ) → has c (u ++ v) ≡ false → (has c u ≡ false) × (has c v ≡ false)
not_before c u v e = by (has c u) (sym (has_append c u v) ∙ e)
  where
    by : (b : Bool) → cond b true (has c v) ≡ false → (b ≡ false) × (has c v ≡ false)
    by true e = absurd cc
    by false e = (refl, e)

unseen : (most : ℕ) (seen : List ℕ) (b : Declaration) (ds : List Declaration) → Good most seen ds → In b ds → has b.code seen ≡ false
unseen most seen b [] g x'' = elim x'' [ ]
unseen most seen b (x ∷ ds) g (inl p) = rw p g.1
unseen most seen b (x ∷ ds) g (inr i) = (not_before b.code seen (x.code ∷ []) (unseen most (seen ++ (x.code ∷ [])) b ds g.2 i)).0

apart : (most : ℕ) (seen : List ℕ) (x b : Declaration) (ds : List Declaration) → Good most (seen ++ (x.code ∷ [])) ds → In b ds → x.code ≡ b.code → ⊥
apart most seen x b ds g i e =
    let f = (not_before b.code seen (x.code ∷ []) (unseen most (seen ++ (x.code ∷ [])) b ds g i)).1 in
    let t : true ≡ false = rw (eq-eqb x.code b.code e) at f in
    cc

pub in_rows : (first : ℕ) (t : List Declaration) (r : Row) → In r (rows_from first t) → In r.declaration t
in_rows first [] r x' = elim x' [ ]
in_rows first (d ∷ t) r (inl p) = inl (ap (λ z. z.declaration) p)
in_rows first (d ∷ t) r (inr i) = inr (in_rows (first + length d.specifications) t r i)

one_each : (most : ℕ) (seen : List ℕ) (first : ℕ) (t : List Declaration) → Good most seen t → (a b : Row) → In a (rows_from first t) → In b (rows_from first t) → a.declaration.code ≡ b.declaration.code → a ≡ b
one_each most seen first [] g a b x4 _ e = elim x4 [ ]
one_each most seen first (x ∷ t) g a b (inl p) (inl q) e = p ∙ sym q
one_each most seen first (x ∷ t) g a b (inl p) (inr j) e =
    absurd (apart most seen x b.declaration t g.2 (in_rows _ t b j) (ap (λ z. z.declaration.code) (sym p) ∙ e))
one_each most seen first (x ∷ t) g a b (inr i) (inl q) e =
    absurd (apart most seen x a.declaration t g.2 (in_rows _ t a i) (ap (λ z. z.declaration.code) (sym q) ∙ sym e))
one_each most seen first (x ∷ t) g a b (inr i) (inr j) e = one_each most (seen ++ (x.code ∷ [])) (first + length x.specifications) t g.2 a b i j e

all_proper : (most : ℕ) (seen : List ℕ) (t : List Declaration) → Good most seen t → (d : Declaration) → In d t → Proper most d
all_proper most seen [] g d x'' = elim x'' [ ]
all_proper most seen (x ∷ t) g d (inl p) = rw p g.0
all_proper most seen (x ∷ t) g d (inr i) = all_proper most (seen ++ (x.code ∷ [])) t g.2 d i

-- a table that was read is sound
pub sound : (s : List ℕ) (offset : ℕ) (l : Limit) (rows free : ℕ) → Holds (Sound l.most) (abbreviations_at s offset l rows free)
unfolding abbreviations_at
sound s offset l rows free =
    cond_by (Holds (Sound l.most)) (leb (length s) max_section) _ (refused 1)
    (λ _. cond_by (Holds (Sound l.most)) (leb offset (length s)) _ (refused 2) (λ _. sure (declarations_at s l rows free [] offset) (goods s l rows free [] offset)) (λ _. tt))
    (λ _. tt)
  where
    sure : (r : Answer (List Declaration)) → Holds (Good l.most []) r → Holds (Sound l.most) r
    sure (got t) g = record { proper = all_proper l.most [] t g; one = one_each l.most [] 0 t g }
    sure (refused k) g = tt
