-- Document 02, request 2: what the mark of an attribute says, and that all else is as without it.
use mathlib.Core.Bool.{Bool, true, false, cond, ◌&&◌, ◌||◌}
use mathlib.Core.Logic.{◌↔◌, ◌⊎◌, inl, inr}
use mathlib.Core.Path.{◌≡◌, refl, ◌∙◌}
use mathlib.Core.List.{List, [], ◌∷◌, map}
use Prim.Native.Nat.{ℕ, zero, suc, ◌-◌, ◌<◌}
use native.Mathlib.Omega.{arith}
use borrow.Author.Tests.{eq-eqb, ne_eqb}
use lib.Dec.{eqb}
use lib.IntN.{ℤ}
use lib.ListN.{length}
use Rattle.reader.specs.Answer.{Answer, got, refused, and_then, Read, gives, Holds}
use Rattle.reader.specs.Leb128.{uleb_at, sleb_at}
use Rattle.reader.specs.Twos.{word}
use Rattle.reader.specs.declared.common.Encoding.{Encoding}
use Rattle.reader.specs.declared.endianity.RunTimeEndian.{RunTimeEndian}
use Rattle.reader.proofs.Accepted.{Ends, uleb_ends}
use Rattle.reader.proofs.Answers.{holds_map, then_then}
use Rattle.abbrev.specs.Lookup.{Found, keeps_sizes, declaration_of}
use Rattle.abbrev.specs.Table.{Specification}
use Rattle.attribute.specs.Attributes.{keeps_place, read_attribute, read_attributes}
use Rattle.attribute.specs.Forms.{Form, form, forms, indirect, row}
use Rattle.attribute.specs.Padded.{Leb128, unsigned, signed, is_padded, any_padded, layout_numbers, after, form_numbers}
use Rattle.attribute.specs.Read.{single, numbered, signed_at, block_after, raw_at, final_form, form_at, numbers_at, attribute_at, attributes_at}
use Rattle.attribute.specs.Skip.{Ending, sized, ended, counted, measured, unknown, ending_of}
use Rattle.attribute.specs.Value.{Attribute, value_under}
use Rattle.attribute.specs.declared.form.Layout.{Layout}
use Rattle.attribute.specs.declared.form.Layout.TheVariants as L
use Rattle.attribute.specs.declared.value.Value.{Value}
use Rattle.attribute.proofs.PaddedLaws.{forms_step, forms_plain}
use Rattle.attribute.proofs.ReadLaws.{final_step, final_plain, final_named}

-- the mark is set exactly if one of the numbers read for the value is padded
pub attribute_mark : (s : List ℕ) (start : ℕ) (c : Encoding) (e : RunTimeEndian) (x : Specification) (at : ℕ)
    → Holds (λ a. a.value.padded ≡ any_padded s (numbers_at s x.form at)) (attribute_at s start c e x at)
unfolding attribute_at
attribute_mark s start c e x at = go (form_at s start c e x at)
  where
    go : (r : Answer (Read Value))
        → Holds (λ (a : Read Attribute). a.value.padded ≡ any_padded s (numbers_at s x.form at))
        (and_then r (λ v. gives (record { name = x.name; form = x.form; padded = any_padded s (numbers_at s x.form at); value = value_under c x.name v.value }) v.next))
    go (got v) = refl
    go (refused n) = tt

-- one of a list
abbrev pub Among : Leb128 → List Leb128 → Type 0
Among n [] = ⊥
Among n (m ∷ ms) = (n ≡ m) ⊎ Among n ms

pub record Padded (s : List ℕ) (ns : List Leb128) : Type 0 where
  pub which : Leb128
  pub among : Among which ns
  pub is : is_padded s which ≡ true

any_yes : (s : List ℕ) (ns : List Leb128) → any_padded s ns ≡ true → Padded s ns
unfolding any_padded
any_yes s [] h = absurd (cc)
any_yes s (n ∷ ns) h = go (is_padded s n) refl h (any_yes s ns)
  where
    go : (t : Bool) → is_padded s n ≡ t → t || any_padded s ns ≡ true → (any_padded s ns ≡ true → Padded s ns) → Padded s (n ∷ ns)
    go true e h f = record { which = n; among = inl refl; is = e }
    go false e h f = let p = f h in record { which = p.which; among = inr p.among; is = p.is }

any_no : (s : List ℕ) (ns : List Leb128) → Padded s ns → any_padded s ns ≡ true
unfolding any_padded
any_no s ns p = go ns p.among
  where
    true_or : (b : Bool) → b || true ≡ true
    true_or true = refl
    true_or false = refl

    go : (ms : List Leb128) → Among p.which ms → any_padded s ms ≡ true
    go [] a = absurd a
    go (n ∷ ms) (inl q) = let e : is_padded s n ≡ true = rw (← q) p.is in rw e
    go (n ∷ ms) (inr a) = rw (go ms a) (true_or (is_padded s n))

-- the "or" over the list is true exactly if one of it is padded
pub any_padded_lem : (s : List ℕ) (ns : List Leb128) → (any_padded s ns ≡ true) ↔ Padded s ns
any_padded_lem s ns = (any_yes s ns, any_no s ns)

-- ---- the numbers are those that are read

-- a layout has a number exactly if skipping it passes a LEB128 number or asks one for a length
abbrev count_of : Ending → ℕ
count_of (sized n) = 0
count_of (ended m) = cond (eqb m 128) 1 0
count_of (counted n) = 0
count_of measured = 1
count_of unknown = 0

pub layout_count : (c : Encoding) (l : Layout) (at : ℕ) → length (layout_numbers l at) ≡ count_of (ending_of c l)
unfolding layout_numbers ending_of
layout_count c L.U8 at = refl
layout_count c L.U16 at = refl
layout_count c L.U24 at = refl
layout_count c L.U32 at = refl
layout_count c L.U64 at = refl
layout_count c L.U128 at = refl
layout_count c L.Offset at = refl
layout_count c L.Address at = refl
layout_count c L.RefAddr at = refl
layout_count c L.Uleb128 at = refl
layout_count c L.Sleb128 at = refl
layout_count c L.Block1 at = refl
layout_count c L.Block2 at = refl
layout_count c L.Block4 at = refl
layout_count c L.Block at = refl
layout_count c L.NullTerminated at = refl
layout_count c L.Present at = refl
layout_count c L.ImplicitConst at = refl
layout_count c L.Unknown at = refl

-- numbers one after another from `at` on: where the last of them ends; 2 where one stands elsewhere
abbrev from : ℕ → ℕ → Answer ℕ → Answer ℕ
from place at r = cond (eqb place at) r (refused 2)

unfoldable pub follow : List ℕ → ℕ → List Leb128 → Answer ℕ
follow s at [] = got at
follow s at (unsigned w p ∷ ns) = from p at (and_then (uleb_at s p w) (λ r. follow s r.next ns))
follow s at (signed w p ∷ ns) = from p at (and_then (sleb_at s p w) (λ r. follow s r.next ns))

-- those that name forms stand one after another from the value's place on, up to where its final form reads on
forms_by : (n : ℕ) (s : List ℕ) (f at : ℕ) → length s - at < n → Holds (λ r. follow s at (form_numbers s f at) ≡ got r.next) (final_form s f at)
unfolding follow
forms_by zero s f at h = absurd (omega arith)
forms_by (suc n) s f at h = rw (final_step s f at, forms_step s f at) (go (eqb f indirect) (λ g p l. forms_by n s g p l))
  where
    Step : Type 0
    Step = (g p : ℕ) → length s - p < n → Holds (λ r. follow s p (form_numbers s g p) ≡ got r.next) (final_form s g p)

    more : Step → (u : Answer (Read ℕ)) → uleb_at s at 16 ≡ u → Holds (λ r. Ends s at 16 r.next) u
        → Holds (λ q. follow s at (unsigned 16 at ∷ after u (λ r. form_numbers s r.value r.next)) ≡ got q.next) (and_then u (λ r. final_form s r.value r.next))
    more ih (got r) e x =
        holds_map (λ q. follow s r.next (form_numbers s r.value r.next) ≡ got q.next) (λ q. follow s at (unsigned 16 at ∷ form_numbers s r.value r.next) ≡ got q.next) (final_form s r.value r.next)
        (λ q y. rw (eq-eqb at at refl, e) y) (ih r.value r.next (omega (arith, x.above, x.within)))
    more ih (refused j) e x = tt

    go : (t : Bool) → Step
        → Holds (λ q. follow s at (cond t (unsigned 16 at ∷ after (uleb_at s at 16) (λ r. form_numbers s r.value r.next)) []) ≡ got q.next)
        (cond t (and_then (uleb_at s at 16) (λ r. final_form s r.value r.next)) (gives f at))
    go true ih = more ih (uleb_at s at 16) refl (uleb_ends s at 16)
    go false ih = refl

pub forms_follow : (s : List ℕ) (f at : ℕ) → Holds (λ r. follow s at (form_numbers s f at) ≡ got r.next) (final_form s f at)
forms_follow s f at = forms_by (suc (length s)) s f at (omega arith)

-- where the number of a layout is refused, so is what stands there
pub layout_asked : (s : List ℕ) (start : ℕ) (c : Encoding) (e : RunTimeEndian) (x : Specification) (l : Layout) (at k : ℕ) → follow s at (layout_numbers l at) ≡ refused k → raw_at s start c e x l at ≡ refused k
unfolding follow layout_numbers raw_at numbered signed_at block_after
layout_asked s start c e x L.Uleb128 at k h = go (uleb_at s at 64) (rw (eq-eqb at at refl) at h)
  where
    go : (u : Answer (Read ℕ)) → and_then u (λ r. got r.next) ≡ refused k → numbered u ≡ refused k
    go (got r) q = absurd (cc)
    go (refused j) q = cc
layout_asked s start c e x L.Sleb128 at k h = go (sleb_at s at 64) (rw (eq-eqb at at refl) at h)
  where
    go : (u : Answer (Read ℤ)) → and_then u (λ r. got r.next) ≡ refused k → and_then u (λ v. gives (single (word 64 v.value)) v.next) ≡ refused k
    go (got r) q = absurd (cc)
    go (refused j) q = cc
layout_asked s start c e x L.Block at k h = go (uleb_at s at 64) (rw (eq-eqb at at refl) at h)
  where
    go : (u : Answer (Read ℕ)) → and_then u (λ r. got r.next) ≡ refused k → block_after s start u ≡ refused k
    go (got r) q = absurd (cc)
    go (refused j) q = cc
layout_asked s start c e x L.U8 at k h = absurd (cc)
layout_asked s start c e x L.U16 at k h = absurd (cc)
layout_asked s start c e x L.U24 at k h = absurd (cc)
layout_asked s start c e x L.U32 at k h = absurd (cc)
layout_asked s start c e x L.U64 at k h = absurd (cc)
layout_asked s start c e x L.U128 at k h = absurd (cc)
layout_asked s start c e x L.Offset at k h = absurd (cc)
layout_asked s start c e x L.Address at k h = absurd (cc)
layout_asked s start c e x L.RefAddr at k h = absurd (cc)
layout_asked s start c e x L.Block1 at k h = absurd (cc)
layout_asked s start c e x L.Block2 at k h = absurd (cc)
layout_asked s start c e x L.Block4 at k h = absurd (cc)
layout_asked s start c e x L.NullTerminated at k h = absurd (cc)
layout_asked s start c e x L.Present at k h = absurd (cc)
layout_asked s start c e x L.ImplicitConst at k h = absurd (cc)
layout_asked s start c e x L.Unknown at k h = absurd (cc)

-- the numbers of a form that is not indirect are its layout's; an indirect one has the number that names its form, and then that form's
pub numbers_plain : (s : List ℕ) (f at : ℕ) → (f ≡ 0x16 → ⊥) → numbers_at s f at ≡ layout_numbers (row f).layout at
unfolding numbers_at
numbers_plain s f at h = rw (forms_plain s f at h, final_plain s f at (ne_eqb f 0x16 h))

pub numbers_indirect : (s : List ℕ) (at g p : ℕ) → uleb_at s at 16 ≡ gives g p → numbers_at s 0x16 at ≡ unsigned 16 at ∷ numbers_at s g p
unfolding numbers_at
numbers_indirect s at g p e = rw (forms_step s 0x16 at, final_named s at, e)

-- the forms whose layout has a number, by the table of forms
unfoldable pub with_number : List Form → List ℕ
with_number [] = []
with_number (form code l k ∷ rest) = cond (eqb (length (layout_numbers l 0)) 0) (with_number rest) (code ∷ with_number rest)

pub numbered_forms : with_number forms ≡ 0x09 ∷ 0x0d ∷ 0x0f ∷ 0x15 ∷ 0x18 ∷ 0x1a ∷ 0x1b ∷ 0x22 ∷ 0x23 ∷ 0x1f01 ∷ 0x1f02 ∷ []
unfolding with_number forms layout_numbers
numbered_forms = refl

-- ---- without the mark

-- an attribute as it was: name, form and value
pub record Unmarked : Type 0 where
  pub name : ℕ
  pub form : ℕ
  pub value : Value

abbrev pub unmarked : Attribute → Unmarked
unmarked a = record { name = a.name; form = a.form; value = a.value }

-- gimli's parse_attribute as it was
abbrev pub attribute_was : List ℕ → ℕ → Encoding → RunTimeEndian → Specification → ℕ → Answer (Read Unmarked)
attribute_was s start c e x at =
    and_then (form_at s start c e x at)
    (λ v. gives (record { name = x.name; form = x.form; value = value_under c x.name v.value }) v.next)

unfoldable pub attributes_were : List ℕ → ℕ → Encoding → RunTimeEndian → List Specification → ℕ → Answer (Read (List Unmarked))
attributes_were s start c e [] at = gives [] at
attributes_were s start c e (x ∷ xs) at =
    and_then (attribute_was s start c e x at)
    (λ a. and_then (attributes_were s start c e xs a.next) (λ r. gives (a.value ∷ r.value) r.next))

pub attribute_was_lem : (s : List ℕ) (start : ℕ) (c : Encoding) (e : RunTimeEndian) (x : Specification) (at : ℕ)
    → and_then (attribute_at s start c e x at) (λ a. gives (unmarked a.value) a.next) ≡ attribute_was s start c e x at
unfolding attribute_at
attribute_was_lem s start c e x at = then_then (form_at s start c e x at) _ _

pub attributes_were_lem : (s : List ℕ) (start : ℕ) (c : Encoding) (e : RunTimeEndian) (xs : List Specification) (at : ℕ)
    → and_then (attributes_at s start c e xs at) (λ r. gives (map unmarked r.value) r.next) ≡ attributes_were s start c e xs at
unfolding attributes_at attributes_were
attributes_were_lem s start c e [] at = refl
attributes_were_lem s start c e (x ∷ xs) at = go (attribute_at s start c e x at) (attribute_was_lem s start c e x at) (λ p. attributes_were_lem s start c e xs p)
  where
    ends : (a : Attribute) (r : Answer (Read (List Attribute)))
        → and_then (and_then r (λ y. gives (a ∷ y.value) y.next)) (λ y. gives (map unmarked y.value) y.next)
        ≡ and_then (and_then r (λ y. gives (map unmarked y.value) y.next)) (λ y. gives (unmarked a ∷ y.value) y.next)
    ends a (got y) = refl
    ends a (refused n) = refl

    go : (r : Answer (Read Attribute)) → and_then r (λ a. gives (unmarked a.value) a.next) ≡ attribute_was s start c e x at
        → ((p : ℕ) → and_then (attributes_at s start c e xs p) (λ y. gives (map unmarked y.value) y.next) ≡ attributes_were s start c e xs p)
        → and_then (and_then r (λ a. and_then (attributes_at s start c e xs a.next) (λ y. gives (a.value ∷ y.value) y.next))) (λ y. gives (map unmarked y.value) y.next)
        ≡ and_then (attribute_was s start c e x at) (λ a. and_then (attributes_were s start c e xs a.next) (λ y. gives (a.value ∷ y.value) y.next))
    go (got a) q f = rw (← q, ← f a.next) (ends a.value (attributes_at s start c e xs a.next))
    go (refused n) q f = rw (← q)

-- after question 1
cond_then : {A B : Type 0} (t : Bool) (r : Answer A) (f : A → Answer B) (n : ℕ) → and_then (cond t r (refused n)) f ≡ cond t (and_then r f) (refused n)
cond_then true r f n = refl
cond_then false r f n = refl

pub read_attribute_was : (s : List ℕ) (start : ℕ) (c : Encoding) (e : RunTimeEndian) (x : Specification) (at : ℕ)
    → and_then (read_attribute s start c e x at) (λ a. gives (unmarked a.value) a.next) ≡ cond (keeps_place (length s) start at) (attribute_was s start c e x at) (refused 1)
unfolding read_attribute
read_attribute_was s start c e x at = cond_then (keeps_place (length s) start at) (attribute_at s start c e x at) _ 1 ∙ rw (attribute_was_lem s start c e x at)

pub read_attributes_were : (most : ℕ) (s : List ℕ) (start : ℕ) (c : Encoding) (e : RunTimeEndian) (specs : List ℕ) (f : Found) (at : ℕ)
    → and_then (read_attributes most s start c e specs f at) (λ r. gives (map unmarked r.value) r.next)
    ≡ cond (keeps_place (length s) start at && keeps_sizes most specs f) (attributes_were s start c e (declaration_of specs f).specifications at) (refused 1)
unfolding read_attributes
read_attributes_were most s start c e specs f at =
    cond_then (keeps_place (length s) start at && keeps_sizes most specs f) (attributes_at s start c e (declaration_of specs f).specifications at) _ 1
    ∙ rw (attributes_were_lem s start c e (declaration_of specs f).specifications at)
