-- Laws of the mark of a value: the numbers that are read for it.
use mathlib.Core.Bool.{Bool, false, cond, or-false, or_assoc, ◌||◌}
use mathlib.Core.Path.{◌≡◌, refl, sym, ap, ◌∙◌}
use mathlib.Core.List.{List, [], ◌∷◌, ◌++◌}
use Prim.Native.Nat.{ℕ, zero, suc, ◌-◌, ◌≤◌, ◌<◌}
use native.Mathlib.Omega.{arith}
use borrow.Author.Tests.{ne_eqb}
use lib.Dec.{eqb}
use lib.IntN.{ℤ}
use lib.ListN.{length}
use Rattle.reader.specs.Answer.{Answer, got, refused, and_then, Read, gives, Holds}
use Rattle.reader.specs.Leb128.{uleb_at, sleb_at}
use Rattle.reader.specs.Padded.{uleb_counted_at, sleb_counted_at}
use Rattle.reader.specs.declared.answer.Counted.{Counted}
use Rattle.reader.proofs.Accepted.{Ends, uleb_ends, uleb_none}
use Rattle.reader.proofs.PaddedLaws.{unsigned_number, signed_number}
use Rattle.reader.specs.declared.common.Encoding.{Encoding}
use Rattle.reader.specs.declared.endianity.RunTimeEndian.{RunTimeEndian}
use Rattle.abbrev.specs.Table.{Specification}
use Rattle.attribute.specs.Forms.{indirect, row}
use Rattle.attribute.specs.Padded.{Leb128, unsigned, is_padded, any_padded, layout_numbers, after, chain, form_numbers}
use Rattle.attribute.specs.Read.{Numbers, raw_at, final_form, form_at, numbers_at}
use Rattle.attribute.specs.Steps.{Noted, noted}
use Rattle.attribute.specs.declared.form.Row.{Row}
use Rattle.attribute.specs.declared.value.Value.{Value}
use Rattle.attribute.proofs.ReadLaws.{Turned, turned_begun, turned_more, turned_less, turned_stop, turned_end}

-- ---- a value with a mark

-- without the mark it is what it was
pub noted_plain : {A : Type 0} (m : Bool) (r : Answer (Read A)) (x : Answer (Read (Noted A))) → x ≡ noted m r → r ≡ and_then x (λ v. gives v.value.value v.next)
noted_plain m (got v) x e = rw e
noted_plain m (refused n) x e = rw e

pub noted_mark : {A : Type 0} (m : Bool) (r : Answer (Read A)) (x : Answer (Read (Noted A))) → x ≡ noted m r → Holds (λ v. v.value.padded ≡ m) x
noted_mark m (got v) x e = rw e refl
noted_mark m (refused n) x e = rw e tt

pub noted_refused : {A : Type 0} (m : Bool) (r : Answer (Read A)) (n : ℕ) → refused n ≡ noted m r → r ≡ refused n
noted_refused m r n e = noted_plain m r (refused n) e

pub noted_got : {A : Type 0} (m : Bool) (r : Answer (Read A)) (v : A) (b : Bool) (p : ℕ) → gives (record { value = v; padded = b }) p ≡ noted m r → (r ≡ gives v p) × (b ≡ m)
noted_got m r v b p e = (noted_plain m r (gives (record { value = v; padded = b }) p) e, noted_mark m r (gives (record { value = v; padded = b }) p) e)

-- the same of a form and of a value, in the contracts of the functions that read them
pub final_plainly : (s : List ℕ) (f at : ℕ) (x : Answer (Read (Noted ℕ))) → x ≡ noted (any_padded s (form_numbers s f at)) (final_form s f at) → final_form s f at ≡ and_then x (λ v. gives v.value.value v.next)
final_plainly s f at x e = noted_plain (any_padded s (form_numbers s f at)) (final_form s f at) x e

pub form_got : (s : List ℕ) (start : ℕ) (c : Encoding) (e : RunTimeEndian) (y : Specification) (at : ℕ) (v : Value) (b : Bool) (p : ℕ)
    → gives (record { value = v; padded = b }) p ≡ noted (any_padded s (numbers_at s y.form at)) (form_at s start c e y at) → (form_at s start c e y at ≡ gives v p) × (b ≡ any_padded s (numbers_at s y.form at))
form_got s start c e y at v b p q = noted_got (any_padded s (numbers_at s y.form at)) (form_at s start c e y at) v b p q

pub form_plainly : (s : List ℕ) (start : ℕ) (c : Encoding) (e : RunTimeEndian) (y : Specification) (at : ℕ) (x : Answer (Read (Noted Value)))
    → x ≡ noted (any_padded s (numbers_at s y.form at)) (form_at s start c e y at) → form_at s start c e y at ≡ and_then x (λ v. gives v.value.value v.next)
form_plainly s start c e y at x q = noted_plain (any_padded s (numbers_at s y.form at)) (form_at s start c e y at) x q

-- a number that was read with its count
pub unsigned_known : (s : List ℕ) (at w : ℕ) (x : Counted ℕ) (p : ℕ) → uleb_counted_at s at w ≡ gives x p → uleb_at s at w ≡ gives x.number p
unsigned_known s at w x p e = sym (unsigned_number s at w) ∙ rw e

pub unsigned_refused : (s : List ℕ) (at w n : ℕ) → uleb_counted_at s at w ≡ refused n → uleb_at s at w ≡ refused n
unsigned_refused s at w n e = sym (unsigned_number s at w) ∙ rw e

pub signed_known : (s : List ℕ) (at w : ℕ) (x : Counted ℤ) (p : ℕ) → sleb_counted_at s at w ≡ gives x p → sleb_at s at w ≡ gives x.number p
signed_known s at w x p e = sym (signed_number s at w) ∙ rw e

pub signed_refused : (s : List ℕ) (at w n : ℕ) → sleb_counted_at s at w ≡ refused n → sleb_at s at w ≡ refused n
signed_refused s at w n e = sym (signed_number s at w) ∙ rw e

pub ruleset counted_laws = (unsigned_known, unsigned_refused, signed_known, signed_refused)

-- ---- one of several

pub more_padded : (s : List ℕ) (ns ms : List Leb128) → any_padded s (ns ++ ms) ≡ any_padded s ns || any_padded s ms
unfolding any_padded
more_padded s [] ms = refl
more_padded s (n ∷ ns) ms = ap (λ (b : Bool). is_padded s n || b) (more_padded s ns ms) ∙ sym (or_assoc (is_padded s n) (any_padded s ns) (any_padded s ms))

-- ---- the numbers that name forms, without a count of turns

after_same : {A B : Type 0} (P : A → Type 0) (r : Answer A) (f g : A → List B) → Holds P r → ((a : A) → P a → f a ≡ g a) → after r f ≡ after r g
after_same P (got a) f g h k = k a h
after_same P (refused n) f g h k = refl

chain_more : (n : ℕ) (s : List ℕ) (f at : ℕ) → length s - at ≤ n → chain (suc n) s f at ≡ chain n s f at
unfolding chain
chain_more zero s f at h = rw (uleb_none s at 16 (omega arith) (omega arith))
chain_more (suc n) s f at h =
    ap (λ (r : List Leb128). cond (eqb f indirect) (unsigned 16 at ∷ r) [])
    (after_same (λ r. Ends s at 16 r.next) (uleb_at s at 16) (λ r. chain (suc n) s r.value r.next) (λ r. chain n s r.value r.next) (uleb_ends s at 16)
    (λ r x. chain_more n s r.value r.next (omega (arith, x.above, x.within))))

pub forms_step : (s : List ℕ) (f at : ℕ) → form_numbers s f at ≡ cond (eqb f indirect) (unsigned 16 at ∷ after (uleb_at s at 16) (λ r. form_numbers s r.value r.next)) []
unfolding form_numbers chain
forms_step s f at = sym (chain_more (length s) s f at (omega arith))

pub forms_plain : (s : List ℕ) (f at : ℕ) → (f ≡ 0x16 → ⊥) → form_numbers s f at ≡ []
forms_plain s f at h = forms_step s f at ∙ rw (ne_eqb f 0x16 h)

-- the form f at `at` has come to g at p, and b says whether a number on the way is padded
pub record Named (s : List ℕ) (f at g p : ℕ) (b : Bool) : Type 0 where
  pub turned : Turned s f at g p
  pub marks : any_padded s (form_numbers s f at) ≡ b || any_padded s (form_numbers s g p)

pub named_begun : (s : List ℕ) (f at : ℕ) → Named s f at f at false
named_begun s f at = record { turned = turned_begun s f at; marks = refl }

module _ {s : List ℕ} {f at g p : ℕ} {b : Bool} (t : Named s f at g p b) where
  module _ (h : g ≡ 0x16) where
    pub named_more : (x : Counted ℕ) (q : ℕ) → uleb_counted_at s p 16 ≡ gives x q → Named s f at x.number q (b || x.padded)
    unfolding any_padded is_padded
    named_more x q e =
        let u = unsigned_known s p 16 x q e in
        record {
          turned = turned_more t.turned h u;
          marks = t.marks ∙ rw (h, forms_step s 0x16 p, u, e) (sym (or_assoc b x.padded (any_padded s (form_numbers s x.number q))));
        }

    pub named_less : (x : Counted ℕ) (q : ℕ) → uleb_counted_at s p 16 ≡ gives x q → length s - q < length s - p
    named_less x q e = turned_less t.turned h (unsigned_known s p 16 x q e)

    pub named_stop : (k : ℕ) → uleb_counted_at s p 16 ≡ refused k → refused k ≡ noted (any_padded s (form_numbers s f at)) (final_form s f at)
    named_stop k e = rw (← turned_stop t.turned h (unsigned_refused s p 16 k e))

  pub named_end : (g ≡ 0x16 → ⊥) → gives (record { value = g; padded = b }) p ≡ noted (any_padded s (form_numbers s f at)) (final_form s f at)
  unfolding any_padded
  named_end h = rw (← turned_end t.turned h, t.marks, forms_plain s g p h, or-false b)

pub ruleset named_laws = (named_begun, named_less, named_stop, named_end)

-- a value by its final form g, and whether a number that names g or its own is padded
module _ (s : List ℕ) (start : ℕ) (c : Encoding) (e : RunTimeEndian) (x : Specification) (at : ℕ) (g p : ℕ) (b : Bool) (w : Row)
    (f : gives (record { value = g; padded = b }) p ≡ noted (any_padded s (form_numbers s x.form at)) (final_form s x.form at)) (is : w ≡ row g) where
  pub form_noted : (n : Numbers) (d : Bool) (q : ℕ) → gives (record { value = n; padded = d }) q ≡ noted (any_padded s (layout_numbers w.layout p)) (raw_at s start c e x w.layout p)
      → gives (record { value = record { kind = w.kind; low = n.low; high = n.high }; padded = b || d }) q ≡ noted (any_padded s (numbers_at s x.form at)) (form_at s start c e x at)
  unfolding numbers_at form_at
  form_noted n d q r =
      let u = noted_got (any_padded s (form_numbers s x.form at)) (final_form s x.form at) g b p f in
      let v = noted_got (any_padded s (layout_numbers w.layout p)) (raw_at s start c e x w.layout p) n d q r in
      rw (u.0, ← is, v.0, more_padded s (form_numbers s x.form at) (layout_numbers w.layout p), ← u.1, ← v.1)

  pub form_stopped : (k : ℕ) → refused k ≡ noted (any_padded s (layout_numbers w.layout p)) (raw_at s start c e x w.layout p) → refused k ≡ noted (any_padded s (numbers_at s x.form at)) (form_at s start c e x at)
  unfolding form_at
  form_stopped k r =
      let u = noted_got (any_padded s (form_numbers s x.form at)) (final_form s x.form at) g b p f in
      rw (u.0, ← is, noted_refused (any_padded s (layout_numbers w.layout p)) (raw_at s start c e x w.layout p) k r)
