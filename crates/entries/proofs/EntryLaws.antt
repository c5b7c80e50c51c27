-- Laws of attributes looked for by name.
use mathlib.Core.Bool.{Bool, true, false, cond, ◌&&◌}
use mathlib.Core.Path.{refl, ap, ◌≡◌}
use mathlib.Core.List.{List, [], map, ◌∷◌}
use mathlib.Core.Option.{none, some}
use Prim.Native.Nat.{ℕ, zero, suc}
use borrow.Author.Tests.{eq-eqb, ne_eqb}
use lib.Dec.{eqb, leb}
use lib.IntN.{ℤ, pos, negsuc}
use lib.ListN.{take}
use Rattle.reader.specs.Answer.{if_some}
use Rattle.attribute.specs.Views.{view_attribute}
use Rattle.attribute.specs.declared.value.Attribute as declared_attribute
use Rattle.entries.specs.Entry.{Entry, named, sibling_of, jump_of}
use Rattle.entries.specs.Read.{same_depth}
use Rattle.std.specs.Prelude.{Some}
use Rattle.std.specs.List.{find}
use Rattle.entries.specs.Views.{view_named}

-- a search among the attributes that a count lets in finds the first of the name
pub named_find : (n count : ℕ) (attrs : List declared_attribute.Attribute) → view_named (find (λ a. eqb a.name n) (take count attrs)) ≡ named n (take count (map view_attribute attrs))
named_find n zero attrs = refl
named_find n (suc k) [] = refl
named_find n (suc k) (x ∷ xs) = by (eqb x.name n) (named_find n k xs)
  where
    by : (b : Bool) → view_named (find (λ a. eqb a.name n) (take k xs)) ≡ named n (take k (map view_attribute xs)) → view_named (cond b (Some x) (find (λ a. eqb a.name n) (take k xs))) ≡ cond b (some (view_attribute x)) (named n (take k (map view_attribute xs)))
    by true e = refl
    by false e = e

-- the jump of an entry with and without children
pub jump_with : (e : Entry) (next end : ℕ) → e.children ≡ true → jump_of e next end ≡ if_some (sibling_of e) none (λ t. cond (leb next t && leb t end) (some t) none)
unfolding jump_of
jump_with e next end h = ap (λ (b : Bool). cond b (if_some (sibling_of e) none (λ t. cond (leb next t && leb t end) (some t) none)) none) h

pub jump_without : (e : Entry) (next end : ℕ) → e.children ≡ false → jump_of e next end ≡ none
unfolding jump_of
jump_without e next end h = ap (λ (b : Bool). cond b (if_some (sibling_of e) none (λ t. cond (leb next t && leb t end) (some t) none)) none) h

-- two depths are the same where they are equal
same_self : (a : ℤ) → same_depth a a ≡ true
same_self (pos n) = eq-eqb n n refl
same_self (negsuc n) = eq-eqb n n refl

pub same_is : (a b : ℤ) → a ≡ b → same_depth a b ≡ true
same_is a b e = rw e (same_self b)

pub same_not : (a b : ℤ) → (a ≡ b → ⊥) → same_depth a b ≡ false
same_not (pos m) (pos n) h = ne_eqb m n (λ e. h (ap pos e))
same_not (pos m) (negsuc n) h = refl
same_not (negsuc m) (pos n) h = refl
same_not (negsuc m) (negsuc n) h = ne_eqb m n (λ e. h (ap negsuc e))
