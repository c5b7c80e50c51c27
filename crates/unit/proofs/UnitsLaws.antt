-- Laws of the list of units.
use mathlib.Core.Bool.{◌&&◌}
use mathlib.Core.Path.{◌≡◌, refl, sym, ap, subst, ◌∙◌}
use mathlib.Core.List.{List, [], ◌∷◌, ◌++◌}
use mathlib.Core.Option.{Option, none, some}
use Prim.Native.Nat.{ℕ, zero, suc, ◌+◌, ◌-◌, ◌≤◌, ◌<◌}
use native.Mathlib.Omega.{arith}
use lib.Dec.{eqb, leb}
use lib.ListN.{length}
use Rattle.reader.specs.Answer.{Answer, got, refused, Read, gives, Holds}
use Rattle.reader.specs.Sizes.{max_section}
use Rattle.reader.specs.declared.endianity.RunTimeEndian.{RunTimeEndian}
use Rattle.reader.proofs.Answers.{cond_by}
use Rattle.reader.proofs.Counts.{without_count}
use Rattle.unit.specs.Header.{size_of_header, unit_end}
use Rattle.unit.specs.Parse.{UnitSection, header_at}
use Rattle.unit.specs.Units.{Advanced, advanced, next_unit, UnitList, listed_by, list_within, unit_list}
use Rattle.unit.specs.declared.header.UnitHeader.{UnitHeader}
use Rattle.unit.proofs.ParseLaws.{HeaderIn, header_in}

-- a unit of the list at a place: its header is the one there, it lies in the section, and the list goes on behind it
pub record UnitIn (sec : UnitSection) (s : List ℕ) (e : RunTimeEndian) (at : ℕ) (h : UnitHeader) (next : ℕ) : Type 0 where
  pub read : header_at sec s at e ≡ gives h (at + size_of_header h)
  pub offset : h.offset ≡ at
  pub short : length s ≤ max_section
  pub next_is : next ≡ at + unit_end h
  pub there : next ≤ length s
  pub header : size_of_header h ≤ unit_end h

module _ (sec : UnitSection) (s : List ℕ) (e : RunTimeEndian) (at : ℕ) where
  abbrev Given : ℕ → Option UnitHeader → Type 0
  Given next none = Unit {0}
  Given next (some h) = UnitIn sec s e at h next

  abbrev Listed : Advanced → Type 0
  Listed r = Holds (Given r.offset) r.answer

  next_in : Listed (next_unit sec s at e)
  unfolding next_unit
  next_in =
      cond_by Listed (leb (length s) max_section && leb at (length s)) _ _
      (λ _. cond_by Listed (eqb (length s) at) _ _ (λ _. tt) (λ _. of_header (header_at sec s at e) refl (header_in sec s at e)))
      (λ _. tt)
    where
      of_header : (r : Answer (Read UnitHeader)) → header_at sec s at e ≡ r → Holds (HeaderIn s at) r → Listed (advanced s at r)
      of_header (got r) q z =
          record {
            read = q ∙ ap (λ (p : ℕ). gives r.value p) z.start;
            offset = z.offset;
            short = z.short;
            next_is = refl;
            there = z.there;
            header = omega (arith, z.start, z.inside);
          }
      of_header (refused n) q z = tt

pub unit_in : (sec : UnitSection) (s : List ℕ) (at : ℕ) (e : RunTimeEndian) {h : UnitHeader} → (next_unit sec s at e).answer ≡ got (some h) → UnitIn sec s e at h (next_unit sec s at e).offset
unit_in sec s at e q = rw q at (next_in sec s e at)

pub size_some : (h : UnitHeader) → 0 < size_of_header h
unfolding size_of_header
size_some h = omega arith

-- the list goes on
pub unit_further : (sec : UnitSection) (s : List ℕ) (at : ℕ) (e : RunTimeEndian) {h : UnitHeader} → (next_unit sec s at e).answer ≡ got (some h) → at < (next_unit sec s at e).offset
unit_further sec s at e {h} q = let z = unit_in sec s at e q in omega (arith, z.next_is, z.header, size_some h)

-- the definition without its count
pub list_step : (sec : UnitSection) (s : List ℕ) (at : ℕ) (e : RunTimeEndian) → unit_list sec s at e ≡ listed_by (next_unit sec s at e).answer (unit_list sec s (next_unit sec s at e).offset e)
unfolding unit_list list_within
list_step sec s at e =
    without_count (λ (a : ℕ). suc (length s - a)) (λ f a. listed_by (next_unit sec s a e).answer (f (next_unit sec s a e).offset)) (list_within sec s e) (λ n a. refl)
    (λ f g a h. same f g a (next_unit sec s a e).answer refl h)
    (λ f a q. absurd (omega (arith, q))) at
  where
    same : (f g : ℕ → UnitList) (a : ℕ) (r : Answer (Option UnitHeader)) → (next_unit sec s a e).answer ≡ r → ((b : ℕ) → suc (length s - b) < suc (length s - a) → f b ≡ g b)
        → listed_by r (f (next_unit sec s a e).offset) ≡ listed_by r (g (next_unit sec s a e).offset)
    same f g a (got none) q h = refl
    same f g a (got (some u)) q h =
        ap (listed_by (got (some u))) (h (next_unit sec s a e).offset (omega (arith, unit_further sec s a e q, (unit_in sec s a e q).there)))
    same f g a (refused n) q h = refl

-- ---- the list as a whole: from a place on, each unit starts where the one before it ends

abbrev pub InPlace : UnitSection → List ℕ → RunTimeEndian → ℕ → List UnitHeader → Type 0
InPlace sec s e at [] = Unit {0}
InPlace sec s e at (h ∷ l) = UnitIn sec s e at h (at + unit_end h) × InPlace sec s e (at + unit_end h) l

module _ (sec : UnitSection) (s : List ℕ) (e : RunTimeEndian) where
  pub list_in_place : (at : ℕ) → InPlace sec s e at (unit_list sec s at e).headers
  unfolding unit_list list_within
  list_in_place at = go (suc (length s - at)) at
    where
      by_answer : (n a : ℕ) (r : Answer (Option UnitHeader)) → (next_unit sec s a e).answer ≡ r
          → InPlace sec s e (next_unit sec s a e).offset (list_within sec s e n (next_unit sec s a e).offset).headers
          → InPlace sec s e a (listed_by r (list_within sec s e n (next_unit sec s a e).offset)).headers
      by_answer n a (got none) q more = tt
      by_answer n a (got (some h)) q more =
          let z = unit_in sec s a e q in
          (subst (UnitIn sec s e a h) z.next_is z, subst (λ (p : ℕ). InPlace sec s e p (list_within sec s e n (next_unit sec s a e).offset).headers) z.next_is more)
      by_answer n a (refused m) q more = tt

      go : (n a : ℕ) → InPlace sec s e a (list_within sec s e n a).headers
      go zero a = tt
      go (suc n) a = by_answer n a (next_unit sec s a e).answer refl (go n (next_unit sec s a e).offset)

  -- any unit among them, at its own offset
  pub in_its_place : (at : ℕ) (before behind : List UnitHeader) (h : UnitHeader) → InPlace sec s e at (before ++ (h ∷ behind)) → UnitIn sec s e h.offset h (h.offset + unit_end h)
  in_its_place at [] behind h p = subst (λ (a : ℕ). UnitIn sec s e a h (a + unit_end h)) (sym p.0.offset) p.0
  in_its_place at (x ∷ before) behind h p = in_its_place (at + unit_end x) before behind h p.1
