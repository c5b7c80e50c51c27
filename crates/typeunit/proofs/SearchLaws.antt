-- The search is for the first in the list.
use mathlib.Core.Bool.{true, false}
use mathlib.Core.Path.{◌≡◌, refl, ap}
use mathlib.Core.List.{List, [], ◌∷◌, ◌++◌}
use mathlib.Core.Option.{Option, none, some}
use Prim.Native.Nat.{ℕ, ◌+◌, ◌≤◌}
use borrow.Author.Tests.{eqb-true, eq-eqb}
use lib.Dec.{eqb}
use lib.ListN.{length}
use Rattle.reader.specs.Answer.{Answer, got, refused, if_some}
use Rattle.reader.specs.declared.endianity.RunTimeEndian.{RunTimeEndian}
use Rattle.reader.proofs.Answers.{cond_by}
use Rattle.unit.specs.Header.{unit_end}
use Rattle.unit.specs.Parse.{UnitSection, section_of}
use Rattle.unit.specs.Units.{next_unit, unit_list}
use Rattle.unit.specs.declared.header.UnitHeader.{UnitHeader}
use Rattle.unit.specs.declared.header.UnitType.{UnitType}
use Rattle.unit.specs.declared.header.UnitType.TheVariants.{Compilation, «Type», Partial, Skeleton, SplitCompilation, SplitType}
use Rattle.unit.specs.declared.parse.SectionId.{SectionId}
use Rattle.unit.proofs.SectionLaws.{EarlyStop, stop_early}
use Rattle.unit.proofs.UnitsLaws.{UnitIn, unit_in, list_step, list_in_place, in_its_place}
use Rattle.typeunit.specs.Search.{signature_of, carries, type_offset, first_with, found_in, unit_with}

-- ---- one header after another

-- the search from a place of the list on
abbrev pub search_from : UnitSection → List ℕ → ℕ → RunTimeEndian → ℕ → Answer UnitHeader
search_from sec s sig e at = found_in sig (unit_list sec s at e)

module _ (sec : UnitSection) (s : List ℕ) (sig : ℕ) (e : RunTimeEndian) (at : ℕ) where
  pub search_found : {h : UnitHeader} → (next_unit sec s at e).answer ≡ got (some h) → carries sig h ≡ true → search_from sec s sig e at ≡ got h
  search_found q c = rw (list_step sec s at e, q, c)

  pub search_on : {h : UnitHeader} → (next_unit sec s at e).answer ≡ got (some h) → carries sig h ≡ false → search_from sec s sig e at ≡ search_from sec s sig e (next_unit sec s at e).offset
  search_on q c = rw (list_step sec s at e, q, c)

  pub search_none : (next_unit sec s at e).answer ≡ got none → search_from sec s sig e at ≡ refused 22
  search_none q = rw (list_step sec s at e, q)

  pub search_refused : {n : ℕ} → (next_unit sec s at e).answer ≡ refused n → search_from sec s sig e at ≡ refused n
  search_refused q = rw (list_step sec s at e, q)

pub ruleset search_steps = (search_found, search_on, search_none, search_refused)

-- behind a header the list goes on in the section
pub list_inside : (sec : UnitSection) (s : List ℕ) (at : ℕ) (e : RunTimeEndian) {h : UnitHeader} → (next_unit sec s at e).answer ≡ got (some h) → (next_unit sec s at e).offset ≤ length s
list_inside sec s at e q = (unit_in sec s at e q).there

-- ---- which units carry a signature: those of type 2 and 6, and no others

pub data Carried (sig : ℕ) : UnitType → Type 0 where
  type : (offset : ℕ) → Carried sig («Type» sig offset)
  split : (offset : ℕ) → Carried sig (SplitType sig offset)

pub carries_is : (sig : ℕ) (h : UnitHeader) → carries sig h ≡ true → Carried sig h.unit_type
unfolding carries
carries_is sig h = by h.unit_type
  where
    by : (t : UnitType) → if_some (signature_of t) false (λ x. eqb x.signature sig) ≡ true → Carried sig t
    by («Type» s o) q = rw (eqb-true s sig q) (type o)
    by (SplitType s o) q = rw (eqb-true s sig q) (split o)
    by Compilation q = absurd (cc)
    by Partial q = absurd (cc)
    by (Skeleton i) q = absurd (cc)
    by (SplitCompilation i) q = absurd (cc)

pub is_carries : (sig : ℕ) (h : UnitHeader) → Carried sig h.unit_type → carries sig h ≡ true
unfolding carries
is_carries sig h = by h.unit_type
  where
    by : (t : UnitType) → Carried sig t → if_some (signature_of t) false (λ x. eqb x.signature sig) ≡ true
    by _ (type o) = eq-eqb sig sig refl
    by _ (split o) = eq-eqb sig sig refl

-- and the type's offset is the word beside it
pub offset_is : (h : UnitHeader) {s o : ℕ} → h.unit_type ≡ «Type» s o → type_offset h ≡ o
unfolding type_offset
offset_is h q = rw q

pub split_offset_is : (h : UnitHeader) {s o : ℕ} → h.unit_type ≡ SplitType s o → type_offset h ≡ o
unfolding type_offset
split_offset_is h q = rw q

-- ---- the first in the list

-- none of some units carries the signature
abbrev pub NoneWith : ℕ → List UnitHeader → Type 0
NoneWith sig [] = Unit {0}
NoneWith sig (h ∷ l) = (carries sig h ≡ false) × NoneWith sig l

-- a unit of a list that carries it, and none before it does
pub record First (sig : ℕ) (l : List UnitHeader) (h : UnitHeader) : Type 0 where
  pub before : List UnitHeader
  pub behind : List UnitHeader
  pub list_is : l ≡ before ++ (h ∷ behind)
  pub others : NoneWith sig before
  pub matches : carries sig h ≡ true

data Sought (sig : ℕ) (l : List UnitHeader) : Option UnitHeader → Type 0 where
  there : (h : UnitHeader) → First sig l h → Sought sig l (some h)
  absent : NoneWith sig l → Sought sig l none

sought : (sig : ℕ) (l : List UnitHeader) → Sought sig l (first_with sig l)
sought sig [] = absent tt
sought sig (h ∷ l) = cond_by (Sought sig (h ∷ l)) (carries sig h) (some h) (first_with sig l) here (λ q. further q (sought sig l))
  where
    here : carries sig h ≡ true → Sought sig (h ∷ l) (some h)
    here q = there h (record { before = []; behind = l; list_is = refl; others = tt; matches = q })

    further : {o : Option UnitHeader} → carries sig h ≡ false → Sought sig l o → Sought sig (h ∷ l) o
    further q (there x f) =
        there x (record { before = h ∷ f.before; behind = f.behind; list_is = ap (λ (y : List UnitHeader). h ∷ y) f.list_is; others = (q, f.others); matches = f.matches })
    further q (absent n) = absent (q, n)

none_first : (sig : ℕ) (l : List UnitHeader) → NoneWith sig l → first_with sig l ≡ none
none_first sig [] n = refl
none_first sig (h ∷ l) n = rw n.0 (none_first sig l n.1)

first_first : (sig : ℕ) (before behind : List UnitHeader) (h : UnitHeader) → NoneWith sig before → carries sig h ≡ true → first_with sig (before ++ (h ∷ behind)) ≡ some h
first_first sig [] behind h n q = rw q
first_first sig (x ∷ before) behind h n q = rw n.0 (first_first sig before behind h n.1 q)

module _ (id : SectionId) (s : List ℕ) (sig : ℕ) (e : RunTimeEndian) where
  abbrev headers : List UnitHeader
  headers = (unit_list (section_of id) s 0 e).headers

  abbrev stop : Option ℕ
  stop = (unit_list (section_of id) s 0 e).stop

  -- a unit is found exactly if it is the first in the list
  pub first_found : {h : UnitHeader} → First sig headers h → unit_with (section_of id) s sig e ≡ got h
  unfolding unit_with
  first_found {h} f = rw (f.list_is, first_first sig f.before f.behind h f.others f.matches)

  -- 22 exactly if all headers read and none matches
  pub none_missing : NoneWith sig headers → stop ≡ none → unit_with (section_of id) s sig e ≡ refused 22
  unfolding unit_with
  none_missing n q = rw (none_first sig headers n, q)

  -- a header's refusal exactly if it comes before any match
  pub none_refused : {k : ℕ} → NoneWith sig headers → stop ≡ some k → unit_with (section_of id) s sig e ≡ refused k
  unfolding unit_with
  none_refused n q = rw (none_first sig headers n, q)

  -- the three ways there are
  pub data Searched : Answer UnitHeader → Type 0 where
    found : (h : UnitHeader) → First sig headers h → Searched (got h)
    missing : NoneWith sig headers → stop ≡ none → Searched (refused 22)
    stopped : (k : ℕ) → NoneWith sig headers → stop ≡ some k → k ≤ 8 → Searched (refused k)

  pub searched : Searched (unit_with (section_of id) s sig e)
  unfolding unit_with
  searched = by (first_with sig headers) (sought sig headers)
    where
      ended : NoneWith sig headers → (o : Option ℕ) → stop ≡ o → EarlyStop o → Searched (refused (if_some o 22 (λ n. n)))
      ended n none q z = missing n q
      ended n (some k) q z = stopped k n q z

      by : (o : Option UnitHeader) → Sought sig headers o → Searched (if_some o (refused (if_some stop 22 (λ n. n))) (λ h. got h))
      by _ (there h f) = found h f
      by _ (absent n) = ended n stop refl (stop_early id s 0 e)

  -- a found unit stands in the list: its header is the one at its offset, and it lies in the section
  pub found_in_lem : {h : UnitHeader} → unit_with (section_of id) s sig e ≡ got h → UnitIn (section_of id) s e h.offset h (h.offset + unit_end h)
  found_in_lem {h} = by (unit_with (section_of id) s sig e) searched
    where
      placed : (x : UnitHeader) → First sig headers x → UnitIn (section_of id) s e x.offset x (x.offset + unit_end x)
      placed x f = in_its_place (section_of id) s e 0 f.before f.behind x (rw f.list_is at (list_in_place (section_of id) s e 0))

      by : (r : Answer UnitHeader) → Searched r → r ≡ got h → UnitIn (section_of id) s e h.offset h (h.offset + unit_end h)
      by _ (found x f) q = let y : h ≡ x = cc in rw y (placed x f)
      by _ (missing n z) q = absurd (cc)
      by _ (stopped k n z b) q = absurd (cc)
