-- Laws of reading a header.
use mathlib.Core.Bool.{cond}
use mathlib.Core.Path.{◌≡◌, refl, sym, ap}
use mathlib.Core.List.{List}
use Prim.Native.Nat.{ℕ, ◌+◌, ◌≤◌, ◌<◌}
use native.Mathlib.Omega.{arith}
use borrow.Author.Tests.{eqb-true, leb-true}
use lib.Dec.{eqb, leb}
use lib.ListN.{length, take}
use lib.Seq.{length-take-le}
use Rattle.reader.specs.Answer.{Answer, got, refused, and_then, Read, gives, Holds}
use Rattle.reader.specs.Fields.{address_size_at, offset_at, is_address_size, word_size, initial_length_size, initial_length_at, skip_at}
use Rattle.reader.specs.declared.answer.Initial.{Initial}
use Rattle.reader.specs.Sizes.{max_section}
use Rattle.reader.specs.Words.{word_at}
use Rattle.reader.specs.declared.common.Format.{Format}
use Rattle.reader.specs.declared.endianity.RunTimeEndian.{RunTimeEndian}
use Rattle.reader.specs.declared.endianity.RunTimeEndian.TheVariants.{Little}
use Rattle.reader.proofs.Answers.{holds_then, cond_by}
use Rattle.reader.proofs.FieldLaws.{initial_in, skip_in}
use Rattle.reader.proofs.WordLaws.{WordIn, word_in}
use Rattle.unit.specs.Header.{type_number, type_size, size_of_header, unit_end}
use Rattle.unit.specs.Parse.{UnitSection, two_to_five, section_of, signature_at, type_at, older_at, typed_at, newer_at, common_at, rest_at, body_at, header_at}
use Rattle.unit.specs.declared.header.UnitHeader.{UnitHeader}
use Rattle.unit.specs.declared.header.UnitType.{UnitType}
use Rattle.unit.specs.declared.header.UnitType.TheVariants.{Compilation, «Type», Partial, Skeleton, SplitCompilation, SplitType}
use Rattle.unit.specs.declared.parse.Common.{Common}
use Rattle.unit.specs.declared.parse.SectionId.{SectionId}
use Rattle.unit.specs.declared.parse.SectionId.TheVariants as section

-- what holds of an answer holds of the value that was got
pub of_got : {A : Type 0} (P : A → Type 0) (r : Answer A) {a : A} → got a ≡ r → Holds P r → P a
of_got P r q h = rw (← q) at h

-- ---- sections

-- every section lets the versions 2 to 5 in
pub judge_is : (id : SectionId) (version : ℕ) (f : Format) → (section_of id).judge version f ≡ two_to_five version f
judge_is section.DebugInfo version f = refl
judge_is section.DebugTypes version f = refl

-- ---- where the parts of a header end

offset_in : (s : List ℕ) (at : ℕ) (f : Format) (e : RunTimeEndian) → Holds (WordIn s at (word_size f)) (offset_at s at f e)
unfolding offset_at
offset_in s at f e = word_in s at (word_size f) e

size_in : (s : List ℕ) (at : ℕ) → Holds (WordIn s at 1) (address_size_at s at)
unfolding address_size_at
size_in s at =
    holds_then (WordIn s at 1) (WordIn s at 1) (word_at s at 1 Little) _ (word_in s at 1 Little)
    (λ r h. cond_by (Holds (WordIn s at 1)) (is_address_size r.value) (got r) (refused 7) (λ _. h) (λ _. tt))

-- n bytes were read, and the width is a byte
pub record CommonIn (s : List ℕ) (at n : ℕ) (c : Read Common) : Type 0 where
  pub byte : c.value.width < 256
  pub next : c.next ≡ at + n
  pub within : c.next ≤ length s

older_in : (s : List ℕ) (at older : ℕ) (f : Format) (e : RunTimeEndian) → Holds (CommonIn s at (word_size f + 1)) (older_at s at older f e)
unfolding older_at
older_in s at older f e =
    holds_then (WordIn s at (word_size f)) (CommonIn s at (word_size f + 1)) (offset_at s at f e) _ (offset_in s at f e)
    (λ a h.
    holds_then (WordIn s a.next 1) (CommonIn s at (word_size f + 1)) (address_size_at s a.next) _ (size_in s a.next)
    (λ w k. record { byte = k.below; next = omega (arith, h.next, k.next); within = omega (arith, k.next, k.there) }))

typed_in : (s : List ℕ) (at number : ℕ) (f : Format) (e : RunTimeEndian) → Holds (CommonIn s at (word_size f + 1)) (typed_at s at number f e)
unfolding typed_at
typed_in s at number f e =
    holds_then (WordIn s at 1) (CommonIn s at (word_size f + 1)) (address_size_at s at) _ (size_in s at)
    (λ w h.
    holds_then (WordIn s w.next (word_size f)) (CommonIn s at (word_size f + 1)) (offset_at s w.next f e) _ (offset_in s w.next f e)
    (λ a k. record { byte = h.below; next = omega (arith, h.next, k.next); within = omega (arith, k.next, k.there) }))

newer_in : (s : List ℕ) (at : ℕ) (f : Format) (e : RunTimeEndian) → Holds (CommonIn s at (word_size f + 2)) (newer_at s at f e)
unfolding newer_at
newer_in s at f e =
    holds_then (WordIn s at 1) (CommonIn s at (word_size f + 2)) (word_at s at 1 Little) _ (word_in s at 1 Little)
    (λ t h. further t h (typed_at s t.next t.value f e) (typed_in s t.next t.value f e))
  where
    further : (t : Read ℕ) → WordIn s at 1 t → (r : Answer (Read Common)) → Holds (CommonIn s t.next (word_size f + 1)) r → Holds (CommonIn s at (word_size f + 2)) r
    further t h (got c) k = record { byte = k.byte; next = omega (arith, h.next, k.next); within = k.within }
    further t h (refused n) k = tt

-- version 5 has the type's byte more
abbrev pub common_size : ℕ → Format → ℕ
common_size version f = word_size f + 1 + cond (eqb version 5) 1 0

pub common_in : (sec : UnitSection) (s : List ℕ) (at version : ℕ) (f : Format) (e : RunTimeEndian) → Holds (CommonIn s at (common_size version f)) (common_at sec s at version f e)
unfolding common_at
common_in sec s at version f e =
    cond_by (Holds (CommonIn s at (common_size version f))) (eqb (sec.judge version f) 0) _ _
    (λ _.
    cond_by (Holds (CommonIn s at (common_size version f))) (eqb version 5) _ _
    (λ h. let k : word_size f + 1 + 1 ≡ word_size f + 2 = omega arith in rw (h, k) (newer_in s at f e))
    (λ h. let k : word_size f + 1 + 0 ≡ word_size f + 1 = omega arith in rw (h, k) (older_in s at sec.older f e)))
    (λ _. tt)

-- a type's own bytes
pub record TypeIn (s : List ℕ) (at w : ℕ) (t : Read UnitType) : Type 0 where
  pub next : t.next ≡ at + type_size t.value w
  pub within : at ≤ length s → t.next ≤ length s

signature_in : (s : List ℕ) (at : ℕ) (f : Format) (e : RunTimeEndian) → Holds (λ r. (r.next ≡ at + (8 + word_size f)) × (r.next ≤ length s)) (signature_at s at f e)
unfolding signature_at
signature_in s at f e =
    holds_then (WordIn s at 8) (λ r. (r.next ≡ at + (8 + word_size f)) × (r.next ≤ length s)) (word_at s at 8 e) _ (word_in s at 8 e)
    (λ x h.
    holds_then (WordIn s x.next (word_size f)) (λ r. (r.next ≡ at + (8 + word_size f)) × (r.next ≤ length s)) (offset_at s x.next f e) _ (offset_in s x.next f e)
    (λ y k. (omega (arith, h.next, k.next), omega (arith, k.next, k.there))))

pub type_in : (s : List ℕ) (at n : ℕ) (f : Format) (e : RunTimeEndian) → Holds (TypeIn s at (word_size f)) (type_at s at n f e)
unfolding type_at
type_in s at n f e =
    cond_by P (eqb n 1) _ _ (λ _. none Compilation refl)
    (λ _. cond_by P (eqb n 2) _ _ (λ _. signed (λ x y. «Type» x y) (λ x y. refl))
    (λ _. cond_by P (eqb n 3) _ _ (λ _. none Partial refl)
    (λ _. cond_by P (eqb n 4) _ _ (λ _. dwo Skeleton (λ x. refl))
    (λ _. cond_by P (eqb n 5) _ _ (λ _. dwo SplitCompilation (λ x. refl))
    (λ _. cond_by P (eqb n 6) _ _ (λ _. signed (λ x y. SplitType x y) (λ x y. refl)) (λ _. tt))))))
  where
    P : Answer (Read UnitType) → Type 0
    P r = Holds (TypeIn s at (word_size f)) r

    none : (t : UnitType) → type_size t (word_size f) ≡ 0 → P (gives t at)
    none t z = record { next = omega (arith, z); within = λ h. h }

    signed : (make : ℕ → ℕ → UnitType) → ((x y : ℕ) → type_size (make x y) (word_size f) ≡ 8 + word_size f)
        → P (and_then (signature_at s at f e) (λ r. gives (make r.value.signature r.value.offset) r.next))
    signed make z =
        holds_then (λ r. (r.next ≡ at + (8 + word_size f)) × (r.next ≤ length s)) (TypeIn s at (word_size f)) (signature_at s at f e) _ (signature_in s at f e)
        (λ r h. record { next = rw (z r.value.signature r.value.offset) h.0; within = λ _. h.1 })

    dwo : (make : ℕ → UnitType) → ((x : ℕ) → type_size (make x) (word_size f) ≡ 8) → P (and_then (word_at s at 8 e) (λ r. gives (make r.value) r.next))
    dwo make z =
        holds_then (WordIn s at 8) (TypeIn s at (word_size f)) (word_at s at 8 e) _ (word_in s at 8 e)
        (λ r h. record { next = rw (z r.value) h.next; within = λ _. omega (arith, h.next, h.there) })

-- a type is the one that its number says
pub type_numbered : (s : List ℕ) (at n : ℕ) (f : Format) (e : RunTimeEndian) → Holds (λ t. type_number t.value ≡ n) (type_at s at n f e)
unfolding type_at
type_numbered s at n f e =
    cond_by P (eqb n 1) _ _ (λ h. sym (eqb-true n 1 h))
    (λ _. cond_by P (eqb n 2) _ _ (λ h. then (signature_at s at f e) (λ r. «Type» r.value.signature r.value.offset) (λ r. sym (eqb-true n 2 h)))
    (λ _. cond_by P (eqb n 3) _ _ (λ h. sym (eqb-true n 3 h))
    (λ _. cond_by P (eqb n 4) _ _ (λ h. then (word_at s at 8 e) (λ r. Skeleton r.value) (λ r. sym (eqb-true n 4 h)))
    (λ _. cond_by P (eqb n 5) _ _ (λ h. then (word_at s at 8 e) (λ r. SplitCompilation r.value) (λ r. sym (eqb-true n 5 h)))
    (λ _. cond_by P (eqb n 6) _ _ (λ h. then (signature_at s at f e) (λ r. SplitType r.value.signature r.value.offset) (λ r. sym (eqb-true n 6 h))) (λ _. tt))))))
  where
    P : Answer (Read UnitType) → Type 0
    P r = Holds (λ t. type_number t.value ≡ n) r

    then : {A : Type 0} (r : Answer (Read A)) (make : Read A → UnitType) → ((x : Read A) → type_number (make x) ≡ n) → P (and_then r (λ x. gives (make x) x.next))
    then (got x) make h = h x
    then (refused k) make h = tt

-- ---- a whole header

-- a header read at `at`: the section keeps the sizes, the entries start after the header's size, inside of the unit, and the unit lies in the section
pub record HeaderIn (s : List ℕ) (at : ℕ) (r : Read UnitHeader) : Type 0 where
  pub short : length s ≤ max_section
  pub offset : r.value.offset ≡ at
  pub start : r.next ≡ at + size_of_header r.value
  pub inside : r.next ≤ at + unit_end r.value
  pub there : at + unit_end r.value ≤ length s

record BodyIn (s : List ℕ) (at : ℕ) (l : Initial) (p : ℕ) (r : Read UnitHeader) : Type 0 where
  offset : r.value.offset ≡ at
  unit_length : r.value.unit_length ≡ l.unit_length
  format : r.value.encoding.format ≡ l.format
  start : initial_length_size l.format + r.next ≡ p + size_of_header r.value
  within : r.next ≤ length s

body_in : (sec : UnitSection) (s : List ℕ) (at : ℕ) (l : Initial) (p : ℕ) (e : RunTimeEndian) → Holds (BodyIn s at l p) (body_at sec s at l p e)
unfolding body_at rest_at size_of_header
body_in sec s at l p e =
    holds_then (WordIn s p 2) (BodyIn s at l p) (word_at s p 2 e) _ (word_in s p 2 e)
    (λ v h.
    holds_then (CommonIn s v.next (common_size v.value l.format)) (BodyIn s at l p) (common_at sec s v.next v.value l.format e) _
    (common_in sec s v.next v.value l.format e)
    (λ c k.
    holds_then (TypeIn s c.next (word_size l.format)) (BodyIn s at l p) (type_at s c.next c.value.number l.format e) _
    (type_in s c.next c.value.number l.format e)
    (λ t m.
    record {
      offset = refl;
      unit_length = refl;
      format = refl;
      start = omega (arith, h.next, k.next, m.next);
      within = m.within k.within;
    })))

pub header_in : (sec : UnitSection) (s : List ℕ) (at : ℕ) (e : RunTimeEndian) → Holds (HeaderIn s at) (header_at sec s at e)
unfolding header_at
header_in sec s at e =
    cond_by (Holds (HeaderIn s at)) (leb (length s) max_section) _ (refused 1)
    (λ z.
    holds_then (λ l. (l.next ≡ at + initial_length_size l.value.format) × (l.next ≤ length s)) (HeaderIn s at) (initial_length_at s at e) _ (initial_in s at e)
    (λ l h.
    holds_then (λ p. (p ≡ l.next + l.value.unit_length) × (p ≤ length s)) (HeaderIn s at) (skip_at s l.next l.value.unit_length) _
    (skip_in s l.next l.value.unit_length)
    (λ end k. whole (leb-true (length s) max_section z) l h end k (body_at sec (take end s) at l.value l.next e) (body_in sec (take end s) at l.value l.next e))))
    (λ _. tt)
  where
    whole : length s ≤ max_section → (l : Read Initial) → (l.next ≡ at + initial_length_size l.value.format) × (l.next ≤ length s)
        → (end : ℕ) → (end ≡ l.next + l.value.unit_length) × (end ≤ length s)
        → (r : Answer (Read UnitHeader)) → Holds (BodyIn (take end s) at l.value l.next) r → Holds (HeaderIn s at) r
    whole z l h end k (got r) b =
        let f : initial_length_size r.value.encoding.format ≡ initial_length_size l.value.format = ap initial_length_size b.format in
        let t = length-take-le end s k.1 in
        record {
          short = z;
          offset = b.offset;
          start = omega (arith, b.start, h.0);
          inside = omega (arith, b.within, b.unit_length, h.0, k.0);
          there = omega (arith, b.unit_length, h.0, k.0, k.1);
        }
    whole z l h end k (refused n) b = tt

-- so the unit of a header that was read ends in the section
pub header_there : (sec : UnitSection) (s : List ℕ) (at : ℕ) (e : RunTimeEndian) {h : UnitHeader} {p : ℕ} → gives h p ≡ header_at sec s at e → at + unit_end h ≤ length s
header_there sec s at e q = (of_got _ _ q (header_in sec s at e)).there
