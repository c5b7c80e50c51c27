-- Headers of one section and of another: what differs, and with which numbers both refuse.
use mathlib.Core.Bool.{Bool, cond, ◌&&◌}
use mathlib.Core.Path.{◌≡◌, refl, ◌∙◌}
use mathlib.Core.List.{List}
use mathlib.Core.Option.{Option, none, some}
use Prim.Native.Nat.{ℕ, zero, suc, ◌+◌, ◌-◌, ◌≤◌}
use native.Mathlib.Omega.{arith}
use borrow.Author.Tests.{eqb-true}
use lib.Dec.{eqb, leb, ltb}
use lib.ListN.{length, take}
use Rattle.reader.specs.Answer.{Answer, got, refused, and_then, Read, Holds}
use Rattle.reader.specs.Fields.{address_size_at, offset_at, is_address_size, word_size, long_length_at, initial_length_at, skip_at}
use Rattle.reader.specs.declared.answer.Initial.{Initial}
use Rattle.reader.specs.Sizes.{max_section}
use Rattle.reader.specs.Words.{word_at}
use Rattle.reader.specs.declared.common.Format.{Format}
use Rattle.reader.specs.declared.endianity.RunTimeEndian.{RunTimeEndian}
use Rattle.reader.specs.declared.endianity.RunTimeEndian.TheVariants.{Little}
use Rattle.reader.proofs.Answers.{holds_then, cond_by}
use Rattle.unit.specs.Header.{type_number}
use Rattle.unit.specs.Parse.{UnitSection, section_of, signature_at, type_at, older_at, typed_at, newer_at, common_at, rest_at, body_at, header_at}
use Rattle.unit.specs.Units.{Advanced, advanced, next_unit, listed_by, list_within, unit_list}
use Rattle.unit.specs.declared.header.UnitHeader.{UnitHeader}
use Rattle.unit.specs.declared.parse.Common.{Common}
use Rattle.unit.specs.declared.parse.SectionId.{SectionId}
use Rattle.unit.specs.declared.parse.SectionId.TheVariants as section
use Rattle.unit.proofs.ParseLaws.{judge_is, type_numbered}

-- ---- versions

-- 7.5.1: the version of the header at a place, where there is one
abbrev pub version_at : List ℕ → ℕ → RunTimeEndian → Answer ℕ
version_at s at e =
    and_then (initial_length_at s at e)
    (λ l. and_then (skip_at s l.next l.value.unit_length) (λ end. and_then (word_at (take end s) l.next 2 e) (λ v. got v.value)))

newer_common : (id : SectionId) (s : List ℕ) (at : ℕ) (f : Format) (e : RunTimeEndian) → common_at (section_of id) s at 5 f e ≡ newer_at s at f e
unfolding common_at
newer_common id s at f e = rw (judge_is id 5 f)

newer_rest : (id : SectionId) (s : List ℕ) (at : ℕ) (l : Initial) (p : ℕ) (e : RunTimeEndian)
    → rest_at (section_of id) s at l 5 p e ≡ rest_at (section_of section.DebugInfo) s at l 5 p e
unfolding rest_at
newer_rest id s at l p e = rw (newer_common id s p l.format e, newer_common section.DebugInfo s p l.format e)

-- version 5 goes by its own type: every section answers as .debug_info, refusals too
pub newer_alike : (id : SectionId) (s : List ℕ) (at : ℕ) (e : RunTimeEndian) → Holds (λ v. v ≡ 5) (version_at s at e) → header_at (section_of id) s at e ≡ header_at (section_of section.DebugInfo) s at e
unfolding header_at body_at
newer_alike id s at e h = cond_same (leb (length s) max_section) (by_length (initial_length_at s at e) h)
  where
    bodies : SectionId → Read Initial → ℕ → Answer (Read UnitHeader)
    bodies x l end = and_then (word_at (take end s) l.next 2 e) (λ v. rest_at (section_of x) (take end s) at l.value v.value v.next e)

    cond_same : (b : Bool) {x y : Answer (Read UnitHeader)} → x ≡ y → cond b x (refused 1) ≡ cond b y (refused 1)
    cond_same b q = rw q

    by_version : (l : Read Initial) (end : ℕ) (v : Answer (Read ℕ)) → Holds (λ v. v ≡ 5) (and_then v (λ v. got v.value))
        → and_then v (λ v. rest_at (section_of id) (take end s) at l.value v.value v.next e)
        ≡ and_then v (λ v. rest_at (section_of section.DebugInfo) (take end s) at l.value v.value v.next e)
    by_version l end (got v) k = rw k (newer_rest id (take end s) at l.value v.next e)
    by_version l end (refused n) k = refl

    by_end : (l : Read Initial) (r : Answer ℕ) → Holds (λ v. v ≡ 5) (and_then r (λ end. and_then (word_at (take end s) l.next 2 e) (λ v. got v.value)))
        → and_then r (bodies id l) ≡ and_then r (bodies section.DebugInfo l)
    by_end l (got end) k = by_version l end (word_at (take end s) l.next 2 e) k
    by_end l (refused n) k = refl

    by_length : (r : Answer (Read Initial))
        → Holds (λ v. v ≡ 5) (and_then r (λ l. and_then (skip_at s l.next l.value.unit_length) (λ end. and_then (word_at (take end s) l.next 2 e) (λ v. got v.value))))
        → and_then r (λ l. and_then (skip_at s l.next l.value.unit_length) (bodies id l))
        ≡ and_then r (λ l. and_then (skip_at s l.next l.value.unit_length) (bodies section.DebugInfo l))
    by_length (got l) k = by_end l (skip_at s l.next l.value.unit_length) k
    by_length (refused n) k = refl

-- before version 5 a unit has the one type of its section
abbrev pub OlderType : UnitSection → Read UnitHeader → Type 0
OlderType sec r = (r.value.encoding.version ≡ 5 → ⊥) → type_number r.value.unit_type ≡ sec.older

abbrev Numbered : ℕ → ℕ → Read Common → Type 0
Numbered older version c = (version ≡ 5 → ⊥) → c.value.number ≡ older

holds_any : {A : Type 0} (P : A → Type 0) (r : Answer A) → ((a : A) → P a) → Holds P r
holds_any P (got a) f = f a
holds_any P (refused n) f = tt

-- what holds of all that follows
holds_all : {A B : Type 0} (P : B → Type 0) (r : Answer A) (f : A → Answer B) → ((a : A) → Holds P (f a)) → Holds P (and_then r f)
holds_all P (got a) f k = k a
holds_all P (refused n) f k = tt

older_number : (s : List ℕ) (at older version : ℕ) (f : Format) (e : RunTimeEndian) → Holds (Numbered older version) (older_at s at older f e)
unfolding older_at
older_number s at older version f e =
    holds_all (Numbered older version) (offset_at s at f e) _ (λ a. holds_all (Numbered older version) (address_size_at s a.next) _ (λ w _. refl))

common_number : (sec : UnitSection) (s : List ℕ) (at version : ℕ) (f : Format) (e : RunTimeEndian) → Holds (Numbered sec.older version) (common_at sec s at version f e)
unfolding common_at
common_number sec s at version f e =
    cond_by (Holds (Numbered sec.older version)) (eqb (sec.judge version f) 0) _ _
    (λ _.
    cond_by (Holds (Numbered sec.older version)) (eqb version 5) _ _
    (λ h. holds_any (Numbered sec.older version) (newer_at s at f e) (λ c k. absurd (k (eqb-true version 5 h))))
    (λ _. older_number s at sec.older version f e))
    (λ _. tt)

rest_type : (sec : UnitSection) (s : List ℕ) (at : ℕ) (l : Initial) (version p : ℕ) (e : RunTimeEndian) → Holds (OlderType sec) (rest_at sec s at l version p e)
unfolding rest_at
rest_type sec s at l version p e =
    holds_then (Numbered sec.older version) (OlderType sec) (common_at sec s p version l.format e) _ (common_number sec s p version l.format e)
    (λ c h.
    holds_then (λ t. type_number t.value ≡ c.value.number) (OlderType sec) (type_at s c.next c.value.number l.format e) _
    (type_numbered s c.next c.value.number l.format e)
    (λ t q k. q ∙ h k))

pub older_type : (sec : UnitSection) (s : List ℕ) (at : ℕ) (e : RunTimeEndian) → Holds (OlderType sec) (header_at sec s at e)
unfolding header_at body_at
older_type sec s at e =
    cond_by (Holds (OlderType sec)) (leb (length s) max_section) _ (refused 1)
    (λ _.
    holds_all (OlderType sec) (initial_length_at s at e) _
    (λ l.
    holds_all (OlderType sec) (skip_at s l.next l.value.unit_length) _
    (λ end. holds_all (OlderType sec) (word_at (take end s) l.next 2 e) _ (λ v. rest_type sec (take end s) at l.value v.value v.next e))))
    (λ _. tt)

-- ---- refusals

-- a refusal with a number up to 8
abbrev pub Early : {A : Type 0} → Answer A → Type 0
Early (got a) = Unit {0}
Early (refused n) = n ≤ 8

early_then : {A B : Type 0} (r : Answer A) (f : A → Answer B) → Early r → ((a : A) → Early (f a)) → Early (and_then r f)
early_then (got a) f h k = k a
early_then (refused n) f h k = h

word_early : (s : List ℕ) (at n : ℕ) (e : RunTimeEndian) → Early (word_at s at n e)
unfolding word_at
word_early s at n e = cond_by Early (leb (at + n) (length s)) _ _ (λ _. tt) (λ _. omega arith)

offset_early : (s : List ℕ) (at : ℕ) (f : Format) (e : RunTimeEndian) → Early (offset_at s at f e)
unfolding offset_at
offset_early s at f e = word_early s at (word_size f) e

size_early : (s : List ℕ) (at : ℕ) → Early (address_size_at s at)
unfolding address_size_at
size_early s at =
    early_then (word_at s at 1 Little) _ (word_early s at 1 Little) (λ r. cond_by Early (is_address_size r.value) (got r) (refused 7) (λ _. tt) (λ _. omega arith))

length_early : (s : List ℕ) (at : ℕ) (e : RunTimeEndian) → Early (initial_length_at s at e)
unfolding initial_length_at long_length_at
length_early s at e =
    early_then (word_at s at 4 e) _ (word_early s at 4 e)
    (λ r.
    cond_by Early (ltb r.value 0xfffffff0) _ _
    (λ _. tt)
    (λ _. cond_by Early (eqb r.value 0xffffffff) _ _ (λ _. early_then (word_at s r.next 8 e) _ (word_early s r.next 8 e) (λ _. tt)) (λ _. omega arith)))

skip_early : (s : List ℕ) (at n : ℕ) → Early (skip_at s at n)
unfolding skip_at
skip_early s at n = cond_by Early (leb (at + n) (length s)) _ _ (λ _. tt) (λ _. omega arith)

signature_early : (s : List ℕ) (at : ℕ) (f : Format) (e : RunTimeEndian) → Early (signature_at s at f e)
unfolding signature_at
signature_early s at f e = early_then (word_at s at 8 e) _ (word_early s at 8 e) (λ x. early_then (offset_at s x.next f e) _ (offset_early s x.next f e) (λ _. tt))

type_early : (s : List ℕ) (at n : ℕ) (f : Format) (e : RunTimeEndian) → Early (type_at s at n f e)
unfolding type_at
type_early s at n f e =
    cond_by Early (eqb n 1) _ _ (λ _. tt)
    (λ _. cond_by Early (eqb n 2) _ _ (λ _. early_then (signature_at s at f e) _ (signature_early s at f e) (λ _. tt))
    (λ _. cond_by Early (eqb n 3) _ _ (λ _. tt)
    (λ _. cond_by Early (eqb n 4) _ _ (λ _. early_then (word_at s at 8 e) _ (word_early s at 8 e) (λ _. tt))
    (λ _. cond_by Early (eqb n 5) _ _ (λ _. early_then (word_at s at 8 e) _ (word_early s at 8 e) (λ _. tt))
    (λ _. cond_by Early (eqb n 6) _ _ (λ _. early_then (signature_at s at f e) _ (signature_early s at f e) (λ _. tt)) (λ _. omega arith))))))

common_early : (id : SectionId) (s : List ℕ) (at version : ℕ) (f : Format) (e : RunTimeEndian) → Early (common_at (section_of id) s at version f e)
unfolding common_at newer_at typed_at older_at
common_early id s at version f e =
    cond_by Early (eqb ((section_of id).judge version f) 0) _ _
    (λ _.
    cond_by Early (eqb version 5) _ _
    (λ _.
    early_then (word_at s at 1 Little) _ (word_early s at 1 Little)
    (λ t. early_then (address_size_at s t.next) _ (size_early s t.next) (λ w. early_then (offset_at s w.next f e) _ (offset_early s w.next f e) (λ _. tt))))
    (λ _. early_then (offset_at s at f e) _ (offset_early s at f e) (λ a. early_then (address_size_at s a.next) _ (size_early s a.next) (λ _. tt))))
    (λ _. rw (judge_is id version f) (cond_by (λ n. n ≤ 8) (leb 2 version && leb version 5) 0 6 (λ _. omega arith) (λ _. omega arith)))

-- headers are refused with 1 to 8 alone
pub header_early : (id : SectionId) (s : List ℕ) (at : ℕ) (e : RunTimeEndian) → Early (header_at (section_of id) s at e)
unfolding header_at body_at rest_at
header_early id s at e =
    cond_by Early (leb (length s) max_section) _ (refused 1)
    (λ _.
    early_then (initial_length_at s at e) _ (length_early s at e)
    (λ l.
    early_then (skip_at s l.next l.value.unit_length) _ (skip_early s l.next l.value.unit_length)
    (λ end.
    early_then (word_at (take end s) l.next 2 e) _ (word_early (take end s) l.next 2 e)
    (λ v.
    early_then (common_at (section_of id) (take end s) v.next v.value l.value.format e) _ (common_early id (take end s) v.next v.value l.value.format e)
    (λ c.
    early_then (type_at (take end s) c.next c.value.number l.value.format e) _ (type_early (take end s) c.next c.value.number l.value.format e)
    (λ t. tt))))))
    (λ _. omega arith)

-- and so is the list
pub next_early : (id : SectionId) (s : List ℕ) (at : ℕ) (e : RunTimeEndian) → Early (next_unit (section_of id) s at e).answer
unfolding next_unit
next_early id s at e =
    cond_by (λ (r : Advanced). Early r.answer) (leb (length s) max_section && leb at (length s)) _ _
    (λ _. cond_by (λ (r : Advanced). Early r.answer) (eqb (length s) at) _ _ (λ _. tt) (λ _. of_header (header_at (section_of id) s at e) (header_early id s at e)))
    (λ _. omega arith)
  where
    of_header : (r : Answer (Read UnitHeader)) → Early r → Early (advanced s at r).answer
    of_header (got r) h = tt
    of_header (refused n) h = h

abbrev pub EarlyStop : Option ℕ → Type 0
EarlyStop none = Unit {0}
EarlyStop (some n) = n ≤ 8

pub stop_early : (id : SectionId) (s : List ℕ) (at : ℕ) (e : RunTimeEndian) → EarlyStop (unit_list (section_of id) s at e).stop
unfolding unit_list list_within
stop_early id s at e = go (suc (length s - at)) at
  where
    by_answer : (n a : ℕ) (r : Answer (Option UnitHeader)) → Early r → EarlyStop (list_within (section_of id) s e n a).stop → EarlyStop (listed_by r (list_within (section_of id) s e n a)).stop
    by_answer n a (got none) h k = tt
    by_answer n a (got (some u)) h k = k
    by_answer n a (refused m) h k = h

    go : (n a : ℕ) → EarlyStop (list_within (section_of id) s e n a).stop
    go zero a = tt
    go (suc n) a = by_answer n (next_unit (section_of id) s a e).offset (next_unit (section_of id) s a e).answer (next_early id s a e) (go n (next_unit (section_of id) s a e).offset)
