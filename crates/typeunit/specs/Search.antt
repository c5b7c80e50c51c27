-- The unit that carries a type signature, and its questions (document 02, request 1).
use Rattle.std.specs.Prelude.{Bool, false, cond, List, [], ◌∷◌, ℕ, eqb}
use Rattle.std.proofs.Math.Option.{Option, none, some}
use Rattle.reader.specs.Answer.{Answer, got, refused, and_then, if_some}
use Rattle.reader.specs.declared.endianity.RunTimeEndian.{RunTimeEndian}
use Rattle.unit.specs.Header.{in_bounds}
use Rattle.unit.specs.Parse.{UnitSection}
use Rattle.unit.specs.Units.{UnitList, unit_list}
use Rattle.unit.specs.declared.header.UnitHeader.{UnitHeader}
use Rattle.unit.specs.declared.header.UnitType.{UnitType}
use Rattle.unit.specs.declared.header.UnitType.TheVariants.{Compilation, «Type», Partial, Skeleton, SplitCompilation, SplitType}
use Rattle.unit.specs.declared.parse.Signature.{Signature}
use Rattle.entries.specs.Open.{sections_kept}
use Rattle.entries.specs.Raw.{judged}

-- DWARF 4, 7.5.1.2; DWARF 5, 7.5.1.3: units of type 2 and 6 have a signature and the offset of the type; a dwo_id is no signature
abbrev pub signature_of : UnitType → Option Signature
signature_of Compilation = none
signature_of («Type» s o) = some (record { signature = s; offset = o })
signature_of Partial = none
signature_of (Skeleton i) = none
signature_of (SplitCompilation i) = none
signature_of (SplitType s o) = some (record { signature = s; offset = o })

-- whether a unit carries a signature
unfoldable pub carries : ℕ → UnitHeader → Bool
carries sig h = if_some (signature_of h.unit_type) false (λ x. eqb x.signature sig)

-- where a type unit's type entry starts, from its unit's first byte
unfoldable pub type_offset : UnitHeader → ℕ
type_offset h = if_some (signature_of h.unit_type) 0 (λ x. x.offset)

-- the first by place
abbrev pub first_with : ℕ → List UnitHeader → Option UnitHeader
first_with sig [] = none
first_with sig (h ∷ l) = cond (carries sig h) (some h) (first_with sig l)

-- of a list of units; if none is there, the refusal that ended the list, or question 22
abbrev pub found_in : ℕ → UnitList → Answer UnitHeader
found_in sig l = if_some (first_with sig l.headers) (refused (if_some l.stop 22 (λ n. n))) (λ h. got h)

-- of a section
unfoldable pub unit_with : UnitSection → List ℕ → ℕ → RunTimeEndian → Answer UnitHeader
unit_with sec s sig e = found_in sig (unit_list sec s 0 e)

-- question 19: the type's offset lies from the header's size up to, not including, the unit's end
unfoldable pub bounded : UnitHeader → Answer UnitHeader
bounded h = cond (in_bounds h (type_offset h)) (got h) (refused 19)

-- question 1 of both sections, the headers' questions, 22 and 19
unfoldable pub type_unit : UnitSection → (abbrevs units : List ℕ) → ℕ → RunTimeEndian → Answer UnitHeader
type_unit sec abbrevs units sig e = judged (sections_kept abbrevs units) (and_then (unit_with sec units sig e) bounded)
