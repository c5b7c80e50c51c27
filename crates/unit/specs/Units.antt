-- The units of a section, one after the other (DWARF 2 to 5, 7.5.1).
use Rattle.std.specs.Prelude.{cond, ◌&&◌, List, [], ◌∷◌, ℕ, zero, suc, ◌+◌, ◌-◌, leb, eqb, length}
use Rattle.std.proofs.Math.Option.{Option, none, some}
use Rattle.reader.specs.Answer.{Answer, got, refused, Read}
use Rattle.reader.specs.Sizes.{max_section}
use Rattle.reader.specs.declared.endianity.RunTimeEndian.{RunTimeEndian}
use Rattle.unit.specs.Header.{unit_end}
use Rattle.unit.specs.Parse.{UnitSection, header_at}
use Rattle.unit.specs.declared.header.UnitHeader.{UnitHeader}

-- a header or none, or a refusal; and where the list goes on
pub record Advanced : Type 0 where
  pub answer : Answer (Option UnitHeader)
  pub offset : ℕ

-- a failed header ends the list
abbrev pub advanced : List ℕ → ℕ → Answer (Read UnitHeader) → Advanced
advanced s at (got r) = record { answer = got (some r.value); offset = at + unit_end r.value }
advanced s at (refused n) = record { answer = refused n; offset = length s }

-- 7.5.1: a unit follows the one before it; the list ends with the section; a place past it, and a section too long, are refused with 1 before all reading
unfoldable pub next_unit : UnitSection → List ℕ → ℕ → RunTimeEndian → Advanced
next_unit sec s at e =
    cond (leb (length s) max_section && leb at (length s))
    (cond (eqb (length s) at) (record { answer = got none; offset = at }) (advanced s at (header_at sec s at e)))
    (record { answer = refused 1; offset = at })

-- the headers of a section by place, and the refusal that ended them, if one did
pub record UnitList : Type 0 where
  pub headers : List UnitHeader
  pub stop : Option ℕ

-- an answer, and what follows it
abbrev pub listed_by : Answer (Option UnitHeader) → UnitList → UnitList
listed_by (got none) more = record { headers = []; stop = none }
listed_by (got (some h)) more = record { headers = h ∷ more.headers; stop = more.stop }
listed_by (refused n) more = record { headers = []; stop = some n }

-- n answers at most
unfoldable pub list_within : UnitSection → List ℕ → RunTimeEndian → ℕ → ℕ → UnitList
list_within sec s e zero at = record { headers = []; stop = none }
list_within sec s e (suc n) at = listed_by (next_unit sec s at e).answer (list_within sec s e n (next_unit sec s at e).offset)

-- 01's unit list from a place on; each header takes a byte, so that the bytes run out first (`list_step`)
unfoldable pub unit_list : UnitSection → List ℕ → ℕ → RunTimeEndian → UnitList
unit_list sec s at e = list_within sec s e (suc (length s - at)) at
