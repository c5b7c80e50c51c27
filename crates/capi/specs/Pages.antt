-- A page of the shelf sheet by the offset of its unit.
use Rattle.std.specs.Prelude.{List, ◌≡◌, ℕ}
use Rattle.reader.specs.Answer.{Answer, and_then}
use Rattle.reader.specs.declared.endianity.RunTimeEndian.{RunTimeEndian}
use Rattle.unit.specs.Parse.{debug_info, header_at}
use Rattle.unit.specs.Range.{unit_bytes}
use Rattle.entries.specs.Flat.{Item}
use Rattle.sheet.specs.Sheet.{Shown, sheet_reading}
use Rattle.capi.specs.Words.{status_of}

-- the items of the unit at an offset of .debug_info
unfoldable pub sheet_in : ℕ → List ℕ → ℕ → RunTimeEndian → List ℕ → List ℕ → Answer (List Item)
sheet_in most s unit e rows specs =
    and_then (header_at debug_info s unit e)
    (λ h. and_then (unit_bytes h.value s) (λ u. sheet_reading most h.value u rows specs e))

-- a status is returned, and the lent page holds what is shown
pub record Shows (x : Shown) (after : List ℕ) (r : ℕ) : Type 0 where
  pub status_is : r ≡ status_of x.answer
  pub page_is : after ≡ x.page
