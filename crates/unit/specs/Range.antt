-- Parts of a unit, handed back out of the caller's slice, or 19; 1 for a section that is too long.
use Rattle.std.specs.Prelude.{cond, ◌&&◌, List, ◌≡◌, ℕ, ◌+◌, ◌-◌, leb, length, take, drop}
use Rattle.std.specs.Prelude.{Result}
use Rattle.std.specs.Borrow.{Bor}
use Rattle.reader.specs.declared.error.Error.{Error}
use Rattle.reader.specs.Views.{view_by}
use Rattle.reader.specs.Answer.{Answer, got, refused}
use Rattle.reader.specs.Sizes.{max_section}
use Rattle.unit.specs.Header.{size_of_header, unit_end, in_bounds}
use Rattle.unit.specs.declared.header.UnitHeader.{UnitHeader}

-- the bytes from a up to b, if they lie inside in that order
unfoldable pub part : List ℕ → ℕ → ℕ → Answer (List ℕ)
part s a b = cond (leb a b && leb b (length s)) (got (take (b - a) (drop a s))) (refused 19)

-- a part that is handed back out of the caller's slice, or the refusal's number
abbrev pub Handed : Answer (List ℕ) → Result (Bor (List ℕ)) Error → Type 0
Handed d r = view_by (λ s. s.now) r ≡ d

-- the unit's own bytes in its section, from its first length byte to its end; 01, question 1 is asked of the section
unfoldable pub unit_bytes : UnitHeader → List ℕ → Answer (List ℕ)
unit_bytes h s = cond (leb (length s) max_section) (part s h.offset (h.offset + unit_end h)) (refused 1)

-- the bytes of the entries, out of the unit's own bytes: all that follow the header
unfoldable pub entries_buf : UnitHeader → List ℕ → Answer (List ℕ)
entries_buf h u = part u (size_of_header h) (unit_end h)

-- parts of the unit's own bytes, by offsets in the unit; 01: from the header's size up to, not including, the unit's end
unfoldable pub range_of : UnitHeader → List ℕ → ℕ → ℕ → Answer (List ℕ)
range_of h u a b = cond (in_bounds h a && in_bounds h b) (part u a b) (refused 19)

unfoldable pub range_from : UnitHeader → List ℕ → ℕ → Answer (List ℕ)
range_from h u a = cond (in_bounds h a) (part u a (unit_end h)) (refused 19)

unfoldable pub range_to : UnitHeader → List ℕ → ℕ → Answer (List ℕ)
range_to h u b = cond (in_bounds h b) (part u (size_of_header h) b) (refused 19)
