-- The code's answers about its input in the definitions' terms.
use Rattle.std.specs.Prelude.{ℕ, ◌≤◌, List, length, Result, Ok, Err}
use Rattle.listing.specs.Input as spec
use Rattle.listing.specs.declared.input.InputError.{InputError}
use Rattle.listing.specs.declared.input.InputError.TheVariants.{TooLong, Short}
use Rattle.listing.specs.declared.input.Input.{Input}
use Rattle.listing.specs.declared.input.Section.{Section}

abbrev pub view_error : InputError → spec.Section
view_error TooLong = spec.too_long
view_error Short = spec.short

abbrev pub view_section : Result Section InputError → spec.Section
view_section (Ok r) = spec.lies r.start r.end
view_section (Err e) = view_error e

abbrev pub view_input : Result Input InputError → spec.Input
view_input (Ok s) = spec.both s.abbrevs.start s.abbrevs.end s.info.start s.info.end
view_input (Err e) = spec.not_both (view_error e)

-- a part of some bytes
abbrev pub Within : List ℕ → Section → Type 0
Within s r = (r.start ≤ r.end) × (r.end ≤ length s)
