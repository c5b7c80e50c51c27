-- The code's answers and structs in the definitions' terms.
use Rattle.std.specs.Prelude.{cond, ℕ, ℤ, Result, Ok, Err, Some, None}
use Rattle.std.specs.Prelude as code
use Rattle.std.proofs.Math.Option.{Option, none, some}
use Rattle.reader.specs.Answer.{Answer, got, refused, Read}
use Rattle.reader.specs.Errors.{number_of}
use Rattle.reader.specs.declared.error.Error.{Error}
use Rattle.abbrev.specs.Lookup.{Found}
use Rattle.abbrev.specs.Table.{Specification}
use Rattle.abbrev.specs.declared.lookup.Abbreviation.{Abbreviation}
use Rattle.abbrev.specs.declared.lookup.AttributeSpecification.{AttributeSpecification}
use Rattle.abbrev.specs.declared.table.Head.{Head}

-- what there may be, or a refusal
abbrev pub view_if_any : {A B : Type 0} → (A → B) → Result (code.Option A) Error → Answer (Option B)
view_if_any f (Ok (Some a)) = got (some (f a))
view_if_any f (Ok None) = got none
view_if_any f (Err e) = refused (number_of e)

abbrev pub view_head : Result (code.Option (Head × ℕ)) Error → Answer (Option (Read Head))
view_head r = view_if_any (λ x. record { value = x.0; next = x.1 }) r

abbrev pub found_of : Abbreviation → Found
found_of a = record { code = a.code; tag = a.tag; children = cond a.has_children 1 0; first = a.first; count = a.count }

abbrev pub view_lookup : Result (code.Option Abbreviation) Error → Answer (Option Found)
view_lookup r = view_if_any found_of r

abbrev pub specification_of : AttributeSpecification → Specification
specification_of x = record { name = x.name; form = x.form; constant = x.constant }

abbrev pub view_specified : Result (code.Option AttributeSpecification) Error → Answer (Option Specification)
view_specified r = view_if_any specification_of r

abbrev pub view_constant : code.Option ℤ → Option ℤ
view_constant (Some z) = some z
view_constant None = none
