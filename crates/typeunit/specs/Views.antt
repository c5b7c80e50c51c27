-- The code's answers in the definitions' terms.
use Rattle.std.specs.Prelude as code
use Rattle.std.proofs.Math.Option.{Option}
use Rattle.unit.specs.declared.parse.Signature.{Signature}
use Rattle.entries.specs.Views.{view_if, view_entry}
use Rattle.entries.specs.declared.entry.Entry.{Entry}
use Rattle.unit.specs.declared.header.UnitHeader.{UnitHeader}
use Rattle.typeunit.specs.Types.{TypeUnit}

abbrev pub view_signature : code.Option Signature → Option Signature
view_signature o = view_if (λ x. x) o

-- a header and its type entry
abbrev pub view_type : UnitHeader × Entry → TypeUnit
view_type x = record { header = x.0; entry = view_entry x.1 }
