-- The list's answer as `Advanced`.
use Rattle.std.specs.Prelude.{Result, Ok, Err, Some, None}
use Rattle.std.specs.Prelude as code
use Rattle.std.proofs.Math.Option.{Option, none, some}
use Rattle.reader.specs.Answer.{Answer, got, refused}
use Rattle.reader.specs.Errors.{number_of}
use Rattle.reader.specs.declared.error.Error.{Error}
use Rattle.unit.specs.Units.{Advanced}
use Rattle.unit.specs.declared.header.UnitHeader.{UnitHeader}
use Rattle.unit.specs.declared.units.Next.{Next}

abbrev pub view_next_unit : Result (code.Option UnitHeader) Error → Answer (Option UnitHeader)
view_next_unit (Ok (Some h)) = got (some h)
view_next_unit (Ok None) = got none
view_next_unit (Err e) = refused (number_of e)

abbrev pub view_next : Next → Advanced
view_next n = record { answer = view_next_unit n.unit; offset = n.units.offset }
