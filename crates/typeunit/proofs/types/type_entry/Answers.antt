use mathlib.Core.Path.{sym, refl}
use Rattle.std.proofs.Common.{rules}
use Rattle.typeunit.proofs.TypeLaws.{typed_refused, typed_read}
use Rattle.typeunit.proofs.types.type_entry.Goals as goal

pub returns-in_ok-abbreviations-in-Ok : goal.returns-in_ok-abbreviations-in-Ok
returns-in_ok-abbreviations-in-Ok c = let t = c.abbreviations.ensures in record { same = t.same; lengths = t.lengths; read = typed_read (sym c.in-Ok.ensures) t.tabled (search rules) }

pub returns-in_err-abbreviations-in-Ok : goal.returns-in_err-abbreviations-in-Ok
returns-in_err-abbreviations-in-Ok c = let t = c.abbreviations.ensures in record { same = t.same; lengths = t.lengths; read = typed_read (sym c.in-Ok.ensures) t.tabled (search rules) }

pub returns-in-Err : goal.returns-in-Err
returns-in-Err c = let w = c.wipe.ensures in record { same = w.same; lengths = w.lengths; read = typed_refused (sym c.in-Err.ensures) w.blank refl }
