use Rattle.std.proofs.Common.{arith}
use Rattle.capi.proofs.OutLaws.{stored_then, said}
use Rattle.capi.proofs.units.next_unit.Goals as goal

pub returns-in-Ok-Some : goal.returns-in-Ok-Some
returns-in-Ok-Some c = grind (arith, said c.new-words.ensures.begun (stored_then c.put.ensures c.put_header.ensures) c.finish.ensures)
