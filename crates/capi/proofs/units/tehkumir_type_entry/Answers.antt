use Rattle.std.proofs.Common.{arith}
use Rattle.capi.proofs.OutLaws.{stored_then, said}
use Rattle.capi.proofs.units.tehkumir_type_entry.Goals as goal

pub returns-in-Ok : goal.returns-in-Ok
returns-in-Ok c = grind (arith, said c.new-words.ensures.begun (stored_then c.put_header.ensures c.put_entry.ensures) c.finish.ensures)
