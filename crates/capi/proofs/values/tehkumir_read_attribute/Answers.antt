use Rattle.std.proofs.Common.{arith}
use Rattle.capi.proofs.OutLaws.{stored_then, said}
use Rattle.capi.proofs.values.tehkumir_read_attribute.Goals as goal

pub returns-in-Ok : goal.returns-in-Ok
returns-in-Ok c = grind (arith, said c.new-words.ensures.begun (stored_then c.put.ensures c.put_attribute.ensures) c.finish.ensures)
