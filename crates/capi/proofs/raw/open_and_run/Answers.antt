use Rattle.std.proofs.Common.{arith}
use Rattle.capi.proofs.OutLaws.{said}
use Rattle.capi.proofs.raw.open_and_run.Goals as goal

pub returns-in-Ok : goal.returns-in-Ok
returns-in-Ok g c = grind (arith, said c.new-words.ensures.begun c.run.ensures c.finish.ensures)
