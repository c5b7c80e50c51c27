use Rattle.std.proofs.Common.{arith}
use Rattle.capi.specs.Units.{entry_in, unit_in}
use Rattle.capi.proofs.OutLaws.{said}
use Rattle.capi.proofs.units.tehkumir_entry.Goals as goal

pub returns-in-Ok : goal.returns-in-Ok
unfolding entry_in unit_in
returns-in-Ok c = grind (arith, said c.new-words.ensures.begun c.put_entry.ensures c.finish.ensures)
