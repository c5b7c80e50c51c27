use Rattle.std.proofs.Common.{arith}
use Rattle.capi.proofs.OutLaws.{stored_then}
use Rattle.capi.proofs.units.put_header.Goals as goal

pub returns : goal.returns
returns c = grind (arith, stored_then c.put.ensures c.put_type.ensures)
