use Rattle.std.proofs.Common.{arith}
use Rattle.unit.proofs.UnitsLaws.{unit_further}
use Rattle.typeunit.proofs.SearchLaws.{list_inside}
use Rattle.typeunit.proofs.types.type_unit.Goals as goal

pub loop-header-smaller : goal.loop-header-smaller
loop-header-smaller c = grind (arith, unit_further, list_inside)
