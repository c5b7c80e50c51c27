use Rattle.std.proofs.Common.{◌≡◌, length, ◌-◌}
use Rattle.typeunit.proofs.SearchLaws.{search_from}
use Rattle.typeunit.specs.Search.{unit_with}
use Rattle.unit.specs.Parse.{debug_types, section_of}
use Rattle.typeunit.proofs.types.type_unit.Given as goal

abbrev pub invariant-loop-header : goal.invariant-loop-header
invariant-loop-header l = search_from (section_of l.list.id) l.types l.signature l.endian l.list.offset ≡ unit_with debug_types l.types l.signature l.endian

abbrev pub decreases-loop-header : goal.decreases-loop-header
decreases-loop-header l = length l.types - l.list.offset
