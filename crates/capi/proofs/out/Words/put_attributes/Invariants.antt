use mathlib.Core.List.{map}
use lib.ListN.{drop}
use Rattle.attribute.specs.Views.{view_attribute}
use Rattle.capi.specs.Words.{attributes_words}
use Rattle.capi.proofs.OutLaws.{Running}
use Rattle.capi.proofs.out.Words.put_attributes.Given as goal

abbrev pub invariant-loop-attribute : goal.invariant-loop-attribute
invariant-loop-attribute l = Running l.initial.self (attributes_words (map view_attribute l.attributes)) (attributes_words (map view_attribute (drop l.attribute-index l.attributes))) l.self
