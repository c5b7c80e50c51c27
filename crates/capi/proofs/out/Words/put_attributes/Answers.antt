use Rattle.std.proofs.Common.{map}
use Rattle.std.proofs.lemmas.List.{at_drop_more}
use Rattle.attribute.specs.Views.{view_attribute}
use Rattle.capi.specs.Words.{attributes_words}
use Rattle.capi.proofs.OutLaws.{running_more}
use Rattle.capi.proofs.out.Words.put_attributes.Goals as goal

pub loop-attribute-preserved : goal.loop-attribute-preserved
loop-attribute-preserved c =
    let l = c.loop-attribute in
    running_more l.invariant _ _ (at_drop_more (λ xs. attributes_words (map view_attribute xs)) _ l.attribute-index _ c.loop-attribute-test.true) c.put_attribute.ensures
