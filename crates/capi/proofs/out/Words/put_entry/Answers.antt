use Rattle.std.proofs.Common.{◌≡◌, arith, map, take}
use Rattle.std.proofs.lemmas.List.{take_min, take-map}
use Rattle.attribute.specs.Views.{view_attribute}
use Rattle.capi.proofs.OutLaws.{stored_then}
use Rattle.capi.proofs.out.Words.put_entry.Goals as goal

pub returns : goal.returns
returns c =
    let held : map view_attribute (take c.min-held.result c.as_slice-attrs.result.now) ≡ take c.args.entry.count (map view_attribute c.args.entry.attrs) =
    rw (c.min-held.ensures, take_min, c.as_slice-attrs.ensures, take-map) in
    grind (arith, stored_then c.put.ensures (rw held at c.put_attributes.ensures))
