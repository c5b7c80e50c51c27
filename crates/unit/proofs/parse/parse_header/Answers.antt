use Rattle.std.proofs.Common.{sym}
use lib.Seq.{length-take-le}
use Rattle.reader.proofs.FieldLaws.{skip_in}
use Rattle.unit.proofs.ParseLaws.{of_got}
use Rattle.unit.proofs.parse.parse_header.Goals as goal

pub slice_bounds-fields-end : goal.slice_bounds-fields-end
slice_bounds-fields-end c = sym (length-take-le _ _ (of_got _ _ c.in_ok-end.ensures (skip_in _ _ _)).1)
