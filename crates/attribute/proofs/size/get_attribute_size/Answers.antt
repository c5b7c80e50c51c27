use Rattle.attribute.proofs.FormLaws.{sizes, size_at, fixed_size}
use Rattle.attribute.specs.Forms.{row}
use Rattle.attribute.specs.Skip.{attribute_size}
use Rattle.std.proofs.Common.{arith, sym, ◌∙◌}
use Rattle.attribute.proofs.size.get_attribute_size.Goals as goal

pub returns : goal.returns
unfolding attribute_size sizes
returns c =
    sym (fixed_size c.args.encoding (row c.args.form).layout c.in-Some.size (sym (size_at c.args.form _ (omega arith)) ∙ c.in-Some.is))
