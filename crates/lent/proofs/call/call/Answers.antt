use mathlib.Core.Path.{◌∙◌}
use Rattle.std.proofs.Common.{rules}
use Rattle.lent.proofs.CallLaws.{skipped_by, listed_by}
use Rattle.lent.proofs.call.call.Goals as goal

pub returns-in-Skipped : goal.returns-in-Skipped
returns-in-Skipped c = skipped_by c.by_code.ensures (λ v d r k. search rules) ∙ search rules

pub returns-in-Listed : goal.returns-in-Listed
returns-in-Listed c = listed_by c.by_code-in-Listed.ensures (λ v d r k. search rules) ∙ search rules
