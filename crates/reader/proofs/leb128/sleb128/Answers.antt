use Rattle.std.proofs.Common.{sym}
use mathlib.Core.Path.{◌∙◌}
use Rattle.reader.proofs.Answers.{refuses_read}
use Rattle.reader.proofs.LebLaws.{signed_open}
use Rattle.reader.proofs.leb128.sleb128.Goals as goal

pub returns-in_err-parts : goal.returns-in_err-parts
returns-in_err-parts c = refuses_read _ _ c.from_residual.ensures.1 ∙ sym (signed_open _ _ _ _ c.in_err-parts.ensures)
