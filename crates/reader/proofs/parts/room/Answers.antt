use borrow.Author.Tests.{lt-ltb, le-leb}
use lib.Pow.{pow_mono}
use mathlib.Core.Path.{sym, ◌∙◌}
use native.Mathlib.Omega.{arith}
use Rattle.reader.proofs.parts.room.Goals as goal

pub returns-then-left-ge7 : goal.returns-then-left-ge7
returns-then-left-ge7 c = let t = le-leb 7 c.args.left c.if-left-ge7.true in t ∙ sym (lt-ltb c.args.b _ (omega (arith, pow_mono {i = 7} {j = c.args.left} (omega arith))))
