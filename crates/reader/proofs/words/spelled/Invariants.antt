use Rattle.std.proofs.Common.{◌≡◌}
use Rattle.reader.specs.Words.{spelled}
use Rattle.reader.proofs.words.spelled.Given as goal

abbrev pub invariant-loop-i : goal.invariant-loop-i
invariant-loop-i g l = l.word ≡ spelled l.bytes l.at l.i l.endian
