use Rattle.std.proofs.Common.{arith}
use Rattle.reader.proofs.Numbers.{above_word}
use Rattle.reader.proofs.parts.Parts.unsigned.Goals as goal

pub above-requires : goal.above-requires
above-requires g c = let o = c.args.self.sound in (omega arith, above_word _ c.args.self.narrow o.some o.under c.if-room.true c.room.ensures)
