use Rattle.std.proofs.Common.{arith}
use Rattle.reader.proofs.Numbers.{above_sign}
use Rattle.reader.proofs.parts.Parts.signed.Goals as goal

pub above-requires : goal.above-requires
above-requires g c = let o = c.args.self.sound in (omega arith, omega (arith, above_sign _ c.args.self.narrow o.some o.under c.if-room.true c.room.ensures))

pub positive-requires : goal.positive-requires
positive-requires g c = let o = c.args.self.sound in rw c.above.ensures (above_sign _ c.args.self.narrow o.some o.under c.if-room.true c.room.ensures)

pub above-requires-then-room-2 : goal.above-requires-then-room-2
above-requires-then-room-2 g c =
    let o = c.args.self.sound in
    (omega arith, omega (arith, above_sign {v = c.complement.result} _ c.args.self.narrow o.some (omega (arith, o.under)) c.if-room-2.true c.room-2.ensures))

pub negative-requires : goal.negative-requires
negative-requires g c =
    let o = c.args.self.sound in
    rw c.above-then-room-2.ensures (above_sign {v = c.complement.result} _ c.args.self.narrow o.some (omega (arith, o.under)) c.if-room-2.true c.room-2.ensures)
