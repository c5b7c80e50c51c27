use Rattle.std.proofs.Common.{◌+◌, arith}
use Rattle.reader.proofs.WordLaws.{byte_spelled, word_joins}
use Rattle.reader.proofs.words.spelled.Goals as goal

pub join-word-requires : goal.join-word-requires
join-word-requires g c =
    let byte = byte_spelled c.args.bytes.now (c.args.at + c.loop-i.i) c.args.endian (omega (arith, c.requires.there)) c.from.ensures (c.type_inv.bytes (c.args.at + c.loop-i.i)).fits in
    word_joins c.args.bytes.now c.args.at c.loop-i.i 1 c.args.endian (omega (arith, c.requires.there)) (c.loop-i.auto.i, omega arith) (omega (arith, c.requires.width.1)) c.loop-i.invariant byte
