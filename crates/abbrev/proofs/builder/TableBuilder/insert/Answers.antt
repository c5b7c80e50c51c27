use Rattle.std.proofs.Common.{arith, ◌/◌, ◌<◌, length}
use Rattle.abbrev.proofs.Columns.{column_more, fresh_more}
use Rattle.std.proofs.lemmas.Bool.Decides.{nat_tests}
use Rattle.abbrev.proofs.builder.TableBuilder.insert.Goals as goal

pub invariant_of-self-2 : goal.invariant_of-self-2
invariant_of-self-2 c =
    let w : c.args.self.now.count < length c.args.self.now.rows.now / 5 = grind (arith, nat_tests, c.put_row.ensures.room) in
    record {
      row = omega (arith, w, c.put_row.auto.words);
      room = omega arith;
      fresh = rw (column_more _ _ _ _ c.args.self.now.row (c.put_row.ensures.kept (omega (arith, w)))) (fresh_more _ _ _ _ c.args.self.now.fresh (omega arith) (omega arith));
    }
