use Rattle.std.proofs.Common.{rules, sym, refl, ◌∙◌}
use Rattle.abbrev.proofs.Tables.{empty, kept, unkept}
use Rattle.abbrev.proofs.builder.TableBuilder.parse_abbreviation.Goals as goal

pub returns-in_default : goal.returns-in_default
returns-in_default c =
    record {
      same = record { rows_kept = refl; specs_kept = refl; rows_length = refl; specs_length = refl };
      is =
          record {
            count_is = refl;
            used_is = refl;
            last = record { is = empty _ _ _ _ _ _ (sym (rw c.in_default.is at c.in_ok-head.ensures)); same_rows = refl; same_specs = refl };
          };
    }

pub returns-in_err-insert : goal.returns-in_err-insert
returns-in_err-insert c =
    let e = sym (rw c.in-Some.is at c.in_ok-head.ensures) in
    search (rules, unkept c.args.at e c.in_ok-count.ensures c.parse_attributes.auto.specs c.in_err-insert.ensures.placed)

pub returns : goal.returns
returns c =
    let e = sym (rw c.in-Some.is at c.in_ok-head.ensures) in
    let i = c.in_ok-insert.ensures in
    let m = i.more refl in
    let k = kept _ e c.in_ok-count.ensures c.parse_attributes.auto.specs i.placed refl c.args.self.now.row c.args.self.now.room i.same.rows_length in
    record {
      same =
          record {
            rows_kept = i.same.rows_kept;
            specs_kept = i.same.specs_kept;
            rows_length = i.same.rows_length;
            specs_length = i.same.specs_length ∙ c.parse_attributes.auto.specs;
          };
      is = record { code = c.in-Some.head.code; count = c.in_ok-count.count; count_is = m.count_is; used_is = m.used_is; next = rw m.specs_are k };
    }
