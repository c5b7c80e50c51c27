use Rattle.entries.proofs.OpenLaws.{long_table, with_header, without_header}
use borrow.Author.Rules.{rules}
use Rattle.entries.proofs.open.open_unit_in.Goals as goal

pub returns-then-abbrevs-gt-MAX_SECTION : goal.returns-then-abbrevs-gt-MAX_SECTION
returns-then-abbrevs-gt-MAX_SECTION c = let w = c.wipe.ensures in record { same = w.same; lengths = w.lengths; opened = long_table c.if-abbrevs-gt-MAX_SECTION.true w.blank }

pub returns-in_ok-abbreviations-in-Ok : goal.returns-in_ok-abbreviations-in-Ok
returns-in_ok-abbreviations-in-Ok c = let t = c.abbreviations.ensures in record { same = t.same; lengths = t.lengths; opened = with_header c.if-abbrevs-gt-MAX_SECTION.false c.in-Ok.ensures t.tabled (search rules) }

pub returns-in_err-abbreviations-in-Ok : goal.returns-in_err-abbreviations-in-Ok
returns-in_err-abbreviations-in-Ok c = let t = c.abbreviations.ensures in record { same = t.same; lengths = t.lengths; opened = with_header c.if-abbrevs-gt-MAX_SECTION.false c.in-Ok.ensures t.tabled (search rules) }

pub returns-in-Err : goal.returns-in-Err
returns-in-Err c = let w = c.wipe-in-Err.ensures in record { same = w.same; lengths = w.lengths; opened = without_header c.if-abbrevs-gt-MAX_SECTION.false c.in-Err.ensures w.blank }
