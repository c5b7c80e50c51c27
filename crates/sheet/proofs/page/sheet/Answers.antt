use Rattle.abbrev.specs.Table.{entry_limit}
use Rattle.reader.specs.Answer.{Answer}
use Rattle.entries.specs.Flat.{Item}
use Rattle.sheet.specs.Sheet.{shown}
use Rattle.sheet.proofs.PageLaws.{blank_shown, page_front, shown_short, reading_long, reading_outside, start_opened, page_shown}
use mathlib.Core.List.{List}
use mathlib.Core.Path.{◌≡◌, sym, ap, ◌∙◌}
use Prim.Native.Nat.{◌≤◌, ◌<◌}
use borrow.Author.Rules.{rules}
use lib.ListN.{length}
use lib.Seq.{length-take-le}
use Rattle.sheet.proofs.page.sheet.Goals as goal

pub returns-in_default : goal.returns-in_default
returns-in_default c =
    let short : length c.args.page.now < 1980 = search rules in
    sym (shown_short c.args.n _ c.args.page.now short)

pub returns-then-unit-gt-MAX_SECTION : goal.returns-then-unit-gt-MAX_SECTION
returns-then-unit-gt-MAX_SECTION c =
    let a = c.args in
    let long : 1980 ≤ length a.page.now = search rules in
    let e : length c.in-Some.page.now ≡ 1980 = ap length c.in-Some.ensures.cases.same ∙ length-take-le 1980 c.args.page.now long in
    blank_shown a.n 1 a.page.now c.in-Some.page.now c.put_blank.new.page long e c.put_blank.ensures
    ∙ ap (λ (r : Answer (List Item)). shown a.n r a.page.now) (sym (reading_long entry_limit.most a.header a.unit.now a.abbreviations.now.rows a.abbreviations.now.specs a.endian c.if-unit-gt-MAX_SECTION.true))

pub returns-in-Err : goal.returns-in-Err
returns-in-Err c =
    let a = c.args in
    let long : 1980 ≤ length a.page.now = search rules in
    let e : length c.in-Some.page.now ≡ 1980 = ap length c.in-Some.ensures.cases.same ∙ length-take-le 1980 c.args.page.now long in
    blank_shown a.n _ a.page.now c.in-Some.page.now c.put_blank-in-Err.new.page long e c.put_blank-in-Err.ensures
    ∙ ap (λ (r : Answer (List Item)). shown a.n r a.page.now) (sym (reading_outside entry_limit.most a.header a.unit.now a.abbreviations.now.rows a.abbreviations.now.specs a.endian c.if-unit-gt-MAX_SECTION.false (sym c.in-Err.ensures)))

pub read_page-requires : goal.read_page-requires
read_page-requires c =
    let a = c.args in
    rw c.at_start-raw.ensures (start_opened entry_limit.most a.header a.unit.now a.abbreviations.now.rows a.abbreviations.now.specs a.endian c.if-unit-gt-MAX_SECTION.false (sym c.in-Ok.ensures))

pub returns-in-Ok : goal.returns-in-Ok
returns-in-Ok c =
    let a = c.args in
    let long : 1980 ≤ length a.page.now = search rules in
    let e : length c.in-Some.page.now ≡ 1980 = ap length c.in-Some.ensures.cases.same ∙ length-take-le 1980 c.args.page.now long in
    page_front a.n _ a.page.now c.in-Some.page.now _ c.read_page.new.page e (rw c.at_start-raw.ensures at c.read_page.ensures)
    ∙ page_shown entry_limit.most a.header a.unit.now a.abbreviations.now.rows a.abbreviations.now.specs a.endian c.if-unit-gt-MAX_SECTION.false (sym c.in-Ok.ensures) a.n a.page.now long
