use Rattle.std.proofs.Common.{arith}
use Rattle.sheet.proofs.PageLaws.{shown_refused}
use Rattle.capi.specs.Pages.{sheet_in}
use Rattle.capi.specs.Units.{unit_in}
use Rattle.capi.proofs.pages.tehkumir_sheet.Goals as goal

pub returns-in-Err : goal.returns-in-Err
unfolding sheet_in unit_in
returns-in-Err c = grind (arith, shown_refused)
