use Rattle.std.proofs.lemmas.Iterator.{YieldsList-from_slice, YieldsList-from_take}
use Rattle.std.proofs.lemmas.Iterator.Search.{find_from_yields_List}
use Rattle.entries.proofs.EntryLaws.{named_find}
use Rattle.entries.specs.Entry.{attr_of}
use borrow.Author.Rules.{rules}
use borrow.Author.Tests.{tests}
use lib.Dec.{eqb}
use mathlib.Core.Path.{ap, ◌∙◌}
use Rattle.entries.specs.Views.{view_named}
use Rattle.entries.proofs.entry.Entry.attr.Goals as goal

pub returns : goal.returns
unfolding attr_of
returns c =
    let a = c.args in
    let e = find_from_yields_List (λ x. eqb x.name a.name) _ _ c.find.result c.find.ensures.ran (YieldsList-from_take a.self.count (YieldsList-from_slice a.self.attrs cc) cc) (λ x b q k. search (rules, tests)) in
    ap view_named (c.copied.ensures ∙ e) ∙ named_find a.name a.self.count a.self.attrs
