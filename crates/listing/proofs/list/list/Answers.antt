use mathlib.Core.Path.{refl}
use borrow.Author.Rules.{rules}
use Rattle.listing.proofs.WholeLaws.{listed_behind}
use Rattle.listing.proofs.list.list.Goals as goal

pub returns-clause-listed : goal.returns-clause-listed
returns-clause-listed c = listed_behind _ _ refl refl refl c.list_from.ensures.written c.list_from.ensures.lent (search rules) (search rules) (search rules) (search rules) (search rules)
