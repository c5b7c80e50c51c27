-- Which call a number names.
use Rattle.std.specs.Prelude.{cond, ℕ, eqb}
use Rattle.lent.specs.declared.call.CallKind.{CallKind}
use Rattle.lent.specs.declared.call.CallKind.TheVariants.{Entry, Skipped, Listed}

abbrev pub kind_of : ℕ → CallKind
kind_of op = cond (eqb op 0) Entry (cond (eqb op 1) Skipped Listed)
