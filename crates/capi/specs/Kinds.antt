-- Which calls numbers name.
use Rattle.std.specs.Prelude.{cond, ℕ, eqb}
use Rattle.capi.specs.declared.cursor.CursorCall.{CursorCall}
use Rattle.capi.specs.declared.cursor.CursorCall.TheVariants as cursor
use Rattle.capi.specs.declared.raw.RawCall.{RawCall}
use Rattle.capi.specs.declared.raw.RawCall.TheVariants as raw

abbrev pub cursor_call_of : ℕ → CursorCall
cursor_call_of op = cond (eqb op 0) cursor.Entry (cond (eqb op 1) cursor.Dfs cursor.Sibling)

abbrev pub raw_call_of : ℕ → RawCall
raw_call_of op = cond (eqb op 0) raw.Entry raw.Passed
