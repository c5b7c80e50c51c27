-- What is asked of a value.
use Rattle.std.specs.Prelude.{Bool, true, false, cond, List, ℕ, ◌+◌, ◌*◌, ◌^◌, ltb, ℤ, pos}
use Rattle.std.proofs.Math.Option.{Option, none, some}
use Rattle.reader.specs.Answer.{Answer, refused, if_some}
use Rattle.reader.specs.declared.answer.Span.{Span}
use Rattle.reader.specs.Twos.{twos}
use Rattle.unit.specs.Range.{part}
use Rattle.attribute.specs.Forms.{case_of}
use Rattle.attribute.specs.declared.form.Sort.{Sort}
use Rattle.attribute.specs.declared.form.Sort.TheVariants as S
use Rattle.attribute.specs.declared.value.Value.{Value}

-- a number below a bound
abbrev pub below : ℕ → ℕ → Option ℕ
below bound n = cond (ltb n bound) (some n) none

-- gimli's udata_value: a constant that is not below 0
abbrev pub udata_by : Sort → ℕ → Option ℕ
udata_by (S.Constant k) n = some n
udata_by S.Unsigned n = some n
udata_by S.Signed n = below (2 ^ 63) n
udata_by S.Flag n = none
udata_by S.Halves n = none
udata_by S.Span n = none
udata_by S.String n = none
udata_by S.Offset n = none
udata_by S.Other n = none

unfoldable pub udata_of : Value → Option ℕ
udata_of v = udata_by (case_of v.kind).sort v.low

-- gimli's u8_value and u16_value: one of so many bits
unfoldable pub small_of : ℕ → Value → Option ℕ
small_of bits v = if_some (udata_of v) none (below (2 ^ bits))

-- gimli's sdata_value: a constant with the sign of its own bytes
abbrev pub sdata_by : Sort → ℕ → Option ℤ
sdata_by (S.Constant k) n = some (twos (8 * k) n)
sdata_by S.Signed n = some (twos 64 n)
sdata_by S.Unsigned n = cond (ltb n (2 ^ 63)) (some (pos n)) none
sdata_by S.Flag n = none
sdata_by S.Halves n = none
sdata_by S.Span n = none
sdata_by S.String n = none
sdata_by S.Offset n = none
sdata_by S.Other n = none

unfoldable pub sdata_of : Value → Option ℤ
sdata_of v = sdata_by (case_of v.kind).sort v.low

-- gimli's offset_value
abbrev pub offset_by : Sort → ℕ → Option ℕ
offset_by S.Offset n = some n
offset_by (S.Constant k) n = none
offset_by S.Unsigned n = none
offset_by S.Signed n = none
offset_by S.Flag n = none
offset_by S.Halves n = none
offset_by S.Span n = none
offset_by S.String n = none
offset_by S.Other n = none

unfoldable pub offset_of : Value → Option ℕ
offset_of v = offset_by (case_of v.kind).sort v.low

-- gimli's exprloc_value: a block or an expression
abbrev pub exprloc_by : Sort → Span → Option Span
exprloc_by S.Span x = some x
exprloc_by (S.Constant k) x = none
exprloc_by S.Unsigned x = none
exprloc_by S.Signed x = none
exprloc_by S.Flag x = none
exprloc_by S.Halves x = none
exprloc_by S.String x = none
exprloc_by S.Offset x = none
exprloc_by S.Other x = none

unfoldable pub exprloc_of : Value → Option Span
exprloc_of v = exprloc_by (case_of v.kind).sort (record { start = v.low; len = v.high })

-- whether a place and a length are among the numbers
abbrev pub has_bytes : Sort → Bool
has_bytes S.Span = true
has_bytes S.String = true
has_bytes (S.Constant n) = false
has_bytes S.Unsigned = false
has_bytes S.Signed = false
has_bytes S.Flag = false
has_bytes S.Halves = false
has_bytes S.Offset = false
has_bytes S.Other = false

-- the bytes of a block, expression or string out of the unit's own; other values have none inside it
unfoldable pub bytes_of : List ℕ → Value → Answer (List ℕ)
bytes_of u v = cond (has_bytes (case_of v.kind).sort) (part u v.low (v.low + v.high)) (refused 19)
