-- Laws of headers.
use mathlib.Core.Bool.{Bool, true, false, cond}
use Prim.Native.Nat.{ℕ, ◌+◌, ◌≤◌}
use native.Mathlib.Omega.{arith}
use lib.Dec.{eqb}
use Rattle.reader.specs.Fields.{word_size, initial_length_size}
use Rattle.reader.proofs.FieldLaws.{word_size_most, initial_length_size_most}
use Rattle.unit.specs.Header.{type_size, size_of_header}
use Rattle.unit.specs.declared.header.UnitHeader.{UnitHeader}
use Rattle.unit.specs.declared.header.UnitType.{UnitType}
use Rattle.unit.specs.declared.header.UnitType.TheVariants.{Compilation, «Type», Partial, Skeleton, SplitCompilation, SplitType}

pub type_size_most : (t : UnitType) (w : ℕ) → type_size t w ≤ 8 + w
type_size_most Compilation w = omega arith
type_size_most («Type» s o) w = omega arith
type_size_most Partial w = omega arith
type_size_most (Skeleton i) w = omega arith
type_size_most (SplitCompilation i) w = omega arith
type_size_most (SplitType s o) w = omega arith

-- the largest header: 64 bits, version 5, with a signature and an offset
pub size_most : (h : UnitHeader) → size_of_header h ≤ 40
unfolding size_of_header
size_most h =
    let a = initial_length_size_most h.encoding.format in
    let b = word_size_most h.encoding.format in
    let c = type_size_most h.unit_type (word_size h.encoding.format) in
    go (eqb h.encoding.version 5) (omega (arith, a, b, c))
  where
    go : (v : Bool) → initial_length_size h.encoding.format + 3 + word_size h.encoding.format + type_size h.unit_type (word_size h.encoding.format) ≤ 39
        → initial_length_size h.encoding.format + 3 + word_size h.encoding.format + type_size h.unit_type (word_size h.encoding.format) + cond v 1 0 ≤ 40
    go true l = omega arith
    go false l = omega arith
