-- What values are read from, and a specification's row.
use Rattle.std.specs.Prelude.{List, ℕ}
use Rattle.reader.specs.declared.common.Encoding.{Encoding}
use Rattle.reader.specs.declared.endianity.RunTimeEndian.{RunTimeEndian}
use Rattle.abbrev.specs.Lookup.{spec_at}
use Rattle.abbrev.specs.Table.{Specification}

-- bytes, the offset at which they start, and how words stand in them
pub record Sourced : Type 0 where
  pub bytes : List ℕ
  pub start : ℕ
  pub encoding : Encoding
  pub endian : RunTimeEndian

-- the specification in a row of three words
abbrev pub row_spec : List ℕ → Specification
row_spec r = spec_at r 0
