-- The parts of a stored case.
use Rattle.std.specs.Prelude.{◌≡◌, ℕ, ◌+◌, List, [], length, take, drop}
use Rattle.replay.specs.declared.case.Case.{Case}

-- bytes are a count of 4 bytes, a part and the rest
pub record IsCounted (bytes part rest : List ℕ) : Type 0 where
  pub part_in : part ≡ take (length part) (drop 4 bytes)
  pub rest_in : rest ≡ drop (4 + length part) bytes
  pub whole : 4 + length part + length rest ≡ length bytes

-- behind the kind and the numbers each part follows its count, and the last ends the case
pub record PartsIn (body : List ℕ) (c : Case) : Type 0 where
  pub after_bytes : List ℕ
  pub after_table : List ℕ
  pub after_calls : List ℕ
  pub bytes_in : IsCounted (drop 81 body) c.bytes.now after_bytes
  pub table_in : IsCounted after_bytes c.table.now after_table
  pub calls_in : IsCounted after_table c.calls.now after_calls
  pub expected_in : IsCounted after_calls c.expected.now []
