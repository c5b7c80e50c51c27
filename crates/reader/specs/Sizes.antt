-- Document 01's sizes.
use Rattle.std.specs.Prelude.{ℕ, ◌-◌, ◌^◌}

-- the bytes that a section has at most
abbrev pub max_section : ℕ
max_section = 2 ^ 31 - 1
