-- The parts of a LEB128 number, and what they are worth.
use Rattle.std.specs.Prelude.{cond, ℕ, ◌+◌, ◌-◌, ◌*◌, ◌^◌, ◌<◌, ltb, ℤ}
use Rattle.std.specs.Int.Signed.{mag}
use Rattle.reader.specs.Answer.{Answer, refused, Read, gives}
use Rattle.reader.specs.Twos.{twos}

-- bits are left of w, v has sh of them, and b is seven bits
pub record Sound (w v sh b : ℕ) : Type 0 where
  pub some : sh < w
  pub under : v < 2 ^ sh
  pub seven : b < 128

-- the unsigned number of w bits by its parts: the last byte fits the bits left
unfoldable pub whole_of : ℕ → ℕ → ℕ → ℕ → ℕ → Answer (Read ℕ)
whole_of w v sh b p = cond (ltb b (2 ^ (w - sh))) (gives (v + b * 2 ^ sh) p) (refused 3)

-- and the signed one, whose last byte is signed
unfoldable pub integer_of : ℕ → ℕ → ℕ → ℕ → ℕ → Answer (Read ℤ)
integer_of w v sh b p =
    cond (ltb (mag (twos 7 b)) (2 ^ (w - sh - 1))) (gives (twos (sh + 7) (v + b * 2 ^ sh)) p) (refused 4)
