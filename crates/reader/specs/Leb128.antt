-- LEB128 numbers (DWARF 2 to 5, section 7.6) of any width in bits.
use Rattle.std.specs.Prelude.{Bool, cond, List, [], ◌∷◌, ℕ, suc, ◌+◌, ◌-◌, ◌*◌, ◌/◌, ◌^◌, ltb, length, take, drop, ℤ}
use Rattle.std.specs.Int.Signed.{mag}
use Rattle.reader.specs.Answer.{Answer, got, refused, and_then, or_else, Read, gives, placed}
use Rattle.reader.specs.Twos.{twos}
use Rattle.reader.specs.Words.{number}

-- how many elements there are up to the first below m, with it; 2 where none is below m
unfoldable pub through : ℕ → List ℕ → Answer ℕ
through m [] = refused 2
through m (b ∷ bs) = cond (ltb b m) (got 1) (and_then (through m bs) (λ k. got (suc k)))

-- as many bytes of seven bits as hold w bits
abbrev pub most_bytes : ℕ → ℕ
most_bytes w = (w + 6) / 7

-- 7.6: how many bytes a number of at most `most` bytes has: its last is the first without the high bit.
-- With none such among them: 2 where bytes are missing, else n
unfoldable pub extent : ℕ → ℕ → List ℕ → Answer ℕ
extent most n s = or_else (through 128 (take most s)) (refused (cond (ltb (length s) most) 2 n))

-- 7.6: a number of at most w bits: what its bytes are worth, if that fits, and how many they are; else n
unfoldable pub leb128 : {A : Type 0} → ℕ → ℕ → (List ℕ → A) → (A → Bool) → List ℕ → Answer (Read A)
leb128 w n worth fits s =
    and_then (extent (most_bytes w) n s) (λ k. cond (fits (worth (take k s))) (gives (worth (take k s)) k) (refused n))

-- 7.6, unsigned: seven bits of each byte, the least significant first
abbrev pub unsigned : List ℕ → ℕ
unsigned bs = number 7 bs

-- 01's limit of an unsigned number
abbrev pub fits_unsigned : ℕ → ℕ → Bool
fits_unsigned w v = ltb v (2 ^ w)

-- 7.6, signed: the same bits in two's complement, so that bit 6 of the last byte is the sign
abbrev pub signed : List ℕ → ℤ
signed bs = twos (7 * length bs) (number 7 bs)

-- and of a signed one: from -2 ^ (w - 1) up to, not including, 2 ^ (w - 1): `mag` of z below 0 is -1 - z
abbrev pub fits_signed : ℕ → ℤ → Bool
fits_signed w z = ltb (mag z) (2 ^ (w - 1))

-- 7.6: an unsigned number at a place; 01, question 3
unfoldable pub uleb_at : List ℕ → ℕ → ℕ → Answer (Read ℕ)
uleb_at s at w = placed at (leb128 w 3 unsigned (fits_unsigned w) (drop at s))

-- 7.6: a signed one; 01, question 4
unfoldable pub sleb_at : List ℕ → ℕ → ℕ → Answer (Read ℤ)
sleb_at s at w = placed at (leb128 w 4 signed (fits_signed w) (drop at s))

-- past the first byte below m: 128 for a LEB128 number of any length (7.6), 1 for bytes that end with a zero byte (class string)
unfoldable pub past_at : List ℕ → ℕ → ℕ → Answer ℕ
past_at s at m = and_then (through m (drop at s)) (λ k. got (at + k))
