-- Document 02, request 2: LEB128 numbers with the count of their bytes, and whether fewer would do.
use Rattle.std.specs.Prelude.{Bool, cond, ◌&&◌, List, ◌≡◌, ℕ, ◌-◌, ◌*◌, ◌%◌, ◌<◌, eqb, ltb, ℤ, length, get_or}
use Rattle.reader.specs.Answer.{Answer, and_then, Read, gives}
use Rattle.reader.specs.declared.answer.Counted.{Counted}
use Rattle.reader.specs.Leb128.{fits_unsigned, fits_signed, uleb_at, sleb_at}

-- fewer than k bytes would do: some shorter list of bytes is read by the same reader to the same number
pub record Fewer {A : Type 0} (read : List ℕ → Answer (Read A)) (k : ℕ) (v : A) : Type 0 where
  pub bytes : List ℕ
  pub are_bytes : (i : ℕ) → get_or bytes i 0 < 256
  pub shorter : length bytes < k
  pub next : ℕ
  pub same : read bytes ≡ gives v next

-- the same by the number's limits: one byte less has room for it (`unsigned_fewer`, `signed_fewer`)
abbrev pub fewer : {A : Type 0} → (ℕ → A → Bool) → ℕ → A → Bool
fewer fits k v = ltb 1 k && fits (7 * (k - 1)) v

-- a number that was read at a place, how many bytes it has, and whether fewer would do
abbrev pub counted : {A : Type 0} → (ℕ → A → Bool) → ℕ → Answer (Read A) → Answer (Read (Counted A))
counted fits at r =
    and_then r
    (λ x.
    gives (record { number = x.value; count = x.next - at; padded = fewer fits (x.next - at) x.value }) x.next)

-- an unsigned number of w bits at a place
unfoldable pub uleb_counted_at : List ℕ → ℕ → ℕ → Answer (Read (Counted ℕ))
uleb_counted_at s at w = counted fits_unsigned at (uleb_at s at w)

-- and a signed one
unfoldable pub sleb_counted_at : List ℕ → ℕ → ℕ → Answer (Read (Counted ℤ))
sleb_counted_at s at w = counted fits_signed at (sleb_at s at w)

-- the rule on the last bytes of a number from `at` up to p: there is more than one, and the last is 0
abbrev pub zero_last : List ℕ → ℕ → ℕ → Bool
zero_last s at p = ltb 1 (p - at) && eqb (get_or s (p - 1) 0) 0

-- and of a signed one: the last repeats the sign, bit 6 of the byte before it
abbrev pub sign_last : List ℕ → ℕ → ℕ → Bool
sign_last s at p =
    ltb 1 (p - at) && cond (ltb (get_or s (p - 2) 0 % 128) 64) (eqb (get_or s (p - 1) 0) 0) (eqb (get_or s (p - 1) 0) 0x7f)
