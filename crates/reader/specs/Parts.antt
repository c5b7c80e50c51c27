-- What the private functions promise: how words and LEB128 numbers are put together.
use Rattle.std.specs.Prelude.{List, Result, Ok, Err, ◌≡◌, ℕ, ◌+◌, ◌-◌, ◌*◌, ◌^◌, ◌≤◌, ◌<◌, ℤ, length, take, drop, get_or}
use Rattle.reader.specs.Answer.{got, refused, Read}
use Rattle.reader.specs.Errors.{number_of}
use Rattle.reader.specs.Words.{number}
use Rattle.reader.specs.Leb128.{most_bytes, extent, fits_unsigned, fits_signed}
use Rattle.reader.specs.Padded.{fewer, zero_last, sign_last}
use Rattle.reader.specs.declared.endianity.RunTimeEndian.{RunTimeEndian}
use Rattle.reader.specs.declared.endianity.RunTimeEndian.TheVariants.{Little, Big}
use Rattle.reader.specs.declared.error.Error.{Error}
use Rattle.reader.specs.declared.parts.Parts.{Parts}
use Rattle.reader.specs.Sound.{Sound}

-- x of a bytes and y of b bytes make a word of at most 8
pub record Joins (a b x y : ℕ) : Type 0 where
  pub first : x < 2 ^ (8 * a)
  pub second : y < 2 ^ (8 * b)
  pub some : (1 ≤ a) × (1 ≤ b)
  pub most : a + b ≤ 8

-- the word of x of a bytes and y of b bytes after them
abbrev pub joined : RunTimeEndian → ℕ → ℕ → ℕ → ℕ → ℕ
joined Little a b x y = x + y * 2 ^ (8 * a)
joined Big a b x y = x * 2 ^ (8 * b) + y

-- the number that starts at `at` ends before p, with its last byte b above v of sh bits
pub record Ended (s : List ℕ) (at w v sh b p : ℕ) : Type 0 where
  pub sound : Sound w v sh b
  pub within : p ≤ length s
  pub bits : 7 * (p - at) ≡ sh + 7
  pub place : at + (p - at) ≡ p
  pub count : (n : ℕ) → extent (most_bytes w) n (drop at s) ≡ got (p - at)
  pub worth : number 7 (take (p - at) (drop at s)) ≡ v + b * 2 ^ sh

-- the parts of the number at a place, or its refusal, which is `long` where it has more bytes than it may
abbrev pub Parted : List ℕ → ℕ → (w : ℕ) → Error → Result (Parts w × ℕ) Error → Type 0
Parted s at w long (Ok x) = Ended s at w x.0.below x.0.shift x.0.last x.1
Parted s at w long (Err e) = extent (most_bytes w) (number_of long) (drop at s) ≡ refused (number_of e)

-- an unsigned number was read from `at` on, and its last bytes say whether fewer would do
pub record RuledUnsigned (s : List ℕ) (at : ℕ) (x : Read ℕ) : Type 0 where
  pub above : at < x.next
  pub within : x.next ≤ length s
  pub rule : fewer fits_unsigned (x.next - at) x.value ≡ zero_last s at x.next

-- the same of a signed one, whose byte before the last has the high bit
pub record RuledSigned (s : List ℕ) (at : ℕ) (x : Read ℤ) : Type 0 where
  pub above : at < x.next
  pub within : x.next ≤ length s
  pub before : 1 < x.next - at → 128 ≤ get_or s (x.next - 2) 0
  pub rule : fewer fits_signed (x.next - at) x.value ≡ sign_last s at x.next
