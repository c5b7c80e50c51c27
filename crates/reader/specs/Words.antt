-- Words: numbers of a fixed count of bytes, in either order of the bytes. DWARF 2 to 5 have them as the fields of headers (7.5.1)
-- and the values of forms (DWARF 5, 7.5.5; DWARF 2 to 4, 7.5.4).
use Rattle.std.specs.Prelude.{Bool, true, false, cond, List, [], ◌∷◌, reverse, ℕ, ◌+◌, ◌*◌, ◌/◌, ◌%◌, ◌^◌, leb, length, take, drop}
use Rattle.reader.specs.Answer.{Answer, refused, and_then, Read, gives}
use Rattle.reader.specs.declared.answer.Halves.{Halves}
use Rattle.reader.specs.declared.endianity.RunTimeEndian.{RunTimeEndian}
use Rattle.reader.specs.declared.endianity.RunTimeEndian.TheVariants.{Little, Big}

-- the number whose digits are the low k bits of each element, the least significant first
unfoldable pub number : ℕ → List ℕ → ℕ
number k [] = 0
number k (b ∷ bs) = b % 2 ^ k + 2 ^ k * number k bs

abbrev pub is_big : RunTimeEndian → Bool
is_big Little = false
is_big Big = true

-- the bytes from the least significant on
abbrev pub ordered : RunTimeEndian → List ℕ → List ℕ
ordered Little bs = bs
ordered Big bs = reverse bs

-- 7.5.1 and 7.5.5: n bytes from a place on as a number
unfoldable pub spelled : List ℕ → ℕ → ℕ → RunTimeEndian → ℕ
spelled s at n e = number 8 (ordered e (take n (drop at s)))

-- 7.5.1 and 7.5.5: the same if they are there, else 2 (01's words)
unfoldable pub word_at : List ℕ → ℕ → ℕ → RunTimeEndian → Answer (Read ℕ)
word_at s at n e = cond (leb (at + n) (length s)) (gives (spelled s at n e) (at + n)) (refused 2)

-- the low and the high 64 bits of a number of 128
abbrev pub halves : ℕ → Halves
halves n = record { low = n % 2 ^ 64; high = n / 2 ^ 64 }

-- DWARF 5, 7.5.5, DW_FORM_data16; 01, `Data16` becomes the number's low and high 64 bits
unfoldable pub halves_at : List ℕ → ℕ → RunTimeEndian → Answer (Read Halves)
halves_at s at e = and_then (word_at s at 16 e) (λ r. gives (halves r.value) r.next)
