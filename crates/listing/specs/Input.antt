-- The input of `shelflist` (document 01, "Readings"): for each of two sections a 4-byte little-endian count and as many bytes.
use Rattle.std.specs.Prelude.{cond, List, ℕ, leb}
use Rattle.reader.specs.Answer.{Answer, got, refused, Read}
use Rattle.reader.specs.Fields.{skip_at}
use Rattle.reader.specs.Words.{word_at}
use Rattle.reader.specs.declared.endianity.RunTimeEndian.TheVariants.{Little}

-- each count is at most this
abbrev pub most : ℕ
most = 32768

-- where a section starts and ends, or what is printed of the input instead
pub data Section : Type 0 where
  lies : (start end : ℕ) → Section
  too_long : Section
  short : Section

-- fewer bytes than counted
abbrev pub end_by : ℕ → Answer ℕ → Section
end_by start (got end) = lies start end
end_by start (refused n) = short

-- a count cut short
abbrev pub count_by : List ℕ → Answer (Read ℕ) → Section
count_by s (got r) = cond (leb r.value most) (end_by r.next (skip_at s r.next r.value)) too_long
count_by s (refused n) = short

unfoldable pub section_at : List ℕ → ℕ → Section
section_at s at = count_by s (word_at s at 4 Little)

-- both sections, judged in the order of the bytes; bytes past the second are ignored
pub data Input : Type 0 where
  both : (start end start' end' : ℕ) → Input
  not_both : Section → Input

abbrev pub second : ℕ → ℕ → Section → Input
second a b (lies c d) = both a b c d
second a b too_long = not_both too_long
second a b short = not_both short

abbrev pub first : List ℕ → Section → Input
first s (lies a b) = second a b (section_at s b)
first s too_long = not_both too_long
first s short = not_both short

unfoldable pub input_of : List ℕ → Input
input_of s = first s (section_at s 0)
