-- Document 01, "Readings": the lines of `shelflist`, as bytes.
use Rattle.std.specs.Prelude.{cond, List, [], ◌∷◌, ◌++◌, ℕ, zero, suc, ◌+◌, ◌/◌, ◌%◌, ltb, ℤ, pos, negsuc}
use Prim.Native.Char.{code}
use Prim.Native.String as string
use Prim.Native.String.{String}

-- the bytes of a text in ASCII
abbrev pub ascii : String → List ℕ
ascii string.[] = []
ascii (string.◌∷◌ c s) = code c ∷ ascii s

-- ---- numbers

-- 0 to 9, then small letters
unfoldable pub digit : ℕ → ℕ
digit d = cond (ltb d 10) (48 + d) (87 + d)

-- a number in a base, from its highest digit on; k digits at most
unfoldable pub numeral_within : ℕ → ℕ → ℕ → List ℕ
numeral_within base zero n = []
numeral_within base (suc k) n = cond (ltb n base) (digit n ∷ []) (numeral_within base k (n / base) ++ (digit (n % base) ∷ []))

-- without leading zeros. No number has more digits than this (`numeral_step`)
unfoldable pub numeral : ℕ → ℕ → List ℕ
numeral base n = numeral_within base (suc n) n

-- decimal, with a minus sign if negative
unfoldable pub signed_numeral : ℤ → List ℕ
signed_numeral (pos n) = numeral 10 n
signed_numeral (negsuc n) = ascii "-" ++ numeral 10 (suc n)

-- ---- lines

pub data Line : Type 0 where
  unit_line : (offset version bits width : ℕ) → Line
  entry_line : (offset : ℕ) (depth : ℤ) (tag count : ℕ) → Line
  null_line : (offset : ℕ) (depth : ℤ) → Line
  refused_line : (number : ℕ) → Line
  end_line : Line

-- an offset in a unit, and a depth
abbrev pub place : ℕ → ℤ → List ℕ
place offset depth = numeral 10 offset ++ ascii " " ++ signed_numeral depth

unfoldable pub text : Line → List ℕ
text (unit_line offset version bits width) = ascii "unit " ++ numeral 10 offset ++ ascii " " ++ numeral 10 version ++ ascii " " ++ numeral 10 bits ++ ascii " " ++ numeral 10 width ++ ascii "\n"
text (entry_line offset depth tag count) = place offset depth ++ ascii " 0x" ++ numeral 16 tag ++ ascii " " ++ numeral 10 count ++ ascii "\n"
text (null_line offset depth) = place offset depth ++ ascii " null\n"
text (refused_line number) = ascii "refused " ++ numeral 10 number ++ ascii "\n"
text end_line = ascii "end\n"
