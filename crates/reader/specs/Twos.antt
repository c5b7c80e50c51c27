-- Two's complement.
use Rattle.std.specs.Prelude.{cond, ℕ, ◌-◌, ◌^◌, ltb, ℤ, pos, negsuc, ◌-ℤ◌}

-- the number whose two's complement of n bits is v
unfoldable pub twos : ℕ → ℕ → ℤ
twos n v = cond (ltb v (2 ^ (n - 1))) (pos v) (pos v -ℤ pos (2 ^ n))

-- the two's complement of a number in n bits
unfoldable pub word : ℕ → ℤ → ℕ
word n (pos k) = k
word n (negsuc k) = 2 ^ n - 1 - k
