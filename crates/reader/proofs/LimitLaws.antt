-- The definitions of LEB128 come to document 01's limits by counts of bytes.
use mathlib.Core.Bool.{Bool, true, cond, ◌||◌}
use mathlib.Core.Logic.{⊎_elim}
use mathlib.Core.Path.{◌≡◌, refl, ap, ◌∙◌}
use mathlib.Core.List.{List}
use Prim.Native.Nat.{ℕ, suc, ◌+◌, ◌-◌, ◌*◌, ◌^◌, ◌≤◌, ◌<◌}
use native.Mathlib.Omega.{arith}
use native.Mathlib.Nat.{mod-eq_of_lt}
use borrow.Author.Tests.{lt-ltb, le-ltb, eq-eqb, ne_eqb}
use lib.Dec.{ltb, eqb}
use lib.ListN.{take, drop, get_or}
use lib.Pow.{pow_mono}
use lib.Seq.{length-take-le}
use lib.Signed.{mag}
use Rattle.std.proofs.lemmas.Bool.{cases_lt}
use Rattle.reader.specs.Twos.{twos}
use Rattle.reader.specs.Answer.{Answer, got, refused, and_then, gives, placed, Holds}
use Rattle.reader.specs.Leb128.{most_bytes, extent, leb128, unsigned, fits_unsigned, signed, fits_signed, uleb_at, sleb_at}
use Rattle.reader.specs.Limits.{limited}
use Rattle.reader.specs.Words.{number}
use Rattle.reader.proofs.Numbers.{number_below, number_snoc, ltb_bits}
use Rattle.reader.proofs.Signs.{twos_low, twos_high, last_fits}
use Rattle.reader.proofs.Accepted.{Extent, extent_in}

-- bits that are left for the last of all the bytes that w bits take
abbrev top_bits : ℕ → ℕ
top_bits w = w - 7 * (most_bytes w - 1)

module _ (w : ℕ) {xs : List ℕ} {k : ℕ} (x : Extent (most_bytes w) xs k) where
  last : ℕ
  last = get_or xs (k - 1) 0

  lower : ℕ
  lower = number 7 (take (k - 1) xs)

  shift : ℕ
  shift = 7 * (k - 1)

  some : shift < w
  unfolding shift
  some = omega (arith, x.some, x.most)

  lower_below : lower < 2 ^ shift
  unfolding lower shift
  lower_below = rw (length-take-le (k - 1) xs (omega (arith, x.within))) at (number_below 7 (take (k - 1) xs))

  worth_last : number 7 (take k xs) ≡ lower + last * 2 ^ shift
  unfolding last lower shift
  worth_last =
      let e : k ≡ suc (k - 1) = omega (arith, x.some) in
      ap (λ (j : ℕ). number 7 (take j xs)) e
      ∙ number_snoc 7 (k - 1) xs (omega (arith, x.some, x.within))
      ∙ ap (λ (b : ℕ). number 7 (take (k - 1) xs) + b * 2 ^ (7 * (k - 1))) (mod-eq_of_lt x.last)

  -- a test that every byte of fewer than the most passes, and of the most says what `top` says
  tested : (test : ℕ → Bool) → (k < most_bytes w → test (w - shift) ≡ true) → test (w - shift) ≡ (ltb k (most_bytes w) || test (top_bits w))
  unfolding shift
  tested test h = ⊎_elim fewer all (cases_lt k (most_bytes w))
    where
      fewer : k < most_bytes w → test (w - shift) ≡ (ltb k (most_bytes w) || test (top_bits w))
      fewer l = rw (h l, lt-ltb k (most_bytes w) l)

      all : most_bytes w ≤ k → test (w - shift) ≡ (ltb k (most_bytes w) || test (top_bits w))
      all l =
          let e : w - 7 * (k - 1) ≡ w - 7 * (most_bytes w - 1) = omega (arith, x.most) in
          rw (le-ltb k (most_bytes w) l, e)

  seven : k < most_bytes w → 2 ^ 7 ≤ 2 ^ (w - shift - 1)
  unfolding shift
  seven l = pow_mono {i = 7} {j = w - 7 * (k - 1) - 1} (omega (arith, x.some))

  unsigned_test : fits_unsigned w (unsigned (take k xs)) ≡ (ltb k (most_bytes w) || ltb last (2 ^ top_bits w))
  unfolding last shift lower
  unsigned_test =
      rw (worth_last, ltb_bits w shift lower last (omega (arith, some)) lower_below)
      (tested (λ n. ltb last (2 ^ n)) (λ l. lt-ltb last (2 ^ (w - shift)) (fits l)))
    where
      fits : k < most_bytes w → last < 2 ^ (w - shift)
      fits l = omega (arith, x.last, seven l, pow_mono {i = w - shift - 1} {j = w - shift} (omega arith))

  signed_test : fits_signed w (signed (take k xs)) ≡ (ltb k (most_bytes w) || ltb (mag (twos 7 last)) (2 ^ (top_bits w - 1)))
  unfolding last shift lower
  signed_test =
      rw (length-take-le k xs x.within, bits, worth_last, last_fits lower shift last lower_below w some below)
      (tested (λ n. ltb (mag (twos 7 last)) (2 ^ (n - 1))) (λ l. lt-ltb (mag (twos 7 last)) (2 ^ (w - shift - 1)) (⊎_elim (low l) (high l) (cases_lt last 64))))
    where
      bits : 7 * k ≡ shift + 7
      bits = omega (arith, x.some)

      below : last < 128
      below = x.last

      low : k < most_bytes w → last < 64 → mag (twos 7 last) < 2 ^ (w - shift - 1)
      low l h = rw (twos_low 7 last h) (omega (arith, seven l))

      high : k < most_bytes w → 64 ≤ last → mag (twos 7 last) < 2 ^ (w - shift - 1)
      high l h = rw (twos_high 7 last h below) (omega (arith, seven l))

-- a number that fits by its value is one that fits by its count of bytes and its last byte
module _ {A : Type 0} (w n : ℕ) (worth : List ℕ → A) (fits : A → Bool) (top : ℕ → Bool) (xs : List ℕ)
    (h : (k : ℕ) → Extent (most_bytes w) xs k → fits (worth (take k xs)) ≡ (ltb k (most_bytes w) || top (get_or xs (k - 1) 0))) where
  by_counts : leb128 w n worth fits xs ≡ limited (most_bytes w) n worth top xs
  unfolding leb128 limited
  by_counts = go (extent (most_bytes w) n xs) (extent_in (most_bytes w) n xs)
    where
      go : (r : Answer ℕ) → Holds (Extent (most_bytes w) xs) r
          → and_then r (λ k. cond (fits (worth (take k xs))) (gives (worth (take k xs)) k) (refused n))
          ≡ and_then r (λ k. cond (ltb k (most_bytes w) || top (get_or xs (k - 1) 0)) (gives (worth (take k xs)) k) (refused n))
      go (got k) x = rw (h k x)
      go (refused e) x = refl

-- unsigned: the last byte of the most is below 2 ^ top_bits
pub unsigned_limits : (w : ℕ) (xs : List ℕ) → leb128 w 3 unsigned (fits_unsigned w) xs ≡ limited (most_bytes w) 3 unsigned (λ b. ltb b (2 ^ top_bits w)) xs
unfolding last
unsigned_limits w xs = by_counts w 3 unsigned (fits_unsigned w) (λ b. ltb b (2 ^ top_bits w)) xs (λ k x. unsigned_test w x)

-- signed: its seven bits, signed, are a number of top_bits
pub signed_limits : (w : ℕ) (xs : List ℕ) → leb128 w 4 signed (fits_signed w) xs ≡ limited (most_bytes w) 4 signed (λ b. ltb (mag (twos 7 b)) (2 ^ (top_bits w - 1))) xs
unfolding last
signed_limits w xs = by_counts w 4 signed (fits_signed w) (λ b. ltb (mag (twos 7 b)) (2 ^ (top_bits w - 1))) xs (λ k x. signed_test w x)

-- the tests that say the same of a last byte
limited_same : {A : Type 0} (m n : ℕ) (worth : List ℕ → A) (top other : ℕ → Bool) (xs : List ℕ) → ((b : ℕ) → b < 128 → top b ≡ other b) → limited m n worth top xs ≡ limited m n worth other xs
unfolding limited
limited_same m n worth top other xs h = go (extent m n xs) (extent_in m n xs)
  where
    go : (r : Answer ℕ) → Holds (Extent m xs) r
        → and_then r (λ k. cond (ltb k m || top (get_or xs (k - 1) 0)) (gives (worth (take k xs)) k) (refused n))
        ≡ and_then r (λ k. cond (ltb k m || other (get_or xs (k - 1) 0)) (gives (worth (take k xs)) k) (refused n))
    go (got k) x = rw (h (get_or xs (k - 1) 0) x.last)
    go (refused e) x = refl

-- a byte of seven bits is 0 or -1
none_or_all : (b : ℕ) → b < 128 → ltb (mag (twos 7 b)) 1 ≡ (eqb b 0 || eqb b 0x7f)
none_or_all b k = ⊎_elim low high (cases_lt b 64)
  where
    low : b < 64 → ltb (mag (twos 7 b)) 1 ≡ (eqb b 0 || eqb b 0x7f)
    low h = rw (twos_low 7 b h, ne_eqb b 0x7f (λ e. omega arith)) (⊎_elim
        (λ l. let e : b ≡ 0 = omega arith in rw e)
        (λ l. rw (le-ltb b 1 l, ne_eqb b 0 (λ e. omega arith)))
        (cases_lt b 1))

    high : 64 ≤ b → ltb (mag (twos 7 b)) 1 ≡ (eqb b 0 || eqb b 0x7f)
    high h = rw (twos_high 7 b h k, ne_eqb b 0 (λ e. omega arith)) (⊎_elim
        (λ l. rw (lt-ltb (127 - b) 1 l, eq-eqb b 0x7f (omega arith)))
        (λ l. rw (le-ltb (127 - b) 1 l, ne_eqb b 0x7f (λ e. omega arith)))
        (cases_lt (127 - b) 1))

-- 01: unsigned, ten bytes at most, the tenth 0 or 1
pub uleb_64 : (s : List ℕ) (at : ℕ) → uleb_at s at 64 ≡ placed at (limited 10 3 unsigned (λ b. ltb b 2) (drop at s))
unfolding uleb_at
uleb_64 s at = rw (unsigned_limits 64 (drop at s))

-- 01: 16-bit, a third byte is at most 3 and is the last
pub uleb_16 : (s : List ℕ) (at : ℕ) → uleb_at s at 16 ≡ placed at (limited 3 3 unsigned (λ b. ltb b 4) (drop at s))
unfolding uleb_at
uleb_16 s at = rw (unsigned_limits 16 (drop at s))

-- 01: signed, a tenth byte is 0 or 0x7f
pub sleb_64 : (s : List ℕ) (at : ℕ) → sleb_at s at 64 ≡ placed at (limited 10 4 signed (λ b. eqb b 0 || eqb b 0x7f) (drop at s))
unfolding sleb_at
sleb_64 s at =
    rw (signed_limits 64 (drop at s), limited_same 10 4 signed (λ b. ltb (mag (twos 7 b)) 1) (λ b. eqb b 0 || eqb b 0x7f) (drop at s) none_or_all)
