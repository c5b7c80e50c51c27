-- Laws of two's complement.
use mathlib.Core.Logic.{⊎_elim}
use mathlib.Core.Path.{◌≡◌, refl, sym, ap, ◌∙◌}
use Prim.Native.Nat.{ℕ, zero, suc, ◌+◌, ◌-◌, ◌*◌, ◌^◌, ◌≤◌, ◌<◌}
use native.Mathlib.Omega.{arith}
use native.Mathlib.Nat.{add-mul}
use borrow.Author.Tests.{lt-ltb, le-ltb, ltb-true, ltb-false}
use lib.Dec.{ltb}
use lib.IntN.{ℤ, pos, negsuc, ◌-ℤ◌}
use lib.Pow.{pow-add, pow_mono}
use lib.Signed.{mag}
use mir.Syntax.{w64}
use mir.Val.{to_z, of_z}
use mir.Facts.{to_z_pos}
use Rattle.std.proofs.lemmas.Bool.{cases_lt}
use Rattle.reader.specs.Twos.{twos, word}
use Rattle.reader.proofs.Numbers.{ltb_bits}

sub_more : (v P : ℕ) → v < P → pos v -ℤ pos P ≡ negsuc (P - 1 - v)
sub_more v zero h = absurd (omega arith)
sub_more v (suc Q) h =
    let e : suc Q - suc v ≡ suc Q - 1 - v = omega arith in
    rw (lt-ltb v (suc Q) h, e)

pub twos_low : (n v : ℕ) → v < 2 ^ (n - 1) → twos n v ≡ pos v
unfolding twos
twos_low n v h = rw (lt-ltb v (2 ^ (n - 1)) h)

pub twos_high : (n v : ℕ) → 2 ^ (n - 1) ≤ v → v < 2 ^ n → twos n v ≡ negsuc (2 ^ n - 1 - v)
unfolding twos
twos_high n v h k = rw (le-ltb v (2 ^ (n - 1)) h) (sub_more v (2 ^ n) k)

-- v of sh bits below the seven bits b
module _ (v sh b : ℕ) (under : v < 2 ^ sh) where
  top : sh + 7 - 1 ≡ sh + 6
  top = omega arith

  six : ltb (v + b * 2 ^ sh) (2 ^ (sh + 7 - 1)) ≡ ltb b 64
  six = let e : sh + 6 - sh ≡ 6 = omega arith in rw top (ltb_bits (sh + 6) sh v b (omega arith) under ∙ rw e)

  pub last_low : b < 64 → twos (sh + 7) (v + b * 2 ^ sh) ≡ pos (v + b * 2 ^ sh)
  last_low h = twos_low (sh + 7) (v + b * 2 ^ sh) (ltb-true _ _ (six ∙ lt-ltb b 64 h))

  complements : b < 128 → 2 ^ (sh + 7) - 1 - (v + b * 2 ^ sh) ≡ 2 ^ sh - 1 - v + (127 - b) * 2 ^ sh
  complements k =
      let e : 127 - b + b ≡ 127 = omega arith in
      let f = rw e at (add-mul (127 - b) b (2 ^ sh)) in
      rw (pow-add 2 sh 7) (omega arith)

  pub last_high : 64 ≤ b → b < 128 → twos (sh + 7) (v + b * 2 ^ sh) ≡ negsuc (2 ^ sh - 1 - v + (127 - b) * 2 ^ sh)
  last_high h k =
      let e : sh + 7 - sh ≡ 7 = omega arith in
      let a : 2 ^ (sh + 7 - 1) ≤ v + b * 2 ^ sh = ltb-false _ _ (six ∙ le-ltb b 64 h) in
      let c : v + b * 2 ^ sh < 2 ^ (sh + 7) = ltb-true _ _ (ltb_bits (sh + 7) sh v b (omega arith) under ∙ rw e (lt-ltb b 128 k)) in
      twos_high (sh + 7) (v + b * 2 ^ sh) a c ∙ ap negsuc (complements k)

  -- it fits w bits where the last seven bits, signed, fit those left
  pub last_fits : (w : ℕ) → sh < w → b < 128 → ltb (mag (twos (sh + 7) (v + b * 2 ^ sh))) (2 ^ (w - 1)) ≡ ltb (mag (twos 7 b)) (2 ^ (w - sh - 1))
  last_fits w l k = ⊎_elim low high (cases_lt b 64)
    where
      e : w - 1 - sh ≡ w - sh - 1
      e = omega arith

      low : b < 64 → ltb (mag (twos (sh + 7) (v + b * 2 ^ sh))) (2 ^ (w - 1)) ≡ ltb (mag (twos 7 b)) (2 ^ (w - sh - 1))
      low h = rw (last_low h, twos_low 7 b h, ← e) (ltb_bits (w - 1) sh v b (omega arith) under)

      high : 64 ≤ b → ltb (mag (twos (sh + 7) (v + b * 2 ^ sh))) (2 ^ (w - 1)) ≡ ltb (mag (twos 7 b)) (2 ^ (w - sh - 1))
      high h = rw (last_high h k, twos_high 7 b h k, ← e) (ltb_bits (w - 1) sh (2 ^ sh - 1 - v) (127 - b) (omega arith) (omega arith))

-- there and back
pub word_twos : (n v : ℕ) → v < 2 ^ n → word n (twos n v) ≡ v
unfolding word
word_twos n v h = ⊎_elim low high (cases_lt v (2 ^ (n - 1)))
  where
    low : v < 2 ^ (n - 1) → word n (twos n v) ≡ v
    low l = rw (twos_low n v l)

    high : 2 ^ (n - 1) ≤ v → word n (twos n v) ≡ v
    high l = rw (twos_high n v l h) (omega arith)

pub twos_word : (n : ℕ) (z : ℤ) → 0 < n → mag z < 2 ^ (n - 1) → twos n (word n z) ≡ z
unfolding word
twos_word n (pos k) l h = twos_low n k h
twos_word n (negsuc k) l h =
    let e : suc (n - 1) ≡ n = omega arith in
    let d : 2 ^ n ≡ 2 ^ suc (n - 1) = ap (λ (m : ℕ). 2 ^ m) (sym e) in
    let b : 2 ^ n - 1 - (2 ^ n - 1 - k) ≡ k = omega arith in
    twos_high n (2 ^ n - 1 - k) (omega arith) (omega arith) ∙ ap negsuc b

-- a number of n bits in more bits
pub extend_low : (n m v : ℕ) → 0 < n → n ≤ m → v < 2 ^ (n - 1) → twos m v ≡ twos n v
extend_low n m v l k h =
    let p = pow_mono {i = n - 1} {j = m - 1} (omega arith) in
    twos_low m v (omega arith) ∙ sym (twos_low n v h)

pub extend_high : (n m v : ℕ) → 0 < n → n ≤ m → 2 ^ (n - 1) ≤ v → v < 2 ^ n → twos m (v + (2 ^ m - 2 ^ n)) ≡ twos n v
extend_high n m v l k h b =
    let e : suc (n - 1) ≡ n = omega arith in
    let f : suc (m - 1) ≡ m = omega arith in
    let d : 2 ^ n ≡ 2 ^ suc (n - 1) = ap (λ (j : ℕ). 2 ^ j) (sym e) in
    let g : 2 ^ m ≡ 2 ^ suc (m - 1) = ap (λ (j : ℕ). 2 ^ j) (sym f) in
    let p = pow_mono {i = n - 1} {j = m - 1} (omega arith) in
    let q : 2 ^ m - 1 - (v + (2 ^ m - 2 ^ n)) ≡ 2 ^ n - 1 - v = omega arith in
    twos_high m (v + (2 ^ m - 2 ^ n)) (omega arith) (omega arith) ∙ ap negsuc q ∙ sym (twos_high n v h b)

-- std's casts
pub word_cast : (z : ℤ) → of_z w64 z ≡ word 64 z
unfolding word
word_cast (pos k) = refl
word_cast (negsuc k) = omega arith

pub twos_cast : (n : ℕ) → n < 2 ^ 64 → to_z w64 n ≡ twos 64 n
twos_cast n k = ⊎_elim (λ h. to_z_pos w64 h ∙ sym (twos_low 64 n h)) high (cases_lt n (2 ^ 63))
  where
    high : 2 ^ 63 ≤ n → to_z w64 n ≡ twos 64 n
    high h = rw (le-ltb n (2 ^ 63) h, twos_high 64 n h k) (ap negsuc (omega arith))
