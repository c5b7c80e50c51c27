-- Laws of LEB128 numbers.
use mathlib.Core.Bool.{Bool, true, false, cond}
use mathlib.Core.Path.{◌≡◌, refl, sym, ap, ◌∙◌}
use mathlib.Core.List.{List}
use Prim.Native.Nat.{ℕ, suc, ◌+◌, ◌-◌, ◌*◌, ◌%◌, ◌^◌, ◌≤◌, ◌<◌}
use native.Mathlib.Omega.{arith}
use native.Mathlib.Nat.{mod-eq_of_lt}
use borrow.Author.Tests.{lt-ltb, le-ltb}
use lib.Dec.{ltb}
use lib.Pow.{pow_mono}
use lib.ListN.{length, take, drop, get_or, length-take, length-drop, drop_of_length-le}
use lib.Seq.{drop-cons, get_or-take, get_or-drop, length-take-le}
use Rattle.reader.specs.Twos.{twos}
use Rattle.reader.specs.Answer.{Answer, got, refused, and_then, gives, placed}
use Rattle.reader.specs.Leb128.{through, most_bytes, extent, leb128, uleb_at, sleb_at, past_at}
use Rattle.reader.specs.Parts.{Ended}
use Rattle.reader.specs.Sound.{whole_of, integer_of}
use Rattle.reader.specs.Words.{number}
use lib.IntN.{pos, negsuc}
use lib.Signed.{mag}
use Rattle.reader.proofs.Signs.{last_fits, last_low, last_high, twos_low, twos_high}
use Rattle.reader.proofs.Numbers.{number_snoc, ltb_bits, above_fits}

-- ---- up to the first element below a bound

-- k more
abbrev more : ℕ → Answer ℕ → Answer ℕ
more j r = and_then r (λ k. got (j + k))

-- the first j elements are not below m
pub record Passed (m : ℕ) (xs : List ℕ) (j : ℕ) : Type 0 where
  pub is : through m xs ≡ more j (through m (drop j xs))

more_none : (r : Answer ℕ) → more 0 r ≡ r
more_none (got k) = let e : 0 + k ≡ k = omega arith in rw e
more_none (refused n) = refl

more_suc : (j : ℕ) (r : Answer ℕ) → more j (and_then r (λ k. got (suc k))) ≡ more (suc j) r
more_suc j (got k) = let e : j + suc k ≡ suc j + k = omega arith in rw e
more_suc j (refused n) = refl

pub passed_none : (m : ℕ) (xs : List ℕ) → Passed m xs 0
passed_none m xs = record { is = sym (more_none (through m xs)) }

module _ {m : ℕ} {xs : List ℕ} {j : ℕ} (t : Passed m xs j) where
  pub passed_all : length xs ≤ j → through m xs ≡ refused 2
  unfolding through
  passed_all h = rw (t.is, drop_of_length-le xs {i = j} h)

  pub passed_last : j < length xs → get_or xs j 0 < m → through m xs ≡ got (j + 1)
  unfolding through
  passed_last h k = rw (t.is, drop-cons xs j 0 h, lt-ltb (get_or xs j 0) m k)

  pub passed_more : j < length xs → m ≤ get_or xs j 0 → Passed m xs (suc j)
  unfolding through
  passed_more h k = record { is = rw (t.is, drop-cons xs j 0 h, le-ltb (get_or xs j 0) m k) (more_suc j (through m (drop (suc j) xs))) }

-- from `at` to p no byte is below m
pub record Skipping (s : List ℕ) (at m p : ℕ) : Type 0 where
  pub from : at ≤ p
  pub on : Passed m (drop at s) (p - at)

module _ {s : List ℕ} {at m p : ℕ} (t : Skipping s at m p) where
  pub skip_ended : length s ≤ p → past_at s at m ≡ refused 2
  unfolding past_at
  skip_ended h = rw (passed_all t.on (rw (length-drop at s) (omega arith)))

  module _ (h : p < length s) where
    within : p - at < length (drop at s)
    within = rw (length-drop at s) (omega (arith, t.from))

    there : get_or (drop at s) (p - at) 0 ≡ get_or s p 0
    there = let e : at + (p - at) ≡ p = omega (arith, t.from) in rw (get_or-drop at s (p - at) 0, e)

    pub skip_final : get_or s p 0 < m → past_at s at m ≡ got (p + 1)
    unfolding past_at
    skip_final k =
        let e : at + (p - at + 1) ≡ p + 1 = omega (arith, t.from) in
        rw (passed_last t.on within (rw there k), e)

    pub skip_further : m ≤ get_or s p 0 → Skipping s at m (p + 1)
    skip_further k =
        let e : p + 1 - at ≡ suc (p - at) = omega (arith, t.from) in
        record { from = omega (arith, t.from); on = rw e (passed_more t.on within (rw there k)) }

-- ---- a number, byte by byte

-- from `at` to p bytes were read that go on, and v of sh bits is their number
pub record Reading (s : List ℕ) (at w v sh p : ℕ) : Type 0 where
  pub from : at ≤ p
  pub reached : p - at ≤ length s - at
  pub some : sh < w
  pub bits : sh ≡ 7 * (p - at)
  pub under : v < 2 ^ sh
  pub worth : v ≡ number 7 (take (p - at) (drop at s))
  pub on : Passed 128 (take (most_bytes w) (drop at s)) (p - at)

pub begun : (s : List ℕ) (at w : ℕ) → 1 ≤ w → Reading s at w 0 0 at
unfolding number
begun s at w h =
    let e : at - at ≡ 0 = omega arith in
    record {
      from = omega arith;
      reached = omega arith;
      some = omega arith;
      bits = omega arith;
      under = omega arith;
      worth = rw e;
      on = rw e (passed_none 128 (take (most_bytes w) (drop at s)));
    }

module _ {s : List ℕ} {at w v sh p : ℕ} (t : Reading s at w v sh p) where
  most : p - at < most_bytes w
  most = omega (arith, t.some, t.bits)

  pub ended : length s ≤ p → (n : ℕ) → extent (most_bytes w) n (drop at s) ≡ refused 2
  unfolding extent
  ended h n =
      let l : length (drop at s) < most_bytes w = rw (length-drop at s) (omega (arith, most)) in
      let a : length (take (most_bytes w) (drop at s)) ≤ p - at = rw (length-take (most_bytes w) (drop at s), length-drop at s) (omega arith) in
      rw (passed_all t.on a, lt-ltb (length (drop at s)) (most_bytes w) l)

  module _ (b : ℕ) (h : p < length s) (q : b ≡ get_or s p 0) where
    place : at + (p - at) ≡ p
    place = omega (arith, t.from)

    here : get_or (drop at s) (p - at) 0 ≡ b
    here = rw (get_or-drop at s (p - at) 0, place, q)

    inside : p - at < length (take (most_bytes w) (drop at s))
    inside = rw (length-take (most_bytes w) (drop at s), length-drop at s) (omega (arith, most))

    first : get_or (take (most_bytes w) (drop at s)) (p - at) 0 ≡ b
    first = rw (get_or-take (most_bytes w) (drop at s) (p - at) 0 most, here)

    one : p + 1 - at ≡ suc (p - at)
    one = omega (arith, t.from)

    worth_more : number 7 (take (p + 1 - at) (drop at s)) ≡ v + b % 128 * 2 ^ sh
    worth_more =
        rw (one, number_snoc 7 (p - at) (drop at s) (rw (length-drop at s) (omega (arith, t.from))), here, ← t.worth, ← t.bits)

    pub final : b < 128 → Ended s at w v sh b (p + 1)
    unfolding extent
    final k =
        let e : b % 128 ≡ b = mod-eq_of_lt k in
        let c : through 128 (take (most_bytes w) (drop at s)) ≡ got (p + 1 - at) =
        passed_last t.on inside (rw first k) ∙ ap got (omega (arith, t.from)) in
        record {
          sound = record { some = t.some; under = t.under; seven = k };
          within = omega arith;
          bits = omega (arith, t.bits, t.from);
          place = omega (arith, t.from);
          count = λ n. rw c;
          worth = rw e at worth_more;
        }

    pub longer : 128 ≤ b → w - sh ≤ 7 → (n : ℕ) → extent (most_bytes w) n (drop at s) ≡ refused n
    unfolding extent
    longer k l n =
        let a : length (take (most_bytes w) (drop at s)) ≤ suc (p - at) = rw (length-take (most_bytes w) (drop at s)) (omega (arith, t.bits)) in
        let d : most_bytes w ≤ length (drop at s) = rw (length-drop at s) (omega (arith, t.bits, t.from)) in
        rw (passed_all (passed_more t.on inside (rw first k)) a, le-ltb (length (drop at s)) (most_bytes w) d)

    pub further : 128 ≤ b → b < 256 → 7 < w - sh → Reading s at w (v + (b - 128) * 2 ^ sh) (sh + 7) (p + 1)
    further k m l =
        let e : b % 128 ≡ b - 128 = omega arith in
        record {
          from = omega (arith, t.from);
          reached = omega (arith, t.from);
          some = omega arith;
          bits = omega (arith, t.bits, t.from);
          under = above_fits (sh + 7) 7 v (b - 128) sh t.under (omega arith) (omega arith);
          worth = sym (rw e at worth_more);
          on = rw one (passed_more t.on inside (rw first k));
        }

-- ---- a number by its parts

placed_cond : {A : Type 0} (at k : ℕ) (t : Bool) (v : A) (n : ℕ) → placed at (cond t (gives v k) (refused n)) ≡ cond t (gives v (at + k)) (refused n)
placed_cond at k true v n = refl
placed_cond at k false v n = refl

module _ (s : List ℕ) (at w v sh b p : ℕ) (t : Ended s at w v sh b p) where
  pub unsigned_parts : uleb_at s at w ≡ whole_of w v sh b p
  unfolding uleb_at leb128 whole_of
  unsigned_parts =
      let o = t.sound in
      rw (t.count 3, t.worth, ltb_bits w sh v b (omega (arith, o.some)) o.under, placed_cond at (p - at) (ltb b (2 ^ (w - sh))) (v + b * 2 ^ sh) 3, t.place)

  pub signed_parts : sleb_at s at w ≡ integer_of w v sh b p
  unfolding sleb_at leb128 integer_of
  signed_parts =
      let o = t.sound in
      let l : length (take (p - at) (drop at s)) ≡ p - at = length-take-le (p - at) (drop at s) (rw (length-drop at s) (omega (arith, t.within))) in
      rw (
        t.count 4,
        l,
        t.bits,
        t.worth,
        last_fits v sh b o.under w o.some o.seven,
        placed_cond at (p - at) (ltb (mag (twos 7 b)) (2 ^ (w - sh - 1))) (twos (sh + 7) (v + b * 2 ^ sh)) 4,
        t.place,
      )

-- the signed number by the sign of its last byte
module _ (w v sh b p : ℕ) (under : v < 2 ^ sh) where
  pub integer_low : b < 64 → integer_of w v sh b p ≡ cond (ltb b (2 ^ (w - sh - 1))) (gives (pos (v + b * 2 ^ sh)) p) (refused 4)
  unfolding integer_of
  integer_low h = rw (twos_low 7 b h, last_low v sh b under h)

  pub integer_high : 64 ≤ b → b < 128 → integer_of w v sh b p ≡ cond (ltb (127 - b) (2 ^ (w - sh - 1))) (gives (negsuc (2 ^ sh - 1 - v + (127 - b) * 2 ^ sh)) p) (refused 4)
  unfolding integer_of
  integer_high h k = rw (twos_high 7 b h k, last_high v sh b under h k)

-- a number that does not end
pub unsigned_open : (s : List ℕ) (at w n : ℕ) → extent (most_bytes w) 3 (drop at s) ≡ refused n → uleb_at s at w ≡ refused n
unfolding uleb_at leb128
unsigned_open s at w n e = rw e

pub signed_open : (s : List ℕ) (at w n : ℕ) → extent (most_bytes w) 4 (drop at s) ≡ refused n → sleb_at s at w ≡ refused n
unfolding sleb_at leb128
signed_open s at w n e = rw e

-- a number of one byte
pub uleb_short : (s : List ℕ) (at width : ℕ) → 7 ≤ width → at < length s → get_or s at 0 < 128 → uleb_at s at width ≡ gives (get_or s at 0) (at + 1)
unfolding uleb_at leb128 extent through number
uleb_short s at width w h l =
    let b = get_or s at 0 in
    let v : b % 2 ^ 7 + 2 ^ 7 * 0 ≡ b = omega (arith, mod-eq_of_lt l) in
    let m : most_bytes width ≡ suc (most_bytes width - 1) = omega arith in
    rw (drop-cons s at 0 h, m, lt-ltb b 128 l, v, lt-ltb b (2 ^ width) (omega (arith, pow_mono {i = 7} {j = width} w)))
