-- Laws of a numeral that is stored from its last digit on.
use mathlib.Core.Path.{◌≡◌, refl, sym, ap, ◌∙◌}
use mathlib.Core.List.{List, [], ◌∷◌, ◌++◌, append_assoc, append-nil}
use Prim.Native.Nat.{ℕ, ◌+◌, ◌-◌, ◌/◌, ◌%◌, ◌^◌, ◌≤◌, ◌<◌}
use native.Mathlib.Omega.{arith}
use native.Mathlib.Nat.{pow-le-pow_left, mod-lt}
use lib.ListN.{length, drop, set, get_or, length-set}
use Rattle.std.proofs.lemmas.List.{nil_from_length, length-drop, drop-set}
use Rattle.std.proofs.lemmas.List.FromFn.{get_or-map-range_with_len}
use Rattle.listing.specs.Text.{digit, numeral}
use Rattle.listing.proofs.TextLaws.{numeral_low, numeral_high, high_length, numeral_some, numeral_most}

-- the digits in their order
abbrev pub the_digits : List ℕ
the_digits = 48 ∷ 49 ∷ 50 ∷ 51 ∷ 52 ∷ 53 ∷ 54 ∷ 55 ∷ 56 ∷ 57 ∷ 97 ∷ 98 ∷ 99 ∷ 100 ∷ 101 ∷ 102 ∷ []

digit_there : (d : ℕ) → d < 16 → get_or the_digits d 0 ≡ digit d
unfolding digit
digit_there d h = get_or-map-range_with_len digit 0 16 d d 0 h (omega arith)

-- in a base of 10 or more
pub twenty : (base n : ℕ) → 10 ≤ base → n < 2 ^ 64 → length (numeral base n) ≤ 20
twenty base n h l = numeral_most base 19 n (omega arith) (omega (arith, pow-le-pow_left h 20))

-- the digits of `n` that are left, and those in the bytes behind a place
pub record Stored (base n left start : ℕ) (bytes : List ℕ) : Type 0 where
  pub size : length bytes ≡ 20
  pub inside : start ≤ 19
  pub room : length (numeral base left) ≤ start + 1
  pub digits : numeral base n ≡ numeral base left ++ drop (start + 1) bytes

pub stored_none : (base n : ℕ) (bytes : List ℕ) → 10 ≤ base → n < 2 ^ 64 → length bytes ≡ 20 → Stored base n n 19 bytes
stored_none base n bytes h l e =
    record {
      size = e;
      inside = omega arith;
      room = twenty base n h l;
      digits = sym (append-nil (numeral base n)) ∙ ap (λ (x : List ℕ). numeral base n ++ x) (sym (nil_from_length (drop 20 bytes) (length-drop 20 bytes ∙ omega arith)));
    }

module _ {base n left start : ℕ} {bytes : List ℕ} (h : 2 ≤ base) (s : Stored base n left start bytes) where
  pub stored_more : base ≤ left → 1 ≤ start
  stored_more k = omega (arith, high_length base left h k, s.room, numeral_some base (left / base) h)

  -- one digit more
  pub stored_further : base ≤ 16 → base ≤ left → Stored base n (left / base) (start - 1) (set bytes start (get_or the_digits (left % base) 0))
  stored_further b k =
      let one = stored_more k in
      let e : start - 1 + 1 ≡ start = omega arith in
      let there : start < length bytes = omega (arith, s.size, s.inside) in
      record {
        size = length-set bytes start _ ∙ s.size;
        inside = omega (arith, s.inside);
        room = omega (arith, high_length base left h k, s.room);
        digits =
            s.digits ∙ rw (numeral_high base left h k, append_assoc)
            (sym (rw (e, drop-set bytes start _ there, digit_there (left % base) (omega (arith, mod-lt left {m = base} (omega arith)))) refl));
      }

  -- the last
  pub stored_last : base ≤ 16 → left < base → drop start (set bytes start (get_or the_digits left 0)) ≡ numeral base n
  stored_last b k =
      let there : start < length bytes = omega (arith, s.size, s.inside) in
      rw (drop-set bytes start _ there, digit_there left (omega arith)) (sym (s.digits ∙ rw (numeral_low base left h k) refl))

-- a sign has room before the digits of a number that has one
pub sign_room : (n start : ℕ) (bytes : List ℕ) → length bytes ≡ 20 → n ≤ 2 ^ 63 → drop start bytes ≡ numeral 10 n → 1 ≤ start
sign_room n start bytes e h d =
    omega (arith, numeral_most 10 18 n (omega arith) (omega arith), length-drop start bytes, ap (λ (x : List ℕ). length x) d)

pub sign_stored : (t : List ℕ) (x start : ℕ) (bytes : List ℕ) → length bytes ≡ 20 → 1 ≤ start → start ≤ 20 → drop start bytes ≡ t → drop (start - 1) (set bytes (start - 1) x) ≡ x ∷ t
sign_stored t x start bytes e h l d =
    let f : start - 1 + 1 ≡ start = omega arith in
    drop-set bytes (start - 1) x (omega arith) ∙ rw (f, d) refl
