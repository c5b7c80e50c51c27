-- Laws of padded LEB128 numbers: whether fewer bytes would do, by existence, by the limits and by the last bytes.
use mathlib.Core.Bool.{Bool, true, false, cond}
use mathlib.Core.Logic.{◌↔◌, ⊎_elim}
use mathlib.Core.Path.{◌≡◌, refl, sym, ap, ◌∙◌}
use mathlib.Core.List.{List, [], ◌∷◌}
use Prim.Native.Nat.{ℕ, zero, suc, ◌+◌, ◌-◌, ◌*◌, ◌/◌, ◌%◌, ◌^◌, ◌≤◌, ◌<◌}
use native.Mathlib.Omega.{arith}
use native.Mathlib.Nat.{mul-suc, mul-le-mul_right, mod-lt, mod-mod, mod-add-div, add-mod_left, mod-eq_of_lt, lt_of_lt_of_le}
use borrow.Author.Tests.{lt-ltb, le-ltb, ltb-true, ltb-false, ne_eqb}
use lib.Dec.{eqb, ltb}
use lib.IntN.{ℤ, pos, negsuc}
use lib.ListN.{length, take, drop, get_or, length-drop}
use lib.Pow.{pow_mono, pow_pos, shr_lt}
use lib.Seq.{get_or-take, get_or-drop, length-take-le, take_all}
use lib.Signed.{mag}
use Rattle.std.proofs.lemmas.Bool.{and_parts, cases_lt}
use Rattle.std.proofs.lemmas.Nat.Bits.{and_pow}
use Rattle.std.specs.Int.Bits.{bit_and}
use Rattle.reader.specs.Answer.{Answer, got, refused, and_then, Read, gives, placed, Holds}
use Rattle.reader.specs.Leb128.{through, most_bytes, extent, leb128, unsigned, fits_unsigned, signed, fits_signed, uleb_at, sleb_at}
use Rattle.reader.specs.Padded.{Fewer, fewer, counted, uleb_counted_at, sleb_counted_at, zero_last, sign_last}
use Rattle.reader.specs.declared.answer.Counted.{Counted}
use Rattle.reader.specs.Parts.{RuledUnsigned, RuledSigned}
use Rattle.reader.specs.Twos.{twos, word}
use Rattle.reader.specs.Words.{number}
use Rattle.reader.proofs.Accepted.{Extent, read_holds}
use Rattle.reader.proofs.Answers.{holds_then, cond_by}
use Rattle.reader.proofs.Numbers.{number_below, number_snoc, ltb_bits}
use Rattle.reader.proofs.Signs.{twos_word, twos_low, twos_high, last_low, last_high}

-- ---- the bytes of a number, as many as are asked for

-- n digits of seven bits, the least significant first
unfoldable digits : ℕ → ℕ → List ℕ
digits zero v = []
digits (suc n) v = v % 128 ∷ digits n (v / 128)

-- the high bit in each but the last
unfoldable chained : List ℕ → List ℕ
chained [] = []
chained (d ∷ []) = d ∷ []
chained (d ∷ c ∷ ds) = (128 + d) ∷ chained (c ∷ ds)

abbrev bytes_of : ℕ → ℕ → List ℕ
bytes_of n v = chained (digits n v)

length_digits : (n v : ℕ) → length (digits n v) ≡ n
unfolding digits
length_digits zero v = refl
length_digits (suc n) v = ap suc (length_digits n (v / 128))

length_chained : (ds : List ℕ) → length (chained ds) ≡ length ds
unfolding chained
length_chained [] = refl
length_chained (d ∷ []) = refl
length_chained (d ∷ c ∷ ds) = ap suc (length_chained (c ∷ ds))

length_bytes : (n v : ℕ) → length (bytes_of n v) ≡ n
length_bytes n v = length_chained (digits n v) ∙ length_digits n v

number_digits : (n v : ℕ) → v < 2 ^ (7 * n) → number 7 (digits n v) ≡ v
unfolding digits number
number_digits zero v h = omega arith
number_digits (suc n) v h =
    let l : v < 2 ^ (7 * n + 7) = rw (mul-suc 7 n) at h in
    rw (number_digits n (v / 128) (shr_lt (7 * n) 7 l), mod-mod v 128) (mod-add-div v 128)

number_chained : (ds : List ℕ) → number 7 (chained ds) ≡ number 7 ds
unfolding chained number
number_chained [] = refl
number_chained (d ∷ []) = refl
number_chained (d ∷ c ∷ ds) = rw (add-mod_left 128 d) (ap (λ (n : ℕ). d % 128 + 128 * n) (number_chained (c ∷ ds)))

through_bytes : (n v : ℕ) → through 128 (bytes_of (suc n) v) ≡ got (suc n)
unfolding chained digits through
through_bytes zero v = rw (lt-ltb (v % 128) 128 (mod-lt v (omega arith)))
through_bytes (suc n) v = rw (le-ltb (128 + v % 128) 128 (omega arith), through_bytes n (v / 128))

bytes_low : (n v i : ℕ) → get_or (bytes_of n v) i 0 < 256
unfolding chained digits
bytes_low zero v i = omega arith
bytes_low (suc zero) v zero = omega (arith, mod-lt v {m = 128} (omega arith))
bytes_low (suc zero) v (suc i) = omega arith
bytes_low (suc (suc n)) v zero = omega (arith, mod-lt v {m = 128} (omega arith))
bytes_low (suc (suc n)) v (suc i) = bytes_low (suc n) (v / 128) i

-- ---- fewer would do, for either sign

-- what a number is worth and the room that it needs belong together
record Spelling {A : Type 0} (worth : List ℕ → A) (fits : ℕ → A → Bool) : Type 0 where
  -- the bits of a number in j bytes
  bits : ℕ → A → ℕ
  below : (j : ℕ) (v : A) → 1 ≤ j → fits (7 * j) v ≡ true → bits j v < 2 ^ (7 * j)
  back : (xs : List ℕ) (v : A) → 1 ≤ length xs → fits (7 * length xs) v ≡ true → number 7 xs ≡ bits (length xs) v → worth xs ≡ v
  -- so many bytes are worth no more
  room : (xs : List ℕ) (m : ℕ) → 1 ≤ length xs → 7 * length xs ≤ m → fits m (worth xs) ≡ true

below_unsigned : (xs : List ℕ) (m : ℕ) → 7 * length xs ≤ m → fits_unsigned m (unsigned xs) ≡ true
below_unsigned xs m h = lt-ltb _ _ (lt_of_lt_of_le (number_below 7 xs) (pow_mono {i = 7 * length xs} {j = m} h))

unsigned_spelling : Spelling unsigned fits_unsigned
unsigned_spelling =
    record {
      bits = λ j v. v;
      below = λ j v h f. ltb-true _ _ f;
      back = λ xs v h f e. e;
      room = λ xs m h l. below_unsigned xs m l;
    }

mag_twos : (n v : ℕ) → 0 < n → v < 2 ^ n → mag (twos n v) < 2 ^ (n - 1)
mag_twos n v l h = ⊎_elim low high (cases_lt v (2 ^ (n - 1)))
  where
    low : v < 2 ^ (n - 1) → mag (twos n v) < 2 ^ (n - 1)
    low k = rw (twos_low n v k) k

    high : 2 ^ (n - 1) ≤ v → mag (twos n v) < 2 ^ (n - 1)
    high k =
        let e : suc (n - 1) ≡ n = omega arith in
        let d : 2 ^ n ≡ 2 ^ suc (n - 1) = ap (λ (m : ℕ). 2 ^ m) (sym e) in
        rw (twos_high n v k h) (omega arith)

word_below : (n : ℕ) (z : ℤ) → 0 < n → mag z < 2 ^ (n - 1) → word n z < 2 ^ n
unfolding word
word_below n (pos k) l h = lt_of_lt_of_le h (pow_mono {i = n - 1} {j = n} (omega arith))
word_below n (negsuc k) l h = omega (arith, pow_pos n)

below_signed : (xs : List ℕ) (m : ℕ) → 1 ≤ length xs → 7 * length xs ≤ m → fits_signed m (signed xs) ≡ true
below_signed xs m h l =
    lt-ltb _ _ (lt_of_lt_of_le (mag_twos (7 * length xs) (number 7 xs) (omega arith) (number_below 7 xs)) (pow_mono {i = 7 * length xs - 1} {j = m - 1} (omega arith)))

signed_spelling : Spelling signed fits_signed
signed_spelling =
    record {
      bits = λ j z. word (7 * j) z;
      below = λ j z h f. word_below (7 * j) z (omega arith) (ltb-true _ _ f);
      back = λ xs z h f e. ap (twos (7 * length xs)) e ∙ twos_word (7 * length xs) z (omega arith) (ltb-true _ _ f);
      room = λ xs m h l. below_signed xs m h l;
    }

module _ {A : Type 0} (worth : List ℕ → A) (fits : ℕ → A → Bool) (p : Spelling worth fits) (w n : ℕ) where
  abbrev reader : List ℕ → Answer (Read A)
  reader bs = placed 0 (leb128 w n worth (fits w) (drop 0 bs))

  -- its own bytes are read to the number
  spelled : (j : ℕ) (v : A) → 1 ≤ j → j ≤ most_bytes w → fits (7 * j) v ≡ true → fits w v ≡ true → reader (bytes_of j (p.bits j v)) ≡ gives v j
  unfolding leb128 extent
  spelled zero v h m f g = absurd (omega arith)
  spelled (suc j) v h m f g =
      let b = bytes_of (suc j) (p.bits (suc j) v) in
      let l : length b ≡ suc j = length_bytes (suc j) (p.bits (suc j) v) in
      let e : number 7 b ≡ p.bits (suc j) v = number_chained (digits (suc j) (p.bits (suc j) v)) ∙ number_digits (suc j) (p.bits (suc j) v) (p.below (suc j) v h f) in
      let x : worth b ≡ v = p.back b v (rw l h) (rw l f) (rw l e) in
      rw (take_all (most_bytes w) b (rw l m), through_bytes j (p.bits (suc j) v), take_all (suc j) b (rw l (omega arith)), x, g) (let z : 0 + suc j ≡ suc j = omega arith in ap (gives v) z)

  module _ (k : ℕ) (v : A) (some : 1 ≤ k) (most : k ≤ most_bytes w) (held : fits w v ≡ true) where
    exists : fewer fits k v ≡ true → Fewer reader k v
    exists h =
        let a = and_parts (ltb 1 k) (fits (7 * (k - 1)) v) h in
        let l = ltb-true 1 k a.0 in
        let u = p.bits (k - 1) v in
        record {
          bytes = bytes_of (k - 1) u;
          are_bytes = bytes_low (k - 1) u;
          shorter = rw (length_bytes (k - 1) u) (omega arith);
          next = k - 1;
          same = spelled (k - 1) v (omega arith) (omega arith) a.1 held;
        }

    enough : Fewer reader k v → fewer fits k v ≡ true
    enough f = go (reader f.bytes) (read_holds f.bytes 0 w n worth (fits w) Short short) f.same
      where
        Short : Read A → Type 0
        Short r = fewer fits k r.value ≡ true

        short : (j : ℕ) → Extent (most_bytes w) (drop 0 f.bytes) j → fits w (worth (take j (drop 0 f.bytes))) ≡ true → Short (record { value = worth (take j (drop 0 f.bytes)); next = 0 + j })
        short j x g =
            let l : length (take j f.bytes) ≡ j = length-take-le j f.bytes x.within in
            let c : 1 < k = omega (arith, x.some, x.within, f.shorter) in
            rw (lt-ltb 1 k c) (p.room (take j f.bytes) (7 * (k - 1)) (rw l x.some) (rw l (omega (arith, x.within, f.shorter))))

        go : (r : Answer (Read A)) → Holds Short r → r ≡ gives v f.next → fewer fits k v ≡ true
        go (got r) h e = let q : r.value ≡ v = ap_value e in rw q at h
          where
            ap_value : got r ≡ gives v f.next → r.value ≡ v
            ap_value e = cc
        go (refused m) h e = let z : ◌≡◌ {A = ℕ} 0 1 = cc in absurd (omega arith)

    decides : (fewer fits k v ≡ true) ↔ Fewer reader k v
    decides = (exists, enough)

  -- a number that was read at a place: where it ends, and the mark
  abbrev Told : ℕ → Read (Counted A) → Type 0
  Told at r = (r.next ≡ at + r.value.count) × ((r.value.padded ≡ true) ↔ Fewer reader r.value.count r.value.number)

  told : (s : List ℕ) (at : ℕ) → Holds (Told at) (counted fits at (placed at (leb128 w n worth (fits w) (drop at s))))
  told s at =
      holds_then Good (Told at) (placed at (leb128 w n worth (fits w) (drop at s))) _
      (read_holds s at w n worth (fits w) Good
      (λ k x e. let q : at + k - at ≡ k = omega arith in (ap (λ (j : ℕ). at + j) (sym q), rw q (decides k (worth (take k (drop at s))) x.some x.most e))))
      (λ r g. g)
    where
      Good : Read A → Type 0
      Good r = (r.next ≡ at + (r.next - at)) × ((fewer fits (r.next - at) r.value ≡ true) ↔ Fewer reader (r.next - at) r.value)

-- request 2: the count is that of the bytes used, and a number is padded exactly if some shorter list of bytes is read to it, by the
-- same reader of w bits
pub unsigned_fewer : (s : List ℕ) (at w : ℕ)
    → Holds (λ r. (r.next ≡ at + r.value.count) × ((r.value.padded ≡ true) ↔ Fewer (λ bs. uleb_at bs 0 w) r.value.count r.value.number)) (uleb_counted_at s at w)
unfolding uleb_counted_at uleb_at
unsigned_fewer s at w = told unsigned fits_unsigned unsigned_spelling w 3 s at

pub signed_fewer : (s : List ℕ) (at w : ℕ)
    → Holds (λ r. (r.next ≡ at + r.value.count) × ((r.value.padded ≡ true) ↔ Fewer (λ bs. sleb_at bs 0 w) r.value.count r.value.number)) (sleb_counted_at s at w)
unfolding sleb_counted_at sleb_at
signed_fewer s at w = told signed fits_signed signed_spelling w 4 s at

-- request 2: without count and mark, each reader is what it was
counted_number : {A : Type 0} (fits : ℕ → A → Bool) (at : ℕ) (r : Answer (Read A)) → and_then (counted fits at r) (λ x. gives x.value.number x.next) ≡ r
counted_number fits at (got x) = refl
counted_number fits at (refused n) = refl

pub unsigned_number : (s : List ℕ) (at w : ℕ) → and_then (uleb_counted_at s at w) (λ x. gives x.value.number x.next) ≡ uleb_at s at w
unfolding uleb_counted_at
unsigned_number s at w = counted_number fits_unsigned at (uleb_at s at w)

pub signed_number : (s : List ℕ) (at w : ℕ) → and_then (sleb_counted_at s at w) (λ x. gives x.value.number x.next) ≡ sleb_at s at w
unfolding sleb_counted_at
signed_number s at w = counted_number fits_signed at (sleb_at s at w)

-- ---- the rule on the last bytes

-- the bytes before the last have the high bit
through_before : (m : ℕ) (xs : List ℕ) → Holds (λ k. (i : ℕ) → suc i < k → m ≤ get_or xs i 0) (through m xs)
unfolding through
through_before m [] = tt
through_before m (b ∷ bs) =
    cond_by (Holds (λ k. (i : ℕ) → suc i < k → m ≤ get_or (b ∷ bs) i 0)) (ltb b m) (got 1) _ (λ t i h. absurd (omega arith))
    (λ t. holds_then (λ k. (i : ℕ) → suc i < k → m ≤ get_or bs i 0) (λ k. (i : ℕ) → suc i < k → m ≤ get_or (b ∷ bs) i 0) (through m bs) _ (through_before m bs) (λ k f. more k f (ltb-false b m t)))
  where
    more : (k : ℕ) → ((i : ℕ) → suc i < k → m ≤ get_or bs i 0) → m ≤ b → (i : ℕ) → suc i < suc k → m ≤ get_or (b ∷ bs) i 0
    more k f l zero h = l
    more k f l (suc i) h = f i (omega arith)

-- b is the last of suc j bytes
module _ (xs : List ℕ) (j : ℕ) (h : j < length xs) where
  part : number 7 (take j xs) < 2 ^ (7 * j)
  part = rw (length-take-le j xs (omega arith)) at (number_below 7 (take j xs))

  whole : get_or xs j 0 < 128 → number 7 (take (suc j) xs) ≡ number 7 (take j xs) + get_or xs j 0 * 2 ^ (7 * j)
  whole l = let e : get_or xs j 0 % 128 ≡ get_or xs j 0 = mod-eq_of_lt l in rw e at (number_snoc 7 j xs h)

zero_eqb : (b : ℕ) → ltb b 1 ≡ eqb b 0
zero_eqb zero = refl
zero_eqb (suc b) = le-ltb (suc b) 1 (omega arith) ∙ sym (ne_eqb (suc b) 0 (λ q. omega arith))

unsigned_last : (xs : List ℕ) (j : ℕ) → j < length xs → get_or xs j 0 < 128 → fits_unsigned (7 * j) (unsigned (take (suc j) xs)) ≡ eqb (get_or xs j 0) 0
unsigned_last xs j h l =
    let e : 7 * j - 7 * j ≡ 0 = omega arith in
    rw (whole xs j h l) (ltb_bits (7 * j) (7 * j) (number 7 (take j xs)) (get_or xs j 0) (omega arith) (part xs j h) ∙ rw e (zero_eqb (get_or xs j 0)))

-- a last byte b above x of sh bits
module _ (x sh b : ℕ) (under : x < 2 ^ sh) (some : 0 < sh) where
  double : 2 ^ sh ≡ 2 ^ (sh - 1) + 2 ^ (sh - 1)
  double = let e : suc (sh - 1) ≡ sh = omega arith in let d : 2 ^ sh ≡ 2 ^ suc (sh - 1) = ap (λ (m : ℕ). 2 ^ m) (sym e) in omega arith

  higher : (c y : ℕ) → 1 ≤ c → ltb (y + c * 2 ^ sh) (2 ^ (sh - 1)) ≡ false
  higher c y k = let m = mul-le-mul_right {m = 1} {n = c} (2 ^ sh) k in le-ltb (y + c * 2 ^ sh) (2 ^ (sh - 1)) (omega (arith, double))

  cond_false : (t : Bool) → false ≡ cond t false false
  cond_false true = refl
  cond_false false = refl

  signed_last : b < 128 → ltb (mag (twos (sh + 7) (x + b * 2 ^ sh))) (2 ^ (sh - 1)) ≡ cond (ltb x (2 ^ (sh - 1))) (eqb b 0) (eqb b 0x7f)
  signed_last k = ⊎_elim low high (cases_lt b 64)
    where
      low : b < 64 → ltb (mag (twos (sh + 7) (x + b * 2 ^ sh))) (2 ^ (sh - 1)) ≡ cond (ltb x (2 ^ (sh - 1))) (eqb b 0) (eqb b 0x7f)
      low l = rw (last_low x sh b under l) (⊎_elim none more (cases_lt b 1))
        where
          none : b < 1 → ltb (x + b * 2 ^ sh) (2 ^ (sh - 1)) ≡ cond (ltb x (2 ^ (sh - 1))) (eqb b 0) (eqb b 0x7f)
          none q = let z : b ≡ 0 = omega arith in let y : x + 0 * 2 ^ sh ≡ x = omega arith in rw (z, y) (go (ltb x (2 ^ (sh - 1))))
            where
              go : (t : Bool) → t ≡ cond t true false
              go true = refl
              go false = refl

          more : 1 ≤ b → ltb (x + b * 2 ^ sh) (2 ^ (sh - 1)) ≡ cond (ltb x (2 ^ (sh - 1))) (eqb b 0) (eqb b 0x7f)
          more q = rw (higher b x q, ne_eqb b 0 (λ z. omega arith), ne_eqb b 0x7f (λ z. omega arith)) (cond_false (ltb x (2 ^ (sh - 1))))

      high : 64 ≤ b → ltb (mag (twos (sh + 7) (x + b * 2 ^ sh))) (2 ^ (sh - 1)) ≡ cond (ltb x (2 ^ (sh - 1))) (eqb b 0) (eqb b 0x7f)
      high l = rw (last_high x sh b under l k) (⊎_elim less all (cases_lt b 127))
        where
          less : b < 127 → ltb (2 ^ sh - 1 - x + (127 - b) * 2 ^ sh) (2 ^ (sh - 1)) ≡ cond (ltb x (2 ^ (sh - 1))) (eqb b 0) (eqb b 0x7f)
          less q = rw (higher (127 - b) (2 ^ sh - 1 - x) (omega arith), ne_eqb b 0 (λ z. omega arith), ne_eqb b 0x7f (λ z. omega arith)) (cond_false (ltb x (2 ^ (sh - 1))))

          all : 127 ≤ b → ltb (2 ^ sh - 1 - x + (127 - b) * 2 ^ sh) (2 ^ (sh - 1)) ≡ cond (ltb x (2 ^ (sh - 1))) (eqb b 0) (eqb b 0x7f)
          all q =
              let z : b ≡ 127 = omega arith in
              let y : 2 ^ sh - 1 - x + 0 * 2 ^ sh ≡ 2 ^ sh - 1 - x = omega arith in
              rw (z, y) (⊎_elim (λ m. rw (lt-ltb x (2 ^ (sh - 1)) m) (le-ltb (2 ^ sh - 1 - x) (2 ^ (sh - 1)) (omega (arith, double)))) (λ m. rw (le-ltb x (2 ^ (sh - 1)) m) (lt-ltb (2 ^ sh - 1 - x) (2 ^ (sh - 1)) (omega (arith, double)))) (cases_lt x (2 ^ (sh - 1))))

sign_last_lem : (xs : List ℕ) (i : ℕ) → suc i < length xs → get_or xs (suc i) 0 < 128
    → fits_signed (7 * suc i) (signed (take (suc (suc i)) xs)) ≡ cond (ltb (get_or xs i 0 % 128) 64) (eqb (get_or xs (suc i) 0) 0) (eqb (get_or xs (suc i) 0) 0x7f)
sign_last_lem xs i h l =
    let sh : ℕ = 7 * suc i in
    let n : 7 * length (take (suc (suc i)) xs) ≡ 7 * suc i + 7 = ap (λ (m : ℕ). 7 * m) (length-take-le (suc (suc i)) xs (omega arith)) ∙ mul-suc 7 (suc i) in
    let e : 7 * suc i - 1 - 7 * i ≡ 6 = omega arith in
    let c : ltb (number 7 (take (suc i) xs)) (2 ^ (7 * suc i - 1)) ≡ ltb (get_or xs i 0 % 128) 64 =
    rw (number_snoc 7 i xs (omega arith)) (ltb_bits (7 * suc i - 1) (7 * i) (number 7 (take i xs)) (get_or xs i 0 % 128) (omega arith) (part xs i (omega arith)) ∙ rw e) in
    rw (n, whole xs (suc i) h l, ← c) (signed_last (number 7 (take (suc i) xs)) (7 * suc i) (get_or xs (suc i) 0) (part xs (suc i) h) (omega arith) l)

-- request 2: of more than one byte the last is 0
pub unsigned_rule : (s : List ℕ) (at w : ℕ) → Holds (RuledUnsigned s at) (uleb_at s at w)
unfolding uleb_at
unsigned_rule s at w =
    read_holds s at w 3 unsigned (fits_unsigned w) (RuledUnsigned s at)
    (λ k x e. let d = length-drop at s in record { above = omega (arith, x.some); within = omega (arith, x.some, x.within); rule = rule k x })
  where
    rule : (k : ℕ) → Extent (most_bytes w) (drop at s) k → fewer fits_unsigned (at + k - at) (unsigned (take k (drop at s))) ≡ zero_last s at (at + k)
    rule zero x = absurd (omega (arith, x.some))
    rule (suc j) x =
        let q : at + suc j - at ≡ suc j = omega arith in
        let o : suc j - 1 ≡ j = omega arith in
        let u : at + suc j - 1 ≡ at + j = omega arith in
        rw (q, o, u, ← get_or-drop at s j 0, unsigned_last (drop at s) j (omega (arith, x.within)) (rw o at x.last))

-- request 2, signed: the last is 0 and bit 6 of the byte before it clear, or 0x7f and that bit set
pub signed_rule : (s : List ℕ) (at w : ℕ) → Holds (RuledSigned s at) (sleb_at s at w)
unfolding sleb_at
signed_rule s at w =
    read_holds s at w 4 signed (fits_signed w) (RuledSigned s at)
    (λ k x e. let d = length-drop at s in record { above = omega (arith, x.some); within = omega (arith, x.some, x.within); before = before k x; rule = rule k x })
  where
    before : (k : ℕ) → Extent (most_bytes w) (drop at s) k → 1 < at + k - at → 128 ≤ get_or s (at + k - 2) 0
    before k x h =
        let f = rw x.skipped at (through_before 128 (drop at s)) in
        let u : at + k - 2 ≡ at + (k - 2) = omega arith in
        rw (u, ← get_or-drop at s (k - 2) 0) (f (k - 2) (omega arith))

    rule : (k : ℕ) → Extent (most_bytes w) (drop at s) k → fewer fits_signed (at + k - at) (signed (take k (drop at s))) ≡ sign_last s at (at + k)
    rule zero x = absurd (omega (arith, x.some))
    rule (suc zero) x = let q : at + 1 - at ≡ 1 = omega arith in rw q
    rule (suc (suc i)) x =
        let q : at + suc (suc i) - at ≡ suc (suc i) = omega arith in
        let o : suc (suc i) - 1 ≡ suc i = omega arith in
        let u : at + suc (suc i) - 1 ≡ at + suc i = omega arith in
        let v : at + suc (suc i) - 2 ≡ at + i = omega arith in
        rw (q, o, u, v, ← get_or-drop at s (suc i) 0, ← get_or-drop at s i 0, sign_last_lem (drop at s) i (omega (arith, x.within)) (rw o at x.last))

-- the same of what the readers give
pub unsigned_last_bytes : (s : List ℕ) (at w : ℕ) → Holds (λ r. r.value.padded ≡ zero_last s at r.next) (uleb_counted_at s at w)
unfolding uleb_counted_at
unsigned_last_bytes s at w = holds_then (RuledUnsigned s at) (λ r. r.value.padded ≡ zero_last s at r.next) (uleb_at s at w) _ (unsigned_rule s at w) (λ x y. y.rule)

pub signed_last_bytes : (s : List ℕ) (at w : ℕ) → Holds (λ r. r.value.padded ≡ sign_last s at r.next) (sleb_counted_at s at w)
unfolding sleb_counted_at
signed_last_bytes s at w = holds_then (RuledSigned s at) (λ r. r.value.padded ≡ sign_last s at r.next) (sleb_at s at w) _ (signed_rule s at w) (λ x y. y.rule)

-- bit 6 of a byte, as the code asks for it
pub sign_bit : (b : ℕ) → (bit_and b 64 ≡ 0) ↔ (b % 128 < 64)
sign_bit b =
    let e : bit_and b 64 ≡ b / 64 % 2 * 64 = and_pow b 6 in
    (λ h. omega (arith, e, h), λ h. omega (arith, e, h))

-- the rules, asked of the number's own bytes
module _ (s : List ℕ) (at p : ℕ) (some : at < p) (most : p ≤ length s) where
  abbrev own : List ℕ
  own = take (p - at) (drop at s)

  own_length : length own ≡ p - at
  own_length = length-take-le (p - at) (drop at s) (rw (length-drop at s) (omega arith))

  own_byte : (k : ℕ) → k < p - at → get_or own k 0 ≡ get_or s (at + k) 0
  own_byte k h = rw (get_or-take (p - at) (drop at s) k 0 h, get_or-drop at s k 0)

  pub zero_last_own : zero_last own 0 (length own) ≡ zero_last s at p
  zero_last_own =
      let e : at + (p - at - 1) ≡ p - 1 = omega arith in
      let z : p - at - 0 ≡ p - at = omega arith in
      let a = own_byte (p - at - 1) (omega arith) in
      rw (own_length, z, a, e)

  pub sign_last_own : sign_last own 0 (length own) ≡ sign_last s at p
  sign_last_own = ⊎_elim one more (cases_lt (p - at) 2)
    where
      one : p - at < 2 → sign_last own 0 (length own) ≡ sign_last s at p
      one h =
          let z : p - at - 0 ≡ p - at = omega arith in
          rw (own_length, z, le-ltb 1 (p - at) (omega arith))

      more : 2 ≤ p - at → sign_last own 0 (length own) ≡ sign_last s at p
      more h =
          let e : at + (p - at - 1) ≡ p - 1 = omega arith in
          let f : at + (p - at - 2) ≡ p - 2 = omega arith in
          let z : p - at - 0 ≡ p - at = omega arith in
          let a = own_byte (p - at - 1) (omega arith) in
          let b = own_byte (p - at - 2) (omega arith) in
          rw (own_length, z, a, b, e, f)
