-- Laws of numerals, of lines and of text stored.
use mathlib.Core.Bool.{Bool, true, false, cond}
use mathlib.Core.Path.{◌≡◌, refl, ap, ◌∙◌}
use mathlib.Core.List.{List, [], ◌∷◌, ◌++◌, append_assoc}
use Prim.Native.Nat.{ℕ, zero, suc, ◌+◌, ◌/◌, ◌%◌, ◌^◌, ◌≤◌, ◌<◌}
use native.Mathlib.Omega.{arith}
use native.Mathlib.Nat.{div-lt_self, div-lt_iff_lt-mul, pow-zero, pow-suc, one-mul}
use borrow.Author.Tests.{lt-ltb, le-ltb, ltb-true, ltb-false}
use lib.Dec.{ltb}
use lib.IntN.{ℤ, pos, negsuc, nat_abs}
use lib.ListN.{length, take, length-append}
use lib.Signed.{mag, lt_z}
use mir.Facts.{to_z-of_z}
use Rattle.reader.proofs.Answers.{cond_by}
use Rattle.listing.specs.Text.{digit, numeral_within, numeral, signed_numeral, Line, unit_line, entry_line, null_line, refused_line, end_line, text, ascii}
use Rattle.listing.specs.Written.{Put, Lined}
use Rattle.listing.specs.declared.lines.Lines.{Lines}

-- ---- numerals

-- tests whose first answers are the same
same_else : {A : Type 0} (t : Bool) (x y z : A) → (t ≡ false → y ≡ z) → cond t x y ≡ cond t x z
same_else true x y z e = refl
same_else false x y z e = e refl

less : (base n : ℕ) → 2 ≤ base → ltb n base ≡ false → n / base < n
less base n h t = let l = ltb-false n base t in div-lt_self (omega arith) (omega arith)

-- counts above the number give the same digits
within_same : (base k j n : ℕ) → 2 ≤ base → n < k → n < j → numeral_within base k n ≡ numeral_within base j n
unfolding numeral_within
within_same base zero j n h a b = absurd (omega arith)
within_same base (suc k) zero n h a b = absurd (omega arith)
within_same base (suc k) (suc j) n h a b =
    same_else (ltb n base) _ _ _
    (λ t.
    let l = less base n h t in
    ap (λ (s : List ℕ). s ++ (digit (n % base) ∷ [])) (within_same base k j (n / base) h (omega arith) (omega arith)))

-- the definition without a count
pub numeral_step : (base n : ℕ) → 2 ≤ base → numeral base n ≡ cond (ltb n base) (digit n ∷ []) (numeral base (n / base) ++ (digit (n % base) ∷ []))
unfolding numeral numeral_within
numeral_step base n h =
    same_else (ltb n base) _ _ _
    (λ t. ap (λ (s : List ℕ). s ++ (digit (n % base) ∷ [])) (within_same base n (suc (n / base)) (n / base) h (less base n h t) (omega arith)))

pub numeral_low : (base n : ℕ) → 2 ≤ base → n < base → numeral base n ≡ digit n ∷ []
numeral_low base n h l = numeral_step base n h ∙ rw (lt-ltb n base l)

pub numeral_high : (base n : ℕ) → 2 ≤ base → base ≤ n → numeral base n ≡ numeral base (n / base) ++ (digit (n % base) ∷ [])
numeral_high base n h l = numeral_step base n h ∙ rw (le-ltb n base l)

pub low_length : (base n : ℕ) → 2 ≤ base → n < base → length (numeral base n) ≡ 1
low_length base n h l = rw (numeral_low base n h l)

pub high_length : (base n : ℕ) → 2 ≤ base → base ≤ n → length (numeral base n) ≡ length (numeral base (n / base)) + 1
high_length base n h l = rw (numeral_high base n h l) (length-append (numeral base (n / base)) (digit (n % base) ∷ []))

pub numeral_some : (base n : ℕ) → 2 ≤ base → 1 ≤ length (numeral base n)
numeral_some base n h =
    rw (numeral_step base n h)
    (cond_by (λ (s : List ℕ). 1 ≤ length s) (ltb n base) _ _ (λ t. omega arith) (λ t. omega (arith, length-append (numeral base (n / base)) (digit (n % base) ∷ []))))

-- a number below a power of the base has at most so many digits
pub numeral_most : (base k n : ℕ) → 2 ≤ base → n < base ^ suc k → length (numeral base n) ≤ suc k
numeral_most base zero n h l = rw (numeral_low base n h (rw (pow-suc base zero, pow-zero base, one-mul base) at l)) (omega arith)
numeral_most base (suc k) n h l =
    rw (numeral_step base n h)
    (cond_by (λ (s : List ℕ). length s ≤ suc (suc k)) (ltb n base) _ _
    (λ t. omega arith)
    (λ t.
    let m = numeral_most base k (n / base) h ((div-lt_iff_lt-mul (omega arith)).1 (rw (pow-suc base (suc k)) at l)) in
    rw (length-append (numeral base (n / base)) (digit (n % base) ∷ [])) (omega arith)))

pub decimal_most : (n : ℕ) → n < 2 ^ 64 → length (numeral 10 n) ≤ 20
decimal_most n h = numeral_most 10 19 n (omega arith) (omega arith)

-- with a byte after it
field_most : (base k n x : ℕ) → 2 ≤ base → n < base ^ suc k → length (numeral base n ++ (x ∷ [])) ≤ suc k + 1
field_most base k n x h l = let m = numeral_most base k n h l in simp length-append (omega arith)

pub decimal_field : (n x : ℕ) → n < 2 ^ 64 → length (numeral 10 n ++ (x ∷ [])) ≤ 21
decimal_field n x h = field_most 10 19 n x (omega arith) (omega arith)

pub version_field : (n x : ℕ) → n < 2 ^ 16 → length (numeral 10 n ++ (x ∷ [])) ≤ 6
version_field n x h = field_most 10 4 n x (omega arith) (omega arith)

pub width_field : (n x : ℕ) → n < 2 ^ 8 → length (numeral 10 n ++ (x ∷ [])) ≤ 4
width_field n x h = field_most 10 2 n x (omega arith) (omega arith)

pub tag_field : (n x : ℕ) → n < 2 ^ 16 → length (numeral 16 n ++ (x ∷ [])) ≤ 5
tag_field n x h = field_most 16 3 n x (omega arith) (omega arith)

-- a number and its sign
pub signed_low : (z : ℤ) → lt_z z (pos 0) ≡ false → signed_numeral z ≡ numeral 10 (nat_abs z)
unfolding signed_numeral
signed_low (pos n) e = refl
signed_low (negsuc n) e = absurd (cc)

pub signed_high : (z : ℤ) → lt_z z (pos 0) ≡ true → signed_numeral z ≡ 45 ∷ numeral 10 (nat_abs z)
unfolding signed_numeral
signed_high (pos n) e = absurd (omega (arith, ltb-true n 0 e))
signed_high (negsuc n) e = refl

pub ruleset signs = (signed_low, signed_high, to_z-of_z)

pub signed_most : (z : ℤ) → mag z < 2 ^ 63 → length (signed_numeral z) ≤ 20
unfolding signed_numeral
signed_most (pos n) h = decimal_most n (omega arith)
signed_most (negsuc n) h = let m = numeral_most 10 18 (suc n) (omega arith) (omega arith) in omega arith

-- the room of what is written
pub ruleset rooms = (decimal_field, version_field, width_field, tag_field, signed_most)

-- ---- lines

-- the numbers of a line fit the code's types
abbrev pub Fitted : Line → Type 0
Fitted (unit_line offset version bits width) = (offset < 2 ^ 64) × (version < 2 ^ 16) × (bits < 2 ^ 64) × (width < 2 ^ 8)
Fitted (entry_line offset depth tag count) = (offset < 2 ^ 64) × (mag depth < 2 ^ 63) × (tag < 2 ^ 16) × (count < 2 ^ 64)
Fitted (null_line offset depth) = (offset < 2 ^ 64) × (mag depth < 2 ^ 63)
Fitted (refused_line n) = n < 2 ^ 64
Fitted end_line = Unit

-- such a line has at most 72 bytes
pub text_most : (l : Line) → Fitted l → length (text l) ≤ 72
unfolding text
text_most (unit_line offset version bits width) (a, b, c, d) =
    simp length-append
    (omega (arith, decimal_most offset a, numeral_most 10 4 version (omega arith) (omega arith), decimal_most bits c, numeral_most 10 2 width (omega arith) (omega arith)))
text_most (entry_line offset depth tag count) (a, b, c, d) =
    simp length-append
    (omega (arith, decimal_most offset a, signed_most depth b, numeral_most 16 3 tag (omega arith) (omega arith), decimal_most count d))
text_most (null_line offset depth) (a, b) = simp length-append (omega (arith, decimal_most offset a, signed_most depth b))
text_most (refused_line n) a = simp length-append (omega (arith, decimal_most n a))
text_most end_line a = omega arith

-- each has a byte
pub text_some : (l : Line) → 0 < length (text l)
unfolding text
text_some (unit_line offset version bits width) = simp length-append (omega arith)
text_some (entry_line offset depth tag count) = simp length-append (omega arith)
text_some (null_line offset depth) = simp length-append (omega arith)
text_some (refused_line n) = simp length-append (omega arith)
text_some end_line = omega arith

-- a line written
pub lined : {a b : Lines} (l : Line) → Fitted l → Put a b (text l) → Lined a b l
lined l f p = record { put = p; most = omega (arith, text_most l f, p.ends) }

-- the lines of document 01
sample : text (unit_line 0 4 32 8) ++ text (entry_line 11 (pos 0) 0x11 1) ++ text (entry_line 14 (pos 1) 0x34 1) ++ text (entry_line 16 (pos 1) 0x34 1) ++ text (null_line 18 (pos 1)) ++ text end_line
    ≡ ascii "unit 0 4 32 8\n11 0 0x11 1\n14 1 0x34 1\n16 1 0x34 1\n18 1 null\nend\n"
unfolding text signed_numeral numeral numeral_within digit
sample = refl

-- a negative depth, letters in a tag, a refusal
sample_more : text (null_line 1090 (negsuc 9)) ++ text (entry_line 7 (negsuc 0) 0xfa9e 64) ++ text (refused_line 16) ≡ ascii "1090 -10 null\n7 -1 0xfa9e 64\nrefused 16\n"
unfolding text signed_numeral numeral numeral_within digit
sample_more = refl

-- ---- text stored

module _ {a b c : Lines} {t : List ℕ} (p : Put a b t) where
  -- one text after another
  pub put_then : {u : List ℕ} → Put b c u → Put a c (t ++ u)
  put_then {u} s =
      record {
        lent = s.lent ∙ p.lent;
        same = s.same ∙ p.same;
        ends = rw (length-append t u) (omega (arith, p.ends, s.ends));
        bytes = s.bytes ∙ rw p.bytes (append_assoc (take a.end a.out.now) t u);
        count = s.count ∙ p.count;
        next = s.next ∙ p.next;
      }

  -- a number and a byte after it
  pub put_then_field : (base n x : ℕ) → Put b c (numeral base n ++ (x ∷ [])) → Put a c (t ++ numeral base n ++ (x ∷ []))
  put_then_field base n x s = rw (append_assoc t (numeral base n) (x ∷ [])) (put_then s)
