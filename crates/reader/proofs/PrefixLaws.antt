-- What a leading part of the bytes gives: a read that ends in it gives the same over it.
use mathlib.Core.Bool.{Bool, true, false, cond}
use mathlib.Core.Path.{◌≡◌, refl, sym, ◌∙◌}
use mathlib.Core.List.{List, [], ◌∷◌}
use Prim.Native.Nat.{ℕ, zero, suc, ◌+◌, ◌-◌, ◌≤◌}
use native.Mathlib.Numerals.{unary_clauses}
use native.Mathlib.Omega.{arith}
use borrow.Author.Tests.{leb-true}
use lib.Dec.{leb, ltb}
use lib.ListN.{length, take, drop, length-take}
use lib.Seq.{take-nil, take-take}
use Rattle.reader.specs.Answer.{Answer, got, refused, and_then, Read, gives, placed, Holds}
use Rattle.reader.specs.Fields.{is_address_size, offset_at, address_at, null_terminated_at, skip_at, word_size}
use Rattle.reader.specs.Leb128.{through, most_bytes, extent, leb128, unsigned, fits_unsigned, signed, fits_signed, uleb_at, sleb_at, past_at}
use Rattle.reader.specs.Words.{spelled, word_at, halves_at}
use Rattle.reader.specs.declared.common.Format.{Format}
use Rattle.reader.specs.declared.endianity.RunTimeEndian.{RunTimeEndian}
use Rattle.reader.proofs.Accepted.{Through, through_in, read_holds}
use Rattle.reader.proofs.Answers.{holds_then, holds_map, cond_by}
use Rattle.reader.proofs.FieldLaws.{skip_there}
use Rattle.reader.proofs.WordLaws.{word_there}

-- what is read over all bytes, where it ends at or before k, is read over the first k too
abbrev pub Prefixed : {A : Type 0} → ℕ → Answer (Read A) → Answer (Read A) → Type 0
Prefixed k part whole = Holds (λ r. r.next ≤ k → part ≡ got r) whole

-- where one that ends no earlier follows; Q is what is known of the first
pub prefix_then : {A B : Type 0} (Q : Read A → Type 0) (k : ℕ) (x y : Answer (Read A)) (f g : Read A → Answer (Read B)) → Prefixed k x y → Holds Q y
    → ((r : Read A) → Q r → r.next ≤ k → Prefixed k (f r) (g r)) → ((r : Read A) → Q r → Holds (λ v. r.next ≤ v.next) (g r))
    → Prefixed k (and_then x f) (and_then y g)
prefix_then Q k x (refused n) f g p q step ahead = tt
prefix_then {A} {B} Q k x (got r) f g p q step ahead = go (g r) (step r q) (ahead r q)
  where
    go : (z : Answer (Read B)) → (r.next ≤ k → Prefixed k (f r) z) → Holds (λ v. r.next ≤ v.next) z → Prefixed k (and_then x f) z
    go (got v) s a = λ h. let b : r.next ≤ k = omega (arith, a, h) in rw (p b) (s b h)
    go (refused n) s a = tt

-- where what is made of it follows
pub prefix_map : {A B : Type 0} (end : A → ℕ) (h : A → B) (k : ℕ) (x y : Answer A) → Holds (λ a. end a ≤ k → x ≡ got a) y
    → Prefixed k (and_then x (λ a. gives (h a) (end a))) (and_then y (λ a. gives (h a) (end a)))
prefix_map end h k x (got a) p = λ l. rw (p l)
prefix_map end h k x (refused n) p = tt

-- where a test goes before
pub prefix_cond : {A : Type 0} (k : ℕ) (t : Bool) (a b c d : Answer (Read A)) → Prefixed k a b → Prefixed k c d → Prefixed k (cond t a c) (cond t b d)
prefix_cond k true a b c d p q = p
prefix_cond k false a b c d p q = q

drop_take : (m k : ℕ) (s : List ℕ) → drop m (take k s) ≡ take (k - m) (drop m s)
drop_take zero k s = simp unary_clauses refl
drop_take (suc m) zero s = let e : 0 - suc m ≡ 0 = omega arith in rw e
drop_take (suc m) (suc k) [] = sym (take-nil (suc k - suc m))
drop_take (suc m) (suc k) (b ∷ s) = simp unary_clauses (drop_take m k s)

-- bytes up to the first below m
prefix_through : (m j : ℕ) (xs : List ℕ) → Holds (λ c. c ≤ j → through m (take j xs) ≡ got c) (through m xs)
unfolding through
prefix_through m j [] = tt
prefix_through m zero (b ∷ bs) = holds_map (Through m (b ∷ bs)) (λ c. c ≤ 0 → refused 2 ≡ got c) (through m (b ∷ bs)) (λ c t h. absurd (omega (arith, t.some))) (through_in m (b ∷ bs))
prefix_through m (suc j) (b ∷ bs) =
    cond_by (Holds (λ c. c ≤ suc j → through m (b ∷ take j bs) ≡ got c)) (ltb b m) (got 1) _ (λ t h. rw t)
    (λ t. holds_then (λ c. c ≤ j → through m (take j bs) ≡ got c) (λ c. c ≤ suc j → through m (b ∷ take j bs) ≡ got c) (through m bs) _ (prefix_through m j bs) (λ c q h. rw (t, q (omega arith))))

-- reads at a place
module _ (k : ℕ) (s : List ℕ) (at : ℕ) where
  there : (n : ℕ) → leb (at + n) (length s) ≡ true → at + n ≤ k → at + n ≤ length (take k s)
  there n e h = let a = leb-true (at + n) (length s) e in rw (length-take k s) (omega arith)

  pub prefix_word : (n : ℕ) (e : RunTimeEndian) → Prefixed k (word_at (take k s) at n e) (word_at s at n e)
  unfolding word_at spelled
  prefix_word n e =
      cond_by (Prefixed k (word_at (take k s) at n e)) (leb (at + n) (length s)) _ (refused 2)
      (λ t h. word_there (take k s) at n e (there n t h) ∙ rw (drop_take at k s, take-take n (k - at) (drop at s) (omega arith))) (λ _. tt)

  pub prefix_skip : (n : ℕ) → Holds (λ p. p ≤ k → skip_at (take k s) at n ≡ got p) (skip_at s at n)
  unfolding skip_at
  prefix_skip n =
      cond_by (Holds (λ p. p ≤ k → skip_at (take k s) at n ≡ got p)) (leb (at + n) (length s)) _ (refused 2)
      (λ t h. skip_there (take k s) at n (there n t h)) (λ _. tt)

  pub prefix_halves : (e : RunTimeEndian) → Prefixed k (halves_at (take k s) at e) (halves_at s at e)
  unfolding halves_at
  prefix_halves e = prefix_map _ _ k _ (word_at s at 16 e) (prefix_word 16 e)

  pub prefix_offset : (f : Format) (e : RunTimeEndian) → Prefixed k (offset_at (take k s) at f e) (offset_at s at f e)
  unfolding offset_at
  prefix_offset f e = prefix_word (word_size f) e

  pub prefix_address : (n : ℕ) (e : RunTimeEndian) → Prefixed k (address_at (take k s) at n e) (address_at s at n e)
  unfolding address_at
  prefix_address n e = prefix_cond k (is_address_size n) _ _ _ (refused 7) (prefix_word n e) tt

  pub prefix_past : (m : ℕ) → Holds (λ p. p ≤ k → past_at (take k s) at m ≡ got p) (past_at s at m)
  unfolding past_at
  prefix_past m =
      holds_then (λ c. c ≤ k - at → through m (take (k - at) (drop at s)) ≡ got c) (λ p. p ≤ k → past_at (take k s) at m ≡ got p) (through m (drop at s)) _
      (prefix_through m (k - at) (drop at s)) (λ c q h. rw (drop_take at k s, q (omega arith)))

  pub prefix_null : Prefixed k (null_terminated_at (take k s) at) (null_terminated_at s at)
  unfolding null_terminated_at
  prefix_null = prefix_map _ _ k _ (past_at s at 1) (prefix_past 1)

  prefix_leb : {A : Type 0} (w n : ℕ) (worth : List ℕ → A) (fits : A → Bool) → Prefixed k (placed at (leb128 w n worth fits (drop at (take k s)))) (placed at (leb128 w n worth fits (drop at s)))
  unfolding leb128 extent
  prefix_leb w n worth fits =
      read_holds s at w n worth fits (λ r. r.next ≤ k → placed at (leb128 w n worth fits (drop at (take k s))) ≡ got r)
      (λ c x e h.
      let l : c ≤ k - at = omega arith in
      let a = rw x.skipped at (prefix_through 128 (k - at) (drop at s)) in
      let b = rw (a l) at (prefix_through 128 (most_bytes w) (take (k - at) (drop at s))) in
      rw (drop_take at k s, b x.most, take-take c (k - at) (drop at s) l, e))

  pub prefix_uleb : (w : ℕ) → Prefixed k (uleb_at (take k s) at w) (uleb_at s at w)
  unfolding uleb_at
  prefix_uleb w = prefix_leb w 3 unsigned (fits_unsigned w)

  pub prefix_sleb : (w : ℕ) → Prefixed k (sleb_at (take k s) at w) (sleb_at s at w)
  unfolding sleb_at
  prefix_sleb w = prefix_leb w 4 signed (fits_signed w)
