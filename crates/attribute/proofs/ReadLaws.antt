-- Laws of values that were read: where they end, and what their numbers are.
use mathlib.Core.Bool.{Bool, true, false, cond}
use mathlib.Core.Path.{◌≡◌, refl, sym, ap, ◌∙◌}
use mathlib.Core.List.{List, [], ◌∷◌}
use mathlib.Core.Option.{none, some}
use Prim.Native.Nat.{ℕ, zero, suc, ◌+◌, ◌-◌, ◌*◌, ◌^◌, ◌≤◌, ◌<◌}
use native.Mathlib.Omega.{arith}
use borrow.Author.Tests.{ne_eqb}
use lib.Dec.{eqb}
use lib.IntN.{ℤ}
use lib.ListN.{length}
use lib.Pow.{pow_mono}
use Rattle.reader.specs.Answer.{Answer, got, refused, and_then, Read, gives, end_of, Holds}
use Rattle.reader.specs.Fields.{is_address_size, offset_at, address_at, null_terminated_at, skip_at, word_size}
use Rattle.reader.specs.Leb128.{uleb_at, sleb_at, past_at}
use Rattle.reader.specs.Twos.{word}
use Rattle.reader.specs.Words.{word_at, halves_at}
use Rattle.reader.specs.declared.answer.Span.{Span}
use Rattle.reader.specs.declared.common.Encoding.{Encoding}
use Rattle.reader.specs.declared.endianity.RunTimeEndian.{RunTimeEndian}
use Rattle.reader.proofs.Accepted.{Ends, uleb_ends, sleb_ends, uleb_none, past_in}
use Rattle.reader.proofs.Answers.{holds_then, holds_map, end_holds, then_then, then_same, then_got, cond_by}
use Rattle.reader.proofs.FieldLaws.{skip_in, skip_there, skip_skip, word_end, halves_end, offset_end, address_end, null_end}
use Rattle.reader.proofs.WordLaws.{WordIn, word_in, word_one}
use Rattle.abbrev.specs.Table.{Specification}
use Rattle.attribute.specs.Forms.{row, case_of, indirect}
use Rattle.attribute.specs.Read.{Numbers, numbered, wide_at, signed_at, ref_addr_size, ref_addr_at, block_after, string_at, constant_of, raw_at, resolve, final_form, form_at, attribute_at, attributes_at}
use Rattle.attribute.specs.Skip.{Ending, sized, ended, counted, measured, unknown, ending_of, size_of, attribute_size, past_block, past_ending, past_layout, past_value, past_values}
use Rattle.attribute.specs.Steps.{Fits, width_by, passed_address, passed_constant}
use Rattle.attribute.specs.declared.form.Layout.{Layout}
use Rattle.attribute.specs.declared.form.Layout.TheVariants as L
use Rattle.attribute.specs.declared.form.Kind.{Kind}
use Rattle.attribute.specs.declared.value.Value.{Value}
use Rattle.attribute.proofs.FormLaws.{layout_width, layout_wide, Paired, row_paired, indirect_open}

-- a place not before another, in the bytes
pub record Onward (s : List ℕ) (at p : ℕ) : Type 0 where
  pub from : at ≤ p
  pub within : p ≤ length s

pub onward : {s : List ℕ} {at p q : ℕ} → Onward s at p → Onward s p q → Onward s at q
onward a b = record { from = omega (arith, a.from, b.from); within = b.within }

-- DW_FORM_indirect: one more turn than there are bytes changes nothing
resolve_more : (n : ℕ) (s : List ℕ) (f at : ℕ) → length s - at ≤ n → resolve (suc n) s f at ≡ resolve n s f at
unfolding resolve
resolve_more zero s f at h = rw (uleb_none s at 16 (omega arith) (omega arith))
resolve_more (suc n) s f at h =
    ap (λ (r : Answer (Read ℕ)). cond (eqb f indirect) r (gives f at))
    (then_same (λ r. Ends s at 16 r.next) (uleb_at s at 16) (λ r. resolve (suc n) s r.value r.next) (λ r. resolve n s r.value r.next) (uleb_ends s at 16)
    (λ r x. resolve_more n s r.value r.next (omega (arith, x.above, x.within))))

-- the final form, without a count of turns
pub final_step : (s : List ℕ) (f at : ℕ) → final_form s f at ≡ cond (eqb f indirect) (and_then (uleb_at s at 16) (λ r. final_form s r.value r.next)) (gives f at)
unfolding final_form resolve
final_step s f at = sym (resolve_more (length s) s f at (omega arith))

pub final_plain : (s : List ℕ) (f at : ℕ) → eqb f indirect ≡ false → final_form s f at ≡ gives f at
final_plain s f at h = final_step s f at ∙ ap (λ (t : Bool). cond t (and_then (uleb_at s at 16) (λ r. final_form s r.value r.next)) (gives f at)) h

pub final_named : (s : List ℕ) (at : ℕ) → final_form s 0x16 at ≡ and_then (uleb_at s at 16) (λ r. final_form s r.value r.next)
final_named s at = final_step s 0x16 at

resolve_onward : (n : ℕ) (s : List ℕ) (f at : ℕ) → at ≤ length s → Holds (λ r. Onward s at r.next) (resolve n s f at)
unfolding resolve
resolve_onward zero s f at h =
    cond_by (Holds (λ r. Onward s at r.next)) (eqb f indirect) (refused 2) (gives f at) (λ _. tt) (λ _. record { from = omega arith; within = h })
resolve_onward (suc n) s f at h =
    cond_by (Holds (λ r. Onward s at r.next)) (eqb f indirect) _ (gives f at)
    (λ _.
    holds_then (λ r. Ends s at 16 r.next) (λ r. Onward s at r.next) (uleb_at s at 16) _ (uleb_ends s at 16)
    (λ r x.
    holds_map (λ q. Onward s r.next q.next) (λ q. Onward s at q.next) (resolve n s r.value r.next)
    (λ q y. record { from = omega (arith, x.above, y.from); within = y.within })
    (resolve_onward n s r.value r.next x.within)))
    (λ _. record { from = omega arith; within = h })

pub final_onward : (s : List ℕ) (f at : ℕ) → at ≤ length s → Holds (λ r. Onward s at r.next) (final_form s f at)
unfolding final_form
final_onward s f at h = resolve_onward (length s) s f at h

-- where what stands in the bytes ends
pub numbered_end : (r : Answer (Read ℕ)) → end_of (numbered r) ≡ end_of r
unfolding numbered
numbered_end (got v) = refl
numbered_end (refused n) = refl

pub wide_end : (s : List ℕ) (at : ℕ) (e : RunTimeEndian) → end_of (wide_at s at e) ≡ skip_at s at 16
unfolding wide_at
wide_end s at e = then_then (halves_at s at e) _ _ ∙ halves_end s at e

pub signed_end : (s : List ℕ) (at : ℕ) → end_of (signed_at s at) ≡ end_of (sleb_at s at 64)
unfolding signed_at
signed_end s at = then_then (sleb_at s at 64) _ _

pub ref_addr_end : (s : List ℕ) (at : ℕ) (c : Encoding) (e : RunTimeEndian) → end_of (ref_addr_at s at c e) ≡ cond (eqb c.version 2) (passed_address s at c.address_size) (skip_at s at (word_size c.format))
unfolding ref_addr_at
ref_addr_end s at c e = go (eqb c.version 2)
  where
    go : (t : Bool) → end_of (cond t (address_at s at c.address_size e) (offset_at s at c.format e)) ≡ cond t (passed_address s at c.address_size) (skip_at s at (word_size c.format))
    go true = address_end s at c.address_size e
    go false = offset_end s at c.format e

pub block_end : (s : List ℕ) (start : ℕ) (r : Answer (Read ℕ)) → end_of (block_after s start r) ≡ past_block s r
unfolding block_after past_block
block_end s start (got n) = then_then (skip_at s n.next n.value) _ _ ∙ then_got (skip_at s n.next n.value)
block_end s start (refused k) = refl

pub string_end : (s : List ℕ) (start at : ℕ) → end_of (string_at s start at) ≡ past_at s at 1
unfolding string_at
string_end s start at = then_then (null_terminated_at s at) _ _ ∙ null_end s at

pub string_same : (s : List ℕ) (start at : ℕ) → end_of (string_at s start at) ≡ end_of (null_terminated_at s at)
unfolding string_at
string_same s start at = then_then (null_terminated_at s at) _ _

pub constant_end : (x : Specification) (at : ℕ) → end_of (constant_of x at) ≡ passed_constant x.form at
unfolding constant_of
constant_end x at = go (eqb x.form 0x21)
  where
    go : (t : Bool) → end_of {A = Numbers} (cond t (gives (record { low = x.constant; high = 0 }) at) (refused 18)) ≡ cond t (got at) (refused 18)
    go true = refl
    go false = refl

pub ruleset ends = (numbered_end, wide_end, signed_end, ref_addr_end, block_end, string_same, constant_end, word_end, offset_end, address_end, word_one)

-- what ends where skipping does
ends_as : {A : Type 0} (r : Answer (Read A)) (m : Answer ℕ) → end_of r ≡ m → Holds (λ v. m ≡ got v.next) r
ends_as r m h = holds_map (λ v. end_of r ≡ got v.next) (λ v. m ≡ got v.next) r (λ v e. sym h ∙ e) (end_holds r)

-- the same where only a value judged can end there
numbers_as : (r : Answer (Read ℕ)) (m : Answer ℕ) → Holds (λ v. m ≡ got v.next) r → Holds (λ v. m ≡ got v.next) (numbered r)
unfolding numbered
numbers_as r m h = holds_then (λ v. m ≡ got v.next) (λ v. m ≡ got v.next) r _ h (λ v e. e)

words_as : (s : List ℕ) (at n : ℕ) (e : RunTimeEndian) → Holds (λ v. skip_at s at n ≡ got v.next) (numbered (word_at s at n e))
words_as s at n e = numbers_as (word_at s at n e) (skip_at s at n) (ends_as (word_at s at n e) (skip_at s at n) (word_end s at n e))

judged_as : {A : Type 0} (t : Bool) (r : Answer (Read A)) (m : Answer ℕ) (k : ℕ) → end_of r ≡ cond t m (refused k) → Holds (λ v. m ≡ got v.next) r
judged_as true r m k h = ends_as r m h
judged_as false (got v) m k h = let z : got v.next ≡ refused k = h in absurd_got z
  where
    absurd_got : {B : Type 0} {n j : ℕ} → got n ≡ refused j → B
    absurd_got e = absurd (cc)
judged_as false (refused n) m k h = tt

addresses_as : (s : List ℕ) (at n : ℕ) (e : RunTimeEndian) → Holds (λ v. skip_at s at n ≡ got v.next) (address_at s at n e)
addresses_as s at n e = judged_as (is_address_size n) (address_at s at n e) (skip_at s at n) 7 (address_end s at n e)

refs_as : (s : List ℕ) (at : ℕ) (c : Encoding) (e : RunTimeEndian) → Holds (λ v. skip_at s at (ref_addr_size c) ≡ got v.next) (ref_addr_at s at c e)
unfolding ref_addr_at
refs_as s at c e = go (eqb c.version 2)
  where
    go : (t : Bool) → Holds (λ v. skip_at s at (cond t c.address_size (word_size c.format)) ≡ got v.next) (cond t (address_at s at c.address_size e) (offset_at s at c.format e))
    go true = addresses_as s at c.address_size e
    go false = ends_as (offset_at s at c.format e) (skip_at s at (word_size c.format)) (offset_end s at c.format e)

stays : (s : List ℕ) (at : ℕ) → at ≤ length s → skip_at s at 0 ≡ got at
stays s at h = let z : at + 0 ≡ at = omega arith in skip_there s at 0 (omega arith) ∙ ap got z

constants_as : (s : List ℕ) (x : Specification) (at : ℕ) → at ≤ length s → Holds (λ v. skip_at s at 0 ≡ got v.next) (constant_of x at)
unfolding constant_of
constants_as s x at h = cond_by (Holds (λ v. skip_at s at 0 ≡ got v.next)) (eqb x.form 0x21) _ (refused 18) (λ _. stays s at h) (λ _. tt)

signeds_as : (s : List ℕ) (at : ℕ) → Holds (λ v. past_at s at 128 ≡ got v.next) (signed_at s at)
unfolding signed_at
signeds_as s at = holds_then (λ v. Ends s at 64 v.next) (λ (v : Read Numbers). past_at s at 128 ≡ got v.next) (sleb_at s at 64) _ (sleb_ends s at 64) (λ v y. y.skipped)

-- whatever stands there, skipping it ends on the same byte
pub raw_past : (s : List ℕ) (start : ℕ) (c : Encoding) (e : RunTimeEndian) (x : Specification) (l : Layout) (at : ℕ) → at ≤ length s
    → Holds (λ n. past_layout s c e l at ≡ got n.next) (raw_at s start c e x l at)
unfolding raw_at past_layout ending_of
raw_past s start c e x L.U8 at h = words_as s at 1 e
raw_past s start c e x L.U16 at h = words_as s at 2 e
raw_past s start c e x L.U24 at h = words_as s at 3 e
raw_past s start c e x L.U32 at h = words_as s at 4 e
raw_past s start c e x L.U64 at h = words_as s at 8 e
raw_past s start c e x L.U128 at h = ends_as (wide_at s at e) (skip_at s at 16) (wide_end s at e)
raw_past s start c e x L.Offset at h = numbers_as (offset_at s at c.format e) (skip_at s at (word_size c.format)) (ends_as (offset_at s at c.format e) (skip_at s at (word_size c.format)) (offset_end s at c.format e))
raw_past s start c e x L.Address at h = numbers_as (address_at s at c.address_size e) (skip_at s at c.address_size) (addresses_as s at c.address_size e)
raw_past s start c e x L.RefAddr at h = numbers_as (ref_addr_at s at c e) (skip_at s at (ref_addr_size c)) (refs_as s at c e)
raw_past s start c e x L.Uleb128 at h = numbers_as (uleb_at s at 64) (past_at s at 128) (holds_map (λ v. Ends s at 64 v.next) (λ v. past_at s at 128 ≡ got v.next) (uleb_at s at 64) (λ v y. y.skipped) (uleb_ends s at 64))
raw_past s start c e x L.Sleb128 at h = signeds_as s at
raw_past s start c e x L.Block1 at h = ends_as (block_after s start (word_at s at 1 e)) (past_block s (word_at s at 1 e)) (block_end s start (word_at s at 1 e))
raw_past s start c e x L.Block2 at h = ends_as (block_after s start (word_at s at 2 e)) (past_block s (word_at s at 2 e)) (block_end s start (word_at s at 2 e))
raw_past s start c e x L.Block4 at h = ends_as (block_after s start (word_at s at 4 e)) (past_block s (word_at s at 4 e)) (block_end s start (word_at s at 4 e))
raw_past s start c e x L.Block at h = ends_as (block_after s start (uleb_at s at 64)) (past_block s (uleb_at s at 64)) (block_end s start (uleb_at s at 64))
raw_past s start c e x L.NullTerminated at h = ends_as (string_at s start at) (past_at s at 1) (string_end s start at)
raw_past s start c e x L.Present at h = stays s at h
raw_past s start c e x L.ImplicitConst at h = constants_as s x at h
raw_past s start c e x L.Unknown at h = tt

past_block_onward : (s : List ℕ) (at : ℕ) (r : Answer (Read ℕ)) → Holds (λ v. Onward s at v.next) r → Holds (Onward s at) (past_block s r)
unfolding past_block
past_block_onward s at r h =
    holds_then (λ v. Onward s at v.next) (Onward s at) r _ h
    (λ v y. holds_map (λ p. (p ≡ v.next + v.value) × (p ≤ length s)) (Onward s at) (skip_at s v.next v.value) (λ p z. let a = z.0 in record { from = omega (arith, y.from); within = z.1 }) (skip_in s v.next v.value))

skip_onward : (s : List ℕ) (at n : ℕ) → Holds (Onward s at) (skip_at s at n)
skip_onward s at n = holds_map (λ p. (p ≡ at + n) × (p ≤ length s)) (Onward s at) (skip_at s at n) (λ p z. let a = z.0 in record { from = omega arith; within = z.1 }) (skip_in s at n)

past_onward : (s : List ℕ) (at m : ℕ) → Holds (Onward s at) (past_at s at m)
past_onward s at m = holds_map (λ p. (at < p) × (p ≤ length s)) (Onward s at) (past_at s at m) (λ p z. let a = z.0 in record { from = omega arith; within = z.1 }) (past_in s at m)

word_onward : (s : List ℕ) (at n : ℕ) (e : RunTimeEndian) → Holds (λ v. Onward s at v.next) (word_at s at n e)
word_onward s at n e = holds_map (WordIn s at n) (λ v. Onward s at v.next) (word_at s at n e) (λ v y. record { from = omega (arith, y.next); within = omega (arith, y.next, y.there) }) (word_in s at n e)

uleb_onward : (s : List ℕ) (at w : ℕ) → Holds (λ v. Onward s at v.next) (uleb_at s at w)
uleb_onward s at w = holds_map (λ v. Ends s at w v.next) (λ v. Onward s at v.next) (uleb_at s at w) (λ v y. record { from = omega (arith, y.above); within = y.within }) (uleb_ends s at w)

ending_onward : (s : List ℕ) (e : RunTimeEndian) (x : Ending) (at : ℕ) → Holds (Onward s at) (past_ending s e x at)
ending_onward s e (sized n) at = skip_onward s at n
ending_onward s e (ended m) at = past_onward s at m
ending_onward s e (counted n) at = past_block_onward s at (word_at s at n e) (word_onward s at n e)
ending_onward s e measured at = past_block_onward s at (uleb_at s at 64) (uleb_onward s at 64)
ending_onward s e unknown at = tt

pub layout_onward : (s : List ℕ) (c : Encoding) (e : RunTimeEndian) (l : Layout) (at : ℕ) → Holds (Onward s at) (past_layout s c e l at)
unfolding past_layout
layout_onward s c e l at = ending_onward s e (ending_of c l) at

-- past a value is not before it, and in the bytes
pub value_onward : (s : List ℕ) (c : Encoding) (e : RunTimeEndian) (f at : ℕ) → at ≤ length s → Holds (Onward s at) (past_value s c e f at)
unfolding past_value
value_onward s c e f at h =
    holds_then (λ r. Onward s at r.next) (Onward s at) (final_form s f at) _ (final_onward s f at h)
    (λ r y. holds_map (Onward s r.next) (Onward s at) (past_layout s c e (row r.value).layout r.next) (λ p z. onward y z) (layout_onward s c e (row r.value).layout r.next))

-- a value that is read ends where skipping it ends
pub record Past (s : List ℕ) (c : Encoding) (e : RunTimeEndian) (f at p : ℕ) : Type 0 where
  pub skipped : past_value s c e f at ≡ got p
  pub ahead : Onward s at p

got_holds : {A : Type 0} (P : A → Type 0) (r : Answer A) (a : A) → Holds P r → r ≡ got a → P a
got_holds P r a h e = rw e at h

module _ (s : List ℕ) (start : ℕ) (c : Encoding) (e : RunTimeEndian) (x : Specification) (at : ℕ) (h : at ≤ length s) where
  pub form_past : Holds (λ v. Past s c e x.form at v.next) (form_at s start c e x at)
  unfolding form_at past_value
  form_past =
      go (final_form s x.form at) refl (final_onward s x.form at h)
    where
      skipped : (r : Answer (Read ℕ)) (m : Answer ℕ) → final_form s x.form at ≡ r → and_then r (λ f. past_layout s c e (row f.value).layout f.next) ≡ m → past_value s c e x.form at ≡ m
      skipped r m q z = rw q z

      past : (p : ℕ) → past_value s c e x.form at ≡ got p → Past s c e x.form at p
      past p q = record { skipped = q; ahead = got_holds (Onward s at) (past_value s c e x.form at) p (value_onward s c e x.form at h) q }

      go : (r : Answer (Read ℕ)) → final_form s x.form at ≡ r → Holds (λ f. Onward s at f.next) r
          → Holds (λ (v : Read Value). Past s c e x.form at v.next) (and_then r (λ f. and_then (raw_at s start c e x (row f.value).layout f.next) (λ n. gives (record { kind = (row f.value).kind; low = n.value.low; high = n.value.high }) n.next)))
      go (got f) q y =
          holds_then (λ n. past_layout s c e (row f.value).layout f.next ≡ got n.next) (λ v. Past s c e x.form at v.next)
          (raw_at s start c e x (row f.value).layout f.next) _
          (raw_past s start c e x (row f.value).layout f.next y.within)
          (λ n z. past n.next (skipped (got f) (got n.next) q z))
      go (refused k) q y = tt

  pub attribute_past : Holds (λ a. Past s c e x.form at a.next) (attribute_at s start c e x at)
  unfolding attribute_at
  attribute_past = holds_then (λ v. Past s c e x.form at v.next) (λ a. Past s c e x.form at a.next) (form_at s start c e x at) _ form_past (λ v y. y)

-- 01, demand 3: where values read without refusal, skipping them ends on the same byte
pub attributes_past : (s : List ℕ) (start : ℕ) (c : Encoding) (e : RunTimeEndian) (xs : List Specification) (at : ℕ) → at ≤ length s
    → Holds (λ r. (past_values s c e xs at ≡ got r.next) × Onward s at r.next) (attributes_at s start c e xs at)
unfolding attributes_at past_values
attributes_past s start c e [] at h = (refl, record { from = omega arith; within = h })
attributes_past s start c e (x ∷ xs) at h =
    holds_then (λ a. Past s c e x.form at a.next) (λ r. (and_then (past_value s c e x.form at) (λ p. past_values s c e xs p) ≡ got r.next) × Onward s at r.next)
    (attribute_at s start c e x at) _ (attribute_past s start c e x at h)
    (λ a y.
    holds_then (λ r. (past_values s c e xs a.next ≡ got r.next) × Onward s a.next r.next)
    (λ r. (and_then (past_value s c e x.form at) (λ p. past_values s c e xs p) ≡ got r.next) × Onward s at r.next)
    (attributes_at s start c e xs a.next) _ (attributes_past s start c e xs a.next y.ahead.within)
    (λ r z. (rw y.skipped z.0, onward y.ahead z.1)))

-- the numbers of a layout
record Bounded (width : ℕ) (wide : Bool) (n : Read Numbers) : Type 0 where
  narrow : width < 8 → n.value.low < 2 ^ (8 * width)
  single : wide ≡ false → n.value.high ≡ 0

number_bounded : (s : List ℕ) (at w : ℕ) (e : RunTimeEndian) → Holds (Bounded w false) (numbered (word_at s at w e))
unfolding numbered
number_bounded s at w e = holds_then (WordIn s at w) (Bounded w false) (word_at s at w e) _ (word_in s at w e) (λ v y. record { narrow = λ _. y.below; single = λ _. refl })

any_number : (r : Answer (Read ℕ)) → Holds (Bounded 8 false) (numbered r)
unfolding numbered
any_number (got v) = record { narrow = λ l. absurd (omega (arith, l)); single = λ _. refl }
any_number (refused n) = tt

any_signed : (s : List ℕ) (at : ℕ) → Holds (Bounded 8 false) (signed_at s at)
unfolding signed_at
any_signed s at = go (sleb_at s at 64)
  where
    go : (r : Answer (Read ℤ)) → Holds (Bounded 8 false) (and_then r (λ v. gives (record { low = word 64 v.value; high = 0 }) v.next))
    go (got v) = record { narrow = λ l. absurd (omega (arith, l)); single = λ _. refl }
    go (refused n) = tt

any_constant : (x : Specification) (at : ℕ) → Holds (Bounded 8 false) (constant_of x at)
unfolding constant_of
any_constant x at = cond_by (Holds (Bounded 8 false)) (eqb x.form 0x21) _ (refused 18) (λ _. record { narrow = λ l. absurd (omega (arith, l)); single = λ _. refl }) (λ _. tt)

any_pair : (r : Answer (Read Numbers)) → Holds (Bounded 8 true) r
any_pair (got v) = record { narrow = λ l. absurd (omega (arith, l)); single = λ q. absurd (cc) }
any_pair (refused n) = tt

raw_bounded : (s : List ℕ) (start : ℕ) (c : Encoding) (e : RunTimeEndian) (x : Specification) (l : Layout) (at : ℕ) → Holds (Bounded (layout_width l) (layout_wide l)) (raw_at s start c e x l at)
unfolding raw_at
raw_bounded s start c e x L.U8 at = number_bounded s at 1 e
raw_bounded s start c e x L.U16 at = number_bounded s at 2 e
raw_bounded s start c e x L.U24 at = number_bounded s at 3 e
raw_bounded s start c e x L.U32 at = number_bounded s at 4 e
raw_bounded s start c e x L.U64 at = any_number (word_at s at 8 e)
raw_bounded s start c e x L.U128 at = any_pair (wide_at s at e)
raw_bounded s start c e x L.Offset at = any_number (offset_at s at c.format e)
raw_bounded s start c e x L.Address at = any_number (address_at s at c.address_size e)
raw_bounded s start c e x L.RefAddr at = any_number (ref_addr_at s at c e)
raw_bounded s start c e x L.Uleb128 at = any_number (uleb_at s at 64)
raw_bounded s start c e x L.Sleb128 at = any_signed s at
raw_bounded s start c e x L.Block1 at = any_pair (block_after s start (word_at s at 1 e))
raw_bounded s start c e x L.Block2 at = any_pair (block_after s start (word_at s at 2 e))
raw_bounded s start c e x L.Block4 at = any_pair (block_after s start (word_at s at 4 e))
raw_bounded s start c e x L.Block at = any_pair (block_after s start (uleb_at s at 64))
raw_bounded s start c e x L.NullTerminated at = any_pair (string_at s start at)
raw_bounded s start c e x L.Present at = record { narrow = λ l. absurd (omega (arith, l)); single = λ _. refl }
raw_bounded s start c e x L.ImplicitConst at = any_constant x at
raw_bounded s start c e x L.Unknown at = tt

fits : (l : Layout) (k : Kind) (n : Read Numbers) → Paired l k → Bounded (layout_width l) (layout_wide l) n → Fits k n.value.low n.value.high
fits l k n p b =
    record {
      narrow = λ w. let a = b.narrow (omega (arith, w, p.width)) in let m = pow_mono {i = 8 * layout_width l} {j = 8 * width_by (case_of k).sort} (omega (arith, p.width)) in omega arith;
      single = λ q. b.single (p.wide q);
    }

-- a value's numbers are its case's
pub form_fits : (s : List ℕ) (start : ℕ) (c : Encoding) (e : RunTimeEndian) (x : Specification) (at : ℕ) → Holds (λ v. Fits v.value.kind v.value.low v.value.high) (form_at s start c e x at)
unfolding form_at
form_fits s start c e x at = go (final_form s x.form at)
  where
    go : (r : Answer (Read ℕ)) → Holds (λ (v : Read Value). Fits v.value.kind v.value.low v.value.high) (and_then r (λ f. and_then (raw_at s start c e x (row f.value).layout f.next) (λ n. gives (record { kind = (row f.value).kind; low = n.value.low; high = n.value.high }) n.next)))
    go (got f) =
        holds_then (Bounded (layout_width (row f.value).layout) (layout_wide (row f.value).layout)) (λ v. Fits v.value.kind v.value.low v.value.high)
        (raw_at s start c e x (row f.value).layout f.next) _ (raw_bounded s start c e x (row f.value).layout f.next)
        (λ n b. fits (row f.value).layout (row f.value).kind n (row_paired f.value) b)
    go (refused k) = tt

-- where a form's value ends
pub form_end : (s : List ℕ) (start : ℕ) (c : Encoding) (e : RunTimeEndian) (x : Specification) (at : ℕ) → end_of (form_at s start c e x at) ≡ and_then (final_form s x.form at) (λ f. end_of (raw_at s start c e x (row f.value).layout f.next))
unfolding form_at
form_end s start c e x at = go (final_form s x.form at)
  where
    ends : (k : Kind) (r : Answer (Read Numbers)) → end_of {A = Value} (and_then r (λ n. gives (record { kind = k; low = n.value.low; high = n.value.high }) n.next)) ≡ end_of r
    ends k (got n) = refl
    ends k (refused j) = refl

    go : (r : Answer (Read ℕ)) → end_of {A = Value} (and_then r (λ f. and_then (raw_at s start c e x (row f.value).layout f.next) (λ n. gives (record { kind = (row f.value).kind; low = n.value.low; high = n.value.high }) n.next))) ≡ and_then r (λ f. end_of (raw_at s start c e x (row f.value).layout f.next))
    go (got f) = ends (row f.value).kind (raw_at s start c e x (row f.value).layout f.next)
    go (refused j) = refl

-- ---- the turns of DW_FORM_indirect

-- the form f at `at` has come to g at p
pub record Turned (s : List ℕ) (f at g p : ℕ) : Type 0 where
  pub is : final_form s f at ≡ final_form s g p

pub turned_begun : (s : List ℕ) (f at : ℕ) → Turned s f at f at
turned_begun s f at = record { is = refl }

module _ {s : List ℕ} {f at g p : ℕ} (t : Turned s f at g p) where
  module _ (h : g ≡ 0x16) where
    named : final_form s f at ≡ and_then (uleb_at s p 16) (λ r. final_form s r.value r.next)
    named = t.is ∙ ap (λ (k : ℕ). final_form s k p) h ∙ final_named s p

    pub turned_more : {v q : ℕ} → uleb_at s p 16 ≡ gives v q → Turned s f at v q
    turned_more u = record { is = named ∙ rw u }

    pub turned_less : {v q : ℕ} → uleb_at s p 16 ≡ gives v q → length s - q < length s - p
    turned_less u = let z = rw u at (uleb_ends s p 16) in omega (arith, z.above, z.within)

    pub turned_stop : {k : ℕ} → uleb_at s p 16 ≡ refused k → refused k ≡ final_form s f at
    turned_stop u = sym (named ∙ rw u)

  pub turned_end : (g ≡ 0x16 → ⊥) → gives g p ≡ final_form s f at
  turned_end h = sym (t.is ∙ final_plain s g p (ne_eqb g 0x16 h))

-- ---- what skipping leaves to move by

-- past a byte, and no more to move by
pub past_stays : (s : List ℕ) (at m : ℕ) {p : ℕ} → past_at s at m ≡ got p → skip_at s p 0 ≡ past_at s at m
past_stays s at m {p} e = let z = rw e at (past_in s at m) in stays s p z.1 ∙ sym e

-- the same past a string
pub string_past : (s : List ℕ) (at : ℕ) (x : Span) (p : ℕ) → null_terminated_at s at ≡ gives x p → skip_at s p 0 ≡ past_at s at 1
string_past s at x p e = past_stays s at 1 (sym (null_end s at) ∙ rw e)

pub string_none : (s : List ℕ) (at n : ℕ) → null_terminated_at s at ≡ refused n → past_at s at 1 ≡ refused n
string_none s at n e = sym (null_end s at) ∙ rw e

pub ruleset past_laws = (past_stays, string_past, string_none, word_one)

size_past : (s : List ℕ) (e : RunTimeEndian) (n at : ℕ) (x : Ending) → size_of x ≡ some n → past_ending s e x at ≡ skip_at s at n
size_past s e n at (sized m) h = cc
size_past s e n at (ended m) h = cc
size_past s e n at (counted m) h = cc
size_past s e n at measured h = cc
size_past s e n at unknown h = cc

-- 01, `get_attribute_size`: a form that has a size is skipped by it
pub sized_past : (s : List ℕ) (c : Encoding) (e : RunTimeEndian) (f n at : ℕ) → attribute_size f c ≡ some n → past_value s c e f at ≡ skip_at s at n
unfolding past_value past_layout attribute_size
sized_past s c e f n at h =
    rw (final_plain s f at (ne_eqb f 0x16 (λ q. let z : none ≡ some n = sym (indirect_open c) ∙ ap (λ (k : ℕ). attribute_size k c) (sym q) ∙ h in cc))) (size_past s e n at (ending_of c (row f).layout) h)

-- so it is where a sum is yet to move by
pub sized_sum : (s : List ℕ) (c : Encoding) (e : RunTimeEndian) (f n at sum : ℕ) → attribute_size f c ≡ some n → and_then (skip_at s at sum) (λ p. past_value s c e f p) ≡ skip_at s at (sum + n)
sized_sum s c e f n at sum h =
    then_same (λ p. (p ≡ at + sum) × (p ≤ length s)) (skip_at s at sum) (λ p. past_value s c e f p) (λ p. skip_at s p n) (skip_in s at sum) (λ p y. sized_past s c e f n p h) ∙ skip_skip s at sum n
