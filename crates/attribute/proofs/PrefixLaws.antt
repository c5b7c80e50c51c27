-- What a leading part of the bytes gives: values that end in it are read over it too.
use mathlib.Core.Bool.{Bool, true, false, cond}
use mathlib.Core.Path.{◌≡◌, refl, sym, ◌∙◌}
use mathlib.Core.List.{List, [], ◌∷◌, ◌++◌}
use Prim.Native.Nat.{ℕ, zero, suc, ◌+◌, ◌-◌, ◌≤◌, ◌<◌}
use native.Mathlib.Omega.{arith}
use lib.Dec.{eqb}
use lib.ListN.{length, take}
use Rattle.reader.specs.Answer.{Answer, got, refused, and_then, Read, gives, Holds}
use Rattle.reader.specs.Fields.{null_terminated_at, skip_at}
use Rattle.reader.specs.Leb128.{uleb_at, sleb_at}
use Rattle.reader.specs.Padded.{uleb_counted_at, sleb_counted_at}
use Rattle.reader.specs.Words.{halves_at}
use Rattle.reader.specs.declared.common.Encoding.{Encoding}
use Rattle.reader.specs.declared.endianity.RunTimeEndian.{RunTimeEndian}
use Rattle.reader.proofs.Accepted.{Ends, uleb_ends}
use Rattle.reader.proofs.Answers.{holds_then, holds_map}
use Rattle.reader.proofs.FieldLaws.{skip_in}
use Rattle.reader.proofs.PrefixLaws.{Prefixed, prefix_then, prefix_map, prefix_cond, prefix_word, prefix_skip, prefix_halves, prefix_offset, prefix_address, prefix_null, prefix_uleb, prefix_sleb}
use Rattle.abbrev.specs.Table.{Specification, implicit_const}
use Rattle.attribute.specs.Forms.{row, indirect}
use Rattle.attribute.specs.Padded.{unsigned, signed, is_padded, any_padded, layout_numbers, after, form_numbers}
use Rattle.attribute.specs.Read.{Numbers, numbered, wide_at, signed_at, ref_addr_at, block_after, string_at, constant_of, raw_at, final_form, form_at, attribute, numbers_at, attribute_at, attributes_at}
use Rattle.attribute.specs.Skip.{past_layout, past_values}
use Rattle.attribute.specs.Value.{value_under}
use Rattle.attribute.specs.declared.value.Value.{Value}
use Rattle.attribute.specs.declared.form.Layout.{Layout}
use Rattle.attribute.specs.declared.form.Layout.TheVariants as L
use Rattle.attribute.proofs.PaddedLaws.{more_padded, forms_step}
use Rattle.attribute.proofs.ReadLaws.{Onward, Past, final_step, final_onward, raw_past, layout_onward, attribute_past, attributes_past}

-- each turn of DW_FORM_indirect takes a byte
final_by : (n k : ℕ) (s : List ℕ) (f at : ℕ) → length s - at < n → Prefixed k (final_form (take k s) f at) (final_form s f at)
final_by zero k s f at h = absurd (omega arith)
final_by (suc n) k s f at h =
    rw (final_step (take k s) f at, final_step s f at)
    (prefix_cond k (eqb f indirect) _ _ (gives f at) (gives f at)
    (prefix_then (λ r. Ends s at 16 r.next) k _ (uleb_at s at 16) _ _ (prefix_uleb k s at 16) (uleb_ends s at 16)
    (λ r x _. final_by n k s r.value r.next (omega (arith, x.above, x.within)))
    (λ r x. holds_map (λ v. Onward s r.next v.next) (λ v. r.next ≤ v.next) (final_form s r.value r.next) (λ v y. y.from) (final_onward s r.value r.next x.within)))
    (λ _. refl))

pub prefix_final : (k : ℕ) (s : List ℕ) (f at : ℕ) → Prefixed k (final_form (take k s) f at) (final_form s f at)
prefix_final k s f at = final_by (suc (length s)) k s f at (omega arith)

holds_both : {A : Type 0} (P Q R : A → Type 0) (r : Answer A) → Holds P r → Holds Q r → ((a : A) → P a → Q a → R a) → Holds R r
holds_both P Q R (got a) p q f = f a p q
holds_both P Q R (refused n) p q f = tt

-- a number read the same is padded alike
unsigned_mark : (a b : List ℕ) (at w : ℕ) → uleb_at a at w ≡ uleb_at b at w → is_padded a (unsigned w at) ≡ is_padded b (unsigned w at)
unfolding is_padded uleb_counted_at
unsigned_mark a b at w e = rw e

signed_mark : (a b : List ℕ) (at w : ℕ) → sleb_at a at w ≡ sleb_at b at w → is_padded a (signed w at) ≡ is_padded b (signed w at)
unfolding is_padded sleb_counted_at
signed_mark a b at w e = rw e

-- the numbers that name forms
forms_by : (n k : ℕ) (s : List ℕ) (f at : ℕ) → length s - at < n → Holds (λ r. r.next ≤ k → any_padded (take k s) (form_numbers (take k s) f at) ≡ any_padded s (form_numbers s f at)) (final_form s f at)
unfolding any_padded
forms_by zero k s f at h = absurd (omega arith)
forms_by (suc n) k s f at h = rw (final_step s f at, forms_step (take k s) f at, forms_step s f at) (go (eqb f indirect) (λ g p l. forms_by n k s g p l))
  where
    Step : Type 0
    Step = (g p : ℕ) → length s - p < n → Holds (λ r. r.next ≤ k → any_padded (take k s) (form_numbers (take k s) g p) ≡ any_padded s (form_numbers s g p)) (final_form s g p)

    Alike : Answer (Read ℕ) → Read ℕ → Type 0
    Alike u q =
        q.next ≤ k
        → any_padded (take k s) (unsigned 16 at ∷ after (uleb_at (take k s) at 16) (λ r. form_numbers (take k s) r.value r.next)) ≡ any_padded s (unsigned 16 at ∷ after u (λ r. form_numbers s r.value r.next))

    more : Step → (u : Answer (Read ℕ)) → uleb_at s at 16 ≡ u → Prefixed k (uleb_at (take k s) at 16) u → Holds (λ r. Ends s at 16 r.next) u → Holds (Alike u) (and_then u (λ r. final_form s r.value r.next))
    more ih (got r) e p x =
        holds_both (λ q. Onward s r.next q.next) (λ q. q.next ≤ k → any_padded (take k s) (form_numbers (take k s) r.value r.next) ≡ any_padded s (form_numbers s r.value r.next)) (Alike (got r)) (final_form s r.value r.next)
        (final_onward s r.value r.next x.within)
        (ih r.value r.next (omega (arith, x.above, x.within)))
        (λ q y z l. let m = p (omega (arith, y.from)) in rw (unsigned_mark (take k s) s at 16 (m ∙ sym e), m, z l))
    more ih (refused j) e p x = tt

    go : (t : Bool) → Step
        → Holds
        (λ q.
        q.next ≤ k
        → any_padded (take k s) (cond t (unsigned 16 at ∷ after (uleb_at (take k s) at 16) (λ r. form_numbers (take k s) r.value r.next)) [])
        ≡ any_padded s (cond t (unsigned 16 at ∷ after (uleb_at s at 16) (λ r. form_numbers s r.value r.next)) []))
        (cond t (and_then (uleb_at s at 16) (λ r. final_form s r.value r.next)) (gives f at))
    go true ih = more ih (uleb_at s at 16) refl (prefix_uleb k s at 16) (uleb_ends s at 16)
    go false ih = λ _. refl

prefix_forms : (k : ℕ) (s : List ℕ) (f at : ℕ) → Holds (λ r. r.next ≤ k → any_padded (take k s) (form_numbers (take k s) f at) ≡ any_padded s (form_numbers s f at)) (final_form s f at)
prefix_forms k s f at = forms_by (suc (length s)) k s f at (omega arith)

-- what stands in the bytes, and the values of it
module _ (k : ℕ) (s : List ℕ) (start : ℕ) (c : Encoding) (e : RunTimeEndian) where
  numbers : (x y : Answer (Read ℕ)) → Prefixed k x y → Prefixed k (numbered x) (numbered y)
  unfolding numbered
  numbers x y p = prefix_map _ _ k x y p

  blocks : (x y : Answer (Read ℕ)) → Prefixed k x y → Prefixed k (block_after (take k s) start x) (block_after s start y)
  unfolding block_after
  blocks x y p =
      prefix_then (λ n. n.next ≤ k → x ≡ got n) k x y _ _ p p
      (λ n _ _. prefix_map (λ q. q) _ k _ (skip_at s n.next n.value) (prefix_skip k s n.next n.value))
      (λ n _. holds_then (λ q. (q ≡ n.next + n.value) × (q ≤ length s)) (λ (v : Read Numbers). n.next ≤ v.next) (skip_at s n.next n.value) _ (skip_in s n.next n.value) (λ q z. let a = z.0 in omega arith))

  pub prefix_raw : (x : Specification) (l : Layout) (at : ℕ) → Prefixed k (raw_at (take k s) start c e x l at) (raw_at s start c e x l at)
  unfolding raw_at wide_at signed_at ref_addr_at string_at constant_of
  prefix_raw x L.U8 at = numbers _ _ (prefix_word k s at 1 e)
  prefix_raw x L.U16 at = numbers _ _ (prefix_word k s at 2 e)
  prefix_raw x L.U24 at = numbers _ _ (prefix_word k s at 3 e)
  prefix_raw x L.U32 at = numbers _ _ (prefix_word k s at 4 e)
  prefix_raw x L.U64 at = numbers _ _ (prefix_word k s at 8 e)
  prefix_raw x L.U128 at = prefix_map _ _ k _ (halves_at s at e) (prefix_halves k s at e)
  prefix_raw x L.Offset at = numbers _ _ (prefix_offset k s at c.format e)
  prefix_raw x L.Address at = numbers _ _ (prefix_address k s at c.address_size e)
  prefix_raw x L.RefAddr at = numbers _ _ (prefix_cond k (eqb c.version 2) _ _ _ _ (prefix_address k s at c.address_size e) (prefix_offset k s at c.format e))
  prefix_raw x L.Uleb128 at = numbers _ _ (prefix_uleb k s at 64)
  prefix_raw x L.Sleb128 at = prefix_map _ _ k _ (sleb_at s at 64) (prefix_sleb k s at 64)
  prefix_raw x L.Block1 at = blocks _ _ (prefix_word k s at 1 e)
  prefix_raw x L.Block2 at = blocks _ _ (prefix_word k s at 2 e)
  prefix_raw x L.Block4 at = blocks _ _ (prefix_word k s at 4 e)
  prefix_raw x L.Block at = blocks _ _ (prefix_uleb k s at 64)
  prefix_raw x L.NullTerminated at = prefix_map _ _ k _ (null_terminated_at s at) (prefix_null k s at)
  prefix_raw x L.Present at = λ _. refl
  prefix_raw x L.ImplicitConst at = prefix_cond k (eqb x.form implicit_const) _ _ (refused 18) (refused 18) (λ _. refl) tt
  prefix_raw x L.Unknown at = tt

  raw_ahead : (x : Specification) (l : Layout) (at : ℕ) → at ≤ length s → Holds (λ n. at ≤ n.next) (raw_at s start c e x l at)
  raw_ahead x l at h =
      holds_map (λ n. past_layout s c e l at ≡ got n.next) (λ n. at ≤ n.next) (raw_at s start c e x l at) (λ n q. (rw q at (layout_onward s c e l at)).from) (raw_past s start c e x l at h)

  pub prefix_form : (x : Specification) (at : ℕ) → at ≤ length s → Prefixed k (form_at (take k s) start c e x at) (form_at s start c e x at)
  unfolding form_at
  prefix_form x at h =
      prefix_then (λ f. Onward s at f.next) k _ (final_form s x.form at) _ _ (prefix_final k s x.form at) (final_onward s x.form at h)
      (λ f _ _. prefix_map _ _ k _ (raw_at s start c e x (row f.value).layout f.next) (prefix_raw x (row f.value).layout f.next))
      (λ f y. holds_then (λ n. f.next ≤ n.next) (λ v. f.next ≤ v.next) (raw_at s start c e x (row f.value).layout f.next) _ (raw_ahead x (row f.value).layout f.next y.within) (λ n z. z))

  -- the number of a layout
  first : {A B : Type 0} (u v : Answer (Read A)) (f : Read A → Answer (Read B)) → Prefixed k v u → ((r : Read A) → Holds (λ w. r.next ≤ w.next) (f r)) → Holds (λ w. w.next ≤ k → v ≡ u) (and_then u f)
  first (got r) v f p h = holds_map (λ w. r.next ≤ w.next) (λ w. w.next ≤ k → v ≡ got r) (f r) (λ w l m. p (omega arith)) (h r)
  first (refused n) v f p h = tt

  abbrev Marks : Layout → ℕ → Read Numbers → Type 0
  Marks l at n = n.next ≤ k → any_padded (take k s) (layout_numbers l at) ≡ any_padded s (layout_numbers l at)

  alike : (P : Read Numbers → Type 0) (r : Answer (Read Numbers)) → ((n : Read Numbers) → P n) → Holds P r
  alike P (got n) f = f n
  alike P (refused j) f = tt

  prefix_numbers : (x : Specification) (l : Layout) (at : ℕ) → Holds (Marks l at) (raw_at s start c e x l at)
  unfolding raw_at layout_numbers any_padded numbered signed_at block_after
  prefix_numbers x L.Uleb128 at =
      holds_map (λ n. n.next ≤ k → uleb_at (take k s) at 64 ≡ uleb_at s at 64) (Marks L.Uleb128 at) (numbered (uleb_at s at 64)) (λ n q m. rw (unsigned_mark (take k s) s at 64 (q m)))
      (first (uleb_at s at 64) (uleb_at (take k s) at 64) _ (prefix_uleb k s at 64) (λ r. omega arith))
  prefix_numbers x L.Sleb128 at =
      holds_map (λ n. n.next ≤ k → sleb_at (take k s) at 64 ≡ sleb_at s at 64) (Marks L.Sleb128 at) (signed_at s at) (λ n q m. rw (signed_mark (take k s) s at 64 (q m)))
      (first (sleb_at s at 64) (sleb_at (take k s) at 64) _ (prefix_sleb k s at 64) (λ r. omega arith))
  prefix_numbers x L.Block at =
      holds_map (λ n. n.next ≤ k → uleb_at (take k s) at 64 ≡ uleb_at s at 64) (Marks L.Block at) (block_after s start (uleb_at s at 64)) (λ n q m. rw (unsigned_mark (take k s) s at 64 (q m)))
      (first (uleb_at s at 64) (uleb_at (take k s) at 64) _ (prefix_uleb k s at 64)
      (λ r. holds_then (λ q. (q ≡ r.next + r.value) × (q ≤ length s)) (λ (v : Read Numbers). r.next ≤ v.next) (skip_at s r.next r.value) _ (skip_in s r.next r.value) (λ q z. let a = z.0 in omega arith)))
  prefix_numbers x L.U8 at = alike (Marks L.U8 at) (raw_at s start c e x L.U8 at) (λ _ _. refl)
  prefix_numbers x L.U16 at = alike (Marks L.U16 at) (raw_at s start c e x L.U16 at) (λ _ _. refl)
  prefix_numbers x L.U24 at = alike (Marks L.U24 at) (raw_at s start c e x L.U24 at) (λ _ _. refl)
  prefix_numbers x L.U32 at = alike (Marks L.U32 at) (raw_at s start c e x L.U32 at) (λ _ _. refl)
  prefix_numbers x L.U64 at = alike (Marks L.U64 at) (raw_at s start c e x L.U64 at) (λ _ _. refl)
  prefix_numbers x L.U128 at = alike (Marks L.U128 at) (raw_at s start c e x L.U128 at) (λ _ _. refl)
  prefix_numbers x L.Offset at = alike (Marks L.Offset at) (raw_at s start c e x L.Offset at) (λ _ _. refl)
  prefix_numbers x L.Address at = alike (Marks L.Address at) (raw_at s start c e x L.Address at) (λ _ _. refl)
  prefix_numbers x L.RefAddr at = alike (Marks L.RefAddr at) (raw_at s start c e x L.RefAddr at) (λ _ _. refl)
  prefix_numbers x L.Block1 at = alike (Marks L.Block1 at) (raw_at s start c e x L.Block1 at) (λ _ _. refl)
  prefix_numbers x L.Block2 at = alike (Marks L.Block2 at) (raw_at s start c e x L.Block2 at) (λ _ _. refl)
  prefix_numbers x L.Block4 at = alike (Marks L.Block4 at) (raw_at s start c e x L.Block4 at) (λ _ _. refl)
  prefix_numbers x L.NullTerminated at = alike (Marks L.NullTerminated at) (raw_at s start c e x L.NullTerminated at) (λ _ _. refl)
  prefix_numbers x L.Present at = alike (Marks L.Present at) (raw_at s start c e x L.Present at) (λ _ _. refl)
  prefix_numbers x L.ImplicitConst at = alike (Marks L.ImplicitConst at) (raw_at s start c e x L.ImplicitConst at) (λ _ _. refl)
  prefix_numbers x L.Unknown at = alike (Marks L.Unknown at) (raw_at s start c e x L.Unknown at) (λ _ _. refl)

  -- and the mark of a value
  prefix_mark : (x : Specification) (at : ℕ) → at ≤ length s → Holds (λ v. v.next ≤ k → any_padded (take k s) (numbers_at (take k s) x.form at) ≡ any_padded s (numbers_at s x.form at)) (form_at s start c e x at)
  unfolding form_at numbers_at
  prefix_mark x at h = go (final_form s x.form at) refl (prefix_final k s x.form at) (prefix_forms k s x.form at) (final_onward s x.form at h)
    where
      Same : Answer (Read ℕ) → Read Value → Type 0
      Same u v = v.next ≤ k → any_padded (take k s) (form_numbers (take k s) x.form at ++ after (final_form (take k s) x.form at) (λ r. layout_numbers (row r.value).layout r.next)) ≡ any_padded s (form_numbers s x.form at ++ after u (λ r. layout_numbers (row r.value).layout r.next))

      go : (u : Answer (Read ℕ)) → final_form s x.form at ≡ u → Prefixed k (final_form (take k s) x.form at) u
          → Holds (λ r. r.next ≤ k → any_padded (take k s) (form_numbers (take k s) x.form at) ≡ any_padded s (form_numbers s x.form at)) u → Holds (λ r. Onward s at r.next) u
          → Holds (Same u) (and_then u (λ f. and_then (raw_at s start c e x (row f.value).layout f.next) (λ n. gives (record { kind = (row f.value).kind; low = n.value.low; high = n.value.high }) n.next)))
      go (got f) q p m o =
          let l = (row f.value).layout in
          holds_then (λ n. (f.next ≤ n.next) × Marks l f.next n) (Same (got f)) (raw_at s start c e x l f.next) _
          (holds_both (λ n. f.next ≤ n.next) (Marks l f.next) (λ n. (f.next ≤ n.next) × Marks l f.next n) (raw_at s start c e x l f.next) (raw_ahead x l f.next o.within) (prefix_numbers x l f.next) (λ n a b. (a, b)))
          (λ n y i.
          let a : f.next ≤ k = omega (arith, y.0) in
          rw (p a, more_padded (take k s) (form_numbers (take k s) x.form at) (layout_numbers l f.next), more_padded s (form_numbers s x.form at) (layout_numbers l f.next), m a, y.1 i))
      go (refused j) q p m o = tt

  pub prefix_attribute : (x : Specification) (at : ℕ) → at ≤ length s → Prefixed k (attribute_at (take k s) start c e x at) (attribute_at s start c e x at)
  unfolding attribute_at
  prefix_attribute x at h = go (form_at s start c e x at) (prefix_form x at h) (prefix_mark x at h)
    where
      go : (u : Answer (Read Value)) → Prefixed k (form_at (take k s) start c e x at) u
          → Holds (λ v. v.next ≤ k → any_padded (take k s) (numbers_at (take k s) x.form at) ≡ any_padded s (numbers_at s x.form at)) u
          → Prefixed k (attribute_at (take k s) start c e x at) (and_then u (λ v. gives (attribute x (any_padded s (numbers_at s x.form at)) (value_under c x.name v.value)) v.next))
      go (got v) p m = λ l. rw (p l, m l)
      go (refused j) p m = tt

  pub prefix_attributes : (xs : List Specification) (at : ℕ) → at ≤ length s → Prefixed k (attributes_at (take k s) start c e xs at) (attributes_at s start c e xs at)
  unfolding attributes_at
  prefix_attributes [] at h = λ _. refl
  prefix_attributes (x ∷ xs) at h =
      prefix_then (λ a. Past s c e x.form at a.next) k _ (attribute_at s start c e x at) _ _ (prefix_attribute x at h) (attribute_past s start c e x at h)
      (λ a y _. prefix_map _ _ k _ (attributes_at s start c e xs a.next) (prefix_attributes xs a.next y.ahead.within))
      (λ a y. holds_then (λ r. (past_values s c e xs a.next ≡ got r.next) × Onward s a.next r.next) (λ r. a.next ≤ r.next) (attributes_at s start c e xs a.next) _ (attributes_past s start c e xs a.next y.ahead.within) (λ r z. z.1.from))
