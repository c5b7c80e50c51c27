-- Laws of forms: what a test of every row says of each form, and the table of sizes.
use mathlib.Core.Bool.{Bool, true, false, cond, not, ◌&&◌, ◌||◌}
use mathlib.Core.Path.{◌≡◌, refl, sym, ◌∙◌}
use mathlib.Core.List.{List, [], ◌∷◌, map}
use mathlib.Core.Option.{Option, none, some}
use Prim.Native.Nat.{ℕ, ◌+◌, ◌-◌, ◌≤◌, ◌<◌}
use native.Mathlib.Omega.{arith}
use borrow.Author.Tests.{eqb-true, ne_eqb, leb-true, lt-ltb, le-ltb}
use lib.Dec.{eqb, leb, ltb}
use lib.ListN.{get_or, replicate}
use Rattle.std.specs.Prelude.{Some, None}
use Rattle.std.specs.Prelude as code
use Rattle.std.specs.List.{range_with_len}
use Rattle.std.proofs.lemmas.List.{get_or-replicate}
use Rattle.std.proofs.lemmas.List.FromFn.{get_or-map-range_with_len}
use Rattle.reader.specs.Fields.{word_size}
use Rattle.reader.specs.declared.common.Encoding.{Encoding}
use Rattle.reader.specs.declared.common.Format.{Format}
use Rattle.reader.specs.declared.common.Format.TheVariants.{Dwarf32, Dwarf64}
use Rattle.attribute.specs.Forms.{Form, form, forms, row_of, row_in, row, case_of}
use Rattle.attribute.specs.Read.{ref_addr_size}
use Rattle.attribute.specs.Skip.{ending_of, size_of, attribute_size}
use Rattle.attribute.specs.Steps.{width_by, is_wide}
use Rattle.attribute.specs.Value.{allow_section_offset, is_section_offset}
use Rattle.attribute.specs.declared.form.Kind.{Kind}
use Rattle.attribute.specs.declared.form.Kind.TheVariants as K
use Rattle.attribute.specs.declared.form.Layout.{Layout}
use Rattle.attribute.specs.declared.form.Layout.TheVariants as L
use Rattle.attribute.specs.declared.form.Row.{Row}
use Rattle.attribute.specs.declared.form.Sort.{Sort}

-- both of two tests
pub both : (a b : Bool) → a && b ≡ true → (a ≡ true) × (b ≡ true)
both true true e = (refl, refl)
both true false e = absurd (cc)
both false b e = absurd (cc)

-- a test of each row
unfoldable every : (Row → Bool) → List Form → Bool
every P [] = true
every P (form code l k ∷ rest) = P (row_of l k) && every P rest

every_row : (P : Row → Bool) (f : ℕ) (rows : List Form) → P (row_of L.Unknown K.Udata) ≡ true → every P rows ≡ true → P (row_in f rows) ≡ true
unfolding every row_in
every_row P f [] z h = z
every_row P f (form code l k ∷ rest) z h =
    let b = both (P (row_of l k)) (every P rest) h in
    go (eqb f code) b.0 (every_row P f rest z b.1)
  where
    go : (t : Bool) → P (row_of l k) ≡ true → P (row_in f rest) ≡ true → P (cond t (row_of l k) (row_in f rest)) ≡ true
    go true p q = p
    go false p q = q

-- the bytes that the first number of a layout has at most, and whether it has a second
abbrev pub layout_width : Layout → ℕ
layout_width L.U8 = 1
layout_width L.U16 = 2
layout_width L.U24 = 3
layout_width L.U32 = 4
layout_width L.U64 = 8
layout_width L.U128 = 8
layout_width L.Offset = 8
layout_width L.Address = 8
layout_width L.RefAddr = 8
layout_width L.Uleb128 = 8
layout_width L.Sleb128 = 8
layout_width L.Block1 = 8
layout_width L.Block2 = 8
layout_width L.Block4 = 8
layout_width L.Block = 8
layout_width L.NullTerminated = 8
layout_width L.Present = 8
layout_width L.ImplicitConst = 8
layout_width L.Unknown = 8

abbrev pub layout_wide : Layout → Bool
layout_wide L.U8 = false
layout_wide L.U16 = false
layout_wide L.U24 = false
layout_wide L.U32 = false
layout_wide L.U64 = false
layout_wide L.U128 = true
layout_wide L.Offset = false
layout_wide L.Address = false
layout_wide L.RefAddr = false
layout_wide L.Uleb128 = false
layout_wide L.Sleb128 = false
layout_wide L.Block1 = true
layout_wide L.Block2 = true
layout_wide L.Block4 = true
layout_wide L.Block = true
layout_wide L.NullTerminated = true
layout_wide L.Present = false
layout_wide L.ImplicitConst = false
layout_wide L.Unknown = false

-- a layout whose numbers a case can hold
abbrev paired : Layout → Sort → Bool
paired l c = leb (layout_width l) (width_by c) && (not (layout_wide l) || is_wide c)

-- so does every row pair them
pub record Paired (l : Layout) (k : Kind) : Type 0 where
  pub width : layout_width l ≤ width_by (case_of k).sort
  pub wide : is_wide (case_of k).sort ≡ false → layout_wide l ≡ false

not_wide : (a b : Bool) → not a || b ≡ true → b ≡ false → a ≡ false
not_wide true true h e = e
not_wide true false h e = sym h
not_wide false b h e = refl

pub row_paired : (f : ℕ) → Paired (row f).layout (row f).kind
unfolding row forms every
row_paired f =
    let h = every_row (λ r. paired r.layout (case_of r.kind).sort) f forms refl refl in
    let b = both (leb (layout_width (row f).layout) (width_by (case_of (row f).kind).sort)) (not (layout_wide (row f).layout) || is_wide (case_of (row f).kind).sort) h in
    record { width = leb-true _ _ b.0; wide = not_wide (layout_wide (row f).layout) (is_wide (case_of (row f).kind).sort) b.1 }

-- DW_FORM_indirect has no row
pub indirect_open : (c : Encoding) → attribute_size 0x16 c ≡ none
unfolding attribute_size row row_in forms ending_of
indirect_open c = refl

-- the size that a layout has in every unit
abbrev pub fixed_of : Layout → code.Option ℕ
fixed_of L.U8 = Some 1
fixed_of L.U16 = Some 2
fixed_of L.U24 = Some 3
fixed_of L.U32 = Some 4
fixed_of L.U64 = Some 8
fixed_of L.U128 = Some 16
fixed_of L.Offset = None
fixed_of L.Address = None
fixed_of L.RefAddr = None
fixed_of L.Uleb128 = None
fixed_of L.Sleb128 = None
fixed_of L.Block1 = None
fixed_of L.Block2 = None
fixed_of L.Block4 = None
fixed_of L.Block = None
fixed_of L.NullTerminated = None
fixed_of L.Present = Some 0
fixed_of L.ImplicitConst = Some 0
fixed_of L.Unknown = None

pub fixed_size : (c : Encoding) (l : Layout) (n : ℕ) → fixed_of l ≡ Some n → size_of (ending_of c l) ≡ some n
unfolding ending_of
fixed_size c L.U8 n h = cc
fixed_size c L.U16 n h = cc
fixed_size c L.U24 n h = cc
fixed_size c L.U32 n h = cc
fixed_size c L.U64 n h = cc
fixed_size c L.U128 n h = cc
fixed_size c L.Offset n h = cc
fixed_size c L.Address n h = cc
fixed_size c L.RefAddr n h = cc
fixed_size c L.Uleb128 n h = cc
fixed_size c L.Sleb128 n h = cc
fixed_size c L.Block1 n h = cc
fixed_size c L.Block2 n h = cc
fixed_size c L.Block4 n h = cc
fixed_size c L.Block n h = cc
fixed_size c L.NullTerminated n h = cc
fixed_size c L.Present n h = cc
fixed_size c L.ImplicitConst n h = cc
fixed_size c L.Unknown n h = cc

-- the code's table
unfoldable pub sizes : List (code.Option ℕ)
sizes = None ∷ None ∷ None ∷ None ∷ None ∷ Some 2 ∷ Some 4 ∷ Some 8 ∷ None ∷ None ∷ None ∷ Some 1 ∷ Some 1 ∷ None ∷ None ∷ None ∷ None ∷ Some 1 ∷ Some 2 ∷ Some 4 ∷ Some 8 ∷ None ∷ None ∷ None ∷ None ∷ Some 0 ∷ None ∷ None ∷ Some 4 ∷ None ∷ Some 16 ∷ None ∷ Some 8 ∷ Some 0 ∷ None ∷ None ∷ Some 8 ∷ Some 1 ∷ Some 2 ∷ Some 3 ∷ Some 4 ∷ Some 1 ∷ Some 2 ∷ Some 3 ∷ Some 4 ∷ []

-- has the size of each form, all of them computed
sizes_is : sizes ≡ map (λ k. fixed_of (row k).layout) (range_with_len 0 45)
unfolding sizes row row_in forms
sizes_is = refl

pub size_at : (k : ℕ) (d : code.Option ℕ) → k < 45 → get_or sizes k d ≡ fixed_of (row k).layout
size_at k d h = rw sizes_is (get_or-map-range_with_len (λ k. fixed_of (row k).layout) 0 45 k k d h (omega arith))

-- a law of each number of a range, from what it is computed to be of all of them
same_all : {X : Type 0} (f : ℕ → X) (a n : ℕ) (x : X) (k : ℕ) → map f (range_with_len a n) ≡ replicate n x → a ≤ k → k < a + n → f k ≡ x
same_all f a n x k h l u =
    let i : k - a < n = omega arith in
    sym (get_or-map-range_with_len f a n (k - a) k x i (omega arith)) ∙ rw h (get_or-replicate n (k - a) x x i)

-- none of GNU's forms has the same size in every unit
pub gnu_fixed : (k : ℕ) → 0x1f00 ≤ k → k < 0x1f22 → fixed_of (row k).layout ≡ None
unfolding row row_in forms
gnu_fixed k l u = same_all (λ k. fixed_of (row k).layout) 0x1f00 0x22 None k refl l (omega arith)

-- and before 0x1f20 none has a size at all
pub gnu_open : (c : Encoding) (k : ℕ) → 0x1f00 ≤ k → k < 0x1f20 → attribute_size k c ≡ none
unfolding attribute_size row row_in forms ending_of
gnu_open c k l u = same_all (λ k. attribute_size k c) 0x1f00 0x20 none k refl l (omega arith)

-- DW_FORM_GNU_ref_alt and DW_FORM_GNU_strp_alt have that of an offset
pub gnu_offset : (c : Encoding) (k : ℕ) → 0x1f20 ≤ k → k < 0x1f22 → attribute_size k c ≡ some (word_size c.format)
unfolding attribute_size row row_in forms ending_of
gnu_offset c k l u = same_all (λ k. attribute_size k c) 0x1f20 2 (some (word_size c.format)) k refl l (omega arith)

-- the code's match beside the table: what the encoding decides
abbrev pub matched : Encoding → ℕ → Option ℕ
matched c k =
    cond (eqb k 0x01) (some c.address_size)
    (cond (eqb k 0x10) (some (ref_addr_size c))
    (cond (eqb k 0x0e || (eqb k 0x17 || (eqb k 0x1d || (eqb k 0x1f || (eqb k 0x1f20 || eqb k 0x1f21))))) (some (word_size c.format)) none))

-- a size of the table, else that of the match
abbrev pub sized_by : code.Option ℕ → Option ℕ → Option ℕ
sized_by (Some n) x = some n
sized_by None x = x

sized_all : (c : Encoding) → map (λ k. attribute_size k c) (range_with_len 0 45) ≡ map (λ k. sized_by (get_or sizes k None) (matched c k)) (range_with_len 0 45)
unfolding attribute_size sizes row row_in forms ending_of
sized_all c = refl

matched_all : (c : Encoding) → map (λ k. attribute_size k c) (range_with_len 0x1f00 0x22) ≡ map (matched c) (range_with_len 0x1f00 0x22)
unfolding attribute_size row row_in forms ending_of
matched_all c = refl

-- functions of a number that are computed to be the same over a range
same_over : {X : Type 0} (f g : ℕ → X) (a n k : ℕ) → map f (range_with_len a n) ≡ map g (range_with_len a n) → a ≤ k → k < a + n → f k ≡ g k
same_over f g a n k h l u =
    let i : k - a < n = omega arith in
    sym (get_or-map-range_with_len f a n (k - a) k (f k) i (omega arith)) ∙ rw h (get_or-map-range_with_len g a n (k - a) k (f k) i (omega arith))

-- table and match together, of the forms of the standard
pub whole_at : (c : Encoding) (k : ℕ) → k < 45 → attribute_size k c ≡ sized_by (get_or sizes k None) (matched c k)
whole_at c k h = same_over (λ k. attribute_size k c) (λ k. sized_by (get_or sizes k None) (matched c k)) 0 45 k (sized_all c) (omega arith) (omega arith)

-- and of GNU's
pub gnu_at : (c : Encoding) (k : ℕ) → 0x1f00 ≤ k → k < 0x1f22 → attribute_size k c ≡ matched c k
gnu_at c k l u = same_over (λ k. attribute_size k c) (matched c) 0x1f00 0x22 k (matched_all c) l (omega arith)

-- the forms that neither the table nor GNU's range has
outside : ℕ → Bool
outside f = not (ltb f 0x2d) && (ltb f 0x1f00 || not (ltb f 0x1f22))

inside_codes : List Form → Bool
inside_codes [] = true
inside_codes (form code l k ∷ rest) = not (outside code) && inside_codes rest

differ : (f code : ℕ) → outside f ≡ true → not (outside code) ≡ true → eqb f code ≡ false
differ f code h k = go (eqb f code) (eqb-true f code)
  where
    go : (t : Bool) → (t ≡ true → f ≡ code) → t ≡ false
    go true e = let z : not (outside f) ≡ true = rw (e refl) k in let y : not true ≡ true = rw h at z in cc
    go false e = refl

no_row : (f : ℕ) (rows : List Form) → outside f ≡ true → inside_codes rows ≡ true → row_in f rows ≡ row_of L.Unknown K.Udata
unfolding row_in inside_codes
no_row f [] h k = refl
no_row f (form code l m ∷ rest) h k =
    let b = both (not (outside code)) (inside_codes rest) k in
    rw (differ f code h b.0) (no_row f rest h b.1)

no_form : (f : ℕ) → outside f ≡ true → row f ≡ row_of L.Unknown K.Udata
unfolding row forms inside_codes outside
no_form f h = no_row f forms h refl

pub between : (f : ℕ) → 0x2d ≤ f → f < 0x1f00 → row f ≡ row_of L.Unknown K.Udata
unfolding outside
between f a b = no_form f (rw (le-ltb f 0x2d a, lt-ltb f 0x1f00 b))

pub above : (f : ℕ) → 0x1f22 ≤ f → row f ≡ row_of L.Unknown K.Udata
unfolding outside
above f a = no_form f (rw (le-ltb f 0x2d (omega arith), le-ltb f 0x1f00 (omega arith), le-ltb f 0x1f22 a))

-- a constant of fewer bytes is no offset into a section
pub no_offset : (c : Encoding) (name n : ℕ) → n < 4 → is_section_offset c name n ≡ false
unfolding is_section_offset
no_offset c name n h = go c.format
  where
    go : (f : Format) → eqb n (word_size f) && allow_section_offset name c.version ≡ false
    go Dwarf32 = rw (ne_eqb n 4 (λ e. omega (arith, e)))
    go Dwarf64 = rw (ne_eqb n 8 (λ e. omega (arith, e)))

pub true_false : true ≡ false → ⊥
true_false e = cc

-- a flag's bit
pub flag_of : (n : ℕ) → ◌≡◌ {A = ℕ} (cond (not (eqb n 0)) 1 0) (cond (eqb n 0) 0 1)
flag_of n = go (eqb n 0)
  where
    go : (t : Bool) → ◌≡◌ {A = ℕ} (cond (not t) 1 0) (cond t 0 1)
    go true = refl
    go false = refl
