-- Entries, and what is asked of one.
use Rattle.std.specs.Prelude.{Bool, false, cond, ◌&&◌, List, [], ◌∷◌, ℕ, eqb, leb, ltb, ℤ, take}
use Rattle.std.proofs.Math.Option.{Option, none, some}
use Rattle.reader.specs.Answer.{if_some}
use Rattle.abbrev.specs.Lookup.{Found}
use Rattle.attribute.specs.Attributes.{pad}
use Rattle.attribute.specs.Forms.{case_of}
use Rattle.attribute.specs.Value.{Attribute}
use Rattle.attribute.specs.declared.form.Kind.TheVariants as K

-- 01: an entry carries its values itself; places past the count hold one fixed attribute
pub record Entry : Type 0 where
  pub tag : ℕ
  pub children : Bool
  pub offset : ℕ
  pub depth : ℤ
  pub count : ℕ
  pub attrs : List Attribute

-- a null, with room for so many values
abbrev pub null_entry : ℕ → ℕ → ℤ → Entry
null_entry most offset depth =
    record { tag = 0; children = false; offset = offset; depth = depth; count = 0; attrs = pad most [] }

-- the entry of a found row at an offset and a depth, with values in their places
abbrev pub row_entry : ℕ → ℤ → Found → List Attribute → Entry
row_entry offset depth f attrs =
    record { tag = f.tag; children = eqb f.children 1; offset = offset; depth = depth; count = f.count; attrs = attrs }

-- the same with its values, which have so many places
abbrev pub entry_of : ℕ → ℕ → ℤ → Found → List Attribute → Entry
entry_of most offset depth f vs = row_entry offset depth f (pad most vs)

abbrev pub is_null : Entry → Bool
is_null e = eqb e.tag 0

-- the first attribute of a name
abbrev pub named : ℕ → List Attribute → Option Attribute
named n [] = none
named n (a ∷ rest) = cond (eqb a.name n) (some a) (named n rest)

unfoldable pub attr_of : ℕ → Entry → Option Attribute
attr_of n e = named n (take e.count e.attrs)

-- DW_AT_sibling
abbrev pub sibling : ℕ
sibling = 1

-- the number of the case UnitRef
abbrev pub unit_ref : ℕ
unit_ref = (case_of K.UnitRef).number

-- gimli's sibling: the first attribute of that name, where it is a UnitRef above the entry's own offset
unfoldable pub sibling_of : Entry → Option ℕ
sibling_of e =
    if_some (attr_of sibling e) none
    (λ a.
    cond (eqb (case_of a.value.kind).number unit_ref && ltb e.offset a.value.low) (some a.value.low) none)

-- 01, "Walks": the jump of an entry with children, not before the next byte to read and not past the end, both as offsets
unfoldable pub jump_of : Entry → ℕ → ℕ → Option ℕ
jump_of e next end =
    cond e.children (if_some (sibling_of e) none (λ t. cond (leb next t && leb t end) (some t) none)) none
