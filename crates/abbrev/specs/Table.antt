-- Abbreviation tables (DWARF 2 to 5, section 7.5.3) as lists of declarations.
use Rattle.std.specs.Prelude.{Bool, true, false, cond, ◌≡◌, ◌<◌, List, [], ◌∷◌, ◌++◌, ℕ, zero, suc, ◌-◌, ltb, leb, eqb, length}
use Rattle.std.proofs.Math.Option.{Option, none, some}
use Rattle.reader.specs.Answer.{Answer, got, refused, and_then, if_some, Read, gives}
use Rattle.reader.specs.Leb128.{uleb_at, sleb_at}
use Rattle.reader.specs.Sizes.{max_section}
use Rattle.reader.specs.Twos.{word}
use Rattle.reader.specs.Words.{word_at}
use Rattle.reader.specs.declared.endianity.RunTimeEndian.TheVariants.{Little}
use Rattle.abbrev.specs.declared.table.Head.{Head}
use Rattle.abbrev.specs.declared.table.Pair.{Pair}

-- 7.5.3: an attribute specification; the constant is that of DW_FORM_implicit_const in two's complement, else 0
pub record Specification : Type 0 where
  pub name : ℕ
  pub form : ℕ
  pub constant : ℕ

-- 7.5.3: an abbreviation declaration
pub record Declaration : Type 0 where
  pub code : ℕ
  pub tag : ℕ
  pub children : ℕ
  pub specifications : List Specification

-- how many specifications an abbreviation may have, and the number of the refusal of one more
pub record Limit : Type 0 where
  pub most : ℕ
  pub over : ℕ

-- 01, question 13: an entry carries up to 64 values
abbrev pub entry_limit : Limit
entry_limit = record { most = 64; over = 13 }

-- 01, questions 11 and 12: of a name and a form both or none are 0
unfoldable pub judged : ℕ → ℕ → ℕ → Answer (Read Pair)
judged name form p =
    cond (eqb name 0)
    (cond (eqb form 0) (gives (record { name = name; form = form }) p) (refused 11))
    (cond (eqb form 0) (refused 12) (gives (record { name = name; form = form }) p))

-- 7.5.3: a name and a form; both are read before either is judged
unfoldable pub pair_at : List ℕ → ℕ → Answer (Read Pair)
pair_at s at = and_then (uleb_at s at 16) (λ name. and_then (uleb_at s name.next 16) (λ form. judged name.value form.value form.next))

-- DW_FORM_implicit_const (DWARF 5, table 7.6)
abbrev pub implicit_const : ℕ
implicit_const = 0x21

-- DWARF 5, 7.5.3: the constant that follows this form, in two's complement
unfoldable pub constant_at : List ℕ → ℕ → ℕ → Answer (Read ℕ)
constant_at s at form = cond (eqb form implicit_const) (and_then (sleb_at s at 64) (λ r. gives (word 64 r.value) r.next)) (gives 0 at)

abbrev pub with_specification : Specification → Answer (Read (List Specification)) → Answer (Read (List Specification))
with_specification x r = and_then r (λ y. gives (x ∷ y.value) y.next)

-- 7.5.3: the pairs up to 0, 0, of which `left` may come; one more is refused with `over`, before its constant
unfoldable pub specifications_at : List ℕ → ℕ → ℕ → ℕ → Answer (Read (List Specification))
specifications_at s over zero at = and_then (pair_at s at) (λ r. cond (eqb r.value.form 0) (gives [] r.next) (refused over))
specifications_at s over (suc left) at =
    and_then (pair_at s at)
    (λ r.
    cond (eqb r.value.form 0)
    (gives [] r.next)
    (and_then (constant_at s r.next r.value.form)
    (λ c.
    with_specification (record { name = r.value.name; form = r.value.form; constant = c.value })
    (specifications_at s over left c.next))))

-- 7.5.3: the tag; 01, question 9
unfoldable pub tag_at : List ℕ → ℕ → Answer (Read ℕ)
tag_at s at = and_then (uleb_at s at 16) (λ r. cond (eqb r.value 0) (refused 9) (got r))

-- 7.5.3: DW_CHILDREN_no or DW_CHILDREN_yes; 01, question 10
unfoldable pub children_at : List ℕ → ℕ → Answer (Read ℕ)
children_at s at = and_then (word_at s at 1 Little) (λ r. cond (leb r.value 1) (got r) (refused 10))

-- 7.5.3: the same behind its code
unfoldable pub tagged_at : List ℕ → ℕ → ℕ → Answer (Option (Read Head))
tagged_at s at code =
    and_then (tag_at s at)
    (λ t.
    and_then (children_at s t.next)
    (λ h. got (some (record { value = record { code = code; tag = t.value; children = h.value }; next = h.next }))))

-- 7.5.3: a declaration's code; none at a code 0, and at the end of the bytes
unfoldable pub head_at : List ℕ → ℕ → Answer (Option (Read Head))
head_at s at =
    cond (ltb at (length s))
    (and_then (uleb_at s at 64) (λ c. cond (eqb c.value 0) (got none) (tagged_at s c.next c.value)))
    (got none)

abbrev pub declared : Head → List Specification → Declaration
declared h xs = record { code = h.code; tag = h.tag; children = h.children; specifications = xs }

-- 7.5.3: one declaration, or none
unfoldable pub declaration_at : List ℕ → Limit → ℕ → Answer (Option (Read Declaration))
declaration_at s l at =
    and_then (head_at s at)
    (λ o.
    if_some o (got none)
    (λ h.
    and_then (specifications_at s l.over l.most h.next)
    (λ r. got (some (record { value = declared h.value r.value; next = r.next })))))

-- whether x is one of the elements
abbrev pub has : ℕ → List ℕ → Bool
has x [] = false
has x (y ∷ ys) = cond (eqb y x) true (has x ys)

-- no code above h was seen
abbrev pub Fresh : ℕ → List ℕ → Type 0
Fresh h seen = (c : ℕ) → h < c → has c seen ≡ false

abbrev pub with_declaration : Declaration → Answer (List Declaration) → Answer (List Declaration)
with_declaration d r = and_then r (λ ds. got (d ∷ ds))

-- 7.5.3: the declarations from a place on, with so many rows and specification rows free, after those with the codes seen.
-- 01, questions 14 and 15
unfoldable pub declarations_at : List ℕ → Limit → ℕ → ℕ → List ℕ → ℕ → Answer (List Declaration)
declarations_at s l zero free seen at =
    and_then (declaration_at s l at)
    (λ o. if_some o (got []) (λ d. cond (has d.value.code seen) (refused 14) (refused 15)))
declarations_at s l (suc rows) free seen at =
    and_then (declaration_at s l at)
    (λ o.
    if_some o (got [])
    (λ d.
    cond (has d.value.code seen)
    (refused 14)
    (cond (leb (length d.value.specifications) free)
    (with_declaration d.value
    (declarations_at s l rows (free - length d.value.specifications) (seen ++ (d.value.code ∷ [])) d.next))
    (refused 15))))

-- 7.5.3: the table at an offset of .debug_abbrev, with so many rows and specification rows lent
unfoldable pub abbreviations_at : List ℕ → ℕ → Limit → ℕ → ℕ → Answer (List Declaration)
abbreviations_at s offset l rows free =
    cond (leb (length s) max_section)
    (cond (leb offset (length s)) (declarations_at s l rows free [] offset) (refused 2))
    (refused 1)
