-- The values of an entry, by the found row of its abbreviation.
use Rattle.std.specs.Prelude.{Bool, false, cond, ◌&&◌, List, [], ◌∷◌, ℕ, zero, suc, ◌+◌, ◌^◌, leb, ltb, length}
use Rattle.reader.specs.Answer.{Answer, got, refused, Read}
use Rattle.reader.specs.declared.common.Encoding.{Encoding}
use Rattle.reader.specs.declared.endianity.RunTimeEndian.{RunTimeEndian}
use Rattle.abbrev.specs.Lookup.{Found, keeps_sizes, declaration_of}
use Rattle.abbrev.specs.Table.{Specification}
use Rattle.attribute.specs.Read.{attribute_at, attributes_at}
use Rattle.attribute.specs.Skip.{past_values}
use Rattle.attribute.specs.Value.{Attribute}
use Rattle.attribute.specs.declared.form.Kind.TheVariants as K

-- 01's sizes of a position in bytes that start at an offset
abbrev pub keeps_place : ℕ → ℕ → ℕ → Bool
keeps_place count start at = leb at count && ltb (start + count) (2 ^ 63)

-- one value, after question 1
unfoldable pub read_attribute : List ℕ → ℕ → Encoding → RunTimeEndian → Specification → ℕ → Answer (Read Attribute)
read_attribute s start c e x at = cond (keeps_place (length s) start at) (attribute_at s start c e x at) (refused 1)

-- all values of a found row of at most so many, after question 1
unfoldable pub read_attributes : ℕ → List ℕ → ℕ → Encoding → RunTimeEndian → List ℕ → Found → ℕ → Answer (Read (List Attribute))
read_attributes most s start c e specs f at =
    cond (keeps_place (length s) start at && keeps_sizes most specs f)
    (attributes_at s start c e (declaration_of specs f).specifications at)
    (refused 1)

-- the same skipped
unfoldable pub skip_attributes : ℕ → List ℕ → ℕ → Encoding → RunTimeEndian → List ℕ → Found → ℕ → Answer ℕ
skip_attributes most s start c e specs f at =
    cond (keeps_place (length s) start at && keeps_sizes most specs f)
    (past_values s c e (declaration_of specs f).specifications at)
    (refused 1)

-- what stands in the places that hold no attribute
abbrev pub filler : Attribute
filler = record { name = 0; form = 0; padded = false; value = record { kind = K.Flag; low = 0; high = 0 } }

-- n places, those of the list first
unfoldable pub pad : ℕ → List Attribute → List Attribute
pad zero xs = []
pad (suc n) [] = filler ∷ pad n []
pad (suc n) (x ∷ xs) = x ∷ pad n xs

-- values in an array of n, and where they end; no value where they refuse
pub record Stored : Type 0 where
  pub end : Answer ℕ
  pub attrs : List Attribute

unfoldable pub stored : ℕ → Answer (Read (List Attribute)) → Stored
stored n (got r) = record { end = got r.next; attrs = pad n r.value }
stored n (refused k) = record { end = refused k; attrs = pad n [] }
