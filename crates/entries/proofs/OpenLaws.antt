-- Laws of opened units.
use mathlib.Core.Bool.{Bool, true, false, cond}
use mathlib.Core.Path.{refl, sym, ◌≡◌, ◌∙◌}
use mathlib.Core.List.{List}
use Prim.Native.Nat.{ℕ, ◌/◌, ◌≤◌, ◌<◌}
use borrow.Author.Tests.{le-leb, lt-leb}
use lib.Dec.{leb}
use lib.ListN.{length}
use Rattle.reader.specs.Answer.{Answer, got, refused, and_then, Read, gives}
use Rattle.reader.specs.Sizes.{max_section}
use Rattle.reader.specs.declared.endianity.RunTimeEndian.{RunTimeEndian}
use Rattle.reader.proofs.Answers.{then_then}
use Rattle.abbrev.specs.Rows.{Blank}
use Rattle.abbrev.specs.Table.{entry_limit, abbreviations_at}
use Rattle.abbrev.specs.Tabled.{Tabled}
use Rattle.reader.specs.Errors.{number_of}
use Rattle.reader.specs.Views.{view, view_by}
use Rattle.std.specs.Prelude.{Result, Err}
use Rattle.reader.specs.declared.error.Error.{Error}
use Rattle.reader.specs.declared.error.Error.TheVariants.{SizeLimit}
use Rattle.unit.specs.Parse.{UnitSection, header_at}
use Rattle.unit.specs.declared.header.UnitHeader.{UnitHeader}
use Rattle.entries.specs.Open.{own_unit, sections_kept, own_table, unit_from}
use Rattle.entries.specs.Opened.{Opened}
use Rattle.entries.specs.Raw.{judged}
use Rattle.entries.specs.Views.{view_unit}
use Rattle.entries.specs.declared.cursor.EntriesCursor.{EntriesCursor}

-- where the table's section is kept, the header's own question 1 is the other one
header_judges : {A : Type 0} (sec : UnitSection) (abbrevs units : List ℕ) (offset : ℕ) (e : RunTimeEndian) (f : Read UnitHeader → Answer A) → length abbrevs ≤ max_section → judged (sections_kept abbrevs units) (and_then (header_at sec units offset e) f) ≡ and_then (header_at sec units offset e) f
unfolding header_at
header_judges sec abbrevs units offset e f h = rw (le-leb (length abbrevs) max_section h) (by (leb (length units) max_section) _)
  where
    by : (b : Bool) (x : Answer (Read UnitHeader)) → judged b (and_then (cond b x (refused 1)) f) ≡ and_then (cond b x (refused 1)) f
    by true x = refl
    by false x = refl

module _ {sec : UnitSection} {abbrevs units : List ℕ} {offset : ℕ} {e : RunTimeEndian} {rows₀ specs₀ rows specs : List ℕ} where
  -- the table's section is too long
  pub long_table : max_section < length abbrevs → Blank rows₀ specs₀ rows specs → Opened sec abbrevs units offset e rows₀ specs₀ rows specs (Err SizeLimit)
  unfolding own_table unit_from
  long_table h b =
      let k = lt-leb (length abbrevs) max_section h in
      record { is = rw k refl; left = rw k (b.no_rows, b.no_specs) }

  module _ (k : length abbrevs ≤ max_section) where
    -- a header was read, and then the table that it points to, or that refused
    pub with_header : {h : UnitHeader} {p : ℕ} {t : Result ℕ Error} {r : Result (UnitHeader × EntriesCursor) Error} → gives h p ≡ header_at sec units offset e → Tabled abbrevs h.debug_abbrev_offset rows₀ specs₀ rows specs t → view_by view_unit r ≡ and_then (view t) (λ n. got (own_unit entry_limit.most h e)) → Opened sec abbrevs units offset e rows₀ specs₀ rows specs r
    unfolding own_table unit_from
    with_header {h} a b v =
        record {
          is = v ∙ rw (header_judges sec abbrevs units offset e _ k, b.is, sym a) (then_then (abbreviations_at abbrevs h.debug_abbrev_offset entry_limit (length rows₀ / 5) (length specs₀ / 3)) _ _);
          left = rw (header_judges sec abbrevs units offset e _ k, sym a) b.left;
        }

    -- no header was read
    pub without_header : {x : Error} → refused (number_of x) ≡ header_at sec units offset e → Blank rows₀ specs₀ rows specs → Opened sec abbrevs units offset e rows₀ specs₀ rows specs (Err x)
    unfolding own_table unit_from
    without_header a b =
        record {
          is = rw (header_judges sec abbrevs units offset e _ k, sym a) refl;
          left = rw (header_judges sec abbrevs units offset e _ k, sym a) (b.no_rows, b.no_specs);
        }
