-- Laws of a whole table in two slices.
use mathlib.Core.Path.{◌≡◌, refl}
use mathlib.Core.List.Permᴰ
use mathlib.Core.List.{List, [], ◌∷◌, ◌++◌}
use Prim.Native.Nat.{ℕ, ◌-◌, ◌*◌, ◌/◌, ◌≤◌}
use native.Mathlib.Omega.{arith}
use borrow.Author.Tests.{le-leb}
use lib.ListN.{length, take, replicate}
use Rattle.std.specs.Prelude.{Ok}
use Rattle.reader.specs.Answer.{got}
use Rattle.reader.specs.Sizes.{max_section}
use Rattle.abbrev.specs.Rows.{spec_words, rows_from, Laid}
use Rattle.abbrev.specs.Steps.{Filled}
use Rattle.abbrev.specs.Table.{Specification, entry_limit, abbreviations_at}
use Rattle.abbrev.specs.Tabled.{Tabled}

pub spec_words_length : (xs : List Specification) → length (spec_words xs) ≡ length xs * 3
spec_words_length [] = refl
spec_words_length (x ∷ xs) = omega (arith, spec_words_length xs)

-- rows that were filled, with zeros behind them
module _ {s : List ℕ} {offset : ℕ} {rows₀ specs₀ rows specs : List ℕ} {n first : ℕ} (t : Filled s offset rows₀ specs₀ rows specs n first)
    (h : length s ≤ max_section) (k : offset ≤ length s) (e : length rows ≡ length rows₀) (f : length specs ≡ length specs₀) where
  read : abbreviations_at s offset entry_limit (length rows₀ / 5) (length specs₀ / 3) ≡ got t.done
  unfolding abbreviations_at
  read = rw (le-leb (length s) max_section h, le-leb offset (length s) k) t.is

  pub tabled : {rows' specs' : List ℕ} → rows' ≡ take (n * 5) rows ++ replicate (length rows - n * 5) 0
      → specs' ≡ take (first * 3) specs ++ replicate (length specs - first * 3) 0 → Tabled s offset rows₀ specs₀ rows' specs' (Ok n)
  tabled {rows'} {specs'} u v =
      let l : Laid (length rows₀) (length specs₀) rows' specs' t.done =
      record {
        row_choice = rows_from 0 t.done;
        all = Permᴰ.refl (rows_from 0 t.done);
        rows_are = rw (t.count_is, ← e) (rw t.rows_are at u);
        specs_are = rw (t.used, ← f) (rw t.specs_are at v);
      } in
      record { is = rw (read, t.count_is); left = rw read l }
