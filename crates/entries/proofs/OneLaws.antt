-- 1 is said only of made-up states and rows: no value refuses with it.
use mathlib.Core.Bool.{Bool, true, false, cond}
use mathlib.Core.Path.{◌≡◌, refl, sym, ap, ◌∙◌}
use mathlib.Core.List.{List}
use mathlib.Core.Option.{Option, none, some}
use Prim.Native.Nat.{ℕ}
use native.Mathlib.Omega.{arith}
use lib.Dec.{eqb}
use lib.ListN.{length}
use Rattle.reader.specs.Answer.{Answer, got, refused, and_then, Read, gives}
use Rattle.reader.specs.Leb128.{uleb_at}
use Rattle.abbrev.specs.Lookup.{Found, lookup, declaration_of}
use Rattle.attribute.specs.Read.{attributes_at}
use Rattle.attribute.proofs.LateLaws.{Late, late_then, uleb_late, attributes_late}
use Rattle.entries.specs.Cursor.{item_next}
use Rattle.entries.specs.Entry.{Entry}
use Rattle.entries.specs.Raw.{keeps_raw, source_of, taken, raw_entry}
use Rattle.entries.specs.Read.{known, abbreviation_at, depth_after, entry_after, entry_at}
use Rattle.entries.specs.declared.raw.EntriesRaw.{EntriesRaw}

-- from a state that keeps the sizes read_entry says 1 only where the code does: of a found row that breaks them
pub entry_one : (most : ℕ) (w : EntriesRaw) (s rows specs : List ℕ) → keeps_raw (length s) w ≡ true → (raw_entry most w s rows specs).answer ≡ refused 1 → abbreviation_at most s rows specs w.position ≡ refused 1
unfolding raw_entry entry_at entry_after
entry_one most w s rows specs h q = by_code (abbreviation_at most s rows specs w.position) refl
  where
    says : {m : Answer (Read Entry)} → item_next most s rows specs w ≡ m → (taken most w (depth_after (abbreviation_at most s rows specs w.position) w.depth) m).answer ≡ refused 1
    says e = sym (rw (h, e)) ∙ q

    not_one : (m : Answer (Read Entry)) → Late m → item_next most s rows specs w ≡ m → ⊥
    not_one (got i) k e = let z = says e in let y : ◌≡◌ {A = ℕ} 0 1 = cc in omega arith
    not_one (refused n) k e = let z = says e in let y : n ≡ 1 = cc in omega arith

    after : (o : Option Found) (p : ℕ) → Late (entry_after most (source_of w) s specs w.position w.depth (record { value = o; next = p }))
    after none p = tt
    after (some f) p = late_then (attributes_at s w.start w.encoding w.endian (declaration_of specs f).specifications p) _ (attributes_late s w.start w.encoding w.endian (declaration_of specs f).specifications p) (λ v. tt)

    by_code : (r : Answer (Read (Option Found))) → abbreviation_at most s rows specs w.position ≡ r → abbreviation_at most s rows specs w.position ≡ refused 1
    by_code (got r) e = absurd (not_one (entry_after most (source_of w) s specs w.position w.depth r) (after r.value r.next) (rw e))
    by_code (refused n) e =
        let z : ◌≡◌ {A = Answer Bool} (refused n) (refused 1) = says {m = refused n} (rw e) in
        let y : n ≡ 1 = cc in
        e ∙ ap refused y

-- and the code only of a row that breaks them
pub record BrokenRow (most : ℕ) (s rows specs : List ℕ) (at : ℕ) : Type 0 where
  pub code : ℕ
  pub next : ℕ
  pub read : uleb_at s at 64 ≡ gives code next
  pub broken : lookup most rows specs code ≡ refused 1

pub code_one : (most : ℕ) (s rows specs : List ℕ) (at : ℕ) → abbreviation_at most s rows specs at ≡ refused 1 → BrokenRow most s rows specs at
unfolding abbreviation_at
code_one most s rows specs at h = by_number (uleb_at s at 64) refl (uleb_late s at 64) h
  where
    by_row : (c p : ℕ) → uleb_at s at 64 ≡ gives c p → (l : Answer (Option Found)) → lookup most rows specs c ≡ l → known l p ≡ refused 1 → BrokenRow most s rows specs at
    by_row c p u (got none) e q = let y : ◌≡◌ {A = ℕ} 16 1 = cc in absurd (omega (arith, y))
    by_row c p u (got (some f)) e q = let y : ◌≡◌ {A = ℕ} 0 1 = cc in absurd (omega arith)
    by_row c p u (refused n) e q = let y : n ≡ 1 = cc in record { code = c; next = p; read = u; broken = e ∙ ap refused y }

    by_code : (c p : ℕ) → uleb_at s at 64 ≡ gives c p → (b : Bool) → cond b (gives none p) (known (lookup most rows specs c) p) ≡ refused 1 → BrokenRow most s rows specs at
    by_code c p u true q = let y : ◌≡◌ {A = ℕ} 0 1 = cc in absurd (omega arith)
    by_code c p u false q = by_row c p u (lookup most rows specs c) refl q

    by_number : (r : Answer (Read ℕ)) → uleb_at s at 64 ≡ r → Late r → and_then r (λ v. cond (eqb v.value 0) (gives none v.next) (known (lookup most rows specs v.value) v.next)) ≡ refused 1 → BrokenRow most s rows specs at
    by_number (got v) u k q = by_code v.value v.next u (eqb v.value 0) q
    by_number (refused n) u k q = let y : n ≡ 1 = cc in absurd (omega arith)
