-- A refusal leaves the state as it was.
use mathlib.Core.Bool.{Bool, true, false, cond}
use mathlib.Core.Option.{Option, none, some}
use mathlib.Core.Path.{◌≡◌, refl, ap}
use mathlib.Core.List.{List, []}
use Prim.Native.Nat.{ℕ}
use native.Mathlib.Omega.{arith}
use lib.Dec.{eqb}
use lib.IntN.{ℤ}
use lib.ListN.{length}
use Rattle.reader.specs.Answer.{Answer, got, refused, Read}
use Rattle.abbrev.specs.Lookup.{Found}
use Rattle.attribute.specs.Attributes.{read_attributes, skip_attributes, Stored, stored, pad}
use Rattle.attribute.specs.Value.{Attribute}
use Rattle.entries.specs.Entry.{Entry}
use Rattle.entries.specs.Raw.{keeps_raw, judged, source_of, refused_entry, moves, taken, listed, skipped, raw_abbreviation, raw_entry, raw_attributes, raw_skip}
use Rattle.entries.specs.Read.{abbreviation_at, depth_after, entry_at}
use Rattle.entries.specs.declared.raw.EntriesRaw.{EntriesRaw}
use Rattle.lent.specs.Calls.{values_end, after_code, skipped_call, lent_call}

pub got_refused : {A B : Type 0} {a : A} {n : ℕ} → got a ≡ refused n → B
got_refused e = let z : ◌≡◌ {A = ℕ} 0 1 = cc in absurd (omega arith)

moves_kept : {A : Type 0} (w : EntriesRaw) (d : ℤ) (r : Answer (Read A)) {n : ℕ} → (moves w d r).answer ≡ refused n → (moves w d r).raw ≡ w
moves_kept w d (got v) e = got_refused e
moves_kept w d (refused k) e = refl

taken_kept : (most : ℕ) (w : EntriesRaw) (d : ℤ) (r : Answer (Read Entry)) {n : ℕ} → (taken most w d r).answer ≡ refused n → (taken most w d r).raw ≡ w
taken_kept most w d (got v) e = got_refused e
taken_kept most w d (refused k) e = refl

listed_kept : (w : EntriesRaw) (r : Answer ℕ) (vs : List Attribute) {n : ℕ} → (listed w r vs).answer ≡ refused n → (listed w r vs).raw ≡ w
listed_kept w (got p) vs e = got_refused e
listed_kept w (refused k) vs e = refl

skipped_kept : (w : EntriesRaw) (r : Answer ℕ) {n : ℕ} → (skipped w r).answer ≡ refused n → (skipped w r).raw ≡ w
skipped_kept w (got p) e = got_refused e
skipped_kept w (refused k) e = refl

-- what each of the four calls leaves
module _ (most : ℕ) (w : EntriesRaw) (s rows specs : List ℕ) {n : ℕ} where
  pub entry_kept : (raw_entry most w s rows specs).answer ≡ refused n → (raw_entry most w s rows specs).raw ≡ w
  unfolding raw_entry
  entry_kept e =
      taken_kept most w (depth_after (abbreviation_at most s rows specs w.position) w.depth)
      (judged (keeps_raw (length s) w) (entry_at most (source_of w) s rows specs w.position w.depth)) e

  pub abbreviation_kept : (raw_abbreviation most w s rows specs).answer ≡ refused n → (raw_abbreviation most w s rows specs).raw ≡ w
  unfolding raw_abbreviation
  abbreviation_kept e =
      moves_kept w (depth_after (abbreviation_at most s rows specs w.position) w.depth)
      (judged (keeps_raw (length s) w) (abbreviation_at most s rows specs w.position)) e

  pub attributes_kept : (f : Found) → (raw_attributes most w s specs f).answer ≡ refused n → (raw_attributes most w s specs f).raw ≡ w
  unfolding raw_attributes
  attributes_kept f e =
      let x : Stored = stored most (judged (keeps_raw (length s) w) (read_attributes most s w.start w.encoding w.endian specs f w.position)) in
      listed_kept w x.end x.attrs e

  pub skip_kept : (f : Found) → (raw_skip most w s specs f).answer ≡ refused n → (raw_skip most w s specs f).raw ≡ w
  unfolding raw_skip
  skip_kept f e =
      skipped_kept w
      (judged (keeps_raw (length s) w) (skip_attributes most s w.start w.encoding w.endian specs f w.position)) e

  -- and one call by its number, also where it makes two
  pub call_kept : (op : ℕ) → (lent_call most s rows specs op w).answer ≡ refused n → lent_call most s rows specs op w ≡ refused_entry most w n
  unfolding skipped_call raw_entry
  call_kept op e = by (eqb op 1) e
    where
      same : {k : ℕ} → ◌≡◌ {A = Answer Bool} (refused k) (refused n) → refused_entry most w k ≡ refused_entry most w n
      same {k} q = let z : k ≡ n = cc in ap (refused_entry most w) z

      values : (f : Found) (a : Answer (Unit {0})) (v : EntriesRaw) → (values_end most w f (pad most []) a v).answer ≡ refused n → values_end most w f (pad most []) a v ≡ refused_entry most w n
      values f (got u) v q = got_refused q
      values f (refused k) v q = same q

      code : (a : Answer (Option Found)) (v : EntriesRaw) → (after_code most s specs w a v).answer ≡ refused n → after_code most s specs w a v ≡ refused_entry most w n
      code (got none) v q = got_refused q
      code (got (some f)) v q = values f (raw_skip most v s specs f).answer (raw_skip most v s specs f).raw q
      code (refused k) v q = same q

      read : (d : ℤ) (r : Answer (Read Entry)) → (taken most w d r).answer ≡ refused n → taken most w d r ≡ refused_entry most w n
      read d (got i) q = got_refused q
      read d (refused k) q = same q

      by : (b : Bool) → (cond b (skipped_call most s rows specs w) (raw_entry most w s rows specs)).answer ≡ refused n → cond b (skipped_call most s rows specs w) (raw_entry most w s rows specs) ≡ refused_entry most w n
      by true q = code (raw_abbreviation most w s rows specs).answer (raw_abbreviation most w s rows specs).raw q
      by false q =
          read (depth_after (abbreviation_at most s rows specs w.position) w.depth)
          (judged (keeps_raw (length s) w) (entry_at most (source_of w) s rows specs w.position w.depth)) q
