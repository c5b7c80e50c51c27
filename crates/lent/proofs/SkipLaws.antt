-- 01, demand 3: skipping ends where reading ends, of what the calls hand back and of the states that they leave, by value and lent.
use mathlib.Core.Bool.{Bool, true, false, not}
use mathlib.Core.Path.{◌≡◌, refl, sym, ap, ◌∙◌}
use mathlib.Core.List.{List, [], map}
use mathlib.Core.Option.{Option, none, some}
use Prim.Native.Nat.{ℕ, ◌+◌, ◌^◌, ◌<◌}
use native.Mathlib.Omega.{arith}
use Rattle.std.specs.Prelude.{Result, Ok, Err, Some, None}
use Rattle.std.specs.Prelude as code
use Rattle.reader.specs.Views.{view}
use Rattle.reader.specs.declared.error.Error.{Error}
use Rattle.reader.specs.Answer.{Answer, got, refused}
use Rattle.abbrev.specs.Lookup.{Found}
use Rattle.abbrev.specs.Views.{found_of, view_lookup}
use Rattle.abbrev.specs.declared.lookup.Abbreviation.{Abbreviation}
use Rattle.attribute.specs.Attributes.{pad}
use Rattle.attribute.specs.Views.{view_attribute}
use Rattle.attribute.specs.declared.value.Attribute as declared_attribute
use Rattle.entries.specs.Entry.{Entry, null_entry, is_null}
use Rattle.entries.specs.declared.entry.Entry as declared_entry
use Rattle.entries.specs.Raw.{entry_here, Moved, Taken, Listed, refused_entry, raw_abbreviation, raw_entry, raw_attributes, raw_skip}
use Rattle.entries.specs.Views.{view_entry, view_raw_attributes, view_raw_skipped}
use Rattle.entries.specs.declared.raw.EntriesRaw.{EntriesRaw}
use Rattle.entries.specs.declared.raw.RawAttributes.{RawAttributes}
use Rattle.entries.specs.declared.raw.Moved as declared_moved
use Rattle.entries.proofs.RawLaws.{same_taken}
use Rattle.entries.proofs.SkipLaws.{raw_read_skip, code_kept, code_refuses, code_null, code_values, code_values_refuse, InTwo, entry_read_skip, null_in_one}
use Rattle.lent.specs.Calls.{skipped_call}
use Rattle.lent.specs.Steps.{read_values}
use Rattle.lent.specs.Views.{view_read_entry, view_read_abbreviation, view_read_attributes, view_skipped}
use Rattle.lent.proofs.RefusalLaws.{got_refused}
use Rattle.lent.proofs.ViewLaws.{entry_leaves, attributes_leave}

-- ---- what the calls hand back

is_done : (k : Result (Unit {0}) Error) → view k ≡ got tt → k ≡ Ok tt
is_done (Ok u) e = refl
is_done (Err x) e = got_refused (sym e)

is_null_lem : (c : Result (code.Option Abbreviation) Error) → view_lookup c ≡ got none → c ≡ Ok None
is_null_lem (Ok (Some a)) e = let z : ◌≡◌ {A = ℕ} 0 1 = cc in absurd (omega arith)
is_null_lem (Ok None) e = refl
is_null_lem (Err x) e = got_refused (sym e)

module _ (most : ℕ) (w : EntriesRaw) (s specs : List ℕ) (f : Found) where
  read_skip : {x : Listed} (k : Result (Unit {0}) Error) {v : EntriesRaw} → x ≡ raw_attributes most w s specs f → view_skipped k v ≡ raw_skip most w s specs f → x.answer ≡ got tt → (k ≡ Ok tt) × (v ≡ x.raw)
  read_skip k a b e =
      let z = raw_read_skip most w s specs f (sym (ap (λ (x : Listed). x.answer) a) ∙ e) in
      (is_done k (ap (λ (x : Moved (Unit {0})). x.answer) b ∙ z.done), ap (λ (x : Moved (Unit {0})). x.raw) b ∙ z.same ∙ sym (ap (λ (x : Listed). x.raw) a))

  -- where read_attributes succeeds, skip_attributes on a state like the one that it was lent succeeds and leaves the same state
  pub lent_read_skip : (r : Result (List declared_attribute.Attribute) Error) (k : Result (Unit {0}) Error) {u v : EntriesRaw} → view_read_attributes most r u ≡ raw_attributes most w s specs f → view_skipped k v ≡ raw_skip most w s specs f
      → {vs : List declared_attribute.Attribute} → r ≡ Ok vs → (k ≡ Ok tt) × (v ≡ u)
  lent_read_skip r k {u} a b e =
      let z = read_skip k a b (ap (λ (x : Result (List declared_attribute.Attribute) Error). (view_read_attributes most x u).answer) e) in
      (z.0, z.1 ∙ attributes_leave most r u)

  -- by value
  pub value_read_skip : (r : RawAttributes) (k : declared_moved.Moved (Unit {0})) → view_raw_attributes r ≡ raw_attributes most w s specs f → view_raw_skipped k ≡ raw_skip most w s specs f → r.answer ≡ Ok tt → (k.answer ≡ Ok tt) × (k.raw ≡ r.raw)
  value_read_skip r k a b e = read_skip k.answer a b (ap view e)

module _ (most : ℕ) (w : EntriesRaw) (s rows specs : List ℕ) where
  -- read_entry gave the entry e and left the state v: read_abbreviation, on a state like the one that it was lent, finds its row and leaves u, and then read_attributes and skip_attributes succeed and leave v
  pub record LentInTwo (e : Entry) (v : EntriesRaw) (c : Result (code.Option Abbreviation) Error) (u : EntriesRaw) : Type 0 where
    pub found : Abbreviation
    pub code : c ≡ Ok (Some found)
    pub listed : (r : Result (List declared_attribute.Attribute) Error) {x : EntriesRaw} → view_read_attributes most r x ≡ raw_attributes most u s specs (found_of found)
        → (vs : List declared_attribute.Attribute) × (r ≡ Ok vs) × (x ≡ v) × (e ≡ entry_here w (found_of found) (map view_attribute vs))
    pub skipped : (k : Result (Unit {0}) Error) {x : EntriesRaw} → view_skipped k x ≡ raw_skip most u s specs (found_of found) → (k ≡ Ok tt) × (x ≡ v)

  module _ (r : Result declared_entry.Entry Error) (c : Result (code.Option Abbreviation) Error) (v : EntriesRaw) {u : EntriesRaw} (a : view_read_entry most r v ≡ raw_entry most w s rows specs) (b : view_read_abbreviation c u ≡ raw_abbreviation most w s rows specs) where
    left : (raw_entry most w s rows specs).raw ≡ v
    left = sym (ap (λ (x : Taken). x.raw) a) ∙ entry_leaves most r v

    says : {e : declared_entry.Entry} → r ≡ Ok e → (view_read_entry most r v).answer ≡ got (not (is_null (view_entry e)))
    says h = ap (λ (x : Result declared_entry.Entry Error). (view_read_entry most x v).answer) h

    behind : u ≡ (raw_abbreviation most w s rows specs).raw
    behind = ap (λ (x : Moved (Option Found)). x.raw) b

    module _ (z : InTwo most w s rows specs) (d : Abbreviation) (j : found_of d ≡ z.found) where
      same_values : raw_attributes most u s specs (found_of d) ≡ raw_attributes most (raw_abbreviation most w s rows specs).raw s specs z.found
      same_values = ap (λ (x : EntriesRaw). raw_attributes most x s specs (found_of d)) behind ∙ ap (raw_attributes most (raw_abbreviation most w s rows specs).raw s specs) j

      same_skip : raw_skip most u s specs (found_of d) ≡ raw_skip most (raw_abbreviation most w s rows specs).raw s specs z.found
      same_skip = ap (λ (x : EntriesRaw). raw_skip most x s specs (found_of d)) behind ∙ ap (raw_skip most (raw_abbreviation most w s rows specs).raw s specs) j

      -- the values of what was read, which are those that the second call lists
      in_two : (e : declared_entry.Entry) → r ≡ Ok e → c ≡ Ok (Some d) → LentInTwo (view_entry e) v c u
      in_two e p q =
          record {
            found = d;
            code = q;
            listed = λ y b. values y (b ∙ same_values);
            skipped = λ k b.
                let m = b ∙ same_skip in
                (is_done k (ap (λ (x : Moved (Unit {0})). x.answer) m ∙ z.skipped_done), ap (λ (x : Moved (Unit {0})). x.raw) m ∙ z.skipped_raw ∙ left);
          }
        where
          read : view_entry e ≡ (raw_entry most w s rows specs).entry
          read = ap (λ (x : Result declared_entry.Entry Error). (view_read_entry most x v).entry) (sym p) ∙ ap (λ (x : Taken). x.entry) a

          listing : Listed
          listing = raw_attributes most (raw_abbreviation most w s rows specs).raw s specs z.found

          values : (y : Result (List declared_attribute.Attribute) Error) {x : EntriesRaw} → view_read_attributes most y x ≡ listing
              → (vs : List declared_attribute.Attribute) × (y ≡ Ok vs) × (x ≡ v) × (view_entry e ≡ entry_here w (found_of d) (map view_attribute vs))
          values (Ok vs) m =
              (vs, refl, ap (λ (x : Listed). x.raw) m ∙ z.listed_raw ∙ left, read ∙ z.entry_is ∙ ap (λ (g : Found). entry_here w g listing.attrs) (sym j) ∙ ap (entry_here w (found_of d)) (sym (ap (λ (x : Listed). x.attrs) m)))
          values (Err n) m = got_refused (sym (ap (λ (x : Listed). x.answer) m ∙ z.listed_done))

    pub lent_entry_skip : {e : declared_entry.Entry} → r ≡ Ok e → is_null (view_entry e) ≡ false → LentInTwo (view_entry e) v c u
    lent_entry_skip {e} h n =
        let z = entry_read_skip most w s rows specs (sym (ap (λ (x : Taken). x.answer) a) ∙ says h ∙ ap (λ (b : Bool). got (not b)) n) in
        go z c refl (ap (λ (x : Moved (Option Found)). x.answer) b ∙ z.code)
      where
        go : (z : InTwo most w s rows specs) (x : Result (code.Option Abbreviation) Error) → c ≡ x → view_lookup c ≡ got (some z.found) → LentInTwo (view_entry e) v c u
        go z (Ok (Some d)) q k =
            let y : got (some (found_of d)) ≡ got (some z.found) = sym (ap view_lookup q) ∙ k in
            let j : found_of d ≡ z.found = cc in
            in_two z d j e h q
        go z (Ok None) q k =
            let y : got none ≡ got (some z.found) = sym (ap view_lookup q) ∙ k in
            let j : ◌≡◌ {A = ℕ} 0 1 = cc in
            absurd (omega arith)
        go z (Err x) q k = got_refused (sym (sym (ap view_lookup q) ∙ k))

    -- a null: read_abbreviation leaves the same state
    pub lent_null : {e : declared_entry.Entry} → r ≡ Ok e → is_null (view_entry e) ≡ true → (c ≡ Ok None) × (u ≡ v)
    lent_null h n =
        let z = null_in_one most w s rows specs (sym (ap (λ (x : Taken). x.answer) a) ∙ says h ∙ ap (λ (b : Bool). got (not b)) n) in
        (is_null_lem c (ap (λ (x : Moved (Option Found)). x.answer) b ∙ z.0), behind ∙ z.1 ∙ left)

  -- ---- read_entry as two calls

  module _ {x : Moved (Option Found)} (e : x ≡ raw_abbreviation most w s rows specs) where
    says_code : {m : Answer (Option Found)} → x.answer ≡ m → (raw_abbreviation most w s rows specs).answer ≡ m
    says_code q = sym (ap (λ (y : Moved (Option Found)). y.answer) e) ∙ q

    -- the place of the state given
    pub turn_place : {o : Option Found} → x.answer ≡ got o → w.start + w.position < 2 ^ 63
    turn_place q = let k = code_kept most w s rows specs (says_code q) in omega (arith, k.inside, k.short)

    pub turn_refused : {n : ℕ} → x.answer ≡ refused n → refused_entry most w n ≡ raw_entry most w s rows specs
    turn_refused q = sym (code_refuses most w s rows specs (says_code q))

    pub turn_null : x.answer ≡ got none → ◌≡◌ {A = Taken} (record { answer = got false; entry = null_entry most (w.start + w.position) w.depth; raw = x.raw }) (raw_entry most w s rows specs)
    turn_null q = same_taken (got false) refl (ap (λ (y : Moved (Option Found)). y.raw) e) ∙ sym (code_null most w s rows specs (says_code q))

    pub turn_values : {f : Found} → x.answer ≡ got (some f) → read_values most s specs w x.raw f ≡ raw_entry most w s rows specs
    turn_values {f} q = ap (λ (v : EntriesRaw). read_values most s specs w v f) (ap (λ (y : Moved (Option Found)). y.raw) e) ∙ go (raw_attributes most (raw_abbreviation most w s rows specs).raw s specs f).answer refl
      where
        values : Listed
        values = raw_attributes most (raw_abbreviation most w s rows specs).raw s specs f

        go : (m : Answer (Unit {0})) → (raw_attributes most (raw_abbreviation most w s rows specs).raw s specs f).answer ≡ m → read_values most s specs w (raw_abbreviation most w s rows specs).raw f ≡ raw_entry most w s rows specs
        go (got u) z = rw z (sym (code_values most w s rows specs (says_code q) z))
        go (refused n) z = rw z (sym (code_values_refuse most w s rows specs (says_code q) z))

  -- ---- read_abbreviation and skip_attributes: where read_entry gives an entry or a null, its answer, its state and its entry but for the values
  abbrev pub unstored : Taken → Taken
  unstored x =
      record {
        answer = x.answer;
        entry = record { tag = x.entry.tag; children = x.entry.children; offset = x.entry.offset; depth = x.entry.depth; count = x.entry.count; attrs = pad most [] };
        raw = x.raw;
      }

  pub skipped_agrees : {b : Bool} → (raw_entry most w s rows specs).answer ≡ got b → skipped_call most s rows specs w ≡ unstored (raw_entry most w s rows specs)
  unfolding skipped_call
  skipped_agrees {b} h = go b h
    where
      go : (x : Bool) → (raw_entry most w s rows specs).answer ≡ got x → skipped_call most s rows specs w ≡ unstored (raw_entry most w s rows specs)
      go true q =
          let z = entry_read_skip most w s rows specs q in
          rw (z.code, z.skipped_done, z.skipped_raw, z.entry_is, q)
      go false q =
          let z = null_in_one most w s rows specs q in
          rw z.0 (sym (ap unstored (code_null most w s rows specs z.0)))
