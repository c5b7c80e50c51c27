-- What a lent call hands back is what the call by value says.
use mathlib.Core.Bool.{Bool, not}
use mathlib.Core.Path.{◌≡◌, refl, sym, ap, ◌∙◌}
use mathlib.Core.List.{List, [], map}
use Prim.Native.Nat.{ℕ}
use lib.IntN.{ℤ}
use lib.ListN.{length}
use Rattle.std.specs.Prelude.{Result, Ok, Err}
use Rattle.reader.specs.Answer.{Answer, got, refused, Read}
use Rattle.reader.specs.Errors.{number_of}
use Rattle.reader.specs.Views.{view}
use Rattle.reader.specs.declared.error.Error.{Error}
use Rattle.abbrev.specs.Lookup.{Found}
use Rattle.attribute.specs.Attributes.{read_attributes, stored, pad}
use Rattle.attribute.specs.Value.{Attribute}
use Rattle.attribute.specs.Views.{view_attribute}
use Rattle.attribute.specs.declared.value.Attribute as declared_attribute
use Rattle.entries.specs.Entry.{Entry, is_null}
use Rattle.entries.specs.declared.entry.Entry as declared_entry
use Rattle.entries.specs.Raw.{keeps_raw, judged, source_of, Taken, taken, refused_entry, Listed, listed_in, raw_entry, raw_attributes}
use Rattle.entries.specs.Read.{abbreviation_at, depth_after, entry_at}
use Rattle.entries.specs.Views.{view_entry, view_raw_entry, view_raw_attributes}
use Rattle.entries.specs.declared.raw.EntriesRaw.{EntriesRaw}
use Rattle.entries.specs.declared.raw.RawAttributes.{RawAttributes}
use Rattle.entries.specs.declared.raw.RawEntry.{RawEntry}
use Rattle.lent.specs.Views.{view_read_entry, view_read_attributes}
use Rattle.lent.proofs.RefusalLaws.{got_refused}

-- an answer tells an entry from a null
taken_says : (most : ℕ) (w : EntriesRaw) (d : ℤ) (r : Answer (Read Entry)) {b : Bool} → (taken most w d r).answer ≡ got b → got (not (is_null (taken most w d r).entry)) ≡ (taken most w d r).answer
taken_says most w d (got v) e = refl
taken_says most w d (refused n) e = got_refused (sym e)

taken_refused : (most : ℕ) (w : EntriesRaw) (d : ℤ) (r : Answer (Read Entry)) {n : ℕ} → (taken most w d r).answer ≡ refused n → taken most w d r ≡ refused_entry most w n
taken_refused most w d (got v) e = got_refused e
taken_refused most w d (refused k) {n} e = let z : k ≡ n = cc in ap (refused_entry most w) z

-- ---- the state that is left

pub entry_leaves : (most : ℕ) (r : Result declared_entry.Entry Error) (v : EntriesRaw) → (view_read_entry most r v).raw ≡ v
entry_leaves most (Ok e) v = refl
entry_leaves most (Err x) v = refl

pub attributes_leave : (most : ℕ) (r : Result (List declared_attribute.Attribute) Error) (v : EntriesRaw) → (view_read_attributes most r v).raw ≡ v
attributes_leave most (Ok vs) v = refl
attributes_leave most (Err x) v = refl

-- ---- what is handed back

-- of read_entry
module _ (most : ℕ) (w : EntriesRaw) (s rows specs : List ℕ) (t : RawEntry) (e : view_raw_entry t ≡ raw_entry most w s rows specs) where
  said : {a : Answer Bool} → view t.answer ≡ a → (raw_entry most w s rows specs).answer ≡ a
  said q = sym (ap (λ (x : Taken). x.answer) e) ∙ q

  pub entry_back : {b : Bool} → t.answer ≡ Ok b → view_read_entry most (Ok t.entry) t.raw ≡ raw_entry most w s rows specs
  unfolding raw_entry
  entry_back q =
      let z = taken_says most w (depth_after (abbreviation_at most s rows specs w.position) w.depth)
      (judged (keeps_raw (length s) w) (entry_at most (source_of w) s rows specs w.position w.depth)) (said (ap view q)) in
      ap as_taken (ap (λ (x : Taken). got (not (is_null x.entry))) e ∙ z ∙ sym (ap (λ (x : Taken). x.answer) e)) ∙ e
    where
      as_taken : Answer Bool → Taken
      as_taken a = record { answer = a; entry = view_entry t.entry; raw = t.raw }

  pub entry_refuses : {x : Error} → t.answer ≡ Err x → view_read_entry most (Err x) t.raw ≡ raw_entry most w s rows specs
  unfolding raw_entry
  entry_refuses {x} q =
      let z = taken_refused most w (depth_after (abbreviation_at most s rows specs w.position) w.depth)
      (judged (keeps_raw (length s) w) (entry_at most (source_of w) s rows specs w.position w.depth)) (said (ap view q)) in
      ap (λ (v : EntriesRaw). refused_entry most v (number_of x)) (ap (λ (y : Taken). y.raw) (e ∙ z)) ∙ sym z

-- of read_attributes
listed_refused : (most : ℕ) (w : EntriesRaw) (r : Answer (Read (List Attribute))) {n : ℕ} → (listed_in w (stored most r)).answer ≡ refused n → (listed_in w (stored most r)).attrs ≡ pad most []
unfolding stored
listed_refused most w (got v) e = got_refused e
listed_refused most w (refused k) e = refl

module _ (most : ℕ) (w : EntriesRaw) (s specs : List ℕ) (f : Found) (t : RawAttributes) (e : view_raw_attributes t ≡ raw_attributes most w s specs f) where
  pub attributes_refuse : {x : Error} → t.answer ≡ Err x → view_read_attributes most (Err x) t.raw ≡ raw_attributes most w s specs f
  unfolding raw_attributes
  attributes_refuse {x} q =
      let z = listed_refused most w (judged (keeps_raw (length s) w) (read_attributes most s w.start w.encoding w.endian specs f w.position))
      (sym (ap (λ (x : Listed). x.answer) e) ∙ ap view q) in
      ap as_listed (sym (ap (λ (x : Listed). x.attrs) e ∙ z)) ∙ ap as_said (sym (ap view q)) ∙ e
    where
      as_listed : List Attribute → Listed
      as_listed l = record { answer = refused (number_of x); attrs = l; raw = t.raw }

      as_said : Answer (Unit {0}) → Listed
      as_said a = record { answer = a; attrs = map view_attribute t.attrs; raw = t.raw }
