-- Laws of the cursor's calls.
use mathlib.Core.Bool.{Bool, true, false, ◌&&◌, ◌||◌}
use mathlib.Core.Path.{◌≡◌, refl, sym, ap, ◌∙◌}
use mathlib.Core.List.{List}
use Prim.Native.Nat.{ℕ, ◌≤◌}
use borrow.Author.Tests.{leb-true}
use lib.Dec.{leb}
use lib.IntN.{nat_abs}
use lib.ListN.{length}
use Rattle.reader.specs.Answer.{Answer, got, refused}
use Rattle.attribute.proofs.FormLaws.{both}
use Rattle.entries.specs.Cursor.{Cursor, keeps_cursor, Called, go_on, item_next, held, is_entry, advanced, seek, settled}
use Rattle.entries.specs.Entry.{Entry}
use Rattle.entries.specs.Raw.{keeps_raw, Taken, raw_entry}
use Rattle.entries.specs.Steps.{KeptRaw, Arrived, asked_as}
use Rattle.entries.specs.declared.pass.Passing.{Passing}
use Rattle.entries.specs.declared.raw.EntriesRaw.{EntriesRaw}
use Rattle.entries.proofs.RawLaws.{raw_kept}
use Rattle.entries.proofs.SeekLaws.{was_read, was_refused, seek_step}

-- a state that keeps 01's sizes
pub cursor_kept : (most count : ℕ) (c : Cursor) → keeps_cursor most count c ≡ true → KeptRaw count c.input × (nat_abs c.entry.depth ≤ c.input.position)
cursor_kept most count c h =
    let a = both (keeps_raw count c.input) (leb (nat_abs c.entry.depth) c.input.position && leb c.entry.count most) h in
    let b = both (leb (nat_abs c.entry.depth) c.input.position) (leb c.entry.count most) a.1 in
    (raw_kept count c.input a.0, leb-true _ _ b.0)

abbrev as_said : Answer Bool → EntriesRaw → Entry → Called
as_said a w i = record { answer = a; cursor = record { input = w; entry = i } }

-- the same said beside the same state
pub same_called : (x : Answer Bool) {w v : EntriesRaw} {e f : Entry} → w ≡ v → e ≡ f
    → ◌≡◌ {A = Called} (record { answer = x; cursor = record { input = w; entry = e } }) (record { answer = x; cursor = record { input = v; entry = f } })
same_called x {w} {v} {e} {f} p q = ap (λ (a : EntriesRaw). as_said x a e) p ∙ ap (λ (b : Entry). as_said x v b) q

-- nothing was left to read
pub asked_none : (nulls : Bool) (c : Cursor) → ◌≡◌ {A = Called} (record { answer = got false; cursor = c }) (asked_as nulls (record { answer = got false; cursor = c }))
asked_none true c = refl
asked_none false c = refl

module _ (most : ℕ) (s rows specs : List ℕ) where
  -- what was read is held
  module _ (w : EntriesRaw) (k : KeptRaw (length s) w) {x : Taken} (e : x ≡ raw_entry most w s rows specs) where
    pub held_read : {b : Bool} → x.answer ≡ got b → ◌≡◌ {A = Called} (record { answer = got true; cursor = record { input = x.raw; entry = x.entry } }) (held most s rows specs w (item_next most s rows specs w))
    unfolding held
    held_read h =
        let z = was_read most s rows specs w k e h in
        same_called (got true) z.raw_is z.entry_is ∙ ap (held most s rows specs w) (sym z.read)

    -- where a null is "no more"
    held_settled : {b : Bool} → x.answer ≡ got b → ◌≡◌ {A = Called} (record { answer = got b; cursor = record { input = x.raw; entry = x.entry } }) (settled (held most s rows specs w (item_next most s rows specs w)))
    held_settled h =
        let z = was_read most s rows specs w k e h in
        ap (λ (a : Answer Bool). as_said a x.raw x.entry) (sym h ∙ z.said_is ∙ ap (λ (i : Entry). got (is_entry i)) (sym z.entry_is)) ∙ ap settled (held_read h)

    pub held_entry : (nulls : Bool) → x.answer ≡ got true → ◌≡◌ {A = Called} (record { answer = got true; cursor = record { input = x.raw; entry = x.entry } }) (asked_as nulls (held most s rows specs w (item_next most s rows specs w)))
    held_entry true h = held_read h
    held_entry false h = held_settled h

    pub held_null : (nulls : Bool) → x.answer ≡ got false → ◌≡◌ {A = Called} (record { answer = got nulls; cursor = record { input = x.raw; entry = x.entry } }) (asked_as nulls (held most s rows specs w (item_next most s rows specs w)))
    held_null true h = held_read h
    held_null false h = held_settled h

    -- an entry is the answer, a null where nulls are
    pub held_asked : (nulls b : Bool) → x.answer ≡ got b → ◌≡◌ {A = Called} (record { answer = got (b || nulls); cursor = record { input = x.raw; entry = x.entry } }) (asked_as nulls (held most s rows specs w (item_next most s rows specs w)))
    held_asked nulls true h = held_entry nulls h
    held_asked nulls false h = held_null nulls h

    pub held_refused : {n : ℕ} → x.answer ≡ refused n → held most s rows specs w (refused n) ≡ held most s rows specs w (item_next most s rows specs w)
    held_refused h = ap (held most s rows specs w) (sym (was_refused most s rows specs w k e h))

    pub refused_asked : (nulls : Bool) {n : ℕ} → x.answer ≡ refused n → held most s rows specs w (refused n) ≡ asked_as nulls (held most s rows specs w (item_next most s rows specs w))
    unfolding held
    refused_asked true h = held_refused h
    refused_asked false h = ap settled (held_refused h)

  -- what is reached where items were passed to is what was sought
  pub arrived_at : (from : Cursor → EntriesRaw) (forward : (c : Cursor) → c.input.position ≤ (from c).position) (wanted : Entry → Bool) (c : Cursor) {p q : Passing}
      → p ≡ record { raw = from c; last = record { offset = c.entry.offset; depth = c.entry.depth } } → Arrived most s rows specs from wanted p q
      → settled (advanced most s rows specs q.raw q.last.offset q.last.depth) ≡ seek most s rows specs from wanted c
  arrived_at from forward wanted c e t =
      sym t.same
      ∙ ap (λ (p : Passing). go_on wanted (seek most s rows specs from wanted) (advanced most s rows specs p.raw p.last.offset p.last.depth)) e
      ∙ sym (seek_step most s rows specs from forward wanted c)
