-- 01, demand 3: skipping ends where reading ends, for the raw reader's calls, which have a state.
use mathlib.Core.Bool.{Bool, true, false}
use mathlib.Core.Path.{◌≡◌, refl, sym, ap, ◌∙◌}
use mathlib.Core.List.{List}
use mathlib.Core.Option.{Option, none, some}
use Prim.Native.Nat.{ℕ, ◌+◌}
use native.Mathlib.Omega.{arith}
use lib.IntN.{ℤ}
use lib.ListN.{length}
use Rattle.reader.specs.Answer.{Answer, got, refused, and_then, Read, gives, Holds}
use Rattle.abbrev.specs.Lookup.{Found}
use Rattle.attribute.specs.Attributes.{read_attributes, skip_attributes, Stored, stored}
use Rattle.attribute.specs.Value.{Attribute}
use Rattle.attribute.proofs.ListLaws.{read_skip}
use Rattle.entries.specs.Entry.{null_entry}
use Rattle.entries.specs.Raw.{keeps_raw, moved_to, entry_here, judged, moves, source_of, Moved, Taken, taken, refused_entry, Listed, listed, listed_in, skipped, raw_abbreviation, raw_entry, raw_attributes, raw_skip}
use Rattle.entries.specs.Read.{abbreviation_at, depth_after, entry_after, entry_at}
use Rattle.entries.specs.Steps.{KeptRaw}
use Rattle.entries.specs.declared.raw.EntriesRaw.{EntriesRaw}
use Rattle.entries.proofs.RawLaws.{raw_kept, raw_keeps, abbreviation_in, entry_read, entry_refused}
use Rattle.entries.proofs.SeekLaws.{code_near}

got_refused : {A B : Type 0} {a : A} {n : ℕ} → got a ≡ refused n → B
got_refused e = let z : ◌≡◌ {A = ℕ} 0 1 = cc in absurd (omega arith)

-- where read_attributes succeeds, skip_attributes from the same state succeeds and hands back the same state
pub record SkipsAs (x : Listed) (y : Moved (Unit {0})) : Type 0 where
  pub done : y.answer ≡ got tt
  pub same : y.raw ≡ x.raw

pub raw_read_skip : (most : ℕ) (w : EntriesRaw) (s specs : List ℕ) (f : Found) → (raw_attributes most w s specs f).answer ≡ got tt → SkipsAs (raw_attributes most w s specs f) (raw_skip most w s specs f)
unfolding raw_attributes raw_skip stored
raw_read_skip most w s specs f h =
    go (keeps_raw (length s) w) (read_attributes most s w.start w.encoding w.endian specs f w.position)
    (skip_attributes most s w.start w.encoding w.endian specs f w.position)
    (read_skip most s w.start w.encoding w.endian specs f w.position) h
  where
    go : (b : Bool) (r : Answer (Read (List Attribute))) (p : Answer ℕ) → Holds (λ v. p ≡ got v.next) r
        → (listed_in w (stored most (judged b r))).answer ≡ got tt → SkipsAs (listed_in w (stored most (judged b r))) (skipped w (judged b p))
    go true (got v) p e q = record { done = rw e; same = rw e }
    go true (refused n) p e q = got_refused (sym q)
    go false r p e q = got_refused (sym q)

module _ (most : ℕ) (w : EntriesRaw) (s rows specs : List ℕ) where
  -- a code that was read, from a state that keeps the sizes
  record Code (o : Option Found) : Type 0 where
    kept : keeps_raw (length s) w ≡ true
    next : ℕ
    read : abbreviation_at most s rows specs w.position ≡ gives o next
    left : (raw_abbreviation most w s rows specs).raw ≡ moved_to w next (depth_after (gives o next) w.depth)

  code_read : {o : Option Found} → (raw_abbreviation most w s rows specs).answer ≡ got o → Code o
  unfolding raw_abbreviation
  code_read {o} h = go (keeps_raw (length s) w) (abbreviation_at most s rows specs w.position) refl refl h
    where
      go : (b : Bool) (r : Answer (Read (Option Found))) → keeps_raw (length s) w ≡ b → abbreviation_at most s rows specs w.position ≡ r → (moves w (depth_after r w.depth) (judged b r)).answer ≡ got o → Code o
      go true (got v) k q e =
          let z : v.value ≡ o = cc in
          record { kept = k; next = v.next; read = q ∙ ap (λ (x : Option Found). gives x v.next) z; left = rw (k, q) (ap (λ (x : Option Found). moved_to w v.next (depth_after (gives x v.next) w.depth)) z) }
      go true (refused n) k q e = got_refused (sym e)
      go false r k q e = got_refused (sym e)

  pub code_kept : {o : Option Found} → (raw_abbreviation most w s rows specs).answer ≡ got o → KeptRaw (length s) w
  code_kept h = raw_kept (length s) w (code_read h).kept

  -- whatever it says, it moves nothing but the place and the depth
  pub code_back : moved_to (raw_abbreviation most w s rows specs).raw w.position w.depth ≡ w
  unfolding raw_abbreviation
  code_back = go (depth_after (abbreviation_at most s rows specs w.position) w.depth) (judged (keeps_raw (length s) w) (abbreviation_at most s rows specs w.position))
    where
      go : (d : ℤ) (r : Answer (Read (Option Found))) → moved_to (moves w d r).raw w.position w.depth ≡ w
      go d (got v) = refl
      go d (refused n) = refl

  -- the state behind it
  abbrev behind : {o : Option Found} → Code o → EntriesRaw
  behind {o} c = moved_to w c.next (depth_after (gives o c.next) w.depth)

  behind_keeps : {o : Option Found} (c : Code o) → keeps_raw (length s) (behind c) ≡ true
  behind_keeps {o} c =
      let k = raw_kept (length s) w c.kept in
      let a = rw c.read at (abbreviation_in most s rows specs w.position) in
      let n = code_near (gives o c.next) w.depth in
      raw_keeps (length s) (behind c) (record { inside = a.1; short = k.short; near = omega (arith, n, k.near, a.0) })

  -- ---- read_entry is read_abbreviation and then, for an entry, read_attributes

  pub code_refuses : {n : ℕ} → (raw_abbreviation most w s rows specs).answer ≡ refused n → raw_entry most w s rows specs ≡ refused_entry most w n
  unfolding raw_abbreviation raw_entry entry_at
  code_refuses {n} h = go (keeps_raw (length s) w) (abbreviation_at most s rows specs w.position) h
    where
      go : (b : Bool) (r : Answer (Read (Option Found))) → (moves w (depth_after r w.depth) (judged b r)).answer ≡ refused n
          → taken most w (depth_after r w.depth) (judged b (and_then r (entry_after most (source_of w) s specs w.position w.depth))) ≡ refused_entry most w n
      go true (got v) e = got_refused e
      go true (refused k) e = let z : k ≡ n = cc in rw z
      go false r e = let z : 1 ≡ n = cc in rw z

  pub code_null : (raw_abbreviation most w s rows specs).answer ≡ got none → raw_entry most w s rows specs ≡ record { answer = got false; entry = null_entry most (w.start + w.position) w.depth; raw = (raw_abbreviation most w s rows specs).raw }
  unfolding raw_entry entry_at entry_after
  code_null h = let c = code_read h in rw (c.kept, c.read, c.left)

  module _ {f : Found} (h : (raw_abbreviation most w s rows specs).answer ≡ got (some f)) where
    abbrev values : Listed
    values = raw_attributes most (raw_abbreviation most w s rows specs).raw s specs f

    -- the values behind the code, in their places
    abbrev stand : Stored
    stand = stored most (read_attributes most s w.start w.encoding w.endian specs f (code_read h).next)

    values_stand : {m : Answer ℕ} → stand.end ≡ m → values ≡ listed (behind (code_read h)) m stand.attrs
    unfolding raw_attributes
    values_stand e = rw ((code_read h).left, behind_keeps (code_read h)) (ap (λ (x : Answer ℕ). listed (behind (code_read h)) x stand.attrs) e)

    values_say : {m : Answer ℕ} → stand.end ≡ m → values.answer ≡ (listed (behind (code_read h)) m stand.attrs).answer
    values_say e = ap (λ (x : Listed). x.answer) (values_stand e)

    -- an entry with them
    abbrev took : Listed → Taken
    took x = record { answer = got true; entry = entry_here w f x.attrs; raw = x.raw }

    pub code_values : values.answer ≡ got tt → raw_entry most w s rows specs ≡ took values
    code_values q = go stand.end refl
      where
        c : Code (some f)
        c = code_read h

        go : (e : Answer ℕ) → stand.end ≡ e → raw_entry most w s rows specs ≡ took values
        go (got p) z = sym (entry_read most w s rows specs c.kept c.read refl z) ∙ ap took (sym (values_stand z))
        go (refused n) z = got_refused (sym q ∙ values_say z)

    pub code_values_refuse : {n : ℕ} → values.answer ≡ refused n → raw_entry most w s rows specs ≡ refused_entry most w n
    code_values_refuse {n} q = go stand.end refl
      where
        c : Code (some f)
        c = code_read h

        go : (e : Answer ℕ) → stand.end ≡ e → raw_entry most w s rows specs ≡ refused_entry most w n
        go (got p) z = got_refused (sym (sym q ∙ values_say z))
        go (refused k) z =
            let y : refused n ≡ refused k = sym q ∙ values_say z in
            let j : k ≡ n = cc in
            sym (entry_refused most w s rows specs c.kept c.read refl z) ∙ ap (refused_entry most w) j

  -- ---- an entry that read_entry gives: read_abbreviation finds its row, and read_attributes and skip_attributes, behind the code, end in the state that read_entry leaves
  pub record InTwo : Type 0 where
    pub found : Found
    pub code : (raw_abbreviation most w s rows specs).answer ≡ got (some found)
    pub listed_done : (raw_attributes most (raw_abbreviation most w s rows specs).raw s specs found).answer ≡ got tt
    pub listed_raw : (raw_attributes most (raw_abbreviation most w s rows specs).raw s specs found).raw ≡ (raw_entry most w s rows specs).raw
    pub entry_is : (raw_entry most w s rows specs).entry ≡ entry_here w found (raw_attributes most (raw_abbreviation most w s rows specs).raw s specs found).attrs
    pub skipped_done : (raw_skip most (raw_abbreviation most w s rows specs).raw s specs found).answer ≡ got tt
    pub skipped_raw : (raw_skip most (raw_abbreviation most w s rows specs).raw s specs found).raw ≡ (raw_entry most w s rows specs).raw

  said : {x : Taken} → raw_entry most w s rows specs ≡ x → (raw_entry most w s rows specs).answer ≡ x.answer
  said e = ap (λ (x : Taken). x.answer) e

  left_as : {x : Taken} → raw_entry most w s rows specs ≡ x → x.raw ≡ (raw_entry most w s rows specs).raw
  left_as e = ap (λ (x : Taken). x.raw) (sym e)

  pub entry_read_skip : (raw_entry most w s rows specs).answer ≡ got true → InTwo
  entry_read_skip h = by_code (raw_abbreviation most w s rows specs).answer refl
    where
      by_values : (f : Found) → (raw_abbreviation most w s rows specs).answer ≡ got (some f) → (a : Answer (Unit {0})) → (raw_attributes most (raw_abbreviation most w s rows specs).raw s specs f).answer ≡ a → InTwo
      by_values f e (got u) q =
          let z = code_values e q in
          let y = raw_read_skip most (raw_abbreviation most w s rows specs).raw s specs f q in
          record { found = f; code = e; listed_done = q; listed_raw = left_as z; entry_is = ap (λ (x : Taken). x.entry) z; skipped_done = y.done; skipped_raw = y.same ∙ left_as z }
      by_values f e (refused n) q = got_refused (sym h ∙ said (code_values_refuse e q))

      by_code : (a : Answer (Option Found)) → (raw_abbreviation most w s rows specs).answer ≡ a → InTwo
      by_code (got none) e = let y : got true ≡ got false = sym h ∙ said (code_null e) in let z : ◌≡◌ {A = ℕ} 0 1 = cc in absurd (omega arith)
      by_code (got (some f)) e = by_values f e (raw_attributes most (raw_abbreviation most w s rows specs).raw s specs f).answer refl
      by_code (refused n) e = got_refused (sym h ∙ said (code_refuses e))

  -- and a null
  pub null_in_one : (raw_entry most w s rows specs).answer ≡ got false → ((raw_abbreviation most w s rows specs).answer ≡ got none) × ((raw_abbreviation most w s rows specs).raw ≡ (raw_entry most w s rows specs).raw)
  null_in_one h = by_code (raw_abbreviation most w s rows specs).answer refl
    where
      by_values : (f : Found) → (raw_abbreviation most w s rows specs).answer ≡ got (some f) → (a : Answer (Unit {0})) → (raw_attributes most (raw_abbreviation most w s rows specs).raw s specs f).answer ≡ a → ⊥
      by_values f e (got u) q = let y : got true ≡ got false = sym (said (code_values e q)) ∙ h in let z : ◌≡◌ {A = ℕ} 0 1 = cc in omega arith
      by_values f e (refused n) q = got_refused (sym h ∙ said (code_values_refuse e q))

      by_code : (a : Answer (Option Found)) → (raw_abbreviation most w s rows specs).answer ≡ a → ((raw_abbreviation most w s rows specs).answer ≡ got none) × ((raw_abbreviation most w s rows specs).raw ≡ (raw_entry most w s rows specs).raw)
      by_code (got none) e = (e, left_as (code_null e))
      by_code (got (some f)) e = absurd (by_values f e (raw_attributes most (raw_abbreviation most w s rows specs).raw s specs f).answer refl)
      by_code (refused n) e = got_refused (sym h ∙ said (code_refuses e))
