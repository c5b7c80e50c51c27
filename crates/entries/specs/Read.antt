-- Entries read one after another, with their depths.
use Rattle.std.specs.Prelude.{Bool, false, cond, ◌&&◌, List, ℕ, ◌+◌, eqb, leb, ℤ, pos, negsuc, nat_abs, ◌+ℤ◌, ◌-ℤ◌}
use Rattle.std.proofs.Math.Option.{Option, none, some}
use Rattle.reader.specs.Answer.{Answer, got, refused, and_then, if_some, Read, gives}
use Rattle.reader.specs.Leb128.{uleb_at}
use Rattle.abbrev.specs.Lookup.{Found, lookup, declaration_of}
use Rattle.attribute.specs.Attributes.{keeps_place}
use Rattle.attribute.specs.Read.{attributes_at}
use Rattle.attribute.specs.declared.source.Source.{Source}
use Rattle.entries.specs.Entry.{Entry, null_entry, entry_of, is_null}

-- what a lookup says of a code that is not 0; 01, question 16
abbrev pub known : Answer (Option Found) → ℕ → Answer (Read (Option Found))
known r p = and_then r (λ f. if_some f (refused 16) (λ x. gives (some x) p))

-- what a code that was read stands for, none for a null, by what looks the other codes up
abbrev pub code_for : (ℕ → Answer (Option Found)) → Answer (Read ℕ) → Answer (Read (Option Found))
code_for find code =
    and_then code (λ r. cond (eqb r.value 0) (gives none r.next) (known (find r.value) r.next))

-- what stands at a code
abbrev pub code_by : (ℕ → Answer (Option Found)) → List ℕ → ℕ → Answer (Read (Option Found))
code_by find s at = code_for find (uleb_at s at 64)

-- the abbreviation of an entry by its code, none for a null
unfoldable pub abbreviation_at : ℕ → List ℕ → List ℕ → List ℕ → ℕ → Answer (Read (Option Found))
abbreviation_at most s rows specs at = code_by (lookup most rows specs) s at

-- the depth after an entry without and with children
abbrev pub raised : ℕ → ℤ → ℤ
raised children d = cond (eqb children 1) (d +ℤ pos 1) d

-- 01, "Walks": the depth after a code: a null's falls by 1, that of an entry with children rises by 1
abbrev pub depth_after : Answer (Read (Option Found)) → ℤ → ℤ
depth_after (refused n) d = d
depth_after (got r) d = if_some r.value (d -ℤ pos 1) (λ f. raised f.children d)

-- the same from what was read
abbrev pub after_entry : Entry → ℤ
after_entry e = cond (is_null e) (e.depth -ℤ pos 1) (cond e.children (e.depth +ℤ pos 1) e.depth)

-- what follows a code: a null, or the entry of a found row with its values
unfoldable pub entry_after : ℕ → Source → List ℕ → List ℕ → ℕ → ℤ → Read (Option Found) → Answer (Read Entry)
entry_after most src s specs at d r =
    if_some r.value (gives (null_entry most (src.start + at) d) r.next)
    (λ f.
    and_then (attributes_at s src.start src.encoding src.endian (declaration_of specs f).specifications r.next)
    (λ v. gives (entry_of most (src.start + at) d f v.value) v.next))

-- the entry, or the null, at a place and a depth
unfoldable pub entry_at : ℕ → Source → List ℕ → List ℕ → List ℕ → ℕ → ℤ → Answer (Read Entry)
entry_at most src s rows specs at d =
    and_then (abbreviation_at most s rows specs at) (entry_after most src s specs at d)

-- 01's sizes of a state: its position, its start and its depth
abbrev pub keeps_state : ℕ → ℕ → ℕ → ℤ → Bool
keeps_state count start at d = keeps_place count start at && leb (nat_abs d) at

-- whether two depths are the same
abbrev pub same_depth : ℤ → ℤ → Bool
same_depth (pos a) (pos b) = eqb a b
same_depth (pos a) (negsuc b) = false
same_depth (negsuc a) (pos b) = false
same_depth (negsuc a) (negsuc b) = eqb a b
