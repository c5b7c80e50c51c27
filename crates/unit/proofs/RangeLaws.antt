-- Laws of parts of a unit.
use mathlib.Core.Bool.{true, and-false, ◌&&◌}
use mathlib.Core.Logic.{⊎_elim}
use mathlib.Core.Path.{refl, sym, ap, subst, ◌≡◌, ◌∙◌}
use mathlib.Core.List.{List}
use Prim.Native.Nat.{ℕ, min, ◌+◌, ◌-◌, ◌≤◌, ◌<◌}
use native.Mathlib.Omega.{arith}
use borrow.Author.Tests.{le-leb, lt-leb, ltb-true}
use lib.Dec.{leb, ltb}
use lib.ListN.{length, take, drop, length-drop}
use lib.Seq.{take_all}
use Rattle.std.specs.Prelude.{Option, Some, None}
use Rattle.std.specs.Borrow.{Bor}
use Rattle.std.specs.Option.{ok_or}
use Rattle.std.specs.Slice.{IsGetRangeResult}
use Rattle.reader.specs.declared.error.Error.TheVariants.{OffsetOutOfBounds}
use Rattle.reader.specs.Answer.{Answer, got, refused, Read, Holds}
use Rattle.reader.specs.Sizes.{max_section}
use Rattle.reader.specs.declared.endianity.RunTimeEndian.{RunTimeEndian}
use Rattle.reader.proofs.Answers.{cond_by}
use Rattle.std.proofs.lemmas.Bool.{cases_lt, and_parts}
use Rattle.unit.specs.Header.{size_of_header, unit_end, in_bounds}
use Rattle.unit.specs.Parse.{UnitSection, header_at}
use Rattle.unit.specs.Range.{part, Handed, unit_bytes, entries_buf, range_from}
use Rattle.unit.proofs.ParseLaws.{HeaderIn, header_in}
use Rattle.unit.specs.declared.header.UnitHeader.{UnitHeader}

module _ (s : List ℕ) (a b : ℕ) where
  pub part_backward : b < a → part s a b ≡ refused 19
  unfolding part
  part_backward h = rw (lt-leb a b h)

  pub part_long : length s < b → part s a b ≡ refused 19
  unfolding part
  part_long h = rw (lt-leb b (length s) h, and-false)

  pub part_there : a ≤ b → b ≤ length s → part s a b ≡ got (take (b - a) (drop a s))
  unfolding part
  part_there h k = rw (le-leb a b h, le-leb b (length s) k)

-- an end past the slice is as good as any other
pub part_most : (s : List ℕ) (a b n : ℕ) → length s < n → part s a (min b n) ≡ part s a b
part_most s a b n h = ⊎_elim
    (λ k. part_long s a (min b n) (omega arith) ∙ sym (part_long s a b (omega arith)))
    (λ k. let e : min b n ≡ b = omega arith in rw e)
    (cases_lt n b)

-- also one that is added to the start
pub part_sum : (s : List ℕ) (a b n : ℕ) → length s < n → part s a (min (a + min b n) n) ≡ part s a (a + b)
part_sum s a b n h = let e : min (a + min b n) n ≡ min (a + b) n = omega arith in rw e (part_most s a (a + b) n h)

-- std's `get` answers a part
pub part_got : (s : List ℕ) (a b : ℕ) (r : Option (Bor (List ℕ))) → IsGetRangeResult s a b r → Handed (part s a b) (ok_or r OffsetOutOfBounds)
part_got s a b None h = ⊎_elim (λ k. sym (part_backward s a b k)) (λ k. sym (part_long s a b k)) h.0
part_got s a b (Some x) h = let k = h.0 in rw (part_there s a b k.0 k.1) (ap got k.2)

-- parts refuse with 19 alone
abbrev pub Or19 : Answer (List ℕ) → Type 0
Or19 (got s) = Unit {0}
Or19 (refused n) = n ≡ 19

part_19 : (s : List ℕ) (a b : ℕ) → Or19 (part s a b)
unfolding part
part_19 s a b = cond_by Or19 (leb a b && leb b (length s)) _ _ (λ _. tt) (λ _. refl)

pub buf_19 : (h : UnitHeader) (u : List ℕ) → Or19 (entries_buf h u)
unfolding entries_buf
buf_19 h u = part_19 u (size_of_header h) (unit_end h)

pub from_19 : (h : UnitHeader) (u : List ℕ) (a : ℕ) → Or19 (range_from h u a)
unfolding range_from
from_19 h u a = cond_by Or19 (in_bounds h a) _ _ (λ _. part_19 u a (unit_end h)) (λ _. refl)

-- and so does a section that keeps the sizes
pub short_19 : (h : UnitHeader) (s : List ℕ) → length s ≤ max_section → Or19 (unit_bytes h s)
unfolding unit_bytes
short_19 h s k = rw (le-leb (length s) max_section k) (part_19 s h.offset (h.offset + unit_end h))

-- as that of a header does
pub bytes_19 : (sec : UnitSection) (s : List ℕ) (at : ℕ) (e : RunTimeEndian) {r : Read UnitHeader} → header_at sec s at e ≡ got r → Or19 (unit_bytes r.value s)
bytes_19 sec s at e {r} q =
    let h : Holds (HeaderIn s at) (got r) = subst (λ (x : Answer (Read UnitHeader)). Holds (HeaderIn s at) x) q (header_in sec s at e) in
    short_19 r.value s h.short

-- the bytes of a unit that lies in its section
pub bytes_there : (h : UnitHeader) (s : List ℕ) → length s ≤ max_section → h.offset + unit_end h ≤ length s → unit_bytes h s ≡ got (take (unit_end h) (drop h.offset s))
unfolding unit_bytes
bytes_there h s k there =
    let n : h.offset + unit_end h - h.offset ≡ unit_end h = omega arith in
    rw (le-leb (length s) max_section k, part_there s h.offset (h.offset + unit_end h) (omega arith) there, n)

-- and from an offset inside on
pub from_there : (h : UnitHeader) (u : List ℕ) (offset : ℕ) → length u ≡ unit_end h → in_bounds h offset ≡ true → range_from h u offset ≡ got (drop offset u)
unfolding range_from in_bounds
from_there h u offset l b =
    let k = and_parts (leb (size_of_header h) offset) (ltb offset (unit_end h)) b in
    let z = ltb-true offset (unit_end h) k.1 in
    let n : length (drop offset u) ≤ unit_end h - offset = rw (length-drop offset u) (omega (arith, l)) in
    rw (b, part_there u offset (unit_end h) (omega (arith, z)) (omega (arith, l)), take_all (unit_end h - offset) (drop offset u) n)
