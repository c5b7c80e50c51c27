-- Laws of the whole listing.
use mathlib.Core.Path.{◌≡◌, refl, sym, ap, ◌∙◌}
use mathlib.Core.List.{List, [], ◌∷◌, ◌++◌, append_assoc}
use Prim.Native.Nat.{ℕ, ◌+◌, ◌-◌, ◌≤◌, ◌<◌}
use native.Mathlib.Omega.{arith}
use borrow.Author.Tests.{ltb-true}
use lib.ListN.{length, take, drop, replicate, length-append, take-append-drop}
use lib.Seq.{length-take-le}
use Rattle.std.specs.Prelude.{Option, Some, None, is_some, unwrap_or}
use Rattle.std.specs.declared.ops.ControlFlow.{ControlFlow}
use Rattle.std.specs.declared.ops.ControlFlow.TheVariants.{Continue, Break}
use Rattle.abbrev.specs.Rows.{Blank}
use Rattle.listing.specs.Listed.{ListedAs}
use Rattle.listing.specs.Listing.{Placed, Shelf, place_of, listing_from}
use Rattle.listing.specs.Piece.{texts, room, fitting}
use Rattle.listing.specs.Text.{text}
use Rattle.listing.specs.Written.{Part, part_of, adds, followed, Written, Lent, shelf_of}
use Rattle.listing.specs.declared.list.Listed.{Listed}
use Rattle.listing.specs.declared.list.Listing as declared_list
use Rattle.listing.specs.declared.lines.Lines.{Lines}
use Rattle.listing.specs.declared.place.ListingPlace.{ListingPlace}
use Rattle.listing.proofs.LinesLaws.{made, filled, adds_are, fitting_leads, fitting_some, texts_many, place_of_first, first_is, first_there}

-- all lines that were added to none are those that fit
added_all : {a b : Lines} {ls : List Placed} {flow : ControlFlow (Unit {0}) (Unit {0})} → a.count ≡ 0 → a.end ≡ 0 → a.next ≡ None → Written a b (λ rest. ls) flow → part_of b ≡ filled (length a.out.now) 0 [] ls
added_all {a} {b} {ls} {flow} e f g w = by flow (w.is []) ∙ rw (e, f, g) (adds_are (length a.out.now) 0 [] ls)
  where
    by : (flow : ControlFlow (Unit {0}) (Unit {0})) → adds (length a.out.now) (part_of a) ls ≡ followed (length a.out.now) flow (part_of b) [] → part_of b ≡ adds (length a.out.now) (part_of a) ls
    by (Continue u) q = sym q
    by (Break u) q = sym q

-- all lines, and zeros behind those that fit
module _ (x : declared_list.Listing) (p : ListingPlace) where
  abbrev all : List Placed
  all = listing_from (shelf_of x) p

  pub listed_whole : {a b : Lines} {y : declared_list.Listing} {flow : ControlFlow (Unit {0}) (Unit {0})} {rows specs out : List ℕ} → a.count ≡ 0 → a.end ≡ 0 → a.next ≡ None
      → Written a b (λ rest. all) flow → Lent x y → Blank y.lent.now.rows.now y.lent.now.specs.now rows specs → out ≡ take b.end b.out.now ++ replicate (length b.out.now - b.end) 0
      → ListedAs x.abbrevs.now x.info.now x.lent.now.rows.now x.lent.now.specs.now p a.out.now rows specs out (record { bytes = b.end; lines = b.count; next = b.next })
  listed_whole {a} {b} {y} {flow} {rows} {specs} {out} e f g w t k o =
      let n = length a.out.now in
      let z : n - 0 ≡ n = omega arith in
      let d : part_of b ≡ made (0 + length (fitting n all)) (texts (fitting n all)) (place_of_first (drop (length (fitting n all)) all)) = rw z at (added_all e f g w) in
      let c : b.count ≡ length (fitting n all) = ap (λ (q : Part). q.count) d ∙ omega arith in
      let i : take b.end b.out.now ≡ texts (fitting n all) = ap (λ (q : Part). q.bytes) d in
      let j : b.next ≡ place_of_first (drop b.count all) = ap (λ (q : Part). q.next) d ∙ ap (λ (m : ℕ). place_of_first (drop m all)) (sym c) in
      record {
        lines = all;
        lines_are = refl;
        bytes_is = sym (length-take-le b.end b.out.now b.inside) ∙ ap length i;
        out_is = o ∙ ap (λ (m : List ℕ). m ++ replicate (length b.out.now - b.end) 0) i ∙ ap (λ (m : ℕ). texts (fitting n all) ++ replicate (m - b.end) 0) w.same;
        count_is = c;
        more_is = ap is_some j ∙ first_there b.count all;
        place_is = ap (λ (q : Option ListingPlace). unwrap_or q (place_of 0)) j ∙ first_is (drop b.count all);
        rows_are = k.no_rows ∙ ap (λ (s : Shelf). replicate s.rows 0) t.shelf;
        specs_are = k.no_specs ∙ ap (λ (s : Shelf). replicate s.specs 0) t.shelf;
      }

  -- by the numbers of the lines as they stand when they are no longer lent
  pub listed_behind : {a b : Lines} {y : declared_list.Listing} {flow : ControlFlow (Unit {0}) (Unit {0})} {rows specs out : List ℕ} {count end : ℕ} {next : Option ListingPlace} → a.count ≡ 0 → a.end ≡ 0 → a.next ≡ None
      → Written a b (λ rest. all) flow → Lent x y → Blank y.lent.now.rows.now y.lent.now.specs.now rows specs → out ≡ take b.end b.out.now ++ replicate (length b.out.now - b.end) 0
      → end ≡ b.end → count ≡ b.count → next ≡ b.next
      → ListedAs x.abbrevs.now x.info.now x.lent.now.rows.now x.lent.now.specs.now p a.out.now rows specs out (record { bytes = end; lines = count; next = next })
  listed_behind e f g w t k o i j l = rw (i, j, l) (listed_whole e f g w t k o)

module _ {abbrevs info rows₀ specs₀ : List ℕ} {a : ListingPlace} {out₀ rows specs out : List ℕ} {r : Listed} (z : ListedAs abbrevs info rows₀ specs₀ a out₀ rows specs out r) where
  pub listed_inside : r.bytes ≤ length out
  listed_inside =
      let t = texts (fitting (length out₀) z.lines) in
      let e = ap length z.out_is in
      let l = length-append t (replicate (length out₀ - r.bytes) 0) in
      omega (arith, e, l, z.bytes_is)

  -- each line has a byte
  pub listed_few : r.lines ≤ r.bytes
  listed_few = omega (arith, texts_many (fitting (length out₀) z.lines), z.count_is, z.bytes_is)

  -- where there are lines behind it and room for one, a piece has a line
  pub listed_some : {q : ListingPlace} → r.next ≡ Some q → room ≤ length out₀ → 0 < r.lines
  listed_some e h = go z.lines refl
    where
      l : r.lines < length z.lines
      l = ltb-true r.lines (length z.lines) (sym z.more_is ∙ ap is_some e)

      go : (ls : List Placed) → z.lines ≡ ls → 0 < r.lines
      go [] q = absurd (let m = ap length q in omega (arith, l, m))
      go (b ∷ ls) q =
          let m = ap (λ (x : List Placed). length (fitting (length out₀) x)) q in
          omega (arith, fitting_some (length out₀) b ls h, m, z.count_is)

-- ---- pieces one after another

texts_append : (ls ms : List Placed) → texts (ls ++ ms) ≡ texts ls ++ texts ms
texts_append [] ms = refl
texts_append (l ∷ ls) ms = ap (λ (t : List ℕ). text l.line ++ t) (texts_append ls ms) ∙ sym (append_assoc (text l.line) (texts ls) (texts ms))

-- a piece and the lines behind it are the listing
pub pieces_join : (ls : List Placed) (n : ℕ) → texts ls ≡ texts (fitting n ls) ++ texts (drop (length (fitting n ls)) ls)
pieces_join ls n =
    let k = length (fitting n ls) in
    ap texts (sym (take-append-drop k ls)) ∙ texts_append (take k ls) (drop k ls) ∙ ap (λ (l : List Placed). texts l ++ texts (drop k ls)) (sym (fitting_leads n ls))
