-- Laws of lines added one by one, and of what a buffer then has.
use mathlib.Core.Bool.{Bool, true, false, cond}
use mathlib.Core.Path.{◌≡◌, refl, sym, ap, ◌∙◌}
use mathlib.Core.List.{List, [], ◌∷◌, ◌++◌, append_assoc, append-nil, map}
use native.Mathlib.Numerals.{add-one}
use Prim.Native.Nat.{ℕ, zero, suc, ◌+◌, ◌-◌, ◌≤◌, ◌<◌}
use native.Mathlib.Omega.{arith}
use borrow.Author.Tests.{lt-ltb, le-ltb, ltb-true, ltb-false, le-leb, lt-leb, leb-true, leb-false}
use lib.Dec.{leb, ltb}
use lib.ListN.{length, take, drop, get_or, length-append}
use lib.Seq.{length-take-le, drop-cons}
use Rattle.std.specs.Prelude.{Option, Some, None, is_some, unwrap_or}
use Rattle.std.specs.declared.ops.ControlFlow.{ControlFlow}
use Rattle.std.specs.declared.ops.ControlFlow.TheVariants.{Continue, Break}
use Rattle.listing.specs.Listing.{Placed, place_of}
use Rattle.listing.specs.Piece.{texts, room, fitting, first_place}
use Rattle.listing.specs.Text.{text}
use Rattle.listing.specs.Written.{Part, part_of, add, adds, followed, Lined, Written}
use Rattle.listing.specs.declared.place.ListingPlace.{ListingPlace}
use Rattle.listing.specs.declared.lines.Lines.{Lines}
use Rattle.listing.proofs.TextLaws.{text_some}

-- ---- one more line

abbrev pub made : ℕ → List ℕ → Option ListingPlace → Part
made count bytes next = record { count = count; bytes = bytes; next = next }

module _ (n : ℕ) (p : Part) (l : Placed) where
  pub add_full : is_some p.next ≡ true → add n p l ≡ p
  unfolding add
  add_full e = rw e

  module _ (e : is_some p.next ≡ false) where
    pub add_none : n < length p.bytes + room → add n p l ≡ made p.count p.bytes (Some l.place)
    unfolding add
    add_none k = rw (e, lt-leb (length p.bytes + room) n k)

    pub add_held : length p.bytes + room ≤ n → add n p l ≡ made (p.count + 1) (p.bytes ++ text l.line) p.next
    unfolding add
    add_held k = rw (e, le-leb (length p.bytes + room) n k)

-- where a line had no room, none is added
pub adds_full : (n : ℕ) (p : Part) (ls : List Placed) → is_some p.next ≡ true → adds n p ls ≡ p
adds_full n p [] e = refl
adds_full n p (l ∷ ls) e = rw (add_full n p l e) (adds_full n p ls e)

-- ---- the code's lines

ends : (a : Lines) → length (take a.end a.out.now) ≡ a.end
ends a = length-take-le a.end a.out.now a.inside

module _ {a : Lines} where
  pub lines_full : {all : List Placed → List Placed} → is_some a.next ≡ true → Written a a all (Break tt)
  lines_full {all} e = record { lent = refl; same = refl; is = λ rest. adds_full (length a.out.now) (part_of a) (all rest) e }

  module _ {b : Lines} {l : Placed} (e : is_some a.next ≡ false) where
    pub lines_none : b.out.ghost_name ≡ a.out.ghost_name → length a.out.now - a.end < 72 → b.out.now ≡ a.out.now → part_of b ≡ made a.count (take a.end a.out.now) (Some l.place) → Written a b (λ rest. l ∷ rest) (Break tt)
    lines_none name j o p =
        record {
          lent = name;
          same = ap length o;
          is = λ rest.
              ap (λ (x : Part). adds (length a.out.now) x rest) (add_none (length a.out.now) (part_of a) l e (omega (arith, ends a, a.inside, j)))
              ∙ adds_full (length a.out.now) (made a.count (take a.end a.out.now) (Some l.place)) rest refl ∙ sym p;
        }

    pub lines_held : {m : Lines} → 72 ≤ length a.out.now - a.end → Lined a m l.line → b.out.ghost_name ≡ m.out.ghost_name → b.out.now ≡ m.out.now → part_of b ≡ made (m.count + 1) (take m.end m.out.now) m.next → Written a b (λ rest. l ∷ rest) (Continue tt)
    lines_held j z name o p =
        record {
          lent = name ∙ z.put.lent;
          same = ap length o ∙ z.put.same;
          is = λ rest.
              ap (λ (y : Part). adds (length a.out.now) y rest)
              (add_held (length a.out.now) (part_of a) l e (omega (arith, ends a, a.inside, j)) ∙ sym (p ∙ rw (z.put.count, z.put.bytes, z.put.next)));
        }

-- ---- one behind another

-- nothing follows
pub closed : {a b : Lines} {f : List Placed → List Placed} {flow : ControlFlow (Unit {0}) (Unit {0})} → Written a b f flow → Written a b (λ rest. f []) (Break tt)
closed {flow = Continue u} w = record { lent = w.lent; same = w.same; is = λ rest. w.is [] }
closed {flow = Break u} w = record { lent = w.lent; same = w.same; is = λ rest. w.is [] }

-- lines that were added, and those still to come
pub record Going (a b : Lines) (f g : List Placed → List Placed) : Type 0 where
  pub lent : b.out.ghost_name ≡ a.out.ghost_name
  pub same : length b.out.now ≡ length a.out.now
  pub is : (rest : List Placed) → adds (length a.out.now) (part_of a) (f rest) ≡ adds (length a.out.now) (part_of b) (g rest)

pub going_begun : (a : Lines) (f : List Placed → List Placed) → Going a a f f
going_begun a f = record { lent = refl; same = refl; is = λ rest. refl }

module _ {a b : Lines} {f g : List Placed → List Placed} (t : Going a b f g) where
  -- none is to come
  pub going_ended : {u : Unit {0}} → ((rest : List Placed) → g rest ≡ rest) → Written a b f (Continue u)
  going_ended e = record { lent = t.lent; same = t.same; is = λ rest. t.is rest ∙ ap (adds (length a.out.now) (part_of b)) (e rest) }

  module _ {c : Lines} {k : List Placed → List Placed} where
    onward : {flow : ControlFlow (Unit {0}) (Unit {0})} → Written b c k flow → (rest more : List Placed) → g rest ≡ k more
        → adds (length a.out.now) (part_of a) (f rest) ≡ followed (length a.out.now) flow (part_of c) more
    onward {flow} w rest more e =
        t.is rest ∙ ap (λ (n : ℕ). adds n (part_of b) (g rest)) (sym t.same) ∙ ap (adds (length b.out.now) (part_of b)) e ∙ w.is more
        ∙ ap (λ (n : ℕ). followed n flow (part_of c) more) t.same

    -- the first of them are written
    pub going_further : (h : List Placed → List Placed) {u : Unit {0}} → ((rest : List Placed) → g rest ≡ k (h rest)) → Written b c k (Continue u) → Going a c f h
    going_further h e w = record { lent = w.lent ∙ t.lent; same = w.same ∙ t.same; is = λ rest. onward w rest (h rest) (e rest) }

    pub going_broken : (h : List Placed → List Placed) {u v : Unit {0}} → ((rest : List Placed) → g rest ≡ k (h rest)) → Written b c k (Break u) → Written a c f (Break v)
    going_broken h e w = record { lent = w.lent ∙ t.lent; same = w.same ∙ t.same; is = λ rest. onward w rest (h rest) (e rest) }

    -- all of them are written
    pub going_written : {flow : ControlFlow (Unit {0}) (Unit {0})} → ((rest : List Placed) → g rest ≡ k rest) → Written b c k flow → Written a c f flow
    going_written e w = record { lent = w.lent ∙ t.lent; same = w.same ∙ t.same; is = λ rest. onward w rest rest (e rest) }

-- the same lines
pub written_as : {a b : Lines} {f g : List Placed → List Placed} {flow : ControlFlow (Unit {0}) (Unit {0})} → ((rest : List Placed) → g rest ≡ f rest) → Written a b f flow → Written a b g flow
written_as {a} {g = g} e w = going_written (going_begun a g) e w

-- no line
pub written_none : {a : Lines} {f : List Placed → List Placed} {u : Unit {0}} → ((rest : List Placed) → f rest ≡ rest) → Written a a f (Continue u)
written_none {a} {f} e = going_ended (going_begun a f) e

-- the first of some items, and the others
pub item_next : (f : List ℕ → Placed) (items : List (List ℕ)) (i : ℕ) → i < length items → (rest : List Placed) → map f (drop i items) ++ rest ≡ f (get_or items i []) ∷ (map f (drop (i + 1) items) ++ rest)
item_next f items i h rest = rw (drop-cons items i [], add-one i)

-- ---- what a buffer has

-- the lines that fit are leading ones
pub fitting_leads : (n : ℕ) (ls : List Placed) → fitting n ls ≡ take (length (fitting n ls)) ls
fitting_leads n [] = refl
fitting_leads n (l ∷ ls) = go (leb room n) (fitting (n - length (text l.line)) ls) (fitting_leads (n - length (text l.line)) ls)
  where
    go : (b : Bool) (m : List Placed) → m ≡ take (length m) ls → cond b (l ∷ m) [] ≡ take (length (cond b (l ∷ m) [])) (l ∷ ls)
    go true m e = ap (λ (x : List Placed). l ∷ x) e
    go false m e = refl

-- of a line that is left there is room for one, and it is held
pub fitting_some : (n : ℕ) (l : Placed) (ls : List Placed) → room ≤ n → 0 < length (fitting n (l ∷ ls))
fitting_some n l ls h = rw (le-leb room n h) (omega arith)

-- each has a byte
pub texts_many : (ls : List Placed) → length ls ≤ length (texts ls)
texts_many [] = omega arith
texts_many (l ∷ ls) = let m = texts_many ls in let k = length-append (text l.line) (texts ls) in omega (arith, text_some l.line, k, m)

-- where the first of some lines stands, if there is one
abbrev pub place_of_first : List Placed → Option ListingPlace
place_of_first [] = None
place_of_first (l ∷ ls) = Some l.place

pub first_is : (ls : List Placed) → unwrap_or (place_of_first ls) (place_of 0) ≡ first_place ls
first_is [] = refl
first_is (l ∷ ls) = refl

pub first_there : (n : ℕ) (ls : List Placed) → is_some (place_of_first (drop n ls)) ≡ ltb n (length ls)
first_there zero [] = sym (le-ltb 0 0 (omega arith))
first_there (suc n) [] = sym (le-ltb (suc n) 0 (omega arith))
first_there zero (l ∷ ls) = sym (lt-ltb 0 (suc (length ls)) (omega arith))
first_there (suc n) (l ∷ ls) = first_there n ls ∙ same_more n (length ls)
  where
    same_more : (a b : ℕ) → ltb a b ≡ ltb (suc a) (suc b)
    same_more a b = go (ltb a b) refl
      where
        go : (c : Bool) → ltb a b ≡ c → c ≡ ltb (suc a) (suc b)
        go true e = sym (lt-ltb (suc a) (suc b) (omega (arith, ltb-true a b e)))
        go false e = sym (le-ltb (suc a) (suc b) (omega (arith, ltb-false a b e)))

-- lines added to those that are there: those that fit
abbrev pub filled : ℕ → ℕ → List ℕ → List Placed → Part
filled n i t ls =
    let m = fitting (n - length t) ls in
    made (i + length m) (t ++ texts m) (place_of_first (drop (length m) ls))

pub adds_are : (n i : ℕ) (t : List ℕ) (ls : List Placed) → adds n (made i t None) ls ≡ filled n i t ls
adds_are n i t [] = let e : i + 0 ≡ i = omega arith in rw (e, append-nil t)
adds_are n i t (l ∷ ls) = go (leb (length t + room) n) refl (adds_are n (i + 1) (t ++ text l.line) ls)
  where
    go : (b : Bool) → leb (length t + room) n ≡ b → adds n (made (i + 1) (t ++ text l.line) None) ls ≡ filled n (i + 1) (t ++ text l.line) ls → adds n (add n (made i t None) l) ls ≡ filled n i t (l ∷ ls)
    go true e f =
        let h = leb-true (length t + room) n e in
        let k : leb room (n - length t) ≡ true = le-leb room (n - length t) (omega arith) in
        let d : n - length (t ++ text l.line) ≡ n - length t - length (text l.line) = omega (arith, length-append t (text l.line)) in
        let m = fitting (n - length t - length (text l.line)) ls in
        let j : i + 1 + length m ≡ i + suc (length m) = omega arith in
        ap (λ (p : Part). adds n p ls) (add_held n (made i t None) l refl h) ∙ f ∙ rw (d, k, j, append_assoc t (text l.line) (texts m))
    go false e f =
        let h = leb-false (length t + room) n e in
        let k : leb room (n - length t) ≡ false = lt-leb room (n - length t) (omega arith) in
        let z : i + 0 ≡ i = omega arith in
        ap (λ (p : Part). adds n p ls) (add_none n (made i t None) l refl h) ∙ adds_full n (made i t (Some l.place)) ls refl ∙ rw (k, z, append-nil t)
