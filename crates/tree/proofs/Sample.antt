-- Computed tests of the definitions, on small trees and on states that no root gives.
use mathlib.Core.Path.{◌≡◌, refl}
use mathlib.Core.Bool.{Bool, true, false, false≢true}
use mathlib.Core.Option.{Option, none, some, none-ne-some, some-injective}
use mathlib.Core.List.{List, [], ◌∷◌, map}
use Prim.Native.Nat.{ℕ, zero, suc, ◌+◌, ◌<◌}
use native.Mathlib.Omega.{arith}
use lib.IntN.{ℤ, pos, negsuc}
use Rattle.reader.specs.Answer.{Answer, got, refused}
use Rattle.tree.specs.Walk.{Item, children_of, Jumps, Reply, next_item, passed, next_at, move, walk, replies, walk_says}
use Rattle.tree.proofs.Program.{Reads, Fits, Fair, items, flat, State, hold, fetched, fetch, seek, climb, tree, root, tree_says, left}
use Rattle.tree.proofs.Agree.{agree}

-- ---- trees in which an item is a byte

abbrev parent : Option ℕ → ℕ → ℤ → Item ℕ
parent j a d = record { at = a; next = suc a; depth = d; null = false; children = true; jump = j; body = a }

abbrev leaf : ℕ → ℤ → Item ℕ
leaf a d = record { at = a; next = suc a; depth = d; null = false; children = false; jump = none; body = a }

abbrev null : ℕ → ℤ → Item ℕ
null a d = record { at = a; next = suc a; depth = d; null = true; children = false; jump = none; body = a }

-- the item at an offset of a table; beyond it a read is refused
abbrev pick : List (ℕ → ℤ → Item ℕ) → ℕ → ℕ → ℤ → Answer (Item ℕ)
pick [] n a d = refused 7
pick (f ∷ t) zero a d = got (f a d)
pick (f ∷ t) (suc n) a d = pick t n a d

abbrev reads : ℕ → List (ℕ → ℤ → Item ℕ) → Reads ℕ
reads fin t = record { fin = fin; read = λ a d. pick t a a d; leaves = λ a d. d; blank = λ a d. 50 + a }

-- an answer in short: an entry's offset, 100 for "no more", 1000 and more for a refusal
abbrev short : Reply ℕ → ℕ
short (got none) = 100
short (got (some i)) = i.at
short (refused n) = 1000 + n

abbrev said : Answer (List (Reply ℕ)) → List ℕ
said (got rs) = map short rs
said (refused n) = []

-- ---- root { A { B } C } with a jump at A, and a leaf behind the root

abbrev one : Reads ℕ
one = reads 7 (parent none ∷ parent (some 4) ∷ leaf ∷ null ∷ leaf ∷ null ∷ leaf ∷ [])

abbrev under_one : List (Item ℕ)
under_one = parent (some 4) 1 (pos 1) ∷ leaf 2 (pos 2) ∷ null 3 (pos 2) ∷ leaf 4 (pos 1) ∷ null 5 (pos 1) ∷ []

one_flat : flat one 0 ≡ got (parent none 0 (pos 0) ∷ under_one)
unfolding flat items
one_flat = refl

one_children : children_of (parent none 0 (pos 0)) under_one ≡ parent (some 4) 1 (pos 1) ∷ leaf 4 (pos 1) ∷ []
one_children = refl

abbrev calls : List ℤ
calls = pos 1 ∷ pos 2 ∷ pos 3 ∷ pos 4 ∷ pos 2 ∷ pos 2 ∷ pos 1 ∷ pos 2 ∷ pos 1 ∷ pos 1 ∷ pos 2 ∷ pos 0 ∷ negsuc 4 ∷ []

one_walk : map short (walk_says (parent none 0 (pos 0) ∷ under_one) calls) ≡ 0 ∷ 1 ∷ 2 ∷ 100 ∷ 1021 ∷ 100 ∷ 100 ∷ 4 ∷ 100 ∷ 100 ∷ 100 ∷ 100 ∷ 1021 ∷ 1021 ∷ []
unfolding walk_says walk move next_at next_item passed
one_walk = refl

one_tree : said (tree_says one 0 calls) ≡ 0 ∷ 1 ∷ 2 ∷ 100 ∷ 1021 ∷ 100 ∷ 100 ∷ 4 ∷ 100 ∷ 100 ∷ 100 ∷ 100 ∷ 1021 ∷ 1021 ∷ []
unfolding tree_says root tree climb seek fetch fetched
one_tree = refl

-- ---- cut off at the end: root { A { B { C

abbrev cut : Option ℕ → List (Item ℕ)
cut j = parent none 0 (pos 0) ∷ parent j 1 (pos 1) ∷ parent none 2 (pos 2) ∷ leaf 3 (pos 3) ∷ []

abbrev ask : List ℤ
ask = pos 1 ∷ pos 1 ∷ pos 2 ∷ pos 3 ∷ pos 4 ∷ pos 5 ∷ []

-- what the jump of A skips is not passed: from then on d is 1
cut_jump : map short (walk_says (cut (some 4)) ask) ≡ 0 ∷ 1 ∷ 100 ∷ 100 ∷ 1021 ∷ 1021 ∷ 1021 ∷ []
unfolding walk_says walk move next_at next_item passed
cut_jump = refl

-- without it C is passed: d is 3
cut_plain : map short (walk_says (cut none) ask) ≡ 0 ∷ 1 ∷ 100 ∷ 100 ∷ 100 ∷ 100 ∷ 1021 ∷ []
unfolding walk_says walk move next_at next_item passed
cut_plain = refl

-- ---- roots and states

null_root : root (reads 1 (null ∷ [])) 0 ≡ refused 20
unfolding root
null_root = refl

abbrev rootless : State ℕ
rootless = record { rooted = false; at = 1; depth = pos 1; held = parent none 0 (pos 0) }

no_root : tree one (pos 1) rootless ≡ (refused 21, rootless)
unfolding tree
no_root = refl

-- a held depth below 0 leaves no level
below : map short (replies (tree one) (pos 1 ∷ pos 0 ∷ negsuc 0 ∷ []) (record { rooted = true; at = 1; depth = pos 1; held = leaf 0 (negsuc 0) })) ≡ 1021 ∷ 1021 ∷ 1021 ∷ []
unfolding tree
below = refl

-- root { A, and then the end: the null keeps A's offset and depth
stopped : left (tree (reads 2 (parent none ∷ parent none ∷ []))) (pos 1 ∷ pos 1 ∷ []) (hold (parent none 0 (pos 0)))
    ≡ record { rooted = true; at = 2; depth = pos 2; held = record { at = 1; next = 2; depth = pos 1; null = true; children = false; jump = none; body = 51 } }
unfolding tree climb seek fetch fetched
stopped = refl

-- root { A, and then a refusal: the null has the offset and the depth of the refused entry
halted : left (tree (reads 9 (parent none ∷ parent none ∷ []))) (pos 1 ∷ pos 1 ∷ []) (hold (parent none 0 (pos 0)))
    ≡ record { rooted = true; at = 9; depth = pos 2; held = record { at = 2; next = 9; depth = pos 2; null = true; children = false; jump = none; body = 52 } }
unfolding tree climb seek fetch fetched
halted = refl

-- ---- the suppositions of `agree` hold of the first tree

fair_row : (a : ℕ) (d : ℤ) (n c : Bool) → (n ≡ true → c ≡ false) → a < 7 → Fits 7 a d (record { at = a; next = suc a; depth = d; null = n; children = c; jump = none; body = a })
fair_row a d n c b p =
    record { at_is = refl; depth_is = refl; onward = omega arith; inside = omega arith; bare = b; offered = λ t e. absurd (none-ne-some t e) }

fair_jump : (d : ℤ) → Fits 7 1 d (parent (some 4) 1 d)
fair_jump d =
    record {
      at_is = refl;
      depth_is = refl;
      onward = omega arith;
      inside = omega arith;
      bare = λ e. absurd (false≢true e);
      offered = λ t e. let z = some-injective 4 t e in (refl, omega arith, omega arith);
    }

one_fair : Fair one
one_fair zero d = fair_row 0 d false true (λ z. absurd (false≢true z)) (omega arith)
one_fair (suc zero) d = fair_jump d
one_fair (suc (suc zero)) d = fair_row 2 d false false (λ z. refl) (omega arith)
one_fair (suc (suc (suc zero))) d = fair_row 3 d true false (λ z. refl) (omega arith)
one_fair (suc (suc (suc (suc zero)))) d = fair_row 4 d false false (λ z. refl) (omega arith)
one_fair (suc (suc (suc (suc (suc zero))))) d = fair_row 5 d true false (λ z. refl) (omega arith)
one_fair (suc (suc (suc (suc (suc (suc zero)))))) d = fair_row 6 d false false (λ z. refl) (omega arith)
one_fair (suc (suc (suc (suc (suc (suc (suc a))))))) d = tt

one_jumps : Jumps (parent none 0 (pos 0) ∷ under_one)
one_jumps =
    ((λ t e. absurd (none-ne-some t e)), ((λ t e. let z = some-injective 4 t e in omega arith), ((λ t e. tt), ((λ t e. tt), ((λ t e. tt), ((λ t e. tt), tt))))))

one_agree : (ks : List ℤ) → tree_says one 0 ks ≡ got (walk_says (parent none 0 (pos 0) ∷ under_one) ks)
one_agree = agree one one_fair 0 (parent none 0 (pos 0) ∷ under_one) one_flat one_jumps
