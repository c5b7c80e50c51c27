-- Laws of the specifications of an abbreviation.
use mathlib.Core.Path.{◌≡◌, refl, ◌∙◌}
use mathlib.Core.List.{List, [], ◌∷◌, ◌++◌, append_assoc, append-nil}
use Prim.Native.Nat.{ℕ, zero, suc, ◌+◌, ◌-◌, ◌≤◌, ◌<◌}
use native.Mathlib.Omega.{arith}
use borrow.Author.Tests.{eq-eqb, ne_eqb}
use lib.ListN.{length, length-append}
use Rattle.reader.specs.Answer.{Answer, got, refused, and_then, Read, gives}
use Rattle.abbrev.specs.Rows.{spec_words}
use Rattle.abbrev.specs.Steps.{After, Took}
use Rattle.abbrev.specs.Table.{Specification, entry_limit, with_specification, pair_at, constant_at, specifications_at}
use Rattle.abbrev.specs.declared.table.Pair.{Pair}

-- the specifications by their first pair
module _ (s : List ℕ) (over p : ℕ) where
  pub unread : (m k : ℕ) → pair_at s p ≡ refused k → specifications_at s over m p ≡ refused k
  unfolding specifications_at
  unread zero k e = rw e
  unread (suc m) k e = rw e

  module _ (x : Pair) (q : ℕ) (e : pair_at s p ≡ gives x q) where
    closed : (m : ℕ) → x.form ≡ 0 → specifications_at s over m p ≡ gives [] q
    unfolding specifications_at
    closed zero z = rw (e, eq-eqb x.form 0 z)
    closed (suc m) z = rw (e, eq-eqb x.form 0 z)

    module _ (f : x.form ≡ 0 → ⊥) where
      pub full : (m : ℕ) → m ≡ 0 → specifications_at s over m p ≡ refused over
      unfolding specifications_at
      full m z = rw (z, e, ne_eqb x.form 0 f)

      module _ (most n : ℕ) (h : n < most) where
        more : most - n ≡ suc (most - (n + 1))
        more = omega arith

        pub valueless : (b : ℕ) → constant_at s q x.form ≡ refused b → specifications_at s over (most - n) p ≡ refused b
        unfolding specifications_at
        valueless b g = rw (more, e, ne_eqb x.form 0 f, g)

        one : (v r : ℕ) → constant_at s q x.form ≡ gives v r
            → specifications_at s over (most - n) p ≡ with_specification (record { name = x.name; form = x.form; constant = v }) (specifications_at s over (most - (n + 1)) r)
        unfolding specifications_at
        one v r g = rw (more, e, ne_eqb x.form 0 f, g)

-- xs, and what the rest is
abbrev before : List Specification → Answer (Read (List Specification)) → Answer (Read (List Specification))
before xs r = and_then r (λ y. gives (xs ++ y.value) y.next)

before_more : (xs : List Specification) (x : Specification) (r : Answer (Read (List Specification))) → before xs (with_specification x r) ≡ before (xs ++ (x ∷ [])) r
before_more xs x (got y) = rw (append_assoc xs (x ∷ []) y.value)
before_more xs x (refused k) = refl

pub words_append : (xs ys : List Specification) → spec_words (xs ++ ys) ≡ spec_words xs ++ spec_words ys
words_append [] ys = refl
words_append (x ∷ xs) ys = rw (words_append xs ys)

-- n were read up to p, and lie in l'
pub record Taken (s : List ℕ) (at first : ℕ) (l : List ℕ) (n p : ℕ) (l' : List ℕ) : Type 0 where
  pub xs : List Specification
  pub len : length xs ≡ n
  pub most : n ≤ entry_limit.most
  pub same : length l' ≡ length l
  pub is : specifications_at s entry_limit.over entry_limit.most at ≡ before xs (specifications_at s entry_limit.over (entry_limit.most - n) p)
  pub kept : After 3 first l (spec_words xs) (first + n) l'

module _ {s : List ℕ} {at first : ℕ} {l : List ℕ} {n p : ℕ} {l' : List ℕ} (t : Taken s at first l n p l') where
  pub ended : {x : Pair} {q : ℕ} → pair_at s p ≡ gives x q → x.form ≡ 0 → Took s at first l l' n q
  ended {x} {q} e z = record { xs = t.xs; len = t.len; is = rw (t.is, closed s entry_limit.over p x q e (entry_limit.most - n) z, append-nil); kept = t.kept }

  pub further : {x : Pair} {q c r : ℕ} {m : List ℕ} → n < entry_limit.most → pair_at s p ≡ gives x q → (x.form ≡ 0 → ⊥) → constant_at s q x.form ≡ gives c r
      → length m ≡ length l' → After 3 (first + n) l' (x.name ∷ x.form ∷ c ∷ []) (first + n + 1) m
      → Taken s at first l (n + 1) r m
  further {x} {q} {c} {r} h e z g w a =
      let f : first + (n + 1) ≡ first + n + 1 = omega arith in
      let y : Specification = record { name = x.name; form = x.form; constant = c } in
      record {
        xs = t.xs ++ (y ∷ []);
        len = rw (length-append, t.len);
        most = omega arith;
        same = w ∙ t.same;
        is = rw (t.is, one s entry_limit.over p x q e z entry_limit.most n h c r g) (before_more t.xs y (specifications_at s entry_limit.over (entry_limit.most - (n + 1)) r));
        kept = λ r. rw (f, a (omega (arith, t.same)), t.kept (omega arith), append_assoc, words_append);
      }

-- a refusal of one specification
pub ruleset refused_steps = (unread, full, valueless)
