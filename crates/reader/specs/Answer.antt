-- Answers of every layer: a value, or the number of a refusal.
use Rattle.std.proofs.Math.Option.{Option, none, some}
use Rattle.std.specs.Prelude.{ℕ, ◌+◌}

-- a value, or the number of the question of document 01, "Questions at the counter", that was answered no
pub data Answer (A : Type 0) : Type 0 where
  got : A → Answer A
  refused : ℕ → Answer A

-- what follows a value; a refusal is the answer
abbrev pub and_then : {A B : Type 0} → Answer A → (A → Answer B) → Answer B
and_then (got a) f = f a
and_then (refused n) f = refused n

-- the answer, or another one for a refusal
abbrev pub or_else : {A : Type 0} → Answer A → Answer A → Answer A
or_else (got a) b = got a
or_else (refused n) b = b

-- what follows where there is something, else b
abbrev pub if_some : {A B : Type 0} → Option A → B → (A → B) → B
if_some none b f = b
if_some (some a) b f = f a

-- a value that was read, and the place after its last byte
pub record Read (A : Type 0) : Type 0 where
  pub value : A
  pub next : ℕ

abbrev pub gives : {A : Type 0} → A → ℕ → Answer (Read A)
gives v p = got (record { value = v; next = p })

-- what stands at the start of some bytes, where those start at a place
abbrev pub placed : {A : Type 0} → ℕ → Answer (Read A) → Answer (Read A)
placed at r = and_then r (λ x. gives x.value (at + x.next))

-- where a value ends
abbrev pub end_of : {A : Type 0} → Answer (Read A) → Answer ℕ
end_of r = and_then r (λ v. got v.next)

-- what holds of the value, where there is one
abbrev pub Holds : {A : Type 0} → (A → Type 0) → Answer A → Type 0
Holds P (got a) = P a
Holds P (refused n) = Unit {0}
