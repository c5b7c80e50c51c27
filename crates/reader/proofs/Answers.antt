-- Laws of what holds of an answer's value.
use mathlib.Core.Bool.{Bool, true, false, cond}
use mathlib.Core.Path.{◌≡◌, refl}
use Rattle.std.specs.Prelude.{Result, ℕ}
use Rattle.std.specs.Result.{IsErrAnd}
use Rattle.std.proofs.lemmas.Result.{err_from_is_err_and}
use Rattle.reader.specs.Answer.{Answer, got, refused, and_then, Read, end_of, Holds}
use Rattle.reader.specs.Errors.{number_of}
use Rattle.reader.specs.Views.{view, view_read}
use Rattle.reader.specs.declared.error.Error.{Error}

-- of what follows a value of which Q holds
pub holds_then : {A B : Type 0} (Q : A → Type 0) (P : B → Type 0) (r : Answer A) (f : A → Answer B) → Holds Q r → ((a : A) → Q a → Holds P (f a)) → Holds P (and_then r f)
holds_then Q P (got a) f h k = k a h
holds_then Q P (refused n) f h k = tt

-- of either way of a test
pub cond_by : {A : Type 0} (P : A → Type 0) (b : Bool) (x y : A) → (b ≡ true → P x) → (b ≡ false → P y) → P (cond b x y)
cond_by P true x y f g = f refl
cond_by P false x y f g = g refl

-- of a value of which something stronger holds
pub holds_map : {A : Type 0} (P Q : A → Type 0) (r : Answer A) → ((a : A) → P a → Q a) → Holds P r → Holds Q r
holds_map P Q (got a) f h = f a h
holds_map P Q (refused n) f h = tt

-- the value that was got ends where its answer does
pub end_holds : {A : Type 0} (r : Answer (Read A)) → Holds (λ v. end_of r ≡ got v.next) r
end_holds (got v) = refl
end_holds (refused n) = tt

-- what follows what follows
pub then_then : {A B C : Type 0} (r : Answer A) (f : A → Answer B) (g : B → Answer C) → and_then (and_then r f) g ≡ and_then r (λ a. and_then (f a) g)
then_then (got a) f g = refl
then_then (refused n) f g = refl

-- the same follows where it does for what holds of the value
pub then_same : {A B : Type 0} (P : A → Type 0) (r : Answer A) (f g : A → Answer B) → Holds P r → ((a : A) → P a → f a ≡ g a) → and_then r f ≡ and_then r g
then_same P (got a) f g h k = k a h
then_same P (refused n) f g h k = refl

-- nothing follows
pub then_got : {A : Type 0} (r : Answer A) → and_then r (λ a. got a) ≡ r
then_got (got a) = refl
then_got (refused n) = refl

-- the exit of a `?`
pub refuses : {A : Type 0} (r : Result A Error) (e : Error) → IsErrAnd r (λ x. x ≡ e) → view r ≡ refused (number_of e)
refuses r e h = let p = err_from_is_err_and r h in rw (p.1, p.2)

pub refuses_read : {A : Type 0} (r : Result (A × ℕ) Error) (e : Error) → IsErrAnd r (λ x. x ≡ e) → view_read r ≡ refused (number_of e)
refuses_read r e h = let p = err_from_is_err_and r h in rw (p.1, p.2)
