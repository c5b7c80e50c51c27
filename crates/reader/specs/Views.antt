-- The readers' results as `Answer`s: a value, or 01's number of a refusal.
use Rattle.std.specs.Prelude.{ℕ, Result, Ok, Err}
use Rattle.reader.specs.Answer.{Answer, got, refused, Read, gives}
use Rattle.reader.specs.Errors.{number_of}
use Rattle.reader.specs.declared.error.Error.{Error}

-- a result by what its value is seen as
abbrev pub view_by : {A B : Type 0} → (A → B) → Result A Error → Answer B
view_by f (Ok x) = got (f x)
view_by f (Err e) = refused (number_of e)

abbrev pub view : {A : Type 0} → Result A Error → Answer A
view (Ok x) = got x
view (Err e) = refused (number_of e)

-- a value with the next place
abbrev pub view_read_by : {A B : Type 0} → (A → B) → Result (A × ℕ) Error → Answer (Read B)
view_read_by f (Ok x) = gives (f x.0) x.1
view_read_by f (Err e) = refused (number_of e)

abbrev pub view_read : {A : Type 0} → Result (A × ℕ) Error → Answer (Read A)
view_read (Ok x) = gives x.0 x.1
view_read (Err e) = refused (number_of e)
