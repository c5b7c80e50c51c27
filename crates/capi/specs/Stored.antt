-- What the functions that store words promise.
use Rattle.std.specs.Prelude.{List, ◌++◌, ◌≡◌, ℕ, ◌-◌, length, take, replicate}
use Rattle.entries.specs.declared.raw.EntriesRaw.{EntriesRaw}
use Rattle.capi.specs.Calls.{Stepped, stepped_words}
use Rattle.capi.specs.Words.{Put}
use Rattle.capi.specs.declared.out.Words.{Words}

-- no words yet
pub record Begun (before : List ℕ) (a : Words) : Type 0 where
  pub holds : a.out.now ≡ before
  pub none : a.end ≡ 0

-- zeros behind the words, and the status of an answer that has words
pub record Finished (a : Words) (after : List ℕ) (r : ℕ) : Type 0 where
  pub status : r ≡ 0
  pub words : after ≡ take a.end a.out.now ++ replicate (length a.out.now - a.end) 0

-- more words in the same slice, as far as there is room
pub record Stored (a b : Words) (ws : List ℕ) : Type 0 where
  pub lent : b.out.ghost_name ≡ a.out.ghost_name
  pub same : length b.out.now ≡ length a.out.now
  pub put : Put a.out.now b.out.now a.end b.end ws

-- a call's words are stored, and its state is handed back
pub record StepAs (x : Stepped) (a b : Words) (r : EntriesRaw) : Type 0 where
  pub stored : Stored a b (stepped_words x)
  pub raw_is : r ≡ x.raw
