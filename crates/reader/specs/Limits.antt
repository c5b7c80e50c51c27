-- Document 01's limits of LEB128 numbers, by counts of bytes.
use Rattle.std.specs.Prelude.{Bool, cond, ◌||◌, List, ℕ, ◌-◌, ltb, take, get_or}
use Rattle.reader.specs.Answer.{Answer, refused, and_then, Read, gives}
use Rattle.reader.specs.Leb128.{extent}

-- at most m bytes, of which an m-th is one that `top` allows; else n
unfoldable pub limited : {A : Type 0} → ℕ → ℕ → (List ℕ → A) → (ℕ → Bool) → List ℕ → Answer (Read A)
limited m n worth top s =
    and_then (extent m n s) (λ k. cond (ltb k m || top (get_or s (k - 1) 0)) (gives (worth (take k s)) k) (refused n))
