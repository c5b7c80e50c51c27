use Rattle.std.proofs.Common.{◌≡◌, ℕ, ◌+◌, ◌≤◌, List, ◌++◌, rules, length, take, le_refl, drop_at, length-take-le}
use Rattle.std.proofs.Math.Seq.{take-add, take-append-le}
use Rattle.std.proofs.lemmas.Slice.{take-put_mid_below}
use Rattle.std.proofs.KnownBytes.{Consumes-trans}
use borrow.Rule.Slice.PartMut.{put_mid}
use Rattle.replay.proofs.read_full.Goals as goal

-- a read of n bytes into the part from a on leaves them behind what stood before it
read_behind : (a k n : ℕ) (xs ys : List ℕ) → a ≤ length xs → n ≤ length ys → take (a + n) (put_mid a k xs ys) ≡ take a xs ++ take n ys
read_behind a k n xs ys within fits =
    rw (take-add, take-put_mid_below _ _ _ _ _ (le_refl a) within, drop_at _ _ _ (length-take-le a xs within), take-append-le _ _ _ fits)

pub loop-done-preserved : goal.loop-done-preserved
loop-done-preserved g c = search (rules, read_behind, Consumes-trans)
