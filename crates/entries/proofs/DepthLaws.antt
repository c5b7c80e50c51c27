-- Laws of depths: signed, and no further from 0 than a position.

use Prim.Native.Nat.{zero, suc, ◌+◌, ◌≤◌}
use native.Mathlib.Omega.{arith}
use lib.IntN.{ℤ, pos, negsuc, nat_abs, suc_ℤ, pred_ℤ, +ℤ_one, -ℤ_one, ◌+ℤ◌, ◌-ℤ◌}

abs_suc : (d : ℤ) → nat_abs (suc_ℤ d) ≤ nat_abs d + 1
abs_suc (pos n) = omega arith
abs_suc (negsuc zero) = omega arith
abs_suc (negsuc (suc n)) = omega arith

abs_pred : (d : ℤ) → nat_abs (pred_ℤ d) ≤ nat_abs d + 1
abs_pred (pos zero) = omega arith
abs_pred (pos (suc n)) = omega arith
abs_pred (negsuc n) = omega arith

-- one further from 0 at most
pub abs_up : (d : ℤ) → nat_abs (d +ℤ pos 1) ≤ nat_abs d + 1
abs_up d = rw (+ℤ_one d) (abs_suc d)

pub abs_down : (d : ℤ) → nat_abs (d -ℤ pos 1) ≤ nat_abs d + 1
abs_down d = rw (-ℤ_one d) (abs_pred d)
