-- What a lane of either kind offers to its cursor: room for an entry, or an entry.
-- Assumes nothing.
use mathlib.Core.Path.{◌≡◌, ap}
use mathlib.Core.List.{List}
use Prim.Native.Nat.{ℕ, suc, ◌+◌, ◌*◌, ◌<◌, ◌≤◌}
use native.Mathlib.Nat.{mul-suc, mul-le-mul_left}
use native.Mathlib.Omega.{arith}
use lib.ListN.{length}
use Rattle.lanes.specs.Lane.{count}
use Rattle.cursors.specs.declared.Cursor.{Cursor}
use Rattle.cursors.specs.Cursor.{cursor_of, Entered, Roomy}
use Rattle.stretches.specs.Stretches.{LaneSized}

module _ {b w places : ℕ} (z : LaneSized b w places) (l : List ℕ) (long : length l ≡ b) (c : Cursor) (at : c ≡ cursor_of l) where
  counted : c.len ≡ count l
  counted = ap (λ (x : Cursor). x.len) at

  -- the places up to k lie on the lane
  pub reaches : (k : ℕ) → k ≤ places → 1 + w * k ≤ length l
  reaches k h = omega (arith, z.whole, long, mul-le-mul_left w h)

  pub roomy : count l < places → Roomy w c l
  roomy h = record {
    least = z.least;
    most = z.most;
    cursor = counted;
    room = omega (arith, reaches (suc c.len) (omega (arith, counted)), mul-suc w c.len);
    small = omega (arith, counted, z.few);
  }

  pub entered : 0 < count l → Entered w c l
  entered h = record {
    least = z.least;
    most = z.most;
    cursor = counted;
    entered = omega (arith, counted);
    long = omega (arith, reaches 1 z.some, mul-suc w 0);
  }
