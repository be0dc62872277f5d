-- START leaves the store from which a run of acts begins.
-- Assumes nothing.
use mathlib.Core.Path.{◌≡◌}
use mathlib.Core.List.{List, []}
use Prim.Native.Nat.{ℕ}
use lib.ListN.{length}
use borrow.Author.Tests.{eq-eqb}
use Rattle.store.specs.Layout.{size}
use Rattle.machine.specs.Machine.{start}
use Rattle.demands.specs.History.{run}

pub started : (n : ℕ) (s : List ℕ) → length s ≡ size n → (start n s).bytes ≡ run n []
unfolding start run
started n s h = rw (eq-eqb (length s) (size n) h)
