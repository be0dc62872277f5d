-- A store on which the full check has passed has the right size.
-- Assumes nothing.
use mathlib.Core.List.{List}
use Prim.Native.Nat.{ℕ}
use Rattle.store.proofs.Formed.{formed_means}
use Rattle.stretches.specs.Stretches.{Lent}
use Rattle.acts.specs.Ready.{Ready}

pub lent : (n : ℕ) (s : List ℕ) → Ready n s → Lent n s
lent n s r = record { few = r.few; sized = (formed_means n s r.formed).sized }
