-- `acts::reads::hold`: each way out is one law of Hold.
-- Assumes nothing.
use Rattle.std.proofs.Common.{arith}
use Rattle.acts.proofs.Homes.{home_used, home_free}
use Rattle.acts.proofs.Hold.{hold_3, unnumbered, hold_5, hold-taken}
use Rattle.acts.proofs.reads.hold.Goals as goal

pub returns-then-store-a : goal.returns-then-store-a
returns-then-store-a c = hold_3 _ _ _ _ _ c.requires c.if-store-a.true

pub returns-in_err-o : goal.returns-in_err-o
returns-in_err-o c = unnumbered _ _ _ _ _ c.requires (omega arith) (c.in_err-o.ensures.0) _ c.from_residual.ensures.1

pub returns-then-is_none : goal.returns-then-is_none
returns-then-is_none c =
    let k = c.in_ok-o.ensures in
    hold_5 _ _ _ _ _ c.requires (omega arith) (omega (arith, k, c.in_ok-o.o.low)) (home_free _ _ _ (rw (← k, ← c.home.ensures) c.if-is_none.ensures))

pub returns : goal.returns
returns c =
    let k = c.in_ok-o.ensures in
    hold-taken _ _ _ _ _ c.requires (omega arith) (omega (arith, k, c.in_ok-o.o.low)) (home_used _ _ _ (rw (← k, ← c.home.ensures) c.if-is_none.ensures)) _
    (rw k at c.holding_of.ensures)
