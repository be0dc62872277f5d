-- `acts::ask::ask`: each way out is one law of Asked.
-- Assumes nothing.
use Rattle.std.proofs.Common.{◌∙◌, arith}
use Rattle.acts.proofs.Homes.{home_used, home_free}
use Rattle.acts.proofs.Asked.{as_number, unnumbered, ask_5, ask-taken}
use Rattle.acts.proofs.ask.ask.Goals as goal

pub returns-in_err-o : goal.returns-in_err-o
returns-in_err-o c = unnumbered _ _ _ _ _ c.requires (c.in_err-o.ensures.0) _ c.from_residual.ensures.1

pub returns-then-is_none : goal.returns-then-is_none
returns-then-is_none c =
    let k = c.in_ok-o.ensures in
    ask_5 _ _ _ _ _ c.requires (omega (arith, k, c.in_ok-o.o.low)) (home_free _ _ _ (rw (← k, ← c.home.ensures) c.if-is_none.ensures))

pub returns : goal.returns
returns c =
    let k = c.in_ok-o.ensures in
    ask-taken _ _ _ _ _ c.requires (omega (arith, k, c.in_ok-o.o.low)) (home_used _ _ _ (rw (← k, ← c.home.ensures) c.if-is_none.ensures)) _
    (as_number _ ∙ rw k at c.verdict_on.ensures)
