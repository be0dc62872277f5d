-- `acts::start::start`: the size is right, or it is not.
-- Assumes nothing.
use Rattle.std.proofs.Common.{sym, ◌∙◌}
use Rattle.machine.specs.Machine.{start}
use Rattle.acts.proofs.start.start.Goals as goal

pub returns-then-fresh : goal.returns-then-fresh
unfolding start
returns-then-fresh c = let e = sym c.fresh.ensures.0 ∙ c.if-fresh.true in rw (c.fresh.ensures.1, e)

pub returns-else-fresh : goal.returns-else-fresh
unfolding start
returns-else-fresh c = let e = sym c.fresh.ensures.0 ∙ c.if-fresh.false in rw (c.fresh.ensures.1, e)
