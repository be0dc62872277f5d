-- `acts::events::happens`: the true holding first, then it is told.
-- Assumes nothing.
use Rattle.std.proofs.Common.{◌∙◌}
use Rattle.acts.proofs.Telling.{then_tellable, happens_is}
use Rattle.acts.proofs.events.happens.Goals as goal

pub tells-requires : goal.tells-requires
tells-requires c = let w = c.change_holding.ensures in rw w.ports (then_tellable _ _ _ c.requires _ w.bytes)

pub returns : goal.returns
returns c =
    let w = c.change_holding.ensures in
    let v = c.tells.ensures in
    record { loan = v.loan ∙ w.loan; ports = v.ports ∙ w.ports; bytes = happens_is _ _ _ _ w.bytes _ (rw w.ports at v.bytes) }
