-- `acts::events::hears`: the transit first, then the holding.
-- Assumes nothing.
use Rattle.std.proofs.Common.{◌∙◌}
use Rattle.acts.proofs.Heard.{still_holding, heard_is}
use Rattle.acts.proofs.events.hears.Goals as goal

pub change_holding-requires-clause-fits : goal.change_holding-requires-clause-fits
change_holding-requires-clause-fits c = let w = c.change_transit.ensures in rw w.ports (still_holding _ _ _ c.requires _ w.bytes)

pub returns : goal.returns
returns c =
    let w = c.change_transit.ensures in
    let v = c.change_holding.ensures in
    record { loan = v.loan ∙ w.loan; ports = v.ports ∙ w.ports; bytes = heard_is _ _ _ c.requires _ w.bytes _ (rw w.ports at v.bytes) }
