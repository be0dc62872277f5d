-- `stretches::reads::Store::part`: the part that is lent is the stretch.
-- Assumes nothing.
use Rattle.std.proofs.Common.{sym, ◌∙◌}
use Rattle.stretches.proofs.Places.{part_is}
use Rattle.stretches.proofs.reads.Store.part.Goals as goal

pub returns-clause-bytes : goal.returns-clause-bytes
returns-clause-bytes g c = part_is c.place-at.ensures c.args.self.bytes.now (g.met.S.Stretch.bytes _ _ ∙ sym c.BYTES.ensures)
