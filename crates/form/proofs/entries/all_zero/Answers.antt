-- `entries::all_zero`: the bits of all bytes are joined.
-- Assumes nothing.
use Rattle.std.proofs.Common.{rules}
use Rattle.std.specs.Prelude.{bit_or}
use Rattle.std.proofs.lemmas.Iterator.{YieldsList-from_slice}
use Rattle.std.proofs.lemmas.Iterator.Consumers.{fold_from_yields_List}
use Rattle.form.proofs.CheckedLanes.{joined}
use Rattle.form.proofs.entries.all_zero.Goals as goal

pub returns : goal.returns
returns c =
    let l = c.args.l.now in
    let r = fold_from_yields_List _ bit_or 0 c.fold.result c.fold.ensures.ran (YieldsList-from_slice l cc) (λ a x b q k. search rules) in
    rw r (joined l 0)
