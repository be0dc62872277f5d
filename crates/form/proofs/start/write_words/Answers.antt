-- `start::write_words`: one word more.
-- Assumes nothing.
use Rattle.std.proofs.Common.{arith, refl}
use Rattle.form.proofs.Started.{words_turn}
use Rattle.form.proofs.start.write_words.Goals as goal

pub loop-i-preserved : goal.loop-i-preserved
loop-i-preserved c = words_turn c.args.k _ _ c.loop-i.i _ _ (rw c.to_le_bytes.ensures refl) (rw c.to_le_bytes.ensures (omega arith)) c.loop-i.invariant (omega arith)
