-- `start::write_words`: words up to the place that is next.
-- Assumes nothing.
use Rattle.std.proofs.Common.{◌≡◌, ◌++◌, ◌*◌, drop}
use Rattle.store.specs.Store.{words}
use Rattle.form.proofs.start.write_words.Given as goal

abbrev pub invariant-loop-i : goal.invariant-loop-i
invariant-loop-i l = l.s ≡ words l.i l.k ++ drop (2 * l.i) l.initial.s
