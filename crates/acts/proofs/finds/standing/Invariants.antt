-- `finds::standing`: no port so far stands against retiring.
-- Assumes nothing.
use Rattle.std.proofs.Common.{ℕ, ◌≡◌, ◌<◌, false, None}
use Rattle.acts.proofs.Found.{stands}
use Rattle.acts.proofs.finds.standing.Given as goal

abbrev pub invariant-loop-p : goal.invariant-loop-p
invariant-loop-p l = (l.found ≡ None) × ((i : ℕ) → i < l.p → stands l.store.ports l.o.number l.store.bytes.now l.home i ≡ false)
