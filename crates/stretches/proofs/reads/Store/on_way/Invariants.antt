-- `stretches::reads::Store::on_way`: the pointers on the lanes so far.
-- Assumes nothing.
use Rattle.std.proofs.Common.{◌≡◌, ℕ, ◌*◌, ◌≤◌}
use Rattle.books.specs.Numbers.{sum_to}
use Rattle.lanes.specs.Lane.{pointer_places, pointers_to}
use Rattle.store.specs.Layout.{pointers, read}
use Rattle.stretches.proofs.reads.Store.on_way.Given as goal

abbrev pub invariant-loop-a : goal.invariant-loop-a
invariant-loop-a l = (l.t ≤ pointer_places * l.a) × (l.t ≡ sum_to l.a (λ (i : ℕ). pointers_to l.o (read l.self.ports (pointers i l.p) l.self.bytes.now)))
