-- `acts::settle::entries_from`: the entries of the lanes so far.
-- Assumes nothing.
use Rattle.std.proofs.Common.{◌≡◌, ℕ, ◌*◌, ◌≤◌}
use Rattle.books.specs.Numbers.{sum_to}
use Rattle.lanes.specs.Lane.{count}
use Rattle.store.specs.Layout.{read}
use Rattle.acts.proofs.settle.entries_from.Given as goal

abbrev pub invariant-loop-b : goal.invariant-loop-b
invariant-loop-b g l =
    (l.t ≤ 255 * l.b) × (l.t ≡ sum_to l.b (λ (b : ℕ). count (read l.store.ports (g.L.Stretch.stretch (g.L.Lane.between l.a b)) l.store.bytes.now)))
