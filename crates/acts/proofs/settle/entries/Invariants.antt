-- `acts::settle::entries`: the entries of the lanes from the ports so far.
-- Assumes nothing.
use Rattle.std.proofs.Common.{◌≡◌, ℕ, ◌*◌, ◌≤◌}
use Rattle.books.specs.Numbers.{sum_to}
use Rattle.lanes.specs.Lane.{count}
use Rattle.store.specs.Layout.{read}
use Rattle.acts.proofs.settle.entries.Given as goal

abbrev pub invariant-loop-a : goal.invariant-loop-a
invariant-loop-a g l =
    (l.t ≤ 255 * 16 * l.a)
    × (l.t ≡ sum_to l.a (λ (a : ℕ). sum_to l.store.ports (λ (b : ℕ). count (read l.store.ports (g.L.Stretch.stretch (g.L.Lane.between a b)) l.store.bytes.now))))
