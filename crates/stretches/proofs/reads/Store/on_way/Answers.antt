-- `stretches::reads::Store::on_way`: one lane more; and in the end all of them.
-- Assumes nothing.
use Rattle.std.proofs.Common.{◌≡◌, refl, arith}
use Rattle.books.specs.Numbers.{sum_to}
use Rattle.books.proofs.Numbers.{sum_more}
use Rattle.store.specs.Store.{on_way}
use Rattle.stretches.proofs.reads.Store.on_way.Goals as goal

pub loop-a-init : goal.loop-a-init
unfolding sum_to
loop-a-init c = (omega arith, refl)

pub loop-a-preserved : goal.loop-a-preserved
loop-a-preserved c =
    (omega (arith, c.on_lane-t.ensures.most), rw (sum_more _ c.loop-a.a, ← c.loop-a.invariant.1, ← c.on_lane-t.ensures.count))

pub returns-clause-count : goal.returns-clause-count
unfolding on_way
returns-clause-count c = let e : c.loop-a.a ≡ c.args.self.ports = omega arith in rw e at c.loop-a.invariant.1
