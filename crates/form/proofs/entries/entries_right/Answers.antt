-- `entries::entries_right`: every entry is tested; the part lent is that entry.
-- Assumes nothing.
use Rattle.std.proofs.Common.{rules}
use borrow.Author.Tests.{tests}
use Rattle.lanes.specs.Lane.{entry}
use Rattle.store.specs.Layout.{objects, read}
use Rattle.books.proofs.Ranges.{all_every}
use Rattle.form.proofs.entries.entries_right.Goals as goal

pub returns : goal.returns
returns g c =
    let s = c.args.store in
    all_every (λ i. g.L.Entries.right s.ports (read s.ports objects s.bytes.now) c.args.a c.args.b (entry g.L.Lane.WIDTH i c.args.lane.now)) _ _ c.all.ensures.ran (λ x b q k. search (rules, tests))
