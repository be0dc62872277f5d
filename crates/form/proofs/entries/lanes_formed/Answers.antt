-- `entries::lanes_formed`: the row of every port is tested.
-- Assumes nothing.
use Rattle.std.proofs.Common.{rules}
use borrow.Author.Tests.{tests}
use Rattle.form.specs.Check.{row_formed}
use Rattle.books.proofs.Ranges.{all_every}
use Rattle.form.proofs.entries.lanes_formed.Goals as goal

pub returns : goal.returns
returns g c =
    let s = c.args.store in
    all_every (row_formed g.L.Lane.WIDTH g.L.Lane.PLACES (λ a b. g.L.Stretch.stretch (g.L.Lane.between a b)) g.L.Entries.right s.ports s.bytes.now)
    _ _ c.all.ensures.ran (λ x b q k. search (rules, tests))
