-- `counts::transits_formed`: every port is tested.
-- Assumes nothing.
use Rattle.std.proofs.Common.{rules}
use borrow.Author.Tests.{tests}
use Rattle.form.specs.Check.{port_transits}
use Rattle.books.proofs.Ranges.{all_every}
use Rattle.form.proofs.counts.transits_formed.Goals as goal

pub returns : goal.returns
returns c = all_every (port_transits _ _) _ _ c.all.ensures.ran (λ x b q k. search (rules, tests))
