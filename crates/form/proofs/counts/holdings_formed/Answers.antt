-- `counts::holdings_formed`: every port is tested.
-- Assumes nothing.
use Rattle.std.proofs.Common.{rules}
use borrow.Author.Tests.{tests}
use Rattle.form.specs.Check.{port_holdings}
use Rattle.books.proofs.Ranges.{all_every}
use Rattle.form.proofs.counts.holdings_formed.Goals as goal

pub returns : goal.returns
returns c = all_every (port_holdings _ _) _ _ c.all.ensures.ran (λ x b q k. search (rules, tests))
