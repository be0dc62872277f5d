-- `acts::ask::transit_below`: every port's transit is tested.
-- Assumes nothing.
use Rattle.std.proofs.Common.{rules}
use borrow.Author.Tests.{tests}
use Rattle.books.proofs.Ranges.{any_some}
use Rattle.acts.proofs.ask.transit_below.Goals as goal

pub returns : goal.returns
returns c = any_some _ _ _ c.any.ensures.ran (λ x b q k. search (rules, tests))
