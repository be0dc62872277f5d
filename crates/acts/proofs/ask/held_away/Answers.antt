-- `acts::ask::held_away`: every port's heard holding is tested.
-- Assumes nothing.
use Rattle.std.proofs.Common.{rules}
use borrow.Author.Tests.{tests}
use Rattle.books.proofs.Ranges.{any_some}
use Rattle.acts.proofs.ask.held_away.Goals as goal

pub returns : goal.returns
returns c = any_some _ _ _ c.any.ensures.ran (λ x b q k. search (rules, tests))
