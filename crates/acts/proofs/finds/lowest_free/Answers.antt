-- `finds::lowest_free`: the first object byte that is 0, or none.
-- Assumes nothing.
use Rattle.std.proofs.Common.{rules}
use Rattle.std.proofs.lemmas.Iterator.{YieldsList-from_slice, IsFirst-from_position}
use borrow.Author.Tests.{tests}
use Rattle.acts.proofs.Found.{Free, Used, lowest_free_is}
use Rattle.acts.proofs.finds.lowest_free.Goals as goal

pub returns-in_err-number : goal.returns-in_err-number
returns-in_err-number c =
    let b = c.part.ensures in
    let f = IsFirst-from_position _ _ c.position.result Free Used c.position.ensures.ran (YieldsList-from_slice _ c.iter.ensures.rest)
    (λ x q k. search (rules, tests)) (λ x q k. search (rules, tests)) in
    rw c.from_residual.ensures (rw c.in_err-number.was at (lowest_free_is _ _ _ b.bytes b.long _ f))

pub returns : goal.returns
returns c =
    let b = c.part.ensures in
    let f = IsFirst-from_position _ _ c.position.result Free Used c.position.ensures.ran (YieldsList-from_slice _ c.iter.ensures.rest)
    (λ x q k. search (rules, tests)) (λ x q k. search (rules, tests)) in
    rw c.in_ok-number.was at (lowest_free_is _ _ _ b.bytes b.long _ f)
