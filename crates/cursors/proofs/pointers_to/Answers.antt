-- `cursors::pointers_to`: a lane has so few entries that those which are o, counted one by one, fit.
-- Assumes nothing.
use Rattle.std.proofs.Common.{rules, arith, tests, cond, eqb, ◌^◌, ◌≤◌, length}
use Rattle.std.proofs.lemmas.Iterator.{YieldsList-from_slice, YieldsList-from_map}
use Rattle.std.proofs.lemmas.Iterator.Adapters.{fits_from_length, at_most_from_yields_List}
use Rattle.std.proofs.lemmas.Iterator.Consumers.{YieldsList-at, sum_by_from_yields_List}
use Rattle.lanes.specs.Lane.{pointer_places}
use Rattle.cursors.proofs.Bytes.{few}
use Rattle.cursors.proofs.pointers_to.Goals as goal

pub sum-requires-clause-fits : goal.sum-requires-clause-fits
sum-requires-clause-fits c =
    let l = c.iter.result.rest.now in
    let low : length l ≤ pointer_places = search rules in
    fits_from_length _ _ pointer_places (2 ^ 64) (at_most_from_yields_List (YieldsList-at c.map.ensures.source (YieldsList-from_slice l cc)) low) c.map.ensures.closure (omega arith) (λ x r q k. search (rules, tests))

pub returns-clause-most : goal.returns-clause-most
returns-clause-most c =
    let l = c.iter.result.rest.now in
    let low : length l ≤ pointer_places = search rules in
    rw (sum_by_from_yields_List _ l c.map.result _ c.sum.ensures.ran (YieldsList-from_map _ (λ x. cond (eqb x c.args.o) 1 0) (YieldsList-at c.map.ensures.source (YieldsList-from_slice l cc)) c.map.ensures.closure (λ x r q k. search (rules, tests)))) (few c.args.o pointer_places l low)
