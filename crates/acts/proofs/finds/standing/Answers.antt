-- `finds::standing`: the first port that stands against, or none.
-- Assumes nothing.
use Rattle.std.proofs.Common.{sym, ◌∙◌, arith}
use Rattle.acts.proofs.Found.{home_or_0, standing_is}
use Rattle.acts.proofs.finds.standing.Goals as goal

pub returns-after-loop-p : goal.returns-after-loop-p
returns-after-loop-p c =
    let h = rw c.home.ensures at c.unwrap_or-home.ensures in
    let i = c.loop-p.invariant in
    rw i.0 (standing_is _ _ _ _ (h ∙ home_or_0 _ _ _) _ (omega arith) (λ k l. i.1 k (omega arith)) (λ l. absurd (omega arith)))

pub returns-then-against : goal.returns-then-against
returns-then-against c =
    let h = rw c.home.ensures at c.unwrap_or-home.ensures in
    (sym (standing_is _ _ _ _ (h ∙ home_or_0 _ _ _) _ (omega arith) c.loop-p.invariant.1 (λ l. sym c.against.ensures ∙ c.if-against.true)), omega arith)
