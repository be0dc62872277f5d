-- `acts::events::tells`: heard at once at the home, else reported.
-- Assumes nothing.
use Rattle.std.proofs.Common.{sym, ◌∙◌, arith}
use Rattle.acts.proofs.Homes.{home_some, home_is}
use Rattle.acts.proofs.Telling.{tells-near, tells-away}
use Rattle.acts.proofs.events.tells.Goals as goal

pub returns-then-home-e : goal.returns-then-home-e
returns-then-home-e c =
    let h = rw (c.shared.ensures.ports, c.shared.ensures.bytes) at (sym c.home.ensures ∙ c.unwrap-home.ensures) in
    let w = c.hears.ensures in
    record { loan = w.loan; ports = w.ports; bytes = tells-near _ _ _ (rw c.if-home-e.true at (home_some _ _ _ _ h)) _ w.bytes }

pub returns-else-home-e : goal.returns-else-home-e
returns-else-home-e c =
    let h = rw (c.shared.ensures.ports, c.shared.ensures.bytes) at (sym c.home.ensures ∙ c.unwrap-home.ensures) in
    let q = home_some _ _ _ _ h in
    let w = c.add_report.ensures in
    record {
      loan = w.loan;
      ports = w.ports;
      bytes = tells-away _ _ _ (λ d. c.if-home-e.false (omega (arith, q, d))) _ (rw (home_is _ _ _ _ h, ← c.report.ensures) w.bytes);
    }
