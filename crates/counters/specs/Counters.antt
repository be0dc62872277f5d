-- The counters of the books' code: the signed count that a stored transit stands for, and each counter after an event, or none where
-- it would leave its range. n is the number of ports.
-- Assumes nothing.
use Rattle.std.specs.Prelude.{Bool, cond, ◌&&◌, List, ℕ, ◌+◌, ◌*◌, ◌≤◌, ◌<◌, length, Option, Some, None, ℤ, pos, ◌+ℤ◌, nat_abs}
use Rattle.std.proofs.Math.IntN.{sub_ℕ}
use Rattle.std.specs.Int.Signed.{le_z}
use Rattle.paper.specs.Paper.{Kind, send, receive, create, delete, in_transit_after, pointers_to_after}
use Rattle.books.specs.Fits.{holding_fits}
use Rattle.books.specs.Books.{transit_zero, transit_top, transit_at}
use Rattle.counters.specs.declared.Event.{Event}
use Rattle.counters.specs.declared.Event.TheVariants as EV
use Rattle.counters.specs.declared.Holding.{Holding}

-- a number of ports that the counters' types have room for
abbrev pub Ports : ℕ → Type 0
Ports n = (0 < n) × (n ≤ 16)

-- a port's row of transits has o's two bytes, and what they store is in range
pub record TransitIn (n o : ℕ) (r : List ℕ) : Type 0 where
  pub ports : Ports n
  pub place : 2 * o + 1 < length r
  pub range : transit_at o r ≤ transit_top n

-- a transit: the number of ports, and its signed count
pub record HeardTransit : Type 0 where
  pub ports : ℕ
  pub count : ℤ

-- the kinds of the code's events
abbrev pub kind_of : Event → Kind
kind_of EV.Send = send
kind_of EV.Receive = receive
kind_of EV.Create = create
kind_of EV.Delete = delete

-- the holding after an event, by Table 3
abbrev pub holding_step : Kind → ℕ → Option Holding
holding_step k x = cond (holding_fits k x) (Some (record { 0 = nat_abs (pointers_to_after k (pos x)) })) None

module _ (n : ℕ) where
  -- the count that a stored number stands for, and the stored number of a count
  abbrev pub counted : ℕ → ℤ
  counted k = sub_ℕ k (transit_zero n)

  abbrev pub stored_as : ℤ → ℕ
  stored_as z = nat_abs (z +ℤ pos (transit_zero n))

  -- a count in range
  abbrev pub in_range : ℤ → Bool
  in_range z = le_z (counted 0) z && le_z z (counted (transit_top n))

  -- the transit of count z, or none where z is out of range
  abbrev pub within : ℤ → Option HeardTransit
  within z = cond (in_range z) (Some (record { ports = n; count = z })) None

-- the transit after an event, by Table 3
abbrev pub transit_step : Kind → HeardTransit → Option HeardTransit
transit_step k t = within t.ports (in_transit_after k t.count)
