-- When an event keeps a count in range. n is the number of ports.
-- Assumes nothing.
use Rattle.std.specs.Prelude.{Bool, true, ℕ, ltb}
use Rattle.paper.specs.Paper.{Kind, send, receive, create, delete}
use Rattle.books.specs.Books.{holding_limit, transit_top}

-- an event of the kind keeps a holding x in range
abbrev pub holding_fits : Kind → ℕ → Bool
holding_fits send x = true
holding_fits receive x = ltb x holding_limit
holding_fits create x = ltb x holding_limit
holding_fits delete x = ltb 0 x

-- an event of the kind keeps a transit, stored as x, in range
abbrev pub transit_fits : ℕ → Kind → ℕ → Bool
transit_fits n send x = ltb x (transit_top n)
transit_fits n receive x = ltb 0 x
transit_fits n create x = true
transit_fits n delete x = true
