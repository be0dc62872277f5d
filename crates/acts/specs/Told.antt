-- The code's events as document 004's, and what the code that hears, tells or lets one happen asks of the store. n is the number of
-- ports.
-- Assumes nothing.
use Rattle.std.specs.Prelude.{◌≡◌, true, List, ℕ, ◌+◌, ◌≤◌, ◌<◌}
use Rattle.paper.specs.Paper.{Event}
use Rattle.books.specs.Books.{object_limit, transit_top}
use Rattle.books.specs.Fits.{holding_fits}
use Rattle.counters.specs.Counters.{kind_of}
use Rattle.lanes.specs.Lane.{report_places, count}
use Rattle.store.specs.Layout.{reports, read}
use Rattle.store.specs.Store.{object_byte, home, held_of, transit_of}
use Rattle.stretches.specs.Stretches.{Lent}
use Rattle.machine.specs.Fits.{hears_fits}
use Rattle.acts.specs.declared.events.Happening.{Happening}

-- the event that the code means
abbrev pub told : Happening → Event
told e = record { kind = kind_of e.kind; object = e.object.number; at = e.at; names = e.names }

-- the counts that an event changes when it is heard are there, and stay in range
pub record Hearable (n : ℕ) (e : Event) (s : List ℕ) : Type 0 where
  pub some : 0 < n
  pub lent : Lent n s
  pub named : e.names < n
  pub thing : e.object < object_limit
  pub range : transit_of n e.names e.object s ≤ transit_top n
  pub fits : hears_fits n e s ≡ true

-- the counts that an event concerns are there, and its transit is in range
pub record Placed (n : ℕ) (e : Event) (s : List ℕ) : Type 0 where
  pub lent : Lent n s
  pub port : e.at < n
  pub named : e.names < n
  pub thing : e.object < object_limit
  pub range : transit_of n e.names e.object s ≤ transit_top n

-- an event can be told: its object has a home; at the home the counts that it changes stay in range, elsewhere its report has room
pub record Tellable (n : ℕ) (e : Event) (s : List ℕ) : Type 0 where
  pub placed : Placed n e s
  pub used : ¬ (object_byte n e.object s ≡ 0)
  pub homed : object_byte n e.object s ≤ n
  pub near : object_byte n e.object s ≡ e.at + 1 → hears_fits n e s ≡ true
  pub away : ¬ (object_byte n e.object s ≡ e.at + 1) → count (read n (reports e.at (home n e.object s)) s) < report_places

-- an event can happen: the true holding that it changes stays in range, and it can be told
pub record Possible (n : ℕ) (e : Event) (s : List ℕ) : Type 0 where
  pub holds : holding_fits e.kind (held_of n e.at e.object s) ≡ true
  pub tellable : Tellable n e s
