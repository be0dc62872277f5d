-- What each act does to the bytes of a store of n ports, composed of events, and its value.
-- Assumes nothing.
use Rattle.std.specs.Prelude.{cond, not, List, [], ◌∷◌, ℕ, ◌+◌, ◌*◌, eqb, get_or, set}
use Rattle.paper.specs.Paper.{Event}
use Rattle.books.specs.Numbers.{first, sum_to}
use Rattle.books.specs.Books.{object_limit, transit_effect, holding_effect, verdict}
use Rattle.lanes.specs.Lane.{pointer_width, report_width, count, entry, added, taken}
use Rattle.store.specs.Layout.{objects, held, heard, transit, pointers, reports, read, edit}
use Rattle.store.specs.Store.{report, reported, object_byte, in_use, home, held_of, heard_of, transit_of}
use Rattle.machine.specs.Acts.{Act, is, MAKE, SEND, COPY, DROP, DELIVER, HEAR, ASK, RETIRE, SETTLE, HOLD, event_of}

module _ (n : ℕ) where
  -- an event is heard: its effect on the books' rows of the port that it names
  unfoldable pub hears : Event → List ℕ → List ℕ
  hears e s = edit n (heard e.names) (holding_effect e.kind e.object) (edit n (transit e.names) (transit_effect e.kind e.object) s)

  -- what happens at the home is heard at once; elsewhere a report goes to the end of the lane to the home
  unfoldable pub tells : Event → List ℕ → List ℕ
  tells e s =
      cond (eqb (object_byte n e.object s) (e.at + 1)) (hears e s)
      (edit n (reports e.at (home n e.object s)) (added report_width (report e)) s)

  -- an event happens: its effect on the true holdings of its port; then it is told
  unfoldable pub happens : Event → List ℕ → List ℕ
  happens e s = tells e (edit n (held e.at) (holding_effect e.kind e.object) s)

  -- o's object byte becomes b
  unfoldable pub owned : ℕ → ℕ → List ℕ → List ℕ
  owned o b s = edit n objects (λ r. set r o b) s

  -- the lowest free object number, 64 if there is none; the oldest pointer on a lane; the event that the oldest report reports
  unfoldable pub lowest_free : List ℕ → ℕ
  lowest_free s = first object_limit (λ o. not (in_use n o s))

  abbrev pub oldest_pointer : ℕ → ℕ → List ℕ → ℕ
  oldest_pointer a b s = get_or (entry pointer_width 0 (read n (pointers a b) s)) 0 0

  abbrev pub oldest_report : ℕ → ℕ → List ℕ → Event
  oldest_report a b s = reported a (entry report_width 0 (read n (reports a b) s))

  -- the object that MAKE makes or DELIVER delivers, and the event that an act is
  abbrev pub found : Act → List ℕ → ℕ
  found a s = cond (is MAKE a) (lowest_free s) (oldest_pointer a.A a.B s)

  abbrev pub event_in : Act → List ℕ → Event
  event_in a s = event_of a (found a s)

  -- the store after an act that is taken; ASK, SETTLE and HOLD change nothing
  unfoldable pub after : Act → List ℕ → List ℕ
  after a s =
      cond (is MAKE a) (happens (event_in a s) (owned (found a s) (a.A + 1) s))
      (cond (is SEND a) (happens (event_in a s) (edit n (pointers a.A a.B) (added pointer_width (a.o ∷ [])) s))
      (cond (is COPY a) (happens (event_in a s) s)
      (cond (is DROP a) (happens (event_in a s) s)
      (cond (is DELIVER a) (happens (event_in a s) (edit n (pointers a.A a.B) (taken pointer_width) s))
      (cond (is HEAR a) (hears (oldest_report a.A a.B s) (edit n (reports a.A a.B) (taken report_width) s))
      (cond (is RETIRE a) (owned a.o 0 s) s))))))

  -- the home's verdict on o; the settling number: twice the pointers on all pointer lanes plus the reports on all report lanes
  unfoldable pub verdict_on : ℕ → List ℕ → ℕ
  verdict_on o s = verdict n (home n o s) (λ p. heard_of n p o s) (λ p. transit_of n p o s)

  unfoldable pub settling : List ℕ → ℕ
  settling s =
      2 * sum_to n (λ a. sum_to n (λ b. count (read n (pointers a b) s))) + sum_to n (λ a. sum_to n (λ b. count (read n (reports a b) s)))

  -- the value of an act that is taken
  unfoldable pub value_of : Act → List ℕ → ℕ
  value_of a s =
      cond (is MAKE a) (found a s)
      (cond (is DELIVER a) (found a s)
      (cond (is HEAR a) (oldest_report a.A a.B s).object
      (cond (is ASK a) (verdict_on a.o s)
      (cond (is SETTLE a) (settling s)
      (cond (is HOLD a) (held_of n a.A a.o s) 0)))))
