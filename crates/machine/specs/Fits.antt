-- Refusal 14 from the counts that an act touches: a small test for each act, which on a well formed store decides whether the store
-- after the act is well formed (the Kept files).
-- Assumes nothing.
use Rattle.std.specs.Prelude.{Bool, true, cond, not, ◌&&◌, List, ℕ, ◌+◌, ◌%◌, eqb, get_or}
use Rattle.paper.specs.Paper.{Event}
use Rattle.books.specs.Numbers.{every}
use Rattle.books.specs.Books.{object_limit}
use Rattle.books.specs.Fits.{holding_fits, transit_fits}
use Rattle.lanes.specs.Lane.{pointer_width, report_width, count, entry}
use Rattle.store.specs.Layout.{pointers, reports, read}
use Rattle.store.specs.Store.{object_byte, home, held_of, heard_of, transit_of}
use Rattle.machine.specs.Acts.{Act, is, SEND, DELIVER, HEAR, RETIRE}
use Rattle.machine.specs.Effects.{event_in, oldest_report}

module _ (n : ℕ) where
  -- an event is heard: the two counts of the books that it changes stay in range
  abbrev pub hears_fits : Event → List ℕ → Bool
  hears_fits e s = holding_fits e.kind (heard_of n e.names e.object s) && transit_fits n e.kind (transit_of n e.names e.object s)

  -- an event happens: the true holding stays in range and, at the home, where the heard holding is the same, the transit too
  abbrev pub happens_fits : Event → List ℕ → Bool
  happens_fits e s =
      holding_fits e.kind (held_of n e.at e.object s)
      && cond (eqb (object_byte n e.object s) (e.at + 1)) (transit_fits n e.kind (transit_of n e.names e.object s)) true

  -- RETIRE o: no port holds it, no pointer is it, no report to its home is about it
  abbrev pub none_holds : ℕ → List ℕ → Bool
  none_holds o s = every n (λ p. eqb (held_of n p o s) 0)

  abbrev pub no_pointer : ℕ → List ℕ → Bool
  no_pointer o s = every n (λ a. every n (λ b. every (count (read n (pointers a b) s)) (λ i. not (eqb (get_or (entry pointer_width i (read n (pointers a b) s)) 0 0) o))))

  abbrev pub no_report : ℕ → List ℕ → Bool
  no_report o s =
      every n (λ a. every (count (read n (reports a (home n o s)) s)) (λ i. not (eqb (get_or (entry report_width i (read n (reports a (home n o s)) s)) 0 0 % object_limit) o)))

  abbrev pub retire_fits : ℕ → List ℕ → Bool
  retire_fits o s = none_holds o s && no_pointer o s && no_report o s

  -- the test of an act; MAKE, COPY and DROP need none, and ASK, SETTLE and HOLD change nothing
  unfoldable pub fits : Act → List ℕ → Bool
  fits a s =
      cond (is SEND a) (happens_fits (event_in n a s) s)
      (cond (is DELIVER a) (happens_fits (event_in n a s) s)
      (cond (is HEAR a) (hears_fits (oldest_report n a.A a.B s) s)
      (cond (is RETIRE a) (retire_fits a.o s) true)))
