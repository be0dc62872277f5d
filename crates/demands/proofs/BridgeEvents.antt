-- An event that happens in the bytes, or is heard, is the model's: stretch by stretch, over the frame.
-- Assumes nothing.
use mathlib.Core.Path.{◌≡◌, refl, ◌∙◌}
use mathlib.Core.List.{List}
use Prim.Native.Nat.{ℕ, ◌+◌, ◌-◌, ◌≤◌, ◌<◌}
use native.Mathlib.Omega.{arith}
use lib.ListN.{get_or}
use borrow.Author.Tests.{eq-eqb, ne_eqb}
use Rattle.paper.specs.Paper.{Event}
use Rattle.books.specs.Books.{object_limit, holding_limit, transit_top, transit_at, holding_effect, transit_effect}
use Rattle.books.proofs.Effects.{length_holding, length-transit}
use Rattle.lanes.specs.Lane.{report_places, report_width, added}
use Rattle.lanes.proofs.Lane.{length-added}
use Rattle.store.specs.Layout.{Stretch, objects, held, heard, transit, reports, edit}
use Rattle.store.specs.Store.{report}
use Rattle.store.proofs.Frame.{port-inside, lane_inside, upd, Viewed, read_viewed, edit_viewed}
use Rattle.machine.specs.Effects.{hears, tells, happens}
use Rattle.demands.proofs.Events.{Proper, names-port}
use Rattle.demands.proofs.Bridge.{long_viewed, row-long}

module _ (n : ℕ) where
  -- the counts of the stretches v are in range
  pub record Ranged (v : Stretch → List ℕ) : Type 0 where
    pub held : (p o : ℕ) → p < n → o < object_limit → get_or (v (held p)) o 0 ≤ holding_limit
    pub heard : (p o : ℕ) → p < n → o < object_limit → get_or (v (heard p)) o 0 ≤ holding_limit
    pub transit : (p o : ℕ) → p < n → o < object_limit → transit_at o (v (transit p)) ≤ transit_top n

  -- what hearing an event, and its happening at a port, make of the stretches
  abbrev pub heard_in : Event → (Stretch → List ℕ) → Stretch → List ℕ
  heard_in e v =
      upd n (heard e.names) (holding_effect e.kind e.object (v (heard e.names)))
      (upd n (transit e.names) (transit_effect e.kind e.object (v (transit e.names))) v)

  abbrev pub held_in : Event → (Stretch → List ℕ) → Stretch → List ℕ
  held_in e v = upd n (held e.at) (holding_effect e.kind e.object (v (held e.at))) v

  -- its report at the end of the lane to its home h
  abbrev pub told_in : Event → ℕ → (Stretch → List ℕ) → Stretch → List ℕ
  told_in e h v = upd n (reports e.at h) (added report_width (report e) (v (reports e.at h))) v

  module _ (s : List ℕ) (v : Stretch → List ℕ) (seen : Viewed n s v) (e : Event) (proper : Proper n e) where
    -- the port that it names
    abbrev p : ℕ
    p = e.names

    -- THE BYTES: an event is heard
    pub hears_viewed : Viewed n (hears n e s) (heard_in e v)
    unfolding hears upd
    hears_viewed =
        let i = port-inside n p (names-port n e proper) in
        let l = row-long n s v seen p (names-port n e proper) in
        edit_viewed n (heard p) (holding_effect e.kind e.object) _ (upd n (transit p) (transit_effect e.kind e.object (v (transit p))) v)
        (edit_viewed n (transit p) (transit_effect e.kind e.object) s v seen i (length-transit e.kind e.object (v (transit p)) ∙ l.2)) i
        (length_holding e.kind e.object (v (heard p)) ∙ l.1)

    -- it changes its port's holdings
    pub held_viewed : Viewed n (edit n (held e.at) (holding_effect e.kind e.object) s) (held_in e v)
    held_viewed =
        edit_viewed n (held e.at) (holding_effect e.kind e.object) s v seen (port-inside n e.at proper.port)
        (length_holding e.kind e.object (v (held e.at)) ∙ (row-long n s v seen e.at proper.port).0)

    -- it goes to the end of the report lane to the home h
    pub told_viewed : (h : ℕ) → h < n → Viewed n (edit n (reports e.at h) (added report_width (report e)) s) (told_in e h v)
    told_viewed h k =
        let i = lane_inside n e.at h proper.port k in
        edit_viewed n (reports e.at h) (added report_width (report e)) s v seen i
        (length-added report_width report_places (report e) (v (reports e.at h)) (long_viewed n s v seen (reports e.at h) i) refl)

  -- an event is told, at the home and elsewhere
  module _ (s : List ℕ) (v : Stretch → List ℕ) (seen : Viewed n s v) (e : Event) (proper : Proper n e) where
    told_home : get_or (v objects) e.object 0 ≡ e.at + 1 → Viewed n (tells n e s) (heard_in e v)
    unfolding tells
    told_home q = rw (read_viewed n objects s v seen refl, q, eq-eqb (e.at + 1) (e.at + 1) refl) (hears_viewed s v seen e proper)

    told-away : (h : ℕ) → h < n → get_or (v objects) e.object 0 ≡ h + 1 → ¬ (e.at ≡ h) → Viewed n (tells n e s) (told_in e h v)
    unfolding tells
    told-away h k q d =
        let z : h + 1 - 1 ≡ h = omega arith in
        rw (read_viewed n objects s v seen refl, q, ne_eqb (h + 1) (e.at + 1) (λ r. d (omega arith)), z) (told_viewed s v seen e proper h k)

  module _ (s : List ℕ) (v : Stretch → List ℕ) (seen : Viewed n s v) (e : Event) (proper : Proper n e) where
    -- an event happens, at the home and elsewhere
    pub happens_home : get_or (v objects) e.object 0 ≡ e.at + 1 → Viewed n (happens n e s) (heard_in e (held_in e v))
    unfolding happens upd
    happens_home q = told_home _ (held_in e v) (held_viewed s v seen e proper) e proper q

    pub happens-away : (h : ℕ) → h < n → get_or (v objects) e.object 0 ≡ h + 1 → ¬ (e.at ≡ h) → Viewed n (happens n e s) (told_in e h (held_in e v))
    unfolding happens upd
    happens-away h k q d = told-away _ (held_in e v) (held_viewed s v seen e proper) e proper h k q d
