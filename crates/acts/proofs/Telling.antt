-- An event told, and happening, in code: what the writes ask, and what they leave; and the events that can happen on a well formed
-- store.
-- Assumes nothing.
use mathlib.Core.Path.{◌≡◌, refl, ap, ◌∙◌}
use mathlib.Core.Bool.{true, false, cond}
use mathlib.Core.List.{List}
use Prim.Native.Nat.{ℕ, ◌+◌, ◌<◌}
use native.Mathlib.Omega.{arith}
use lib.Dec.{eqb}
use lib.ListN.{length}
use borrow.Author.Tests.{eq-eqb, ne_eqb}
use Rattle.paper.specs.Paper.{send, Event}
use Rattle.books.specs.Books.{holding_effect}
use Rattle.books.specs.Fits.{holding_fits, transit_fits}
use Rattle.books.proofs.Booleans.{both_true, left_true, right_true}
use Rattle.books.proofs.Effects.{length_holding}
use Rattle.lanes.specs.Lane.{report_width, report_places, count, added}
use Rattle.store.specs.Layout.{Stretch, objects, held, heard, transit, reports, long, read, edit}
use Rattle.store.specs.Store.{report, object_byte, home, held_of, heard_of, transit_of, well_formed}
use Rattle.store.proofs.Sections.{same}
use Rattle.store.proofs.Frame.{inside, port-inside, lane_inside, read-long, length-edit, read_other}
use Rattle.store.proofs.Formed.{Formed, formed_means}
use Rattle.stretches.specs.Stretches.{Few}
use Rattle.machine.specs.Effects.{hears, tells, happens}
use Rattle.machine.specs.Fits.{happens_fits}
use Rattle.acts.specs.Told.{Placed, Tellable, Possible}
use Rattle.machine.proofs.Kept.{Proper, is_send}

module _ (n : ℕ) (e : Event) (s : List ℕ) where
  abbrev b : ℕ
  b = object_byte n e.object s

  -- at the home, and elsewhere
  pub tells-near : b ≡ e.at + 1 → (t : List ℕ) → t ≡ hears n e s → t ≡ tells n e s
  unfolding tells
  tells-near q t r = rw (eq-eqb b (e.at + 1) q) r

  pub tells-away : ¬ (b ≡ e.at + 1) → (t : List ℕ) → t ≡ edit n (reports e.at (home n e.object s)) (added report_width (report e)) s → t ≡ tells n e s
  unfolding tells
  tells-away q t r = rw (ne_eqb b (e.at + 1) q) r

  -- once the true holding is written, t being the store then
  pub happens_is : (t : List ℕ) → t ≡ edit n (held e.at) (holding_effect e.kind e.object) s → (u : List ℕ) → u ≡ tells n e t → u ≡ happens n e s
  unfolding happens
  happens_is t q u r = r ∙ ap (tells n e) q

  module _ (h : Tellable n e s) where
    -- its home is a port
    pub home_low : home n e.object s < n
    home_low = omega (arith, h.homed, h.used, h.placed.port)

    -- it can still be told once another stretch than those that it concerns is written
    module _ (c : Stretch) (f : List ℕ → List ℕ) (hc : inside n c ≡ true) (keeps : length (f (read n c s)) ≡ long n c)
        (to : same c objects ≡ false) (th : same c (heard e.names) ≡ false) (tv : same c (transit e.names) ≡ false)
        (tr : same c (reports e.at (home n e.object s)) ≡ false) where
      same_in : (d : Stretch) → inside n d ≡ true → same c d ≡ false → read n d (edit n c f s) ≡ read n d s
      same_in d hd w = read_other n c f s h.placed.lent.sized hc keeps d hd w

      pub still_tellable : Tellable n e (edit n c f s)
      still_tellable =
          let i = port-inside n e.names h.placed.named in
          let ob = same_in objects refl to in
          let he = same_in (heard e.names) i th in
          let ta = same_in (transit e.names) i tv in
          let re = same_in (reports e.at (home n e.object s)) (lane_inside n e.at (home n e.object s) h.placed.port home_low) tr in
          record {
            placed = record {
              lent = record { few = h.placed.lent.few; sized = length-edit n c f s h.placed.lent.sized hc keeps };
              port = h.placed.port;
              named = h.placed.named;
              thing = h.placed.thing;
              range = rw ta h.placed.range;
            };
            used = rw ob h.used;
            homed = rw ob h.homed;
            near = rw (ob, he, ta) h.near;
            away = rw (ob, re) h.away;
          }

  module _ (h : Possible n e s) where
    keeps_held : length (holding_effect e.kind e.object (read n (held e.at) s)) ≡ long n (held e.at)
    keeps_held =
        length_holding e.kind e.object (read n (held e.at) s)
        ∙ read-long n (held e.at) s h.tellable.placed.lent.sized (port-inside n e.at h.tellable.placed.port)

    pub then_tellable : (t : List ℕ) → t ≡ edit n (held e.at) (holding_effect e.kind e.object) s → Tellable n e t
    then_tellable t q =
        rw q (still_tellable h.tellable (held e.at) (holding_effect e.kind e.object) (port-inside n e.at h.tellable.placed.port) keeps_held refl refl refl refl)

  -- on a well formed store
  module _ (few : Few n) (formed : well_formed n s ≡ true) (proper : Proper n e) where
    abbrev form : Formed n s
    form = formed_means n s formed

    pub placed : Placed n e s
    placed = record {
      lent = record { few = few; sized = form.sized };
      port = proper.port;
      named = proper.named;
      thing = proper.thing;
      range = (form.transits e.names e.object proper.named proper.thing).transit_low;
    }

    -- an event that fits, whose object is in use and whose report has room, can happen
    pub possible : ¬ (b ≡ 0) → (¬ (b ≡ e.at + 1) → ¬ (count (read n (reports e.at (home n e.object s)) s) ≡ report_places)) → happens_fits n e s ≡ true
        → Possible n e s
    possible used room fits =
        record {
          holds = holds;
          tellable = record {
            placed = placed;
            used = used;
            homed = form.homes e.object proper.thing;
            near = λ q. both_true (holding_fits e.kind (heard_of n e.names e.object s)) (transit_fits n e.kind (transit_of n e.names e.object s)) (once q (is_send e.kind)) (transits q);
            away = λ d.
                let low : home n e.object s < n = omega (arith, form.homes e.object proper.thing, proper.port) in
                omega (arith, (form.report_lanes e.at (home n e.object s) proper.port low).few, room d);
          };
        }
      where
        holds : holding_fits e.kind (held_of n e.at e.object s) ≡ true
        holds = left_true (holding_fits e.kind (held_of n e.at e.object s)) (cond (eqb b (e.at + 1)) (transit_fits n e.kind (transit_of n e.names e.object s)) true) fits

        transits : b ≡ e.at + 1 → transit_fits n e.kind (transit_of n e.names e.object s) ≡ true
        transits q =
            rw (eq-eqb b (e.at + 1) q) at
            (right_true (holding_fits e.kind (held_of n e.at e.object s)) (cond (eqb b (e.at + 1)) (transit_fits n e.kind (transit_of n e.names e.object s)) true) fits)

        once : b ≡ e.at + 1 → Dec (e.kind ≡ send) → holding_fits e.kind (heard_of n e.names e.object s) ≡ true
        once q (yes w) = rw w
        once q (no w) = rw (proper.other w, (form.holdings e.at e.object proper.port proper.thing).heard_home q) holds
