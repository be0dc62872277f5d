-- An event heard in code: what the two writes ask, and what they leave.
-- Assumes nothing.
use mathlib.Core.Path.{◌≡◌, refl, ap, ◌∙◌}
use mathlib.Core.Bool.{true}
use mathlib.Core.List.{List}
use Prim.Native.Nat.{ℕ}
use lib.ListN.{length, get_or}
use Rattle.paper.specs.Paper.{Event}
use Rattle.books.specs.Books.{transit_effect, holding_effect}
use Rattle.books.specs.Fits.{holding_fits, transit_fits}
use Rattle.books.proofs.Booleans.{left_true}
use Rattle.books.proofs.Effects.{length-transit}
use Rattle.store.specs.Layout.{transit, heard, edit, read, long}
use Rattle.store.specs.Store.{heard_of, transit_of}
use Rattle.store.proofs.Frame.{port-inside, read-long, read_other}
use Rattle.machine.specs.Effects.{hears}
use Rattle.acts.specs.Told.{Hearable}

module _ (n : ℕ) (e : Event) (s : List ℕ) (h : Hearable n e s) where
  holding : holding_fits e.kind (heard_of n e.names e.object s) ≡ true
  holding = left_true (holding_fits e.kind (heard_of n e.names e.object s)) (transit_fits n e.kind (transit_of n e.names e.object s)) h.fits

  keeps : length (transit_effect e.kind e.object (read n (transit e.names) s)) ≡ long n (transit e.names)
  keeps = length-transit e.kind e.object (read n (transit e.names) s) ∙ read-long n (transit e.names) s h.lent.sized (port-inside n e.names h.named)

  -- once the transit is written, t being the store then
  module _ (t : List ℕ) (q : t ≡ edit n (transit e.names) (transit_effect e.kind e.object) s) where
    pub still_holding : holding_fits e.kind (heard_of n e.names e.object t) ≡ true
    still_holding =
        ap (λ (r : List ℕ). holding_fits e.kind (get_or r e.object 0))
        (ap (read n (heard e.names)) q
        ∙ read_other n (transit e.names) (transit_effect e.kind e.object) s h.lent.sized (port-inside n e.names h.named) keeps (heard e.names) (port-inside n e.names h.named) refl)
        ∙ holding

    pub heard_is : (u : List ℕ) → u ≡ edit n (heard e.names) (holding_effect e.kind e.object) t → u ≡ hears n e s
    unfolding hears
    heard_is u r = r ∙ ap (edit n (heard e.names) (holding_effect e.kind e.object)) q
