-- Events in the rows of one port of a well formed store: the store is well formed after them exactly when the counts that they
-- change stay in range.
-- Assumes nothing.
use mathlib.Core.Path.{◌≡◌, refl, sym, ap, ◌∙◌}
use mathlib.Core.Bool.{Bool, true, false, not, ◌&&◌, ◌||◌, and-true}
use mathlib.Core.List.{List}
use Prim.Native.Nat.{ℕ, ◌+◌, ◌*◌, ◌<◌}
use native.Mathlib.Omega.{arith}
use lib.Dec.{leb, eqb}
use lib.ListN.{length, get_or}
use borrow.Author.Tests.{eq-eqb, ne_eqb, eqb-true}
use Rattle.paper.specs.Paper.{Kind}
use Rattle.books.specs.Books.{object_limit, holding_limit, transit_top, transit_at, transit_effect, holding_effect}
use Rattle.books.proofs.Numbers.{every_all, every_but}
use Rattle.books.specs.Fits.{holding_fits, transit_fits}
use Rattle.books.proofs.Effects.{length_holding, holding_other, holding_fits_lem, holding_alike, length-transit, transit_other, transit_fits_lem}
use Rattle.store.specs.Layout.{objects, held, heard, transit, read, edit}
use Rattle.store.specs.Store.{holding_formed, transit_formed, object_byte, held_of, heard_of, transit_of, well_formed}
use Rattle.store.proofs.Frame.{port-inside, read-long}
use Rattle.store.proofs.Formed.{Formed, formed_means, means_holding, means_transit}
use Rattle.store.proofs.Written.{holdings_right, transits_right, port_written}

-- an event about o leaves the other objects' counts: the row is right exactly when o's own count is
module _ (n o : ℕ) (h : o < object_limit) (obj : List ℕ) where
  holdings_event : (p : ℕ) (t r : List ℕ) (j k : Kind) → ((i : ℕ) → i < object_limit → holding_formed p (get_or obj i 0) (get_or t i 0) (get_or r i 0) ≡ true)
      → holdings_right n p obj (holding_effect j o t) (holding_effect k o r) ≡ holding_formed p (get_or obj o 0) (get_or (holding_effect j o t) o 0) (get_or (holding_effect k o r) o 0)
  unfolding holdings_right
  holdings_event p t r j k e =
      every_but (λ i. holding_formed p (get_or obj i 0) (get_or t i 0) (get_or r i 0)) (λ i. holding_formed p (get_or obj i 0) (get_or (holding_effect j o t) i 0) (get_or (holding_effect k o r) i 0))
      object_limit o h (every_all _ object_limit e) (λ i l d. rw (holding_other j o t i d, holding_other k o r i d))

  transits_event : (x : List ℕ) (k : Kind) → ((i : ℕ) → i < object_limit → transit_formed n (get_or obj i 0) (transit_at i x) ≡ true)
      → transits_right n obj (transit_effect k o x) ≡ transit_formed n (get_or obj o 0) (transit_at o (transit_effect k o x))
  unfolding transits_right
  transits_event x k e =
      every_but (λ i. transit_formed n (get_or obj i 0) (transit_at i x)) (λ i. transit_formed n (get_or obj i 0) (transit_at i (transit_effect k o x)))
      object_limit o h (every_all _ object_limit e) (λ i l d. rw (transit_other k o x i d))

-- the counts of an object in use are right when they are in range and, at the home, one
holding_used : (p b t r : ℕ) → ¬ (b ≡ 0) → (b ≡ p + 1 → r ≡ t) → holding_formed p b t r ≡ (leb t holding_limit && leb r holding_limit)
holding_used p b t r u e = rw (ne_eqb b 0 u, and-true (leb t holding_limit && leb r holding_limit)) (go (eqb b (p + 1)) refl)
  where
    go : (x : Bool) → eqb b (p + 1) ≡ x → (leb t holding_limit && leb r holding_limit && (not x || eqb r t)) ≡ (leb t holding_limit && leb r holding_limit)
    go true q = rw (eq-eqb r t (e (eqb-true b (p + 1) q))) (and-true (leb t holding_limit && leb r holding_limit))
    go false q = and-true (leb t holding_limit && leb r holding_limit)

transit-used : (n b x : ℕ) → ¬ (b ≡ 0) → transit_formed n b x ≡ leb x (transit_top n)
transit-used n b x u = rw (ne_eqb b 0 u) (and-true (leb x (transit_top n)))

-- EVENTS ABOUT o, which is in use, IN PORT p'S ROWS: i in the true holdings, j in the heard holdings, k in the transits
module _ (n : ℕ) (few : transit_top n < 65535) (s : List ℕ) (formed : well_formed n s ≡ true) (p o : ℕ) (hp : p < n) (ho : o < object_limit)
    (used : ¬ (object_byte n o s ≡ 0)) (i j k : Kind) (one : object_byte n o s ≡ p + 1 → i ≡ j) where
  abbrev form : Formed n s
  form = formed_means n s formed

  abbrev t : List ℕ
  t = read n (held p) s

  abbrev r : List ℕ
  r = read n (heard p) s

  abbrev x : List ℕ
  x = read n (transit p) s

  t-long : length t ≡ object_limit
  t-long = read-long n (held p) s form.sized (port-inside n p hp)

  r-long : length r ≡ object_limit
  r-long = read-long n (heard p) s form.sized (port-inside n p hp)

  x-long : length x ≡ 2 * object_limit
  x-long = read-long n (transit p) s form.sized (port-inside n p hp)

  at_home : object_byte n o s ≡ p + 1 → get_or (holding_effect j o r) o 0 ≡ get_or (holding_effect i o t) o 0
  at_home e =
      ap (λ (a : Kind). get_or (holding_effect a o r) o 0) (sym (one e))
      ∙ holding_alike i o r t (omega (arith, r-long)) (omega (arith, t-long)) ((form.holdings p o hp ho).heard_home e)

  pub rows-event : well_formed n (edit n (heard p) (holding_effect j o) (edit n (transit p) (transit_effect k o) (edit n (held p) (holding_effect i o) s)))
      ≡ (holding_fits i (held_of n p o s) && holding_fits j (heard_of n p o s) && transit_fits n k (transit_of n p o s))
  rows-event =
      port_written n s formed p hp (holding_effect i o) (transit_effect k o) (holding_effect j o) (length_holding i o t ∙ t-long) (length-transit k o x ∙ x-long) (length_holding j o r ∙ r-long)
      ∙ rw (
        holdings_event n o ho (read n objects s) p t r i j (λ a l. means_holding p _ _ _ (form.holdings p a hp l)),
        transits_event n o ho (read n objects s) x k (λ a l. means_transit n _ _ (form.transits p a hp l)),
        holding_used p (object_byte n o s) (get_or (holding_effect i o t) o 0) (get_or (holding_effect j o r) o 0) used at_home,
        transit-used n (object_byte n o s) (transit_at o (transit_effect k o x)) used,
        holding_fits_lem o t (omega (arith, t-long)) i (form.holdings p o hp ho).held_low,
        holding_fits_lem o r (omega (arith, r-long)) j (form.holdings p o hp ho).heard_low,
        transit_fits_lem n few o x (omega (arith, x-long)) (form.transits p o hp ho).transit_low k,
      )
