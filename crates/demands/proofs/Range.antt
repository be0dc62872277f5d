-- The transits' range, and that nothing which a hearing lowers falls below 0.
-- Assumes nothing.
use mathlib.Core.Path.{◌≡◌, refl, sym, ap, ◌∙◌}
use mathlib.Core.List.{List, [], ◌∷◌}
use Prim.Native.Nat.{ℕ, zero, suc, ◌+◌, ◌*◌, ◌≤◌, ◌<◌}
use native.Mathlib.Omega.{arith}
use native.Mathlib.Decide.{ℕ_discrete, dec_lt}
use lib.Dec.{eqb}
use lib.ListN.{length}
use Rattle.paper.specs.Paper.{send, receive, delete, Event}
use Rattle.books.specs.Books.{transit_zero, transit_top}
use Rattle.lanes.specs.Lane.{pointer_places, report_places}
use Rattle.demands.specs.History.{those}
use Rattle.demands.proofs.Lists.{All, all_map, total, total_le, length-those}
use Rattle.demands.proofs.Order.{from, from_same, from_other, fine_head, total-without}
use Rattle.demands.proofs.Events.{one, loss, Proper, Holder, holder_count, one_le, at_other, one_concerns, loss_holder}
use Rattle.demands.proofs.Sums.{sum_le_but, length_from}
use Rattle.demands.proofs.Model.{M, on_way}
use Rattle.demands.proofs.Hearing.{oldest-named, oldest_at, oldest_proper}
use Rattle.demands.proofs.Core.{Core}

-- the receipts at B among the reports are reports of B
pub receipts_le : (n o B : ℕ) (l : List Event) → All (Proper n) l → total (one receive o B) l ≤ length (from B l)
unfolding total All
receipts_le n o B [] w = omega arith
receipts_le n o B (e ∷ l) w = go (ℕ_discrete e.at B) (receipts_le n o B l w.1)
  where
    go : Dec (e.at ≡ B) → total (one receive o B) l ≤ length (from B l) → one receive o B e + total (one receive o B) l ≤ length (from B (e ∷ l))
    go (yes q) h = rw (from_same B e l q) (omega (arith, one_le receive o B e))
    go (no d) h = rw (from_other B e l d) (omega (arith, (at_other n o B e w.0 d).0))

module _ (n : ℕ) (m : M) (g : Core n m) (o h : ℕ) (mine : m.owner o ≡ h + 1) where
  abbrev order : List Event
  order = (g.home h).order

  -- the reports on the way to a home are no more than its lanes can have
  few : length order ≤ transit_zero n
  few = omega (
    arith,
    length_from n order (all_map _ _ order (λ e w. w.port) (g.home h).proper),
    g.owners o,
    sum_le_but n report_places h (λ X. length (from X order)) (omega (arith, g.owners o)) (rw (← (g.home h).lanes h, (g.home h).quiet)) (λ X _. rw (← (g.home h).lanes X) (g.short X h)),
  )

  -- what is still to be taken from a transit, it has
  pub transit-least : (B : ℕ) → total (one receive o B) order + on_way n m.pointers B o ≤ m.transit B o
  transit-least B = omega (arith, (g.home h).travel B o mine, total_le (one send o B) order (one_le send o B), few)

  pub transit_up : (B : ℕ) → B < n → m.transit B o + total (one send o B) order ≤ transit_top n
  transit_up B l = omega (arith, (g.home h).travel B o mine, receipts_le n o B order (g.home h).proper, ap length (sym ((g.home h).lanes B)), g.short B h, way)
    where
      way : on_way n m.pointers B o + pointer_places ≤ n * pointer_places
      way = unfold on_way in sum_le_but n pointer_places B (λ A. length (those (λ x. eqb x o) (m.pointers A B))) l
          (rw (g.lanes.self B) (unfold those in refl)) (λ A _. omega (arith, length-those (λ x. eqb x o) (m.pointers A B), g.lanes.narrow A B))

-- so a transit is in range, whatever the object
pub transit-range : (n : ℕ) (m : M) → Core n m → (B o : ℕ) → B < n → m.transit B o ≤ transit_top n
transit-range n m g B o l = go (m.owner o) refl
  where
    go : (k : ℕ) → m.owner o ≡ k → m.transit B o ≤ transit_top n
    go zero q = omega (arith, (g.clean o q B).2)
    go (suc h) q = omega (arith, transit_up n m g o h (omega arith) B l)

-- what a hearing lowers stands above 0
module _ (n : ℕ) (m : M) (g : Core n m) (A h : ℕ) {e : Event} {l : List Event} (lane : m.reports A h ≡ e ∷ l) where
  pub hear_transit : (p o : ℕ) → one receive o p e ≤ m.transit p o
  hear_transit p o = go (ℕ_discrete (one receive o p e) 0)
    where
      go : Dec (one receive o p e ≡ 0) → one receive o p e ≤ m.transit p o
      go (yes z) = omega arith
      go (no d) = omega (arith, total-without A (one receive o p) (g.home h).order (sym ((g.home h).lanes A) ∙ lane), transit-least n m g o h mine p)
        where
          mine : m.owner o ≡ h + 1
          mine = rw (one_concerns receive o p e (omega arith)).0 at (oldest-named n A h m (g.home h) lane)

  pub hear_holding : (p o : ℕ) → loss o p e ≤ m.heard p o
  hear_holding p o = go (dec_lt 0 (loss o p e))
    where
      go : Dec (0 < loss o p e) → loss o p e ≤ m.heard p o
      go (no d) = omega arith
      go (yes k) = port (ℕ_discrete e.at p)
        where
          w : Holder o e
          w = loss_holder o p e k

          port : Dec (e.at ≡ p) → loss o p e ≤ m.heard p o
          port (no d) = absurd (omega (arith, (at_other n o p e (oldest_proper n A h m (g.home h) lane) d).2))
          port (yes q) = (let f : 0 < m.heard p o = fine_head (holder_count o p) e l (m.heard p o) 0
              (rw (ap (λ (X : ℕ). m.reports X h) (sym q ∙ oldest_at n A h m (g.home h) lane) ∙ lane) at ((g.home h).holder p o (rw w.1 at (oldest-named n A h m (g.home h) lane)))) w in
              omega (arith, one_le delete o p e))
