-- Refusal 14 on a model that acts reach: where an act's own refusals leave it, every count that it changes stays in range, read off the
-- model before the act. So the small tests of the machine's Fits hold.
-- Assumes nothing.
use mathlib.Core.Path.{◌≡◌, refl, sym, ap, ◌∙◌}
use mathlib.Core.Bool.{true, cond}
use mathlib.Core.List.{List, [], ◌∷◌}
use Prim.Native.Nat.{ℕ, zero, suc, ◌+◌, ◌*◌, ◌≤◌, ◌<◌}
use native.Mathlib.Omega.{arith}
use native.Mathlib.Decide.{ℕ_discrete}
use lib.Dec.{eqb}
use lib.ListN.{length}
use borrow.Author.Tests.{lt-ltb, eq-eqb, ne_eqb}
use Rattle.paper.specs.Paper.{Kind, send, receive, create, delete, Event}
use Rattle.books.specs.Numbers.{sum_to}
use Rattle.books.specs.Books.{holding_limit, transit_top}
use Rattle.books.specs.Fits.{holding_fits, transit_fits}
use Rattle.lanes.specs.Lane.{pointer_places}
use Rattle.demands.specs.History.{those}
use Rattle.demands.proofs.Lists.{length-those}
use Rattle.demands.proofs.Order.{from, fine_head, total-without}
use Rattle.demands.proofs.Events.{one, gain, Names, room_count, one_self}
use Rattle.demands.proofs.Sums.{sum_grown, sum_le_but}
use Rattle.demands.proofs.Model.{M, on_way}
use Rattle.demands.proofs.Hearing.{oldest-named, oldest_at, oldest_proper}
use Rattle.demands.proofs.Absent.{Gone, Unnamed, absent_gone, gone-pointers}
use Rattle.demands.proofs.Core.{Core}
use Rattle.demands.proofs.Range.{receipts_le, transit-least, transit_up, hear_transit, hear_holding}
use Rattle.demands.proofs.Steps.{MaySend, MayDeliver, MayRetire}
use Rattle.demands.proofs.Kept.{Kept}
use Rattle.demands.proofs.Legal.{waiting_way}

-- one of the terms is 0, and another below b
sum_lt_but : (n b A C : ℕ) (f : ℕ → ℕ) → A < n → C < n → ¬ (A ≡ C) → f A ≡ 0 → f C < b → ((k : ℕ) → k < n → f k ≤ b) → sum_to n f + b < n * b
sum_lt_but n b A C f la lc d z k h = omega (arith, sum_grown n C 1 f g lc here there, sum_le_but n b A g la (there A d ∙ z) (λ j l. le j l (ℕ_discrete j C)))
  where
    g : ℕ → ℕ
    g j = cond (eqb j C) (f C + 1) (f j)

    here : g C ≡ f C + 1
    here = rw (eq-eqb C C refl)

    there : (j : ℕ) → ¬ (j ≡ C) → g j ≡ f j
    there j e = rw (ne_eqb j C e)

    le : (j : ℕ) → j < n → Dec (j ≡ C) → g j ≤ b
    le j l (yes q) = rw q (omega (arith, here))
    le j l (no e) = omega (arith, there j e, h j l)

module _ (n : ℕ) (m : M) (k : Kept n m) where
  -- SEND by the home: the lane has a place, so the transit is below its top
  pub send_fits : (A o B : ℕ) → MaySend n A o B m → m.transit B o < transit_top n
  send_fits A o B w = go (m.owner o) refl
    where
      g : Core n m
      g = k.core

      way : on_way n m.pointers B o + pointer_places < n * pointer_places
      way = unfold on_way in sum_lt_but n pointer_places B A (λ X. length (those (λ x. eqb x o) (m.pointers X B))) w.receiver w.sender (λ q. w.apart (sym q))
          (rw (g.lanes.self B) (unfold those in refl)) (omega (arith, length-those (λ x. eqb x o) (m.pointers A B), g.lanes.narrow A B, w.place))
          (λ X _. omega (arith, length-those (λ x. eqb x o) (m.pointers X B), g.lanes.narrow X B))

      go : (x : ℕ) → m.owner o ≡ x → m.transit B o < transit_top n
      go zero q = absurd (w.used.owned q)
      go (suc h) q = omega (arith, (g.home h).travel B o (omega arith), receipts_le n o B (g.home h).order (g.home h).proper, ap length (sym ((g.home h).lanes B)), g.short B h, way)

  -- DELIVER: there is room for what was on the way, and at the home the transit is above 0
  module _ (A B x : ℕ) (l : List ℕ) (w : MayDeliver n A B m) (lane : m.pointers A B ≡ x ∷ l) where
    pub deliver_room : m.held B x < holding_limit
    deliver_room = omega (arith, k.room B x, waiting_way n m A B x l w.sender lane)

    pub deliver_transit : (h : ℕ) → m.owner x ≡ h + 1 → 0 < m.transit B x
    deliver_transit h q = omega (arith, transit-least n m k.core x h q B, waiting_way n m A B x l w.sender lane)

  -- HEAR: what the report changes stays in range
  module _ (A h : ℕ) (e : Event) (l : List Event) (lane : m.reports A h ≡ e ∷ l) where
    mine : m.owner e.object ≡ h + 1
    mine = oldest-named n A h m (k.core.home h) lane

    -- of a receipt or a creation, which names its own port
    gains : e.names ≡ e.at → 0 < gain e.object e.names e → m.heard e.names e.object < holding_limit
    gains q p = fine_head (room_count e.object e.names) e l holding_limit (m.heard e.names e.object)
        (rw (ap (λ (X : ℕ). m.reports X h) (q ∙ oldest_at n A h m (k.core.home h) lane) ∙ lane) at ((k.core.home h).room e.names e.object mine)) p

    pub hear_holding_fits : holding_fits e.kind (m.heard e.names e.object) ≡ true
    hear_holding_fits = go e.kind refl (oldest_proper n A h m (k.core.home h) lane).names
      where
        go : (v : Kind) → e.kind ≡ v → Names v n e.at e.names → holding_fits v (m.heard e.names e.object) ≡ true
        go send q w = refl
        go receive q w = lt-ltb (m.heard e.names e.object) holding_limit (gains w (omega (arith, one_self receive e q)))
        go create q w = lt-ltb (m.heard e.names e.object) holding_limit (gains w (omega (arith, one_self create e q)))
        go delete q w = lt-ltb 0 (m.heard e.names e.object) (omega (arith, hear_holding n m k.core A h lane e.names e.object, one_self delete e q))

    pub hear_transit_fits : transit_fits n e.kind (m.transit e.names e.object) ≡ true
    hear_transit_fits = go e.kind refl (oldest_proper n A h m (k.core.home h) lane).names
      where
        order : List Event
        order = (k.core.home h).order

        front : from A order ≡ e ∷ l
        front = sym ((k.core.home h).lanes A) ∙ lane

        go : (v : Kind) → e.kind ≡ v → Names v n e.at e.names → transit_fits n v (m.transit e.names e.object) ≡ true
        go send q w = lt-ltb (m.transit e.names e.object) (transit_top n)
            (omega (arith, transit_up n m k.core e.object h mine e.names w.0, total-without A (one send e.object e.names) order front, one_self send e q))
        go receive q w = lt-ltb 0 (m.transit e.names e.object) (omega (arith, hear_transit n m k.core A h lane e.names e.object, one_self receive e q))
        go create q w = refl
        go delete q w = refl

  -- RETIRE: nothing holds the object, no pointer is it and no report is about it
  module _ (o h : ℕ) (q : m.owner o ≡ h + 1) (w : MayRetire n o m) where
    gone : Gone n h o m
    gone = absent_gone n h o m (k.core.home h) q (record { away = λ X l d. w.away h X q l d; none = λ B l. omega (arith, w.moved B l) })

    pub retire_holds : (p : ℕ) → p < n → m.held p o ≡ 0
    retire_holds p l = go (ℕ_discrete p h)
      where
        go : Dec (p ≡ h) → m.held p o ≡ 0
        go (yes r) = ap (λ (x : ℕ). m.held x o) r ∙ w.home h q
        go (no d) = gone.away p l d

    pub retire_pointers : (A B : ℕ) → A < n → B < n → those (λ x. eqb x o) (m.pointers A B) ≡ []
    retire_pointers A B la lb = gone-pointers n h o m gone A B la lb

    pub retire_reports : (A : ℕ) → Unnamed o (m.reports A h)
    retire_reports A = gone.unheard A
