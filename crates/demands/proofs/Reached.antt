-- Demands 2 and 3 on every model that acts reach, sentence by sentence.
-- Assumes nothing.
use mathlib.Core.Path.{◌≡◌, ap, ◌∙◌}
use mathlib.Core.Logic.{◌↔◌}
use mathlib.Core.List.{List, [], ◌∷◌}
use Prim.Native.Nat.{ℕ, ◌+◌, ◌<◌}
use native.Mathlib.Omega.{arith}
use native.Mathlib.Decide.{ℕ_discrete}
use lib.Dec.{eqb}
use lib.IntN.{pos, ◌+ℤ◌}
use borrow.Author.Tests.{ne_eqb}
use Rattle.paper.specs.Paper.{receive, Any, May, Absence, in_transit, pointers_to}
use Rattle.paper.proofs.Paper.{holding_is, transit_is}
use Rattle.books.specs.Books.{transit_zero}
use Rattle.machine.specs.Acts.{Act, event}
use Rattle.demands.specs.History.{those, undelivered, happened, heard}
use Rattle.demands.proofs.Lists.{all_map, those_none}
use Rattle.demands.proofs.Model.{M}
use Rattle.demands.proofs.Absent.{Gone, Unnamed, absent_gone, gone-pointers}
use Rattle.demands.proofs.Core.{Core, report-named}
use Rattle.demands.proofs.Steps.{Reached}
use Rattle.demands.proofs.Kept.{reached_kept}
use Rattle.demands.proofs.Counted.{Counted, reached_counted}
use Rattle.demands.proofs.Left.{pointers_left}
use Rattle.demands.proofs.Legal.{holds_any, way_may, waiting_way}
use Rattle.demands.proofs.Verdict.{SaysAbsent, says_absent, absent_is_absence}

module _ (n : ℕ) (acts : List Act) (m : M) (r : Reached n acts m) where
  core : Core n m
  core = (reached_kept n acts m r).core

  counted : Counted n acts m
  counted = reached_counted n acts m r

  -- DEMAND 2: rule 7 is 004's any of what happened
  pub holds_exactly : (p o : ℕ) → ¬ (m.held p o ≡ 0) ↔ Any o p (happened o acts)
  holds_exactly = holds_any n acts m counted

  -- the receipt of a sending that is the oldest undelivered is one that 004 allows
  pub receipt_may : (A B x : ℕ) (l : List ℕ) → A < n → undelivered A B acts ≡ x ∷ l → May (event receive x B) (happened x acts)
  receipt_may A B x l k h = (way_may n acts m counted B x).0 (waiting_way n m A B x l k (pointers_left n acts m r A B ∙ h))

  -- verdict 1 or 2 is 004's absence of what the home has heard
  pub verdict_exactly : (o h : ℕ) → SaysAbsent n h o m ↔ Absence h o (heard o acts)
  verdict_exactly o h =
      (λ e. (absent_is_absence n h o m acts core counted).0 ((says_absent n h o m).0 e), λ b. (says_absent n h o m).1 ((absent_is_absence n h o m acts core counted).1 b))

  -- the books are 004's two counts of it
  pub books_exactly : (p o : ℕ) → (pos (m.heard p o) ≡ pointers_to o p (heard o acts)) × (pos (m.transit p o) ≡ pos (transit_zero n) +ℤ in_transit o p (heard o acts))
  books_exactly p o = (holding_is o p (m.heard p o) (heard o acts) (counted.books p o), transit_is (transit_zero n) o p (m.transit p o) (heard o acts) (counted.transits p o))

  -- DEMAND 3: absent means gone from every other port, every pointer lane and every report lane
  pub absent_exactly_gone : (o h : ℕ) → m.owner o ≡ h + 1 → SaysAbsent n h o m
      → ((p : ℕ) → p < n → ¬ (p ≡ h) → m.held p o ≡ 0)
      × ((A B : ℕ) → A < n → B < n → (those (λ x. eqb x o) (m.pointers A B) ≡ []) × (those (λ e. eqb e.object o) (m.reports A B) ≡ []))
  absent_exactly_gone o h q s = (gone.away, λ A B la lb. (gone-pointers n h o m gone A B la lb, reports A B (ℕ_discrete B h)))
    where
      gone : Gone n h o m
      gone = absent_gone n h o m (core.home h) q ((says_absent n h o m).0 s)

      unnamed : (A B : ℕ) → Unnamed o (m.reports A B) → those (λ e. eqb e.object o) (m.reports A B) ≡ []
      unnamed A B w = those_none (λ e. eqb e.object o) (m.reports A B) (all_map _ _ (m.reports A B) (λ e d. ne_eqb e.object o d) w)

      reports : (A B : ℕ) → Dec (B ≡ h) → those (λ e. eqb e.object o) (m.reports A B) ≡ []
      reports A B (yes t) = rw t (unnamed A h (gone.unheard A))
      reports A B (no d) = unnamed A B (all_map _ _ (m.reports A B) (λ e w t. d (omega (arith, w, q, ap m.owner t))) (report-named n m core A B))
