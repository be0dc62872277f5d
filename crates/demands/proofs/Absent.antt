-- What the home may conclude. If its books say absent of an object, then no other port holds it, nothing to it travels and no report
-- about it is unheard; and when that is so, its books say absent, with every transit at 0. So a free object can be owned and an absent one
-- retired.
-- Assumes nothing.
use mathlib.Core.Path.{◌≡◌, refl, sym, ap, ◌∙◌}
use mathlib.Core.Logic.{◌⊎◌, inl, inr}
use mathlib.Core.List.{List, [], ◌∷◌}
use Prim.Native.Nat.{ℕ, ◌+◌, ◌≤◌, ◌<◌}
use native.Mathlib.Omega.{arith}
use native.Mathlib.Decide.{ℕ_discrete}
use lib.Dec.{eqb}
use lib.ListN.{length}
use Rattle.paper.specs.Paper.{send, receive, create, delete, Event}
use Rattle.books.specs.Books.{holding_limit, transit_zero}
use Rattle.demands.specs.History.{those}
use Rattle.demands.proofs.Lists.{All, all_map, all_both, all_those, total, length_nil}
use Rattle.demands.proofs.Sums.{sum_term}
use Rattle.demands.proofs.Order.{from, from_same, from_other, from_none, all_lanes, Fine, fine_more, fine_none, fine_head, fine_tail}
use Rattle.demands.proofs.Events.{one, gain, loss, Proper, Active, transit_count, holder_count, room_count, holder_or_receipt, one_object}
use Rattle.demands.proofs.Events.{none_about, none_gained}
use Rattle.demands.proofs.Model.{M, on_way, Owned}
use Rattle.demands.proofs.Home.{Home}

-- no report of the list is about o
abbrev pub Unnamed : ℕ → List Event → Type 0
Unnamed o l = All (λ e. ¬ (e.object ≡ o)) l

-- the books of h say absent of o: no other port has a heard holding, and no transit is above 0
pub record Absent (n h o : ℕ) (m : M) : Type 0 where
  pub away : (X : ℕ) → X < n → ¬ (X ≡ h) → m.heard X o ≡ 0
  pub none : (B : ℕ) → B < n → m.transit B o ≤ transit_zero n

-- o is gone from everywhere but its home
pub record Gone (n h o : ℕ) (m : M) : Type 0 where
  pub away : (X : ℕ) → X < n → ¬ (X ≡ h) → m.held X o ≡ 0
  pub none : (B : ℕ) → B < n → on_way n m.pointers B o ≡ 0
  pub unheard : (X : ℕ) → Unnamed o (m.reports X h)

module _ (n h o : ℕ) where
  -- no report about o can be the first of an order: a holder's event needs a heard holding, a receipt a transit above 0
  clear : (l : List Event) (a b : ℕ → ℕ) → ((B : ℕ) → B < n → a B ≤ b B) → All (Proper n) l → All (λ e. ¬ (e.at ≡ h)) l
      → ((X : ℕ) → X < n → ¬ (X ≡ h) → Fine (holder_count o X) 0 0 (from X l)) → ((B : ℕ) → Fine (transit_count o B) (a B) (b B) l) → Unnamed o l
  unfolding All
  clear [] a b le p d ho tr = tt
  clear (e ∷ l) a b le p d ho tr = (
    other,
    clear l (λ B. a B + one send o B e) (λ B. b B + one receive o B e)
        (λ B k. omega (arith, le B k, one_object send o B e other, one_object receive o B e other)) p.1 d.1 rest
        (λ B. fine_tail (transit_count o B) e l (a B) (b B) (tr B)),
  )
    where
      other : ¬ (e.object ≡ o)
      other q = go (holder_or_receipt n e p.0)
        where
          go : Active e.kind ⊎ (one receive e.object e.at e ≡ 1) → ⊥
          go (inl k) = (let w : 0 < 0 = fine_head (holder_count o e.at) e (from e.at l) 0 0
              (rw (from_same e.at e l refl) at (ho e.at p.0.port d.0)) (k, q) in omega arith)
          go (inr k) = (let w : b e.at < a e.at = fine_head (transit_count o e.at) e l (a e.at) (b e.at) (tr e.at)
              (omega (arith, k, ap (λ (x : ℕ). one receive x e.at e) q)) in omega (arith, le e.at p.0.port))

      rest : (X : ℕ) → X < n → ¬ (X ≡ h) → Fine (holder_count o X) 0 0 (from X l)
      rest X k f = go (ℕ_discrete e.at X)
        where
          go : Dec (e.at ≡ X) → Fine (holder_count o X) 0 0 (from X l)
          go (no r) = rw (from_other X e l r) at (ho X k f)
          go (yes r) = fine_more (holder_count o X) (from X l) (0 + gain o X e) (0 + loss o X e) 0 0
              (omega (arith, one_object receive o X e other, one_object create o X e other, one_object delete o X e other))
              (fine_tail (holder_count o X) e (from X l) 0 0 (rw (from_same X e l r) at (ho X k f)))

  module _ (m : M) (i : Home n h m) (mine : m.owner o ≡ h + 1) where
    pub absent_unnamed : Absent n h o m → Unnamed o i.order
    absent_unnamed a =
        clear i.order (λ B. m.transit B o) (λ B. transit_zero n) a.none i.proper (from_none h i.order (sym (i.lanes h) ∙ i.quiet))
        (λ X k d. rw (a.away X k d, i.lanes X) at (i.holder X o mine)) (λ B. i.transits B o mine)

    -- DEMAND 3, safety
    pub absent_gone : Absent n h o m → Gone n h o m
    absent_gone a = record {
      away = λ X k d. omega (arith, i.holding X o mine, a.away X k d, none_gained o X (m.reports X h) (lane X), none_about delete o X (m.reports X h) (lane X));
      none = λ B k. omega (arith, i.travel B o mine, a.none B k, none_about send o B i.order all, none_about receive o B i.order all);
      unheard = lane;
    }
      where
        all : Unnamed o i.order
        all = absent_unnamed a

        lane : (X : ℕ) → Unnamed o (m.reports X h)
        lane X = rw (i.lanes X) (all_those (λ e. ¬ (e.object ≡ o)) _ i.order all)

    -- and back, with every transit at 0: so verdict 2, early, is never given
    pub gone_absent : Gone n h o m → Absent n h o m × ((B : ℕ) → B < n → m.transit B o ≡ transit_zero n)
    gone_absent g = (record { away = away; none = λ B k. omega (arith, exact B k) }, exact)
      where
        all : Unnamed o i.order
        all = all_lanes _ i.order (λ X. rw (i.lanes X) at (g.unheard X))

        away : (X : ℕ) → X < n → ¬ (X ≡ h) → m.heard X o ≡ 0
        away X k d = omega (arith, i.holding X o mine, g.away X k d, none_gained o X (m.reports X h) (g.unheard X), none_about delete o X (m.reports X h) (g.unheard X))

        exact : (B : ℕ) → B < n → m.transit B o ≡ transit_zero n
        exact B k = omega (arith, i.travel B o mine, g.none B k, none_about send o B i.order all, none_about receive o B i.order all)

-- what is gone is on no pointer lane between ports
pub gone-pointers : (n h o : ℕ) (m : M) → Gone n h o m → (A B : ℕ) → A < n → B < n → those (λ x. eqb x o) (m.pointers A B) ≡ []
gone-pointers n h o m g A B la lb = length_nil (those (λ x. eqb x o) (m.pointers A B)) (omega (arith, g.none B lb, on_lane))
  where
    on_lane : length (those (λ x. eqb x o) (m.pointers A B)) ≤ on_way n m.pointers B o
    on_lane = unfold on_way in sum_term n A (λ X. length (those (λ x. eqb x o) (m.pointers X B))) la

-- all that is kept of o at port p is nothing
abbrev pub Bare : ℕ → ℕ → ℕ → M → Type 0
Bare n p o m = (m.held p o ≡ 0) × (m.heard p o ≡ 0) × (m.transit p o ≡ transit_zero n) × (on_way n m.pointers p o ≡ 0)

-- an object of which nothing is kept and no report speaks may change its owner
pub owned_home : (n h x b : ℕ) (m m' : M) → Owned x b m m' → (i : Home n h m) → Unnamed x i.order → ((p : ℕ) → Bare n p x m) → Home n h m'
owned_home n h x b m m' t i all bare = record {
  order = i.order;
  lanes = λ X. t.reports X h ∙ i.lanes X;
  quiet = t.reports h h ∙ i.quiet;
  named = all_both _ _ _ i.order (λ e w d. t.rest e.object d ∙ w) i.named all;
  proper = i.proper;
  ear = λ X o w. rw (t.books.heard X o) (ear X o w (ℕ_discrete o x));
  holder = λ X o w. rw (t.books.heard X o, t.reports X h) (holder X o w (ℕ_discrete o x));
  room = λ X o w. rw (t.books.heard X o, t.reports X h) (room X o w (ℕ_discrete o x));
  holding = λ X o w. rw (t.books.heard X o, t.held X o, t.reports X h) (holding X o w (ℕ_discrete o x));
  transits = λ B o w. rw (t.books.transit B o) (transits B o w (ℕ_discrete o x));
  travel = λ B o w. rw (t.books.transit B o) (travel B o w (ℕ_discrete o x));
}
  where
    mine : (o : ℕ) → m'.owner o ≡ h + 1 → ¬ (o ≡ x) → m.owner o ≡ h + 1
    mine o w d = sym (t.rest o d) ∙ w

    lane : (X : ℕ) → Unnamed x (m.reports X h)
    lane X = rw (i.lanes X) (all_those (λ e. ¬ (e.object ≡ x)) _ i.order all)

    ear : (X o : ℕ) → m'.owner o ≡ h + 1 → Dec (o ≡ x) → m.heard X o ≤ holding_limit
    ear X o w (yes q) = rw q (omega (arith, (bare X).1))
    ear X o w (no d) = i.ear X o (mine o w d)

    holder : (X o : ℕ) → m'.owner o ≡ h + 1 → Dec (o ≡ x) → Fine (holder_count o X) (m.heard X o) 0 (m.reports X h)
    holder X o w (yes q) = rw q (fine_none (holder_count x X) (m.reports X h) (m.heard X x) 0 (all_map _ _ (m.reports X h) (λ e d k. d k.1) (lane X)))
    holder X o w (no d) = i.holder X o (mine o w d)

    room : (X o : ℕ) → m'.owner o ≡ h + 1 → Dec (o ≡ x) → Fine (room_count o X) holding_limit (m.heard X o) (m.reports X h)
    room X o w (yes q) = rw q (fine_none (room_count x X) (m.reports X h) holding_limit (m.heard X x)
        (all_map _ _ (m.reports X h) (λ e d k. (let g : 0 < gain x X e = k in omega (arith, one_object receive x X e d, one_object create x X e d))) (lane X)))
    room X o w (no d) = i.room X o (mine o w d)

    holding : (X o : ℕ) → m'.owner o ≡ h + 1 → Dec (o ≡ x)
        → m.heard X o + total (gain o X) (m.reports X h) ≡ m.held X o + total (loss o X) (m.reports X h)
    holding X o w (yes q) = rw q (omega (arith, (bare X).0, (bare X).1, none_gained x X (m.reports X h) (lane X), none_about delete x X (m.reports X h) (lane X)))
    holding X o w (no d) = i.holding X o (mine o w d)

    transits : (B o : ℕ) → m'.owner o ≡ h + 1 → Dec (o ≡ x) → Fine (transit_count o B) (m.transit B o) (transit_zero n) i.order
    transits B o w (yes q) = rw q (fine_none (transit_count x B) i.order (m.transit B x) (transit_zero n)
        (all_map _ _ i.order (λ e d k. (let g : 0 < one receive x B e = k in omega (arith, one_object receive x B e d))) all))
    transits B o w (no d) = i.transits B o (mine o w d)

    travel : (B o : ℕ) → m'.owner o ≡ h + 1 → Dec (o ≡ x)
        → m.transit B o + total (one send o B) i.order ≡ transit_zero n + total (one receive o B) i.order + on_way n m'.pointers B o
    travel B o w (yes q) = rw (q, way) (omega (arith, (bare B).2, (bare B).3, none_about send x B i.order all, none_about receive x B i.order all))
      where
        way : on_way n m'.pointers B x ≡ on_way n m.pointers B x
        way = unfold on_way in simp t.pointers
    travel B o w (no d) = rw way (i.travel B o (mine o w d))
      where
        way : on_way n m'.pointers B o ≡ on_way n m.pointers B o
        way = unfold on_way in simp t.pointers
