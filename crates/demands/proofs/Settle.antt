-- Demand 3, settling, on the model: a delivery and a hearing lower the settling number, which is bounded; while anything travels one of
-- them can be taken; and where nothing travels the verdict is 1 exactly when no port but the home holds the object.
-- Assumes nothing.
use mathlib.Core.Path.{◌≡◌, refl, sym, ap, ◌∙◌}
use mathlib.Core.Logic.{◌⊎◌, inl, inr, ◌↔◌}
use mathlib.Core.List.{List, [], ◌∷◌}
use Prim.Native.Nat.{ℕ, zero, suc, ◌+◌, ◌-◌, ◌*◌, ◌≤◌, ◌<◌}
use native.Mathlib.Nat.{mul_left_comm}
use native.Mathlib.Omega.{arith}
use native.Mathlib.Decide.{ℕ_discrete, dec_lt}
use lib.Dec.{eqb}
use lib.ListN.{length}
use Rattle.paper.specs.Paper.{Event, receive}
use Rattle.books.specs.Numbers.{sum_to}
use Rattle.books.proofs.Numbers.{sum_ext}
use Rattle.lanes.specs.Lane.{pointer_places, report_places}
use Rattle.machine.specs.Acts.{DELIVER, event}
use Rattle.demands.specs.History.{those}
use Rattle.demands.proofs.Lists.{all_nil, total, total_more, total_snoc, length_nil}
use Rattle.demands.proofs.Sums.{sum_grown, sum_le, sum_le_but, sum_term, sum_find, sum_zero}
use Rattle.demands.proofs.Model.{M, Lanes, SameLanes, Added, Taken, on_way, Happens, Heard, Effect}
use Rattle.demands.proofs.Absent.{Gone, absent_gone, gone_absent}
use Rattle.demands.proofs.Core.{Core, report_sender}
use Rattle.demands.proofs.Steps.{MayHear, MayDeliver}
use Rattle.demands.proofs.Verdict.{verdict_of, says_absent, absent_exactly}

-- a weight of entries, which may look at the lane; all that is on the lanes between n ports weighed together
abbrev pub Weight : Type 0 → Type 0
Weight E = ℕ → ℕ → E → ℕ

unfoldable pub weighed : {E : Type 0} → ℕ → Weight E → Lanes E → ℕ
weighed n w f = sum_to n (λ A. sum_to n (λ B. total (w A B) (f A B)))

module _ {E : Type 0} (n : ℕ) (w : Weight E) (f g : Lanes E) where
  -- one lane becomes d heavier
  pub weighed_grown : (A B d : ℕ) → A < n → B < n → total (w A B) (g A B) ≡ total (w A B) (f A B) + d
      → ((X Y : ℕ) → ¬ ((X ≡ A) × (Y ≡ B)) → g X Y ≡ f X Y) → weighed n w g ≡ weighed n w f + d
  unfolding weighed
  weighed_grown A B d la lb e rest =
      sum_grown n A d (λ X. sum_to n (λ Y. total (w X Y) (f X Y))) (λ X. sum_to n (λ Y. total (w X Y) (g X Y))) la
      (sum_grown n B d (λ Y. total (w A Y) (f A Y)) (λ Y. total (w A Y) (g A Y)) lb e (λ Y r. ap (total (w A Y)) (rest A Y (λ k. r k.1))))
      (λ X r. sum_ext (λ Y. total (w X Y) (g X Y)) (λ Y. total (w X Y) (f X Y)) n (λ Y _. ap (total (w X Y)) (rest X Y (λ k. r k.0))))

  pub weighed_same : SameLanes f g → weighed n w g ≡ weighed n w f
  unfolding weighed
  weighed_same s = simp s

module _ {E : Type 0} (n A B : ℕ) (x : E) (w : Weight E) (f g : Lanes E) (la : A < n) (lb : B < n) where
  pub weighed-added : Added A B x f g → weighed n w g ≡ weighed n w f + w A B x
  weighed-added t = weighed_grown n w f g A B (w A B x) la lb (rw t.here (total_snoc (w A B) (f A B) x)) t.rest

  pub weighed-taken : Taken A B x f g → weighed n w f ≡ weighed n w g + w A B x
  weighed-taken t = weighed_grown n w g f A B (w A B x) la lb (rw t.here (omega (arith, total_more (w A B) x (g A B)))) (λ X Y d. sym (t.rest X Y d))

-- how many entries are on the lanes between n ports
abbrev pub entries : {E : Type 0} → ℕ → Lanes E → ℕ
entries n f = sum_to n (λ A. sum_to n (λ B. length (f A B)))

-- entries that all weigh k
total_even : {E : Type 0} (k : ℕ) (l : List E) → total (λ e. k) l ≡ k * length l
unfolding total
total_even k [] = omega arith
total_even k (e ∷ l) = omega (arith, total_even k l)

sum_times : (k : ℕ) (f : ℕ → ℕ) (n : ℕ) → sum_to n (λ i. k * f i) ≡ k * sum_to n f
unfolding sum_to
sum_times k f zero = omega arith
sum_times k f (suc n) = omega (arith, sum_times k f n)

pub weighed_even : {E : Type 0} (n k : ℕ) (f : Lanes E) → weighed n (λ A B e. k) f ≡ k * entries n f
unfolding weighed
weighed_even n k f =
    sum_ext (λ A. sum_to n (λ B. total (λ e. k) (f A B))) (λ A. k * sum_to n (λ B. length (f A B))) n
    (λ A _. sum_ext (λ B. total (λ e. k) (f A B)) (λ B. k * length (f A B)) n (λ B _. total_even k (f A B)) ∙ sum_times k (λ B. length (f A B)) n)
    ∙ sum_times k (λ A. sum_to n (λ B. length (f A B))) n

-- terms of at most c, one of them 0
row_le : (n c A : ℕ) (f : ℕ → ℕ) → A < n → f A ≡ 0 → ((k : ℕ) → k < n → f k ≤ c) → sum_to n f ≤ c * (n - 1)
row_le zero c A f l q h = absurd (omega arith)
row_le (suc n) c A f l q h = (let r : suc n - 1 ≡ n = omega arith in rw r (omega (arith, sum_le_but (suc n) c A f l q h)))

-- no lane longer than c, and none from a port to itself
pub entries_le : {E : Type 0} (n c : ℕ) (f : Lanes E) → ((A B : ℕ) → length (f A B) ≤ c) → ((A : ℕ) → f A A ≡ []) → entries n f ≤ c * (n * (n - 1))
entries_le n c f le self = omega (
  arith,
  sum_le n (c * (n - 1)) (λ A. sum_to n (λ B. length (f A B)))
      (λ A l. row_le n c A (λ B. length (f A B)) l (ap length (self A)) (λ B _. le A B)),
  mul_left_comm n c (n - 1),
)

-- a pointer weighs 2 and a report 1
abbrev pub pointer_weight : Weight ℕ
pointer_weight A B x = 2

abbrev pub report_weight : Weight Event
report_weight A B e = 1

-- the settling number
unfoldable pub settling : ℕ → M → ℕ
settling n m = weighed n pointer_weight m.pointers + weighed n report_weight m.reports

-- it is twice the pointers and the reports, and bounded
pub settling-entries : (n : ℕ) (m : M) → settling n m ≡ 2 * entries n m.pointers + entries n m.reports
unfolding settling
settling-entries n m = omega (arith, weighed_even n 2 m.pointers, weighed_even n 1 m.reports)

pub settling_le : (n : ℕ) (m : M) → Core n m → settling n m ≤ (2 * pointer_places + report_places) * (n * (n - 1))
settling_le n m g = omega (
  arith,
  settling-entries n m,
  entries_le n pointer_places m.pointers g.lanes.narrow g.lanes.self,
  entries_le n report_places m.reports g.short (λ A. (g.home A).quiet),
)

module _ (n : ℕ) where
  -- each hearing lowers the settling number by 1
  pub hear_lowers : (A B : ℕ) (e : Event) (m m' : M) → A < n → B < n → Heard A B e m m' → settling n m ≡ settling n m' + 1
  unfolding settling
  hear_lowers A B e m m' la lb t =
      omega (arith, weighed_same n pointer_weight m.pointers m'.pointers t.pointers, weighed-taken n A B e report_weight m.reports m'.reports la lb t.taken)

  -- an event adds at most one report
  event_adds : (e : Event) (m m' : M) → e.at < n → m.owner e.object ≤ n → Happens e m m' → weighed n report_weight m'.reports ≤ weighed n report_weight m.reports + 1
  event_adds e m m' la lo t = go (m.owner e.object) refl
    where
      same : ((A B : ℕ) → m'.reports A B ≡ m.reports A B) → weighed n report_weight m'.reports ≤ weighed n report_weight m.reports + 1
      same s = omega (arith, weighed_same n report_weight m.reports m'.reports s)

      go : (k : ℕ) → m.owner e.object ≡ k → weighed n report_weight m'.reports ≤ weighed n report_weight m.reports + 1
      go zero q = same (λ A B. t.rest A B (λ k. omega (arith, q, k.1)))
      go (suc h) q = home (ℕ_discrete e.at h)
        where
          home : Dec (e.at ≡ h) → weighed n report_weight m'.reports ≤ weighed n report_weight m.reports + 1
          home (yes r) = same (λ A B. t.rest A B (λ k. k.2 (omega (arith, k.0, k.1))))
          home (no d) = omega (
            arith,
            weighed-added n e.at h e report_weight m.reports m'.reports la (omega arith)
                (record { here = t.put h (omega arith) d; rest = λ X Y r. t.rest X Y (λ k. r (k.0, omega (arith, k.1))) }),
          )

  -- each delivery lowers it by at least 1
  pub deliver_lowers : (A o B : ℕ) (m m' : M) → Core n m → A < n → B < n → Effect DELIVER A o B m m' → settling n m' < settling n m
  unfolding settling
  deliver_lowers A o B m m' g la lb t =
      omega (arith, weighed-taken n A B t.0 pointer_weight m.pointers m'.pointers la lb t.1, event_adds (event receive t.0 B) m m' lb (g.owners t.0) t.2)

  -- nothing travels
  abbrev pub Still : M → Type 0
  Still m = (A B : ℕ) → A < n → B < n → (m.pointers A B ≡ []) × (m.reports A B ≡ [])

  -- a lane that has something, or all lanes empty
  found : {E : Type 0} (f : Lanes E) → ((A : ℕ) × (B : ℕ) × (A < n) × (B < n) × ¬ (length (f A B) ≡ 0)) ⊎ ((A B : ℕ) → A < n → B < n → f A B ≡ [])
  found f = go (sum_to n (λ A. sum_to n (λ B. length (f A B)))) refl
    where
      go : (k : ℕ) → sum_to n (λ A. sum_to n (λ B. length (f A B))) ≡ k
          → ((A : ℕ) × (B : ℕ) × (A < n) × (B < n) × ¬ (length (f A B) ≡ 0)) ⊎ ((A B : ℕ) → A < n → B < n → f A B ≡ [])
      go zero q = inr (λ A B la lb. length_nil (f A B) (omega (arith, sum_term n A (λ X. sum_to n (λ Y. length (f X Y))) la, sum_term n B (λ Y. length (f A Y)) lb)))
      go (suc k) q = (let a = sum_find n (λ A. sum_to n (λ B. length (f A B))) (omega arith) in let b = sum_find n (λ B. length (f a.0 B)) a.2 in
          inl (a.0, b.0, a.1, b.1, λ z. omega (arith, b.2, z)))

  -- while anything travels, a hearing or a delivery is left by the refusals
  pub progress : (m : M) → Core n m → Still m ⊎ ((A : ℕ) × (B : ℕ) × (MayHear n A B m ⊎ MayDeliver n A B m))
  progress m g = reports (found m.reports)
    where
      Goal : Type 0
      Goal = Still m ⊎ ((A : ℕ) × (B : ℕ) × (MayHear n A B m ⊎ MayDeliver n A B m))

      pointers : ((A B : ℕ) → A < n → B < n → m.reports A B ≡ [])
          → ((A : ℕ) × (B : ℕ) × (A < n) × (B < n) × ¬ (length (m.pointers A B) ≡ 0)) ⊎ ((A B : ℕ) → A < n → B < n → m.pointers A B ≡ []) → Goal
      pointers r (inr s) = inl (λ A B la lb. (s A B la lb, r A B la lb))
      pointers r (inl w) = inr (
        w.0,
        w.1,
        inr (record {
          sender = w.2;
          receiver = w.3;
          apart = λ q. w.4 (ap length (ap (m.pointers w.0) (sym q) ∙ g.lanes.self w.0));
          waits = w.4;
          told = λ x l k h q d z. omega (arith, z, ap length (r w.1 h w.3 (omega (arith, q, g.owners x))));
        }),
      )

      reports : ((A : ℕ) × (B : ℕ) × (A < n) × (B < n) × ¬ (length (m.reports A B) ≡ 0)) ⊎ ((A B : ℕ) → A < n → B < n → m.reports A B ≡ []) → Goal
      reports (inl w) = inr (
        w.0,
        w.1,
        inl (record {
          sender = w.2;
          receiver = w.3;
          apart = λ q. w.4 (ap length (ap (m.reports w.0) (sym q) ∙ (g.home w.0).quiet));
          waits = w.4;
        }),
      )
      reports (inr r) = pointers r (found m.pointers)

  -- DEMAND 3: where nothing travels, the verdict is 1 exactly when no port but the home holds the object
  pub at_rest_lem : (m : M) → Core n m → Still m → (o h : ℕ) → m.owner o ≡ h + 1 → (verdict_of n h o m ≡ 1) ↔ ((p : ℕ) → p < n → ¬ (p ≡ h) → m.held p o ≡ 0)
  at_rest_lem m g s o h w = (
    λ e. (absent_gone n h o m (g.home h) w ((says_absent n h o m).0 (inl e))).away,
    λ a. (let k = gone_absent n h o m (g.home h) w (gone a) in absent_exactly n h o m k.0 k.1),
  )
    where
      lane : (X : ℕ) → Dec (X < n) → m.reports X h ≡ []
      lane X (yes l) = (s X h l (omega (arith, w, g.owners o))).1
      lane X (no l) = report_sender n m g X h (omega arith)

      way : (B : ℕ) → B < n → on_way n m.pointers B o ≡ 0
      way B l = unfold on_way in sum_zero n (λ A. length (those (λ x. eqb x o) (m.pointers A B))) (λ A k. rw (s A B k l).0 (unfold those in refl))

      gone : ((p : ℕ) → p < n → ¬ (p ≡ h) → m.held p o ≡ 0) → Gone n h o m
      gone a = record { away = a; none = way; unheard = λ X. rw (lane X (dec_lt X n)) (all_nil _) }
