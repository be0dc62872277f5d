-- Demand 2 on the model: a port holds an object exactly if 004's any says so of what happened, a pointer that waits may be received, and
-- what happened about an object in use is a legal event set.
-- Assumes nothing.
use mathlib.Core.Path.{◌≡◌, refl, sym, ap, ◌∙◌, subst}
use mathlib.Core.Bool.{false, cond}
use mathlib.Core.Logic.{◌↔◌}
use mathlib.Core.List.{List, [], ◌∷◌}
use Prim.Native.Nat.{ℕ, ◌+◌, ◌<◌}
use native.Mathlib.Omega.{arith}
use native.Mathlib.Decide.{ℕ_discrete}
use lib.Dec.{eqb}
use lib.ListN.{length}
use borrow.Author.Tests.{eq-eqb, ne_eqb}
use Rattle.paper.specs.Paper.{receive, create, delete, Event, Any, May, Legal, made, more}
use Rattle.machine.specs.Acts.{Act, Name, MAKE, SEND, COPY, DROP, DELIVER, HEAR, ASK, RETIRE, SETTLE, HOLD, act, is, event, sending}
use Rattle.demands.specs.History.{those, events_of, happened}
use Rattle.demands.proofs.Sums.{sum_term, pointers-front}
use Rattle.demands.proofs.Model.{M, on_way, lowest, Made, Effect}
use Rattle.demands.proofs.Steps.{Guard, step, Reached, begin, next}
use Rattle.demands.proofs.Left.{Follows, next_lowest, oldest_left, reached_follows}
use Rattle.demands.proofs.Counted.{Counted, since-event, since_none, since-made, since_others, reached_counted}

-- a pointer that waits is on the way
pub waiting_way : (n : ℕ) (m : M) (A B x : ℕ) (l : List ℕ) → A < n → m.pointers A B ≡ x ∷ l → 0 < on_way n m.pointers B x
unfolding on_way
waiting_way n m A B x l k h = omega (
  arith,
  sum_term n A (λ X. length (those (λ y. eqb y x) (m.pointers X B))) k,
  ap (λ (j : List ℕ). length (those (λ y. eqb y x) j)) h,
  pointers-front x x l,
  one,
)
  where
    one : ◌≡◌ {A = ℕ} (cond (eqb x x) 1 0) 1
    one = rw (eq-eqb x x refl)

module _ (n : ℕ) (acts : List Act) (m : M) (c : Counted n acts m) where
  -- rule 7 is 004's any
  pub holds_any : (p o : ℕ) → ¬ (m.held p o ≡ 0) ↔ Any o p (happened o acts)
  holds_any p o = (λ d. omega (arith, c.held p o), λ a q. omega (arith, a, q, c.held p o))

  -- a receipt is legal exactly if a pointer is on the way
  pub way_may : (p o : ℕ) → (0 < on_way n m.pointers p o) ↔ May (event receive o p) (happened o acts)
  way_may p o = (λ k. omega (arith, c.way p o), λ k. omega (arith, k, c.way p o))

-- what happened about each object in use is legal
abbrev pub AllLegal : List Act → M → Type 0
AllLegal acts m = (o h : ℕ) → m.owner o ≡ h + 1 → Legal h o (happened o acts)

-- an act that is one event, which 004 allows, and makes nothing
event_legal : (a : Act) (acts : List Act) (e : Event) (m m' : M) → is MAKE a ≡ false → events_of a acts ≡ e ∷ [] → ((o : ℕ) → m'.owner o ≡ m.owner o)
    → May e (happened e.object acts) → AllLegal acts m → AllLegal (a ∷ acts) m'
event_legal a acts e m m' h w s may l o k q = rw (since-event events_of a acts o e h w) (go (ℕ_discrete e.object o))
  where
    before : Legal k o (happened o acts)
    before = l o k (sym (s o) ∙ q)

    go : Dec (e.object ≡ o) → Legal k o (cond (eqb e.object o) (e ∷ happened o acts) (happened o acts))
    go (yes r) = rw (eq-eqb e.object o r) (more e r before (subst (λ (x : ℕ). May e (happened x acts)) r may))
    go (no d) = rw (ne_eqb e.object o d) before

-- an act that is no event and makes nothing
still_legal : (a : Act) (acts : List Act) (m m' : M) → is MAKE a ≡ false → events_of a acts ≡ [] → ((o h : ℕ) → m'.owner o ≡ h + 1 → m.owner o ≡ h + 1)
    → AllLegal acts m → AllLegal (a ∷ acts) m'
still_legal a acts m m' h w s l o k q = rw (since_none events_of a acts o h w) (l o k (s o k q))

make_legal : (A o B : ℕ) (acts : List Act) (m m' : M) → Made A (lowest m) m m' → Follows acts m → AllLegal acts m → AllLegal (act MAKE A o B ∷ acts) m'
make_legal A o B acts m m' t f l q k w = go (ℕ_discrete q (lowest m))
  where
    happens : events_of (act MAKE A o B) acts ≡ event create (lowest m) A ∷ []
    happens = unfold events_of in ap (λ (y : ℕ). event create y A ∷ []) (next_lowest acts m f)

    owned : t.between.owner q ≡ k + 1
    owned = sym (t.happens.owner q) ∙ w

    go : Dec (q ≡ lowest m) → Legal k q (happened q (act MAKE A o B ∷ acts))
    go (yes r) = (let home : A ≡ k = omega (arith, owned, t.owned.here, ap t.between.owner r) in
        rw (r, since-made events_of A o B acts (event create (lowest m) A) happens (sym (next_lowest acts m f)), home) made)
    go (no d) = rw (since_others events_of A o B acts (event create (lowest m) A) happens (sym (next_lowest acts m f)) q d) (l q k (sym (t.owned.rest q d) ∙ owned))

act_legal : (n : ℕ) (k : Name) (A o B : ℕ) (acts : List Act) (m m' : M) → Follows acts m → Counted n acts m → Guard n k A o B m → Effect k A o B m m'
    → AllLegal acts m → AllLegal (act k A o B ∷ acts) m'
act_legal n MAKE A o B acts m m' f c w t l = make_legal A o B acts m m' t f l
act_legal n SEND A o B acts m m' f c w t l =
    event_legal (act SEND A o B) acts (sending o A B) m m' refl (unfold events_of in refl) t.1.owner ((holds_any n acts m c A o).0 w.holds) l
act_legal n COPY A o B acts m m' f c w t l =
    event_legal (act COPY A o B) acts (event create o A) m m' refl (unfold events_of in refl) t.1.owner ((holds_any n acts m c A o).0 w.holds) l
act_legal n DROP A o B acts m m' f c w t l =
    event_legal (act DROP A o B) acts (event delete o A) m m' refl (unfold events_of in refl) t.1.owner ((holds_any n acts m c A o).0 w.holds) l
act_legal n DELIVER A o B acts m m' f c w t l =
    event_legal (act DELIVER A o B) acts (event receive t.0 B) m m' refl
    (unfold events_of in ap (λ (x : ℕ). event receive x B ∷ []) (oldest_left acts m f A B t.0 (m'.pointers A B) t.1.here)) t.2.owner
    ((way_may n acts m c B t.0).0 (waiting_way n m A B t.0 (m'.pointers A B) w.sender t.1.here)) l
act_legal n HEAR A o B acts m m' f c w t l = still_legal (act HEAR A o B) acts m m' refl (unfold events_of in refl) (λ q h r. sym (t.1.owner q) ∙ r) l
act_legal n ASK A o B acts m m' f c w t l = still_legal (act ASK A o B) acts m m' refl (unfold events_of in refl) (λ q h r. sym (t.owner q) ∙ r) l
act_legal n RETIRE A o B acts m m' f c w t l = still_legal (act RETIRE A o B) acts m m' refl (unfold events_of in refl) kept l
  where
    kept : (q h : ℕ) → m'.owner q ≡ h + 1 → m.owner q ≡ h + 1
    kept q h r = go (ℕ_discrete q o)
      where
        go : Dec (q ≡ o) → m.owner q ≡ h + 1
        go (yes s) = absurd (omega (arith, r, ap m'.owner s, t.here))
        go (no d) = sym (t.rest q d) ∙ r
act_legal n SETTLE A o B acts m m' f c w t l = still_legal (act SETTLE A o B) acts m m' refl (unfold events_of in refl) (λ q h r. sym (t.owner q) ∙ r) l
act_legal n HOLD A o B acts m m' f c w t l = still_legal (act HOLD A o B) acts m m' refl (unfold events_of in refl) (λ q h r. sym (t.owner q) ∙ r) l

-- DEMAND 2: what has happened about an object in use is a legal event set
pub reached_legal : (n : ℕ) (acts : List Act) (m : M) → Reached n acts m → AllLegal acts m
reached_legal n acts m (begin f) = λ o h w. absurd (omega (arith, w, f.owner o))
reached_legal n acts m (next {acts = before} {m = m₀} r (step k A o B w t)) =
    act_legal n k A o B before m₀ m (reached_follows n before m₀ r) (reached_counted n before m₀ r) w t (reached_legal n before m₀ r)
