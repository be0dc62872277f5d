-- One order of the reports of several lanes: each lane's own order in it, the first of a lane taken out of it, and a count that the
-- order raises and lowers and that it nowhere takes below what it needs.
-- Assumes nothing.
use mathlib.Core.Path.{◌≡◌, refl, sym, ap, ◌∙◌}
use mathlib.Core.Bool.{Bool, true, false, cond}
use mathlib.Core.List.{List, [], ◌∷◌, ◌++◌, append-nil, nil≢cons, head-eq_of_cons-eq, tail-eq_of_cons-eq}
use Prim.Native.Nat.{ℕ, ◌+◌, ◌≤◌, ◌<◌}
use native.Mathlib.Omega.{arith}
use lib.Dec.{eqb}
use borrow.Author.Tests.{eqb-true, eqb-false, eq-eqb, ne_eqb}
use Rattle.paper.specs.Paper.{Event}
use Rattle.demands.specs.History.{those}
use Rattle.demands.proofs.Lists.{All, total, those_yes, those_no, those_append, those_pass, none_those, all_head, all_map, all_those}

-- the reports of port X, in their order; the order without the first of them
abbrev pub from : ℕ → List Event → List Event
from X l = those (λ e. eqb e.at X) l

unfoldable pub without : ℕ → List Event → List Event
without X [] = []
without X (e ∷ l) = cond (eqb e.at X) l (e ∷ without X l)

-- a report of X at the front, and one of another port
pub from_same : (X : ℕ) (e : Event) (l : List Event) → e.at ≡ X → from X (e ∷ l) ≡ e ∷ from X l
from_same X e l q = those_yes (λ f. eqb f.at X) e l (eq-eqb e.at X q)

pub from_other : (X : ℕ) (e : Event) (l : List Event) → ¬ (e.at ≡ X) → from X (e ∷ l) ≡ from X l
from_other X e l d = those_no (λ f. eqb f.at X) e l (ne_eqb e.at X d)

-- a report added at the end, of X and of another port
pub from_snoc : (X : ℕ) (l : List Event) (e : Event) → e.at ≡ X → from X (l ++ (e ∷ [])) ≡ from X l ++ (e ∷ [])
from_snoc X l e q = those_append (λ f. eqb f.at X) l (e ∷ []) ∙ ap (λ (k : List Event). from X l ++ k) (from_same X e [] q ∙ ap (λ (k : List Event). e ∷ k) nil)
  where
    nil : from X [] ≡ []
    nil = unfold those in refl

pub from_skip : (X : ℕ) (l : List Event) (e : Event) → ¬ (e.at ≡ X) → from X (l ++ (e ∷ [])) ≡ from X l
from_skip X l e d = those_append (λ f. eqb f.at X) l (e ∷ []) ∙ ap (λ (k : List Event). from X l ++ k) (from_other X e [] d ∙ nil) ∙ append-nil (from X l)
  where
    nil : from X [] ≡ []
    nil = unfold those in refl

-- the reports of X happened at X
pub from_at : (X : ℕ) (l : List Event) → All (λ e. e.at ≡ X) (from X l)
from_at X l = all_map _ _ (from X l) (λ e h. eqb-true e.at X h) (those_pass (λ f. eqb f.at X) l)

pub front_at : (X : ℕ) (l : List Event) {e : Event} {r : List Event} → from X l ≡ e ∷ r → e.at ≡ X
unfolding All
front_at X l {e} {r} h = (rw h at (from_at X l)).0

-- what holds of all holds of a port's first
pub front-has : (P : Event → Type 0) (X : ℕ) (l : List Event) {e : Event} {r : List Event} → from X l ≡ e ∷ r → All P l → P e
front-has P X l {e} {r} h w = all_head P e r (rw h at (all_those P (λ f. eqb f.at X) l w))

-- a port without reports
pub from_none : (X : ℕ) (l : List Event) → from X l ≡ [] → All (λ e. ¬ (e.at ≡ X)) l
from_none X l h = all_map _ _ l (λ e q. eqb-false e.at X q) (none_those (λ f. eqb f.at X) l h)

-- what holds of every lane's reports holds of all
pub all_lanes : (P : Event → Type 0) (l : List Event) → ((X : ℕ) → All P (from X l)) → All P l
unfolding All
all_lanes P [] w = tt
all_lanes P (e ∷ l) w = ((rw (from_same e.at e l refl) at (w e.at)).0, all_lanes P l rest)
  where
    rest : (X : ℕ) → All P (from X l)
    rest X = go (eqb e.at X) refl
      where
        go : (b : Bool) → eqb e.at X ≡ b → All P (from X l)
        go true q = (rw (from_same X e l (eqb-true e.at X q)) at (w X)).1
        go false q = rw (from_other X e l (eqb-false e.at X q)) at (w X)

module _ (X : ℕ) where
  -- X's reports once its first is taken; another port's are as before
  pub without_same : (l : List Event) {e : Event} {r : List Event} → from X l ≡ e ∷ r → from X (without X l) ≡ r
  unfolding those without
  without_same [] h = absurd (nil≢cons h)
  without_same (f ∷ l) {e} {r} h = go (eqb f.at X) refl h (λ k. without_same l k)
    where
      go : (b : Bool) → eqb f.at X ≡ b → cond b (f ∷ from X l) (from X l) ≡ e ∷ r
          → (from X l ≡ e ∷ r → from X (without X l) ≡ r) → from X (cond b l (f ∷ without X l)) ≡ r
      go true q k ih = tail-eq_of_cons-eq k
      go false q k ih = rw q (ih k)

  pub without_other : (Y : ℕ) (l : List Event) → ¬ (Y ≡ X) → from Y (without X l) ≡ from Y l
  unfolding those without
  without_other Y [] d = refl
  without_other Y (f ∷ l) d = go (eqb f.at X) refl (without_other Y l d)
    where
      go : (b : Bool) → eqb f.at X ≡ b → from Y (without X l) ≡ from Y l → from Y (cond b l (f ∷ without X l)) ≡ from Y (f ∷ l)
      go true q ih = sym (from_other Y f l (λ e. d (sym e ∙ eqb-true f.at X q)))
      go false q ih = ap (λ (k : List Event). cond (eqb f.at Y) (f ∷ k) k) ih

  pub all_without : (P : Event → Type 0) (l : List Event) → All P l → All P (without X l)
  unfolding without All
  all_without P [] w = tt
  all_without P (f ∷ l) w = go (eqb f.at X) (all_without P l w.1)
    where
      go : (b : Bool) → All P (without X l) → All P (cond b l (f ∷ without X l))
      go true k = w.1
      go false k = (w.0, k)

  pub total-without : (f : Event → ℕ) (l : List Event) {e : Event} {r : List Event} → from X l ≡ e ∷ r → total f l ≡ f e + total f (without X l)
  unfolding total those without
  total-without f [] h = absurd (nil≢cons h)
  total-without f (g ∷ l) {e} {r} h = go (eqb g.at X) h (λ k. total-without f l k)
    where
      go : (b : Bool) → cond b (g ∷ from X l) (from X l) ≡ e ∷ r → (from X l ≡ e ∷ r → total f l ≡ f e + total f (without X l))
          → f g + total f l ≡ f e + total f (cond b l (g ∷ without X l))
      go true k ih = rw (head-eq_of_cons-eq k)
      go false k ih = omega (arith, ih k)

-- A count: which reports it must stand above 0 for, how much each raises it and lowers it.
pub record Count : Type 1 where
  pub needs : Event → Type 0
  pub up : Event → ℕ
  pub down : Event → ℕ

module _ (c : Count) where
  -- a count that has been raised to a and lowered to b stands above 0 wherever a report of the list needs it
  unfoldable pub Fine : ℕ → ℕ → List Event → Type 0
  Fine a b [] = Unit {0}
  Fine a b (e ∷ l) = (c.needs e → b < a) × Fine (a + c.up e) (b + c.down e) l

  -- only the difference counts, and more does no harm
  pub fine_more : (l : List Event) (a b a' b' : ℕ) → a + b' ≤ a' + b → Fine a b l → Fine a' b' l
  unfolding Fine
  fine_more [] a b a' b' h w = tt
  fine_more (e ∷ l) a b a' b' h w =
      (λ k. (let x : b < a = w.0 k in omega arith), fine_more l (a + c.up e) (b + c.down e) (a' + c.up e) (b' + c.down e) (omega arith) w.1)

  -- one report more, at the end
  pub fine_snoc : (l : List Event) (e : Event) (a b : ℕ) → Fine a b l → (c.needs e → b + total c.down l < a + total c.up l) → Fine a b (l ++ (e ∷ []))
  unfolding Fine total
  fine_snoc [] e a b w h = (λ k. (let x : b + 0 < a + 0 = h k in omega arith), tt)
  fine_snoc (f ∷ l) e a b w h = (
    w.0,
    fine_snoc l e (a + c.up f) (b + c.down f) w.1
        (λ k. (let x : b + (c.down f + total c.down l) < a + (c.up f + total c.up l) = h k in omega arith)),
  )

  -- reports that need nothing
  pub fine_none : (l : List Event) (a b : ℕ) → All (λ e. ¬ (c.needs e)) l → Fine a b l
  unfolding Fine All
  fine_none [] a b w = tt
  fine_none (e ∷ l) a b w = (λ k. absurd (w.0 k), fine_none l (a + c.up e) (b + c.down e) w.1)

  -- the first; and the rest once it is heard
  pub fine_head : (e : Event) (l : List Event) (a b : ℕ) → Fine a b (e ∷ l) → c.needs e → b < a
  unfolding Fine
  fine_head e l a b w = w.0

  pub fine_tail : (e : Event) (l : List Event) (a b : ℕ) → Fine a b (e ∷ l) → Fine (a + c.up e) (b + c.down e) l
  unfolding Fine
  fine_tail e l a b w = w.1

  -- a lane's first report may be heard early, if it lowers nothing that a report of another lane needs
  pub fine_early : (X : ℕ) (l : List Event) {e : Event} {r : List Event} (a b : ℕ) → from X l ≡ e ∷ r
      → All (λ f. ¬ (f.at ≡ X) → c.needs f → c.down e ≡ 0) l → Fine a b l → Fine (a + c.up e) (b + c.down e) (without X l)
  unfolding Fine those without All
  fine_early X [] a b h s w = absurd (nil≢cons h)
  fine_early X (f ∷ l) {e} {r} a b h s w = go (eqb f.at X) refl h (λ k. fine_early X l (a + c.up f) (b + c.down f) k s.1 w.1)
    where
      go : (t : Bool) → eqb f.at X ≡ t → cond t (f ∷ from X l) (from X l) ≡ e ∷ r
          → (from X l ≡ e ∷ r → Fine (a + c.up f + c.up e) (b + c.down f + c.down e) (without X l))
          → Fine (a + c.up e) (b + c.down e) (cond t l (f ∷ without X l))
      go true q k ih = rw (← head-eq_of_cons-eq k) w.1
      go false q k ih = (
        λ t. (let x : b < a = w.0 t in let z : c.down e ≡ 0 = s.0 (eqb-false f.at X q) t in omega arith),
        fine_more (without X l) (a + c.up f + c.up e) (b + c.down f + c.down e) (a + c.up e + c.up f) (b + c.down e + c.down f)
            (omega arith) (ih k),
      )
