-- Lists: what holds of every member, the members that pass a test, the sum of a weight over the members.
-- Assumes nothing.
use mathlib.Core.Path.{◌≡◌, refl, ap}
use mathlib.Core.Bool.{Bool, true, false, cond}
use mathlib.Core.List.{List, [], ◌∷◌, ◌++◌, cons≢nil}
use Prim.Native.Nat.{ℕ, ◌+◌, ◌≤◌}
use native.Mathlib.Omega.{arith}
use lib.ListN.{length}
use Rattle.demands.specs.History.{those}

-- P holds of every member
unfoldable pub All : {E : Type 0} → (E → Type 0) → List E → Type 0
All P [] = Unit {0}
All P (e ∷ l) = P e × All P l

-- the weight f of all members together
unfoldable pub total : {E : Type 0} → (E → ℕ) → List E → ℕ
total f [] = 0
total f (e ∷ l) = f e + total f l

module _ {E : Type 0} (P : E → Type 0) where
  -- of a list with one member more at its end
  pub all_snoc : (l : List E) (e : E) → All P l → P e → All P (l ++ (e ∷ []))
  unfolding All
  all_snoc [] e w p = (p, tt)
  all_snoc (f ∷ l) e w p = (w.0, all_snoc l e w.1 p)

  -- of the first; of no member
  pub all_head : (e : E) (l : List E) → All P (e ∷ l) → P e
  unfolding All
  all_head e l w = w.0

  pub all_nil : All P []
  unfolding All
  all_nil = tt

  -- of those that pass a test
  pub all_those : (p : E → Bool) (l : List E) → All P l → All P (those p l)
  unfolding those All
  all_those p [] w = tt
  all_those p (f ∷ l) w = go (p f) (all_those p l w.1)
    where
      go : (b : Bool) → All P (those p l) → All P (cond b (f ∷ those p l) (those p l))
      go true k = (w.0, k)
      go false k = k

-- what follows from what holds, one by one; from two such things together
pub all_map : {E : Type 0} (P Q : E → Type 0) (l : List E) → ((e : E) → P e → Q e) → All P l → All Q l
unfolding All
all_map P Q [] g w = tt
all_map P Q (f ∷ l) g w = (g f w.0, all_map P Q l g w.1)

pub all_both : {E : Type 0} (P Q R : E → Type 0) (l : List E) → ((e : E) → P e → Q e → R e) → All P l → All Q l → All R l
unfolding All
all_both P Q R [] g v w = tt
all_both P Q R (f ∷ l) g v w = (g f v.0 w.0, all_both P Q R l g v.1 w.1)

module _ {E : Type 0} (p : E → Bool) where
  -- one that passes; one that does not
  pub those_yes : (e : E) (l : List E) → p e ≡ true → those p (e ∷ l) ≡ e ∷ those p l
  unfolding those
  those_yes e l h = rw h

  pub those_no : (e : E) (l : List E) → p e ≡ false → those p (e ∷ l) ≡ those p l
  unfolding those
  those_no e l h = rw h

  pub those_append : (l k : List E) → those p (l ++ k) ≡ those p l ++ those p k
  unfolding those
  those_append [] k = refl
  those_append (e ∷ l) k = go (p e) (those_append l k)
    where
      go : (b : Bool) → those p (l ++ k) ≡ those p l ++ those p k
          → cond b (e ∷ those p (l ++ k)) (those p (l ++ k)) ≡ cond b (e ∷ those p l) (those p l) ++ those p k
      go true h = ap (λ (x : List E). e ∷ x) h
      go false h = h

  -- all of those pass
  pub those_pass : (l : List E) → All (λ e. p e ≡ true) (those p l)
  unfolding those All
  those_pass [] = tt
  those_pass (e ∷ l) = go (p e) refl (those_pass l)
    where
      go : (b : Bool) → p e ≡ b → All (λ f. p f ≡ true) (those p l) → All (λ f. p f ≡ true) (cond b (e ∷ those p l) (those p l))
      go true q k = (q, k)
      go false q k = k

  -- none passes
  pub those_none : (l : List E) → All (λ e. p e ≡ false) l → those p l ≡ []
  unfolding those All
  those_none [] w = refl
  those_none (e ∷ l) w = rw w.0 (those_none l w.1)

  pub none_those : (l : List E) → those p l ≡ [] → All (λ e. p e ≡ false) l
  unfolding those All
  none_those [] h = tt
  none_those (e ∷ l) h = go (p e) refl h (λ k. none_those l k)
    where
      go : (b : Bool) → p e ≡ b → cond b (e ∷ those p l) (those p l) ≡ []
          → (those p l ≡ [] → All (λ f. p f ≡ false) l) → (p e ≡ false) × All (λ f. p f ≡ false) l
      go true q k r = absurd (cons≢nil k)
      go false q k r = (q, r k)

module _ {E : Type 0} (f : E → ℕ) where
  pub total_more : (e : E) (l : List E) → total f (e ∷ l) ≡ f e + total f l
  unfolding total
  total_more e l = refl

  pub total_snoc : (l : List E) (e : E) → total f (l ++ (e ∷ [])) ≡ total f l + f e
  unfolding total
  total_snoc [] e = omega arith
  total_snoc (g ∷ l) e = omega (arith, total_snoc l e)

  -- members that weigh nothing; members that weigh at most one
  pub total_none : (l : List E) → All (λ e. f e ≡ 0) l → total f l ≡ 0
  unfolding total All
  total_none [] w = refl
  total_none (e ∷ l) w = omega (arith, w.0, total_none l w.1)

  pub total_le : (l : List E) → ((e : E) → f e ≤ 1) → total f l ≤ length l
  unfolding total
  total_le [] h = omega arith
  total_le (e ∷ l) h = omega (arith, h e, total_le l h)

-- a list without members
pub length_nil : {E : Type 0} (l : List E) → length l ≡ 0 → l ≡ []
length_nil [] e = refl
length_nil (x ∷ l) e = absurd (omega arith)

-- a list of which no member can be
pub all_never : {E : Type 0} (P : E → Type 0) (l : List E) → All P l → ((e : E) → ¬ (P e)) → l ≡ []
unfolding All
all_never P [] w h = refl
all_never P (e ∷ l) w h = absurd (h e w.0)

-- those that pass are no more than all
pub length-those : {E : Type 0} (p : E → Bool) (l : List E) → length (those p l) ≤ length l
unfolding those
length-those p [] = omega arith
length-those p (e ∷ l) = go (p e) (length-those p l)
  where
    go : (b : Bool) → length (those p l) ≤ length l → length (cond b (e ∷ those p l) (those p l)) ≤ length (e ∷ l)
    go true h = omega arith
    go false h = omega arith
