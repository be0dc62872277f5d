-- The numbers that acts work out of a whole store, in the model's words: the pointers on the way, the lowest free object, the verdict,
-- the settling number.
-- Assumes nothing.
use mathlib.Core.Path.{◌≡◌, refl, sym, ap}
use mathlib.Core.Bool.{Bool, true, false, cond, not, ◌&&◌}
use mathlib.Core.List.{List, [], ◌∷◌}
use Prim.Native.Nat.{ℕ, zero, suc, ◌+◌, ◌-◌, ◌*◌, ◌<◌}
use native.Mathlib.Omega.{arith}
use lib.Dec.{ltb, eqb}
use lib.ListN.{length, get_or, length-append}
use Rattle.books.specs.Numbers.{some, first, sum_to, list_to}
use Rattle.books.specs.Books.{object_limit, transit_zero, verdict}
use Rattle.books.proofs.Numbers.{sum_ext}
use Rattle.lanes.specs.Lane.{pointer_width, count, entry}
use Rattle.lanes.specs.Lane as Lane
use Rattle.lanes.proofs.Entries.{list_length}
use Rattle.store.specs.Layout.{objects, pointers, reports, read}
use Rattle.store.specs.Store as Store
use Rattle.store.proofs.Frame.{lane_inside, view_in}
use Rattle.machine.specs.Effects.{lowest_free, verdict_on, settling}
use Rattle.demands.specs.History.{those}
use Rattle.demands.proofs.Lists.{those_append}
use Rattle.demands.proofs.Model.{on_way, lowest}
use Rattle.demands.proofs.Bridge.{model, owner_is, heard_is, transit_is}

-- of the first k members, as many pass a test as the list of them has
counted : (p : ℕ → Bool) (f : ℕ → ℕ) (k : ℕ) → length (those p (list_to k f)) ≡ sum_to k (λ i. cond (p (f i)) 1 0)
unfolding list_to sum_to
counted p f zero = unfold those in refl
counted p f (suc k) = rw (those_append p (list_to k f) (f k ∷ []), length-append, counted p f k) (ap (λ (x : ℕ). sum_to k (λ i. cond (p (f i)) 1 0) + x) (one (p (f k)) refl))
  where
    one : (b : Bool) → p (f k) ≡ b → length (those p (f k ∷ [])) ≡ cond b 1 0
    one true q = unfold those in rw q
    one false q = unfold those in rw q

-- tests that agree below n: the first that passes, and whether some does
pub first_ext : (p q : ℕ → Bool) (n : ℕ) → ((i : ℕ) → i < n → p i ≡ q i) → first n p ≡ first n q
unfolding first
first_ext p q zero f = refl
first_ext p q (suc n) f = rw (first_ext p q n (λ i h. f i (omega arith)), f n (omega arith))

some_ext : (p q : ℕ → Bool) (n : ℕ) → ((i : ℕ) → i < n → p i ≡ q i) → some n p ≡ some n q
unfolding some
some_ext p q zero f = refl
some_ext p q (suc n) f = rw (some_ext p q n (λ i h. f i (omega arith)), f n (omega arith))

-- the verdict is that of any books that say the same of every port
pub verdict_ext : (n h : ℕ) (a b x y : ℕ → ℕ) → ((p : ℕ) → p < n → a p ≡ b p) → ((p : ℕ) → p < n → x p ≡ y p) → verdict n h a x ≡ verdict n h b y
unfolding verdict
verdict_ext n h a b x y e f =
    rw (
      some_ext (λ p. not (eqb p h) && ltb 0 (a p)) (λ p. not (eqb p h) && ltb 0 (b p)) n (λ p k. rw (e p k)),
      some_ext (λ p. ltb (transit_zero n) (x p)) (λ p. ltb (transit_zero n) (y p)) n (λ p k. rw (f p k)),
      some_ext (λ p. ltb (x p) (transit_zero n)) (λ p. ltb (y p) (transit_zero n)) n (λ p k. rw (f p k)),
    )

module _ (n : ℕ) (s : List ℕ) where
  -- the pointers to o on all lanes to port p
  pub way_is : (p o : ℕ) → p < n → on_way n (model n s).pointers p o ≡ Store.on_way n p o s
  unfolding on_way Store.on_way Lane.pointers_to
  way_is p o h =
      sum_ext _ _ n (λ A k. rw (view_in n (pointers A p) s (lane_inside n A p k h))
      (counted (λ x. eqb x o) (λ i. get_or (entry pointer_width i (read n (pointers A p) s)) 0 0) (count (read n (pointers A p) s))))

  -- the lowest free object
  pub lowest_is : lowest (model n s) ≡ lowest_free n s
  unfolding lowest_free
  lowest_is = first_ext _ _ object_limit (λ o h. rw (owner_is n s o) (twice (eqb (get_or (read n objects s) o 0) 0)))
    where
      twice : (b : Bool) → b ≡ not (not b)
      twice true = refl
      twice false = refl

  -- the verdict
  pub verdict_is : (o : ℕ) → o < object_limit → verdict_on n o s ≡ verdict n ((model n s).owner o - 1) (λ p. (model n s).heard p o) (λ p. (model n s).transit p o)
  unfolding verdict_on
  verdict_is o l =
      rw (view_in n objects s refl)
      (verdict_ext n (Store.home n o s) _ _ _ _ (λ p h. sym (heard_is n s p o h)) (λ p h. sym (transit_is n s p o h l)))

  -- the settling number
  pub settling_is : settling n s
      ≡ 2 * sum_to n (λ A. sum_to n (λ B. length ((model n s).pointers A B))) + sum_to n (λ A. sum_to n (λ B. length ((model n s).reports A B)))
  unfolding settling
  settling_is =
      rw (
        sum_ext (λ A. sum_to n (λ B. length ((model n s).pointers A B))) (λ A. sum_to n (λ B. count (read n (pointers A B) s))) n
            (λ A h. sum_ext _ _ n (λ B k. rw (view_in n (pointers A B) s (lane_inside n A B h k)) (list_length _ _))),
        sum_ext (λ A. sum_to n (λ B. length ((model n s).reports A B))) (λ A. sum_to n (λ B. count (read n (reports A B) s))) n
            (λ A h. sum_ext _ _ n (λ B k. rw (view_in n (reports A B) s (lane_inside n A B h k)) (list_length _ _))),
      )
