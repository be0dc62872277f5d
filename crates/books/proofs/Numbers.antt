-- Laws of what is said of all the numbers below n.
-- Assumes nothing.
use mathlib.Core.Path.{◌≡◌, refl, sym, subst, ap, ◌∙◌}
use mathlib.Core.Bool.{Bool, true, false, cond, ◌&&◌, ◌||◌, and_assoc, or_assoc}
use mathlib.Core.Logic.{⊎_elim}
use Prim.Native.Nat.{ℕ, zero, suc, ◌+◌, ◌*◌, ◌≤◌, ◌<◌}
use native.Mathlib.Nat.{le_of_suc-le-suc, not-suc-le-zero, eq-or-lt_of_le, add_assoc, add-zero, add-suc, mul-zero, mul-suc}
use native.Mathlib.Numerals.{add-one}
use native.Mathlib.Decide.{ℕ_discrete}
use native.Mathlib.Omega.{arith}
use lib.Dec.{ltb}
use borrow.Author.Tests.{ltb-true, ltb-false}
use Rattle.books.specs.Numbers.{every, some, first, sum_to}
use Rattle.books.proofs.Booleans.{both_true, left_true, right_true, bool_ext}

module _ (p : ℕ → Bool) where
  -- one number more
  pub every_more : (i : ℕ) → every (i + 1) p ≡ (every i p && p i)
  unfolding every
  every_more i = rw add-one

  -- the first number apart from the rest
  pub every_front : (n : ℕ) → every (suc n) p ≡ (p 0 && every n (λ i. p (suc i)))
  unfolding every
  every_front zero = one (p 0)
    where
      one : (b : Bool) → (true && b) ≡ (b && true)
      one true = refl
      one false = refl
  every_front (suc n) = ap (λ (b : Bool). b && p (suc n)) (every_front n) ∙ and_assoc (p 0) (every n (λ i. p (suc i))) (p (suc n))

  -- a test of every number is a test of each
  pub every_at : (n i : ℕ) → every n p ≡ true → i < n → p i ≡ true
  unfolding every
  every_at zero i e h = absurd (not-suc-le-zero h)
  every_at (suc n) i e h =
      ⊎_elim (λ q. subst (λ (k : ℕ). p k ≡ true) (sym q) (right_true (every n p) (p n) e))
      (λ lt. every_at n i (left_true (every n p) (p n) e) lt) (eq-or-lt_of_le (le_of_suc-le-suc h))

  pub every_all : (n : ℕ) → ((i : ℕ) → i < n → p i ≡ true) → every n p ≡ true
  unfolding every
  every_all zero f = refl
  every_all (suc n) f = both_true (every n p) (p n) (every_all n (λ i h. f i (omega arith))) (f n (omega arith))

-- two tests that agree below n
pub every_ext : (p q : ℕ → Bool) (n : ℕ) → ((i : ℕ) → i < n → p i ≡ q i) → every n p ≡ every n q
unfolding every
every_ext p q zero f = refl
every_ext p q (suc n) f = rw (every_ext p q n (λ i h. f i (omega arith)), f n (omega arith))

-- a test of some number: the first apart from the rest
pub some_front : (p : ℕ → Bool) (n : ℕ) → some (suc n) p ≡ (p 0 || some n (λ i. p (suc i)))
unfolding some
some_front p zero = one (p 0)
  where
    one : (b : Bool) → (false || b) ≡ (b || false)
    one true = refl
    one false = refl
some_front p (suc n) = ap (λ (b : Bool). b || p (suc n)) (some_front p n) ∙ or_assoc (p 0) (some n (λ i. p (suc i))) (p (suc n))

-- two tests that agree below n
pub some_ext : (p q : ℕ → Bool) (n : ℕ) → ((i : ℕ) → i < n → p i ≡ q i) → some n p ≡ some n q
unfolding some
some_ext p q zero f = refl
some_ext p q (suc n) f = rw (some_ext p q n (λ i h. f i (omega arith)), f n (omega arith))

-- one number more
pub sum_more : (f : ℕ → ℕ) (i : ℕ) → sum_to (i + 1) f ≡ sum_to i f + f i
unfolding sum_to
sum_more f i = rw add-one

-- sums of what agrees below n
pub sum_ext : (f g : ℕ → ℕ) (n : ℕ) → ((i : ℕ) → i < n → f i ≡ g i) → sum_to n f ≡ sum_to n g
unfolding sum_to
sum_ext f g zero h = refl
sum_ext f g (suc n) h = rw (sum_ext f g n (λ i k. h i (omega arith)), h n (omega arith))

-- the first number apart from the rest
pub sum_front : (f : ℕ → ℕ) (n : ℕ) → sum_to (suc n) f ≡ f 0 + sum_to n (λ i. f (suc i))
unfolding sum_to
sum_front f zero = omega arith
sum_front f (suc n) = ap (λ (x : ℕ). x + f (suc n)) (sum_front f n) ∙ add_assoc (f 0) (sum_to n (λ i. f (suc i))) (f (suc n))

-- a sum in two parts, and in m rows of n
pub sum_add : (f : ℕ → ℕ) (m n : ℕ) → sum_to (m + n) f ≡ sum_to m f + sum_to n (λ i. f (m + i))
unfolding sum_to
sum_add f m zero = rw (add-zero m) (omega arith)
sum_add f m (suc n) = rw (add-suc m n, sum_add f m n) (add_assoc (sum_to m f) (sum_to n (λ i. f (m + i))) (f (m + n)))

pub sum_rows : (f : ℕ → ℕ) (m n : ℕ) → sum_to (n * m) f ≡ sum_to m (λ a. sum_to n (λ b. f (n * a + b)))
unfolding sum_to
sum_rows f zero n = rw (mul-zero n)
sum_rows f (suc m) n = rw (mul-suc n m, sum_add f (n * m) n, sum_rows f m n)

-- a test that holds of every number, changed at one number alone: it holds of every number if it holds of that one
pub every_but : (p q : ℕ → Bool) (n i : ℕ) → i < n → every n p ≡ true → ((j : ℕ) → j < n → ¬ (j ≡ i) → q j ≡ p j) → every n q ≡ q i
every_but p q n i h e f = bool_ext (every n q) (q i) (λ t. every_at q n i t h) (λ t. every_all q n (λ j k. go t j k (ℕ_discrete j i)))
  where
    go : q i ≡ true → (j : ℕ) → j < n → Dec (j ≡ i) → q j ≡ true
    go t j k (yes w) = rw w t
    go t j k (no w) = f j k w ∙ every_at p n j e k

-- the same of pairs of numbers
pub every_but_pair : (p q : ℕ → ℕ → Bool) (n a b : ℕ) → a < n → b < n → every n (λ i. every n (p i)) ≡ true
    → ((i j : ℕ) → (i ≡ a → ¬ (j ≡ b)) → q i j ≡ p i j) → every n (λ i. every n (q i)) ≡ q a b
every_but_pair p q n a b ha hb e f =
    every_but (λ i. every n (p i)) (λ i. every n (q i)) n a ha e (λ i h d. every_ext (q i) (p i) n (λ j k. f i j (λ r. absurd (d r))))
    ∙ every_but (p a) (q a) n b hb (every_at (λ i. every n (p i)) n a e ha) (λ j k d. f a j (λ r. d))

-- the first number below n of which p holds: p holds of it, and of none before it
module _ (p : ℕ → Bool) where
  pub first-most : (n : ℕ) → first n p ≤ n
  unfolding first
  first-most zero = omega arith
  first-most (suc n) = go (ltb (first n p) n) refl (p n)
    where
      go : (a : Bool) → ltb (first n p) n ≡ a → (b : Bool) → cond a (first n p) (cond b n (suc n)) ≤ suc n
      go true q b = omega (arith, ltb-true (first n p) n q)
      go false q true = omega arith
      go false q false = omega arith

  pub first_at : (n : ℕ) → first n p < n → p (first n p) ≡ true
  unfolding first
  first_at zero h = absurd (not-suc-le-zero h)
  first_at (suc n) h = go (ltb (first n p) n) refl (p n) refl (λ q. first_at n q) h
    where
      go : (a : Bool) → ltb (first n p) n ≡ a → (b : Bool) → p n ≡ b → (first n p < n → p (first n p) ≡ true)
          → cond a (first n p) (cond b n (suc n)) < suc n → p (cond a (first n p) (cond b n (suc n))) ≡ true
      go true q b r f k = f (ltb-true (first n p) n q)
      go false q true r f k = r
      go false q false r f k = absurd (omega (arith, k))

  pub first-before : (n i : ℕ) → i < n → i < first n p → p i ≡ false
  unfolding first
  first-before zero i h k = absurd (not-suc-le-zero h)
  first-before (suc n) i h k = go (ltb (first n p) n) refl (p n) refl (λ l q. first-before n i l q) k
    where
      go : (a : Bool) → ltb (first n p) n ≡ a → (b : Bool) → p n ≡ b → (i < n → i < first n p → p i ≡ false)
          → i < cond a (first n p) (cond b n (suc n)) → p i ≡ false
      go true q b r f l = let m = ltb-true (first n p) n q in f (omega arith) l
      go false q true r f l = let m = ltb-false (first n p) n q in f l (omega arith)
      go false q false r f l =
          let m = ltb-false (first n p) n q in
          elim (ℕ_discrete i n) [ yes e ↦ rw e r | no e ↦ f (omega arith) (omega arith) ]
