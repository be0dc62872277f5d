-- What is said of all the numbers below n: a test of every one, of some one, the first that passes, a sum, a list.
-- Assumes nothing.
use Rattle.std.specs.Prelude.{Bool, true, false, cond, ◌&&◌, ◌||◌, List, [], ◌∷◌, ◌++◌, ℕ, zero, suc, ◌+◌, ltb}

-- p holds of every number below n; of some number below n
unfoldable pub every : ℕ → (ℕ → Bool) → Bool
every zero p = true
every (suc n) p = every n p && p n

unfoldable pub some : ℕ → (ℕ → Bool) → Bool
some zero p = false
some (suc n) p = some n p || p n

-- the first number below n of which p holds, or n if there is none
unfoldable pub first : ℕ → (ℕ → Bool) → ℕ
first zero p = 0
first (suc n) p = cond (ltb (first n p) n) (first n p) (cond (p n) n (suc n))

-- the sum and the list of f over the numbers below n
unfoldable pub sum_to : ℕ → (ℕ → ℕ) → ℕ
sum_to zero f = 0
sum_to (suc n) f = sum_to n f + f n

unfoldable pub list_to {ℓ} : {X : Type ℓ} → ℕ → (ℕ → X) → List X
list_to zero f = []
list_to (suc n) f = list_to n f ++ (f n ∷ [])
