-- Laws of the loops that test every number below n: before the first turn, one turn, a failure; of the greatest of two numbers, and of
-- bytes joined bit by bit.
-- Assumes nothing.
use mathlib.Core.Path.{◌≡◌, refl, subst, ap, ◌∙◌}
use mathlib.Core.Bool.{Bool, true, false, ◌&&◌, and-false}
use mathlib.Core.Logic.{⊎_elim}
use Prim.Native.Nat.{ℕ, zero, suc, ◌+◌, ◌<◌, ◌≤◌, max}
use lib.Dec.{leb, eqb}
use lib.Bits.{bit_or, or_add_and, and_le_l, and_le_r}
use borrow.Author.Tests.{leb-true, le-leb, eqb-true, eq-eqb}
use native.Mathlib.Nat.{le_of_suc-le-suc, not-suc-le-zero, eq-or-lt_of_le, le_trans, le-max_left, le-max_right, max-le}
use native.Mathlib.Omega.{arith}
use Rattle.books.specs.Numbers.{every}
use Rattle.books.proofs.Booleans.{both_true, left_true, right_true, bool_ext}
use Rattle.books.proofs.Numbers.{every_more}

-- the greatest of two is in range, and is 0, if both are; so are the joined bits 0
pub leb-max : (a b m : ℕ) → leb (max a b) m ≡ (leb a m && leb b m)
leb-max a b m =
    bool_ext (leb (max a b) m) (leb a m && leb b m)
    (λ e. both_true (leb a m) (leb b m) (le-leb a m (le_trans (le-max_left a b) (leb-true (max a b) m e))) (le-leb b m (le_trans (le-max_right a b) (leb-true (max a b) m e))))
    (λ e. le-leb (max a b) m (max-le (leb-true a m (left_true (leb a m) (leb b m) e)) (leb-true b m (right_true (leb a m) (leb b m) e))))

pub eqb-max : (a b : ℕ) → eqb (max a b) 0 ≡ (eqb a 0 && eqb b 0)
eqb-max a b =
    bool_ext (eqb (max a b) 0) (eqb a 0 && eqb b 0)
    (λ e. let z = eqb-true (max a b) 0 e in both_true (eqb a 0) (eqb b 0) (eq-eqb a 0 (omega (arith, le-max_left a b))) (eq-eqb b 0 (omega (arith, le-max_right a b))))
    (λ e. let m : max a b ≤ 0 = max-le (omega (arith, eqb-true a 0 (left_true (eqb a 0) (eqb b 0) e))) (omega (arith, eqb-true b 0 (right_true (eqb a 0) (eqb b 0) e))) in eq-eqb (max a b) 0 (omega arith))

pub eqb_or : (a b : ℕ) → eqb (bit_or a b) 0 ≡ (eqb a 0 && eqb b 0)
eqb_or a b =
    bool_ext (eqb (bit_or a b) 0) (eqb a 0 && eqb b 0)
    (λ e. let z = eqb-true (bit_or a b) 0 e in both_true (eqb a 0) (eqb b 0) (eq-eqb a 0 (omega (arith, or_add_and a b, and_le_r a b))) (eq-eqb b 0 (omega (arith, or_add_and a b, and_le_l a b))))
    (λ e. let x = eqb-true a 0 (left_true (eqb a 0) (eqb b 0) e) in let y = eqb-true b 0 (right_true (eqb a 0) (eqb b 0) e) in eq-eqb (bit_or a b) 0 (omega (arith, or_add_and a b)))

module _ (p : ℕ → Bool) where
  -- before the first turn
  pub every_none : every 0 p ≡ true
  unfolding every
  every_none = refl

  -- one turn of a loop that leaves at the first failure, and how it leaves
  pub passed_more : (i : ℕ) → every i p ≡ true → p i ≡ true → every (i + 1) p ≡ true
  passed_more i e h = every_more p i ∙ both_true (every i p) (p i) e h

  pub every-false : (n i : ℕ) → i < n → p i ≡ false → every n p ≡ false
  unfolding every
  every-false zero i h e = absurd (not-suc-le-zero h)
  every-false (suc n) i h e =
      ⊎_elim (λ q. ap (λ (t : Bool). every n p && t) (subst (λ (k : ℕ). p k ≡ false) q e) ∙ and-false (every n p))
      (λ lt. ap (λ (t : Bool). t && p n) (every-false n i lt e)) (eq-or-lt_of_le (le_of_suc-le-suc h))
