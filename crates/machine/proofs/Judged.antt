-- How an act is judged on a well formed store: by its own checks, then by 14; and every act leaves a well formed store well formed.
-- Assumes nothing.
use mathlib.Core.Path.{◌≡◌, refl, sym, ap, ◌∙◌}
use mathlib.Core.Bool.{Bool, true, false, cond, not, ◌&&◌}
use mathlib.Core.List.{List, [], ◌∷◌, ◌++◌}
use Prim.Native.Nat.{ℕ, zero, suc}
use lib.Dec.{eqb, eqb-suc-zero}
use lib.ListN.{get_or}
use borrow.Author.Tests.{eqb-false}
use native.Mathlib.Omega.{arith}
use Rattle.books.proofs.Booleans.{left_true, right_true}
use Rattle.store.specs.Store.{well_formed}
use Rattle.machine.specs.Acts.{Act, Row, row, table, row_of}
use Rattle.machine.specs.Effects.{after}
use Rattle.machine.proofs.Firsts.{NoneOf, positive, first_none, none_first, first_last}
use Rattle.machine.specs.Machine.{first_in, rule, refusal, outcome, does}

-- the number that an act's own checks give, and where they give none, what 14 gives; b is whether the store after the act is well formed
abbrev pub judged : ℕ → Bool → ℕ
judged k b = cond (eqb k 0) (cond b 0 14) k

-- every check of a list of rows is above 0
positives : List Row → Bool
positives [] = true
positives (r ∷ rs) = positive r.checks && positives rs

positive_at : (rs : List Row) (k : ℕ) → positives rs ≡ true → positive (get_or rs k (row false false [])).checks ≡ true
unfolding positives positive
positive_at [] k h = refl
positive_at (r ∷ rs) zero h = left_true (positive r.checks) (positives rs) h
positive_at (r ∷ rs) (suc k) h = positive_at rs k (right_true (positive r.checks) (positives rs) h)

pub positive-row : (a : Act) → positive (row_of a).checks ≡ true
unfolding positives positive
positive-row a = positive_at table a.code refl

module _ (n : ℕ) (a : Act) (s : List ℕ) where
  -- the first of an act's own checks whose rule applies, 2 among them, or 0
  abbrev pub own : ℕ
  own = first_in (rule n a s) (2 ∷ (row_of a).checks)

  -- they give 0 exactly when none applies
  pub own_none : own ≡ 0 → NoneOf (rule n a s) (2 ∷ (row_of a).checks)
  unfolding positive
  own_none e = first_none (rule n a s) (2 ∷ (row_of a).checks) (positive-row a) e

  pub none_own : NoneOf (rule n a s) (2 ∷ (row_of a).checks) → own ≡ 0
  none_own f = none_first (rule n a s) (2 ∷ (row_of a).checks) f

  rule_1 : well_formed n s ≡ true → rule n a s 1 ≡ false
  unfolding rule
  rule_1 h = rw h

  rule_14 : ◌≡◌ {A = ℕ} (cond (rule n a s 14) 14 0) (cond (well_formed n (after n a s)) 0 14)
  unfolding rule
  rule_14 = go (well_formed n (after n a s))
    where
      go : (b : Bool) → ◌≡◌ {A = ℕ} (cond (not b) 14 0) (cond b 0 14)
      go true = refl
      go false = refl

  -- the refusal of an act on a well formed store
  pub refusal-judged : well_formed n s ≡ true → refusal n a s ≡ judged own (well_formed n (after n a s))
  unfolding refusal first_in positive
  refusal-judged h =
      ap (λ (b : Bool). cond b 1 (first_in (rule n a s) (2 ∷ ((row_of a).checks ++ (14 ∷ []))))) (rule_1 h)
      ∙ first_last (rule n a s) (2 ∷ (row_of a).checks) 14 (positive-row a)
      ∙ ap (λ (k : ℕ). cond (eqb own 0) k own) rule_14

  -- an act leaves a well formed store well formed
  pub does-formed : well_formed n s ≡ true → well_formed n (does n a s).bytes ≡ true
  unfolding does outcome
  does-formed h = go (refusal n a s) (refusal-judged h)
    where
      taken : (b : Bool) (w : Bool) → cond b (cond w 0 14) own ≡ 0 → eqb own 0 ≡ b → w ≡ true
      taken true true e q = refl
      taken true false e q = absurd (omega (arith, e))
      taken false w e q = absurd (eqb-false own 0 q e)

      go : (k : ℕ) → k ≡ judged own (well_formed n (after n a s)) → well_formed n (outcome n k a s).bytes ≡ true
      go zero e = taken (eqb own 0) (well_formed n (after n a s)) (sym e) refl
      go (suc k) e = rw (eqb-suc-zero k) h
