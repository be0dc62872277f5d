-- Every store that acts make is well formed, and no act on it is refused with 1 or with 14; an act is taken there exactly when none of
-- its own checks applies.
-- Assumes nothing.
use mathlib.Core.Path.{◌≡◌, refl, sym, ◌∙◌}
use mathlib.Core.Bool.{Bool, true, false, cond, not, ◌&&◌, true≢false}
use mathlib.Core.Logic.{◌↔◌}
use mathlib.Core.List.{List, [], ◌∷◌}
use Prim.Native.Nat.{ℕ, zero, suc, ◌<◌}
use native.Mathlib.Omega.{arith}
use lib.Dec.{eqb}
use lib.ListN.{get_or}
use borrow.Author.Tests.{eqb-true, eqb-false, not-true}
use Rattle.books.specs.Books.{transit_top}
use Rattle.books.proofs.Booleans.{left_true, right_true}
use Rattle.store.specs.Store.{well_formed}
use Rattle.machine.specs.Acts.{Act, Row, row, table, row_of}
use Rattle.machine.specs.Effects.{after}
use Rattle.machine.specs.Machine.{first_in, rule, refusal}
use Rattle.machine.proofs.Firsts.{NoneOf}
use Rattle.machine.proofs.Judged.{own, refusal-judged}
use Rattle.machine.proofs.Refusals.{answers, given_exactly}
use Rattle.demands.specs.History.{run}
use Rattle.demands.specs.Demands.{Taken, NeverBroken}
use Rattle.demands.proofs.BridgeFits.{after-formed, silent-taken}
use Rattle.demands.proofs.Run.{silent, taken_own, run-formed, run_kept}

-- 14 is no act's own check
lacks : List ℕ → Bool
lacks [] = true
lacks (k ∷ ks) = not (eqb k 14) && lacks ks

-- nor of a table's rows
lack : List Row → Bool
lack [] = true
lack (r ∷ rs) = lacks r.checks && lack rs

-- so a row of such a table lacks it, and a list that lacks it does not give it
lacks_at : (rs : List Row) (k : ℕ) → lack rs ≡ true → lacks (get_or rs k (row false false [])).checks ≡ true
unfolding lack lacks
lacks_at [] k h = refl
lacks_at (r ∷ rs) zero h = left_true (lacks r.checks) (lack rs) h
lacks_at (r ∷ rs) (suc k) h = lacks_at rs k (right_true (lacks r.checks) (lack rs) h)

lacks_first : (p : ℕ → Bool) (ks : List ℕ) → lacks ks ≡ true → ¬ (first_in p ks ≡ 14)
unfolding lacks first_in
lacks_first p [] h e = omega (arith, e)
lacks_first p (k ∷ ks) h e = go (p k) e (λ q. lacks_first p ks (right_true (not (eqb k 14)) (lacks ks) h) q)
  where
    go : (b : Bool) → cond b k (first_in p ks) ≡ 14 → ¬ (first_in p ks ≡ 14) → ⊥
    go true q f = eqb-false k 14 (not-true (eqb k 14) (left_true (not (eqb k 14)) (lacks ks) h)) q
    go false q f = f q

-- so an act's own checks do not give it
own_lacks : (n : ℕ) (a : Act) (s : List ℕ) → ¬ (own n a s ≡ 14)
unfolding lacks lack
own_lacks n a s = lacks_first (rule n a s) (2 ∷ (row_of a).checks) (lacks_at table a.code refl)

module _ (n : ℕ) (few : transit_top n < 65535) (acts : List Act) (a : Act) where
  -- the store that the acts have made
  abbrev s : List ℕ
  s = run n acts

  -- an act is taken exactly when none of its own checks applies
  pub taken-silent : Taken n a s ↔ NoneOf (rule n a s) (2 ∷ (row_of a).checks)
  taken-silent = (
    λ t. silent n s (run-formed n few acts) a (taken_own n s (run-formed n few acts) a (sym (answers n a s) ∙ t)).0,
    λ f. answers n a s ∙ silent-taken n few s (run-formed n few acts) (run_kept n few acts) a f,
  )

  -- 1 would say that the store is not well formed
  not_1 : ¬ (refusal n a s ≡ 1)
  not_1 e = true≢false (sym ((given_exactly n a s 1 (λ q. omega arith)).0 (answers n a s ∙ e)).applies ∙ first-rule)
    where
      first-rule : rule n a s 1 ≡ false
      first-rule = unfold rule in rw (run-formed n few acts)

  -- 14 would say that of the store after the act
  not_14 : ¬ (refusal n a s ≡ 14)
  not_14 e = go (eqb (own n a s) 0) refl (well_formed n (after n a s)) refl (sym (refusal-judged n a s (run-formed n few acts)) ∙ e)
    where
      go : (b : Bool) → eqb (own n a s) 0 ≡ b → (w : Bool) → well_formed n (after n a s) ≡ w → cond b (cond w 0 14) (own n a s) ≡ 14 → ⊥
      go true q true r t = omega (arith, t)
      go true q false r t =
          true≢false (sym (after-formed n few s (run-formed n few acts) (run_kept n few acts) a (silent n s (run-formed n few acts) a (eqb-true (own n a s) 0 q))) ∙ r)
      go false q w r t = own_lacks n a s t

-- NEVER 1, NEVER 14
pub never_broken_lem : (n : ℕ) → transit_top n < 65535 → NeverBroken n
never_broken_lem n few acts = (run-formed n few acts, λ a. (λ e. not_1 n few acts a (sym (answers n a (run n acts)) ∙ e), λ e. not_14 n few acts a (sym (answers n a (run n acts)) ∙ e)))
