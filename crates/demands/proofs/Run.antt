-- The stores that acts make: each is well formed, and its model is one that the acts taken reach. So what is proved of those models
-- holds of these stores.
-- Assumes nothing.
use mathlib.Core.Path.{◌≡◌, refl, sym, subst, ◌∙◌}
use mathlib.Core.Bool.{Bool, true, false, cond}
use mathlib.Core.List.{List, [], ◌∷◌}
use Prim.Native.Nat.{ℕ, zero, suc, ◌≤◌, ◌<◌}
use native.Mathlib.Omega.{arith}
use lib.Dec.{ltb, eqb, eqb-suc-zero}
use borrow.Author.Tests.{ltb-false, eqb-true, eqb-false}
use Rattle.books.specs.Books.{transit_top}
use Rattle.books.proofs.Booleans.{left_false, right_false}
use Rattle.store.specs.Store.{well_formed}
use Rattle.store.proofs.Fresh.{fresh-formed}
use Rattle.machine.specs.Acts.{Act, Name, act, code_of, row_of, MAKE, SEND, COPY, DROP, DELIVER, HEAR, ASK, RETIRE, SETTLE, HOLD}
use Rattle.machine.specs.Effects.{after, value_of}
use Rattle.machine.specs.Machine.{rule, refusal, outcome, does}
use Rattle.machine.proofs.Firsts.{NoneOf, positive, first_none}
use Rattle.machine.proofs.Judged.{positive-row, own, refusal-judged, does-formed}
use Rattle.machine.proofs.Refusals.{answers, refused_same}
use Rattle.demands.specs.History.{run, accepted}
use Rattle.demands.proofs.Steps.{Step, step, Reached, begin, next}
use Rattle.demands.proofs.Kept.{Kept, reached_kept}
use Rattle.demands.proofs.Left.{Follows, reached_follows}
use Rattle.demands.proofs.Counted.{Counted, reached_counted}
use Rattle.demands.proofs.Bridge.{model}
use Rattle.demands.proofs.BridgeFresh.{fresh-model}
use Rattle.demands.proofs.BridgeGuards.{guard}
use Rattle.demands.proofs.BridgeEffects.{act_effect}

-- a code from 1 to 10 is an act's
by_name : (c : ℕ) → ¬ (c ≡ 0) → c ≤ 10 → (k : Name) × (c ≡ code_of k)
by_name zero z l = absurd (z refl)
by_name (suc zero) z l = (MAKE, refl)
by_name (suc (suc zero)) z l = (SEND, refl)
by_name (suc (suc (suc zero))) z l = (COPY, refl)
by_name (suc (suc (suc (suc zero)))) z l = (DROP, refl)
by_name (suc (suc (suc (suc (suc zero))))) z l = (DELIVER, refl)
by_name (suc (suc (suc (suc (suc (suc zero)))))) z l = (HEAR, refl)
by_name (suc (suc (suc (suc (suc (suc (suc zero))))))) z l = (ASK, refl)
by_name (suc (suc (suc (suc (suc (suc (suc (suc zero)))))))) z l = (RETIRE, refl)
by_name (suc (suc (suc (suc (suc (suc (suc (suc (suc zero))))))))) z l = (SETTLE, refl)
by_name (suc (suc (suc (suc (suc (suc (suc (suc (suc (suc zero)))))))))) z l = (HOLD, refl)
by_name (suc (suc (suc (suc (suc (suc (suc (suc (suc (suc (suc c))))))))))) z l = absurd (omega arith)

module _ (n : ℕ) (s : List ℕ) where
  -- an act that 2 does not refuse has a name
  pub named : (a : Act) → rule n a s 2 ≡ false → (k : Name) × (a ≡ act k a.A a.o a.B)
  unfolding rule
  named a e =
      let k = by_name a.code (eqb-false a.code 0 (left_false (eqb a.code 0) (ltb 10 a.code) e)) (ltb-false 10 a.code (right_false (eqb a.code 0) (ltb 10 a.code) e)) in
      (k.0, λ i. record { code = k.1 i; A = a.A; o = a.o; B = a.B })

  -- what an act that is taken gives
  pub taken-bytes : (a : Act) → refusal n a s ≡ 0 → (does n a s).bytes ≡ after n a s
  unfolding does outcome
  taken-bytes a e = rw e

  pub taken-value : (a : Act) → refusal n a s ≡ 0 → (does n a s).answer.value ≡ value_of n a s
  unfolding does outcome
  taken-value a e = rw e

  module _ (formed : well_formed n s ≡ true) (a : Act) where
    -- none of its own checks applies, and 14 does not
    pub silent : own n a s ≡ 0 → NoneOf (rule n a s) (2 ∷ (row_of a).checks)
    unfolding positive
    silent e = first_none (rule n a s) (2 ∷ (row_of a).checks) (positive-row a) e

    pub taken_own : refusal n a s ≡ 0 → (own n a s ≡ 0) × (well_formed n (after n a s) ≡ true)
    taken_own e = go (eqb (own n a s) 0) refl (well_formed n (after n a s)) (sym (refusal-judged n a s formed) ∙ e)
      where
        go : (b : Bool) → eqb (own n a s) 0 ≡ b → (w : Bool) → cond b (cond w 0 14) (own n a s) ≡ 0 → (own n a s ≡ 0) × (w ≡ true)
        go true q true r = (eqb-true (own n a s) 0 q, refl)
        go true q false r = absurd (omega (arith, r))
        go false q w r = absurd (eqb-false (own n a s) 0 q r)

-- ON EVERY STORE THAT ACTS MAKE, n being small enough for two bytes to hold a transit
module _ (n : ℕ) (few : transit_top n < 65535) where
  -- an act that is taken is a step of the model
  pub taken_step : (s : List ℕ) → well_formed n s ≡ true → (a : Act) → refusal n a s ≡ 0 → Step n (model n s) a (model n (after n a s))
  taken_step s formed a e =
      let t = taken_own n s formed a e in
      let f = silent n s formed a t.0 in
      let k = named n s a f.0 in
      subst (λ (x : Act). Step n (model n s) x (model n (after n x s))) (sym k.1)
      (stepped k.0 a.A a.o a.B
      (subst (λ (x : Act). NoneOf (rule n x s) (2 ∷ (row_of x).checks)) k.1 f)
      (subst (λ (x : Act). well_formed n (after n x s) ≡ true) k.1 t.1))
    where
      stepped : (k : Name) (A o B : ℕ) → NoneOf (rule n (act k A o B) s) (2 ∷ (row_of (act k A o B)).checks) → well_formed n (after n (act k A o B) s) ≡ true
          → Step n (model n s) (act k A o B) (model n (after n (act k A o B) s))
      stepped k A o B f w = (let g = guard n s formed k A o B f in step k A o B g (act_effect n few s formed k A o B g w))

  -- every store that acts make is well formed
  pub run-formed : (acts : List Act) → well_formed n (run n acts) ≡ true
  unfolding run
  run-formed [] = fresh-formed n
  run-formed (a ∷ acts) = does-formed n a (run n acts) (run-formed acts)

  -- and its model is reached by the acts that were taken
  pub run_reached : (acts : List Act) → Reached n (accepted n acts) (model n (run n acts))
  unfolding run accepted
  run_reached [] = begin (fresh-model n)
  run_reached (a ∷ acts) = go (refusal n a (run n acts)) refl (run_reached acts)
    where
      go : (k : ℕ) → refusal n a (run n acts) ≡ k → Reached n (accepted n acts) (model n (run n acts))
          → Reached n (cond (eqb (refusal n a (run n acts)) 0) (a ∷ accepted n acts) (accepted n acts)) (model n (does n a (run n acts)).bytes)
      go zero q r = rw (q, taken-bytes n (run n acts) a q) (next r (taken_step (run n acts) (run-formed acts) a q))
      go (suc k) q r = rw (q, eqb-suc-zero k, refused_same n a (run n acts) (λ z. omega (arith, z, answers n a (run n acts), q))) r

  -- so all that acts keep of a model holds of it, and its lanes and counts are the history's
  pub run_kept : (acts : List Act) → Kept n (model n (run n acts))
  run_kept acts = reached_kept n (accepted n acts) (model n (run n acts)) (run_reached acts)

  pub run_follows : (acts : List Act) → Follows (accepted n acts) (model n (run n acts))
  run_follows acts = reached_follows n (accepted n acts) (model n (run n acts)) (run_reached acts)

  pub run-counted : (acts : List Act) → Counted n (accepted n acts) (model n (run n acts))
  run-counted acts = reached_counted n (accepted n acts) (model n (run n acts)) (run_reached acts)
