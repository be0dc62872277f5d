-- Demand 3, settling, on the stores that acts make: while anything travels a delivery or a hearing is taken; no more are taken than the
-- settling number; and where none is taken nothing travels, and the verdict is absent exactly when no port but the home holds the object.
-- Assumes nothing.
use mathlib.Core.Path.{◌≡◌, refl, sym, ◌∙◌}
use mathlib.Core.Bool.{true}
use mathlib.Core.Logic.{◌⊎◌, inl, inr, ◌↔◌}
use mathlib.Core.List.{List}
use Prim.Native.Nat.{ℕ, zero, suc, ◌+◌, ◌≤◌, ◌<◌}
use native.Mathlib.Omega.{arith}
use Rattle.books.specs.Books.{transit_top}
use Rattle.store.specs.Store.{well_formed, in_use, home}
use Rattle.machine.specs.Acts.{Act, Name, act, code_of, MAKE, SEND, COPY, DROP, DELIVER, HEAR, ASK, RETIRE, SETTLE, HOLD}
use Rattle.machine.specs.Effects.{after, value_of}
use Rattle.machine.specs.Machine.{rule, does}
use Rattle.machine.proofs.Judged.{does-formed}
use Rattle.machine.proofs.Refusals.{answers}
use Rattle.demands.specs.History.{run}
use Rattle.demands.specs.Demands.{answer, Taken, Still, Settling, Settles, none, more, OnlyHome, Progress, Bounded, AtRest}
use Rattle.demands.proofs.Model.{M, Effect}
use Rattle.demands.proofs.Steps.{Step, step, Guard, MayHear, MayDeliver}
use Rattle.demands.proofs.Kept.{Kept, act_kept}
use Rattle.demands.proofs.Settle.{settling, settling-entries, settling_le, hear_lowers, deliver_lowers}
use Rattle.demands.proofs.Settle as Settle
use Rattle.demands.proofs.Bridge.{model, held_is, pointers_are_lem, reports_are_lem}
use Rattle.demands.proofs.BridgeCounts.{settling_is}
use Rattle.demands.proofs.BridgeGuards.{deliver_silent, hear_silent}
use Rattle.demands.proofs.Run.{taken-bytes, taken-value, taken_step, run-formed, run_kept}
use Rattle.demands.proofs.Never.{taken-silent}
use Rattle.demands.proofs.Exactly.{used-owner}
use Rattle.demands.proofs.Asked.{asked}

-- nothing travels in the bytes exactly when nothing does in the model
still_model : (n : ℕ) (s : List ℕ) → Still n s → Settle.Still n (model n s)
still_model n s w A B la lb = (pointers_are_lem n s A B la lb ∙ (w A B la lb).0, reports_are_lem n s A B la lb ∙ (w A B la lb).1)

model_still : (n : ℕ) (s : List ℕ) → Settle.Still n (model n s) → Still n s
model_still n s w A B la lb = (sym (pointers_are_lem n s A B la lb) ∙ (w A B la lb).0, sym (reports_are_lem n s A B la lb) ∙ (w A B la lb).1)

module _ (n : ℕ) (few : transit_top n < 65535) (acts : List Act) where
  -- the store that the acts have made
  abbrev s : List ℕ
  s = run n acts

  -- nothing travels, or a delivery or a hearing is taken
  moves : Still n s ⊎ ((a : Act) × Settling n a × Taken n a s)
  moves = go (Settle.progress n (model n s) (run_kept n few acts).core)
    where
      go : Settle.Still n (model n s) ⊎ ((A : ℕ) × (B : ℕ) × (MayHear n A B (model n s) ⊎ MayDeliver n A B (model n s))) → Still n s ⊎ ((a : Act) × Settling n a × Taken n a s)
      go (inl w) = inl (model_still n s w)
      go (inr (A, B, inl g)) = inr (act HEAR A 0 B, inr refl, (taken-silent n few acts (act HEAR A 0 B)).1 (hear_silent n s (run-formed n few acts) A 0 B g))
      go (inr (A, B, inr g)) = inr (act DELIVER A 0 B, inl refl, (taken-silent n few acts (act DELIVER A 0 B)).1 (deliver_silent n s (run-formed n few acts) A 0 B g))

  -- SETTLE gives the model's settling number
  settle_value : (answer n (act SETTLE 0 0 0) s).value ≡ settling n (model n s)
  unfolding value_of
  settle_value =
      taken-value n s (act SETTLE 0 0 0) (sym (answers n (act SETTLE 0 0 0) s) ∙ (taken-silent n few acts (act SETTLE 0 0 0)).1 (unfold rule in (refl, tt)))
      ∙ settling_is n s ∙ sym (settling-entries n (model n s))

-- PROGRESS
pub progress : (n : ℕ) → transit_top n < 65535 → Progress n
progress n few acts d = go (moves n few acts)
  where
    go : Still n (run n acts) ⊎ ((a : Act) × Settling n a × Taken n a (run n acts)) → (a : Act) × Settling n a × Taken n a (run n acts)
    go (inl w) = absurd (d w)
    go (inr w) = w

-- a delivery or a hearing that is taken lowers the settling number, and keeps the store as acts keep it
lowers : (n : ℕ) (m m' : M) (a : Act) → Kept n m → Settling n a → Step n m a m' → (settling n m' < settling n m) × Kept n m'
lowers n m m' a k t (step j A o B g e) = (go j t g e, act_kept n j A o B m m' g e k)
  where
    off : (c : ℕ) → (c ≡ code_of DELIVER) ⊎ (c ≡ code_of HEAR) → ¬ (c ≡ code_of DELIVER) → ¬ (c ≡ code_of HEAR) → ⊥
    off c (inl q) y z = y q
    off c (inr q) y z = z q

    go : (j : Name) → Settling n (act j A o B) → Guard n j A o B m → Effect j A o B m m' → settling n m' < settling n m
    go MAKE w g e = absurd (off 1 w (λ q. omega arith) (λ q. omega arith))
    go SEND w g e = absurd (off 2 w (λ q. omega arith) (λ q. omega arith))
    go COPY w g e = absurd (off 3 w (λ q. omega arith) (λ q. omega arith))
    go DROP w g e = absurd (off 4 w (λ q. omega arith) (λ q. omega arith))
    go DELIVER w g e = deliver_lowers n A o B m m' k.core g.sender g.receiver e
    go HEAR w g e = omega (arith, hear_lowers n A B e.0 m m' g.sender g.receiver e.1)
    go ASK w g e = absurd (off 7 w (λ q. omega arith) (λ q. omega arith))
    go RETIRE w g e = absurd (off 8 w (λ q. omega arith) (λ q. omega arith))
    go SETTLE w g e = absurd (off 9 w (λ q. omega arith) (λ q. omega arith))
    go HOLD w g e = absurd (off 10 w (λ q. omega arith) (λ q. omega arith))

-- along deliveries and hearings: the store stays as acts keep it, and their number and the settling number left are within the first
record Along (n : ℕ) (s : List ℕ) (k : ℕ) (t : List ℕ) : Type 0 where
  formed : well_formed n t ≡ true
  kept : Kept n (model n t)
  within : k + settling n (model n t) ≤ settling n (model n s)

module _ (n : ℕ) (few : transit_top n < 65535) (s : List ℕ) (first : well_formed n s ≡ true) (start : Kept n (model n s)) where
  -- so it is along all of them
  along : (k : ℕ) (t : List ℕ) → Settles n s k t → Along n s k t
  along zero t none = record { formed = first; kept = start; within = omega arith }
  along (suc k) t (more {t = u} w a i e) = go (along k u w)
    where
      go : Along n s k u → Along n s (suc k) (does n a u).bytes
      go b =
          let q = sym (answers n a u) ∙ e in
          let l = lowers n (model n u) (model n (after n a u)) a b.kept i (taken_step n few u b.formed a q) in
          let z : (does n a u).bytes ≡ after n a u = taken-bytes n u a q in
          record {
            formed = does-formed n a u b.formed;
            kept = rw z l.1;
            within = rw z (omega (arith, b.within, l.0));
          }

-- BOUNDED
pub bounded : (n : ℕ) → transit_top n < 65535 → Bounded n
bounded n few acts = (
  (λ k t w. (let b = along n few (run n acts) (run-formed n few acts) (run_kept n few acts) k t w in rw (settle_value n few acts) (omega (arith, b.within)))),
  rw (settle_value n few acts) (settling_le n (model n (run n acts)) (run_kept n few acts).core),
)

-- AT REST
pub at_rest_lem : (n : ℕ) → transit_top n < 65535 → AtRest n
at_rest_lem n few acts off = (still, λ o used. verdict o used)
  where
    still : Still n (run n acts)
    still = go (moves n few acts)
      where
        go : Still n (run n acts) ⊎ ((a : Act) × Settling n a × Taken n a (run n acts)) → Still n (run n acts)
        go (inl w) = w
        go (inr w) = absurd (off w.0 w.1 w.2)

    verdict : (o : ℕ) → in_use n o (run n acts) ≡ true → ((answer n (act ASK 0 o 0) (run n acts)).value ≡ 1) ↔ OnlyHome n o (run n acts)
    verdict o used =
        let v = asked n few acts o used in
        let w = Settle.at_rest_lem n (model n (run n acts)) (run_kept n few acts).core (still_model n (run n acts) still) o (home n o (run n acts)) (used-owner n o (run n acts) used) in
        (λ e. λ p l d. sym (held_is n (run n acts) p o l) ∙ w.0 (sym v ∙ e) p l d, λ h. v ∙ w.1 (λ p l d. held_is n (run n acts) p o l ∙ h p l d))
