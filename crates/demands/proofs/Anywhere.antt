-- Demand 2 on any well formed store: with the true holdings and the lanes in the history's place, and 14 among the limits.
-- Assumes nothing.
use mathlib.Core.Path.{◌≡◌, refl, sym, ap, ◌∙◌}
use mathlib.Core.Bool.{true, false}
use mathlib.Core.Logic.{◌↔◌}
use mathlib.Core.List.{List, [], ◌∷◌, ◌++◌}
use Prim.Native.Nat.{ℕ, zero, suc, ◌<◌}
use native.Mathlib.Omega.{arith}
use lib.Dec.{eqb}
use borrow.Author.Tests.{eqb-false, ne_eqb}
use Rattle.lanes.specs.Lane.{count}
use Rattle.store.specs.Layout.{pointers, read}
use Rattle.store.specs.Store.{held_of, well_formed}
use Rattle.machine.specs.Acts.{Act, act, SEND, COPY, DROP, DELIVER}
use Rattle.machine.specs.Machine.{first_in, rule, refusal}
use Rattle.machine.proofs.Firsts.{positive, none_first, first_none, none_but, but_none}
use Rattle.machine.proofs.Refusals.{answers, checks}
use Rattle.demands.specs.Demands.{Taken, Within, ExactlyAnywhere}

-- a number is not 0 exactly when it is above 0
above : (x : ℕ) → eqb x 0 ≡ false → 0 < x
above x e = go x (eqb-false x 0 e)
  where
    go : (y : ℕ) → (y ≡ 0 → ⊥) → 0 < y
    go zero f = absurd (f refl)
    go (suc y) f = omega arith

below : (x : ℕ) → 0 < x → eqb x 0 ≡ false
below x h = ne_eqb x 0 (λ e. omega arith)

module _ (n : ℕ) (s : List ℕ) (formed : well_formed n s ≡ true) where
  -- An act of a known code is taken exactly when its check k does not apply and the limits, its other checks but 1 and 2, allow it.
  exactly : (a : Act) (before behind : List ℕ) (k : ℕ) → checks n a s ≡ 1 ∷ 2 ∷ (before ++ (k ∷ behind)) → rule n a s 2 ≡ false
      → positive (before ++ (k ∷ behind)) ≡ true → positive (before ++ behind) ≡ true
      → Taken n a s ↔ ((rule n a s k ≡ false) × Within n (before ++ behind) a s)
  unfolding refusal positive
  exactly a before behind k e two pos posʹ = (
    λ t. (let f = none_but (rule n a s) before behind k (first_none (rule n a s) (1 ∷ 2 ∷ (before ++ (k ∷ behind))) pos (from t)).1.1 in (f.0, none_first (rule n a s) (before ++ behind) f.1)),
    λ w. answers n a s ∙ ap (first_in (rule n a s)) e
        ∙ none_first (rule n a s) (1 ∷ 2 ∷ (before ++ (k ∷ behind))) (one, (two, but_none (rule n a s) before behind k w.0 (first_none (rule n a s) (before ++ behind) posʹ w.1))),
  )
    where
      one : rule n a s 1 ≡ false
      one = unfold rule in rw formed

      from : Taken n a s → first_in (rule n a s) (1 ∷ 2 ∷ (before ++ (k ∷ behind))) ≡ 0
      from t = sym (ap (first_in (rule n a s)) e) ∙ sym (answers n a s) ∙ t

-- a check that a count is 0, read as that it is above 0
counted : {P Q : Type 0} (x : ℕ) → P ↔ ((eqb x 0 ≡ false) × Q) → P ↔ ((0 < x) × Q)
counted x e = (λ p. (let w = e.0 p in (above x w.0, w.1)), λ w. e.1 (below x w.0, w.1))

-- DEMAND 2 ON ANY WELL FORMED STORE
pub exactly_anywhere_lem : (n : ℕ) → ExactlyAnywhere n
unfolding rule positive
exactly_anywhere_lem n = (
  (λ s A o B h. counted (held_of n A o s) (exactly n s h (act SEND A o B) (3 ∷ 4 ∷ 5 ∷ 6 ∷ []) (8 ∷ 10 ∷ 11 ∷ 14 ∷ []) 7 refl refl refl refl)),
  (λ s A o B h. counted (held_of n A o s) (exactly n s h (act COPY A o B) (3 ∷ 4 ∷ 5 ∷ []) (8 ∷ 11 ∷ 14 ∷ []) 7 refl refl refl refl)),
  (λ s A o B h. counted (held_of n A o s) (exactly n s h (act DROP A o B) (3 ∷ 4 ∷ 5 ∷ []) (11 ∷ 14 ∷ []) 7 refl refl refl refl)),
  (λ s A o B h. counted (count (read n (pointers A B) s)) (exactly n s h (act DELIVER A o B) (3 ∷ 6 ∷ []) (11 ∷ 14 ∷ []) 9 refl refl refl refl)),
)
