-- Demand 1 over the definition: a refusal alters no byte; each refusal is given exactly when its rule says; its value; the acts that
-- change nothing. For every act, with every number, on every list of bytes.
-- Assumes nothing.
use mathlib.Core.Path.{◌≡◌, refl, sym, ap, ◌∙◌}
use mathlib.Core.Bool.{Bool, true, false, cond}
use mathlib.Core.List.{List, [], ◌∷◌, ◌++◌}
use mathlib.Core.Logic.{◌↔◌}
use Prim.Native.Nat.{ℕ, zero, suc}
use native.Mathlib.Omega.{arith}
use lib.Dec.{eqb}
use borrow.Author.Tests.{ne_eqb}
use Rattle.machine.specs.Acts.{Act, act, ASK, SETTLE, HOLD, row_of, gives}
use Rattle.machine.specs.Effects.{after, value_of}
use Rattle.machine.proofs.Firsts.{FirstOf, first_given, given_first}
use Rattle.machine.specs.Machine.{first_in, standing, rule, refusal, outcome, does}

module _ (n : ℕ) (a : Act) (s : List ℕ) where
  -- the checks of an act in order, 1 and 2 first and 14 last
  abbrev pub checks : List ℕ
  checks = 1 ∷ 2 ∷ ((row_of a).checks ++ (14 ∷ []))

  -- the answer's refusal is the refusal
  pub answers : (does n a s).answer.refusal ≡ refusal n a s
  unfolding does outcome
  answers = go (refusal n a s)
    where
      go : (k : ℕ) → (outcome n k a s).answer.refusal ≡ k
      go zero = refl
      go (suc k) = rw (ne_eqb (suc k) 0 (λ q. omega arith))

  -- A REFUSAL ALTERS NO BYTE
  pub refused_same : ((does n a s).answer.refusal ≡ 0 → ⊥) → (does n a s).bytes ≡ s
  unfolding does outcome
  refused_same h = rw (ne_eqb (refusal n a s) 0 (λ q. h (answers ∙ q)))

  -- EACH REFUSAL IS GIVEN EXACTLY WHEN its number is among the act's checks, its rule applies and none checked before it does
  pub given_exactly : (k : ℕ) → (k ≡ 0 → ⊥) → ((does n a s).answer.refusal ≡ k) ↔ FirstOf (rule n a s) checks k
  unfolding refusal
  given_exactly k z = (
    λ e. first_given (rule n a s) checks k (sym answers ∙ e) z,
    λ f. answers ∙ ap (first_in (rule n a s)) f.stands ∙ given_first (rule n a s) f.before f.behind k f.applies f.earlier,
  )

  -- a refusal's value is 0, unless it is 13
  pub refused_value : ((does n a s).answer.refusal ≡ 0 → ⊥) → ((does n a s).answer.refusal ≡ 13 → ⊥) → (does n a s).answer.value ≡ 0
  unfolding does outcome
  refused_value h t = rw (ne_eqb (refusal n a s) 0 (λ q. h (answers ∙ q)), ne_eqb (refusal n a s) 13 (λ q. t (answers ∙ q)))

-- an act that leaves the store as it is, taken or not
same_after : (n : ℕ) (a : Act) (s : List ℕ) → after n a s ≡ s → (does n a s).bytes ≡ s
unfolding does outcome
same_after n a s e = go (eqb (refusal n a s) 0)
  where
    go : (b : Bool) → (cond b (gives 0 (value_of n a s) (after n a s)) (gives (refusal n a s) (cond (eqb (refusal n a s) 13) (standing n a.o s) 0) s)).bytes ≡ s
    go true = e
    go false = refl

-- ASK, SETTLE AND HOLD CHANGE NO BYTE
pub asking_same : (n A o B : ℕ) (s : List ℕ) → (does n (act ASK A o B) s).bytes ≡ s
unfolding after
asking_same n A o B s = same_after n (act ASK A o B) s refl

pub settling_same : (n A o B : ℕ) (s : List ℕ) → (does n (act SETTLE A o B) s).bytes ≡ s
unfolding after
settling_same n A o B s = same_after n (act SETTLE A o B) s refl

pub holding_same : (n A o B : ℕ) (s : List ℕ) → (does n (act HOLD A o B) s).bytes ≡ s
unfolding after
holding_same n A o B s = same_after n (act HOLD A o B) s refl
