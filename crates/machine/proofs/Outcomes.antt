-- What an act gives on a well formed store, by what its own checks give: refused by them, refused by 14, or taken.
-- Assumes nothing.
use mathlib.Core.Path.{◌≡◌, sym, ap, ◌∙◌}
use mathlib.Core.Bool.{true, false}
use mathlib.Core.List.{List, ◌∷◌, ◌++◌}
use Prim.Native.Nat.{ℕ}
use native.Mathlib.Omega.{arith}
use borrow.Author.Tests.{ne_eqb}
use Rattle.store.specs.Store.{well_formed}
use Rattle.machine.specs.Acts.{Act, row_of, gives}
use Rattle.machine.specs.Effects.{after, value_of}
use Rattle.machine.specs.Machine.{first_in, standing, rule, refusal, outcome, does}
use Rattle.machine.proofs.Firsts.{NoneOf, given_first, none_first}
use Rattle.machine.proofs.Judged.{own, refusal-judged}

module _ (n : ℕ) (a : Act) (s : List ℕ) (formed : well_formed n s ≡ true) where
  -- the outcome, once the refusal is known
  does_is : (k : ℕ) → refusal n a s ≡ k → does n a s ≡ outcome n k a s
  unfolding does
  does_is k e = ap (λ (j : ℕ). outcome n j a s) e

  -- the number that its own checks give: k, none before it applying
  pub own_at : (before behind : List ℕ) (k : ℕ) → 2 ∷ (row_of a).checks ≡ before ++ (k ∷ behind) → NoneOf (rule n a s) before → rule n a s k ≡ true → own n a s ≡ k
  own_at before behind k e f h = ap (first_in (rule n a s)) e ∙ given_first (rule n a s) before behind k h f

  refused_by : (k : ℕ) → own n a s ≡ k → (k ≡ 0 → ⊥) → refusal n a s ≡ k
  refused_by k e z = refusal-judged n a s formed ∙ rw (e, ne_eqb k 0 z)

  -- refused by what its own checks give, k, other than 13
  pub refuses_own : (k : ℕ) → own n a s ≡ k → (k ≡ 0 → ⊥) → (k ≡ 13 → ⊥) → gives k 0 s ≡ does n a s
  unfolding outcome
  refuses_own k e z t = sym (does_is k (refused_by k e z) ∙ rw (ne_eqb k 0 z, ne_eqb k 13 t))

  -- refused by one of its own checks, k, other than 13, none before it applying
  pub refuses : (before behind : List ℕ) (k : ℕ) → 2 ∷ (row_of a).checks ≡ before ++ (k ∷ behind) → NoneOf (rule n a s) before → rule n a s k ≡ true
      → (k ≡ 0 → ⊥) → (k ≡ 13 → ⊥) → gives k 0 s ≡ does n a s
  refuses before behind k e f h z t = refuses_own k (own_at before behind k e f h) z t

  -- refused by 13, with the lowest port standing against
  pub refuses_13 : (before behind : List ℕ) → 2 ∷ (row_of a).checks ≡ before ++ (13 ∷ behind) → NoneOf (rule n a s) before → rule n a s 13 ≡ true
      → gives 13 (standing n a.o s) s ≡ does n a s
  unfolding outcome
  refuses_13 before behind e f h = sym (does_is 13 (refused_by 13 (own_at before behind 13 e f h) (λ q. omega arith)))

  -- refused by 14: none of its own checks applies, and the store after it would not be well formed
  pub refuses_14 : NoneOf (rule n a s) (2 ∷ (row_of a).checks) → well_formed n (after n a s) ≡ false → gives 14 0 s ≡ does n a s
  unfolding outcome
  refuses_14 f w = sym (does_is 14 (refusal-judged n a s formed ∙ rw (none_first (rule n a s) (2 ∷ (row_of a).checks) f, w)))

  -- taken: v is its value and t the store after it
  pub takes : NoneOf (rule n a s) (2 ∷ (row_of a).checks) → well_formed n (after n a s) ≡ true → (v : ℕ) (t : List ℕ) → v ≡ value_of n a s → t ≡ after n a s
      → gives 0 v t ≡ does n a s
  unfolding outcome
  takes f w v t p q = rw (p, q) (sym (does_is 0 (refusal-judged n a s formed ∙ rw (none_first (rule n a s) (2 ∷ (row_of a).checks) f, w))))
