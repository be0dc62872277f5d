-- Laws of the first number of a list that passes a test.
-- Assumes nothing.
use mathlib.Core.Path.{◌≡◌, refl, sym, ap}
use mathlib.Core.Bool.{Bool, true, false, cond, ◌&&◌}
use mathlib.Core.List.{List, [], ◌∷◌, ◌++◌}
use Prim.Native.Nat.{ℕ}
use native.Mathlib.Omega.{arith}
use lib.Dec.{ltb, eqb}
use borrow.Author.Tests.{ltb-true, ne_eqb}
use Rattle.books.proofs.Booleans.{left_true, right_true}
use Rattle.machine.specs.Machine.{first_in}

-- every number of a list is above 0
unfoldable pub positive : List ℕ → Bool
positive [] = true
positive (k ∷ ks) = ltb 0 k && positive ks

-- no number of the list passes the test
abbrev pub NoneOf : (ℕ → Bool) → List ℕ → Type 0
NoneOf p [] = Unit {0}
NoneOf p (j ∷ ks) = (p j ≡ false) × NoneOf p ks

-- k stands in the list and passes the test, and none before it does
pub record FirstOf (p : ℕ → Bool) (ks : List ℕ) (k : ℕ) : Type 0 where
  pub before : List ℕ
  pub behind : List ℕ
  pub stands : ks ≡ before ++ (k ∷ behind)
  pub applies : p k ≡ true
  pub earlier : NoneOf p before

pub first_given : (p : ℕ → Bool) (ks : List ℕ) (k : ℕ) → first_in p ks ≡ k → (k ≡ 0 → ⊥) → FirstOf p ks k
unfolding first_in
first_given p [] k e z = absurd (z (sym e))
first_given p (j ∷ ks) k e z = go (p j) refl e (λ q. first_given p ks k q z)
  where
    go : (b : Bool) → p j ≡ b → cond b j (first_in p ks) ≡ k → (first_in p ks ≡ k → FirstOf p ks k) → FirstOf p (j ∷ ks) k
    go true h q f = record { before = []; behind = ks; stands = rw q; applies = rw (← q) h; earlier = tt }
    go false h q f =
        let r = f q in
        record {
          before = j ∷ r.before;
          behind = r.behind;
          stands = ap (λ (x : List ℕ). j ∷ x) r.stands;
          applies = r.applies;
          earlier = (h, r.earlier);
        }

pub given_first : (p : ℕ → Bool) (before behind : List ℕ) (k : ℕ) → p k ≡ true → NoneOf p before → first_in p (before ++ (k ∷ behind)) ≡ k
unfolding first_in
given_first p [] behind k h f = rw h
given_first p (j ∷ before) behind k h f = rw f.0 (given_first p before behind k h f.1)

-- none passes exactly when the first that passes is 0
pub none_first : (p : ℕ → Bool) (ks : List ℕ) → NoneOf p ks → first_in p ks ≡ 0
unfolding first_in
none_first p [] f = refl
none_first p (k ∷ ks) f = rw f.0 (none_first p ks f.1)

pub first_none : (p : ℕ → Bool) (ks : List ℕ) → positive ks ≡ true → first_in p ks ≡ 0 → NoneOf p ks
unfolding first_in positive
first_none p [] h e = tt
first_none p (k ∷ ks) h e = go (p k) refl e (λ q. first_none p ks (right_true (ltb 0 k) (positive ks) h) q)
  where
    go : (b : Bool) → p k ≡ b → cond b k (first_in p ks) ≡ 0 → (first_in p ks ≡ 0 → NoneOf p ks) → NoneOf p (k ∷ ks)
    go true q z f = absurd (omega (arith, z, ltb-true 0 k (left_true (ltb 0 k) (positive ks) h)))
    go false q z f = (q, f z)

-- one check more, at the end
pub first_last : (p : ℕ → Bool) (ks : List ℕ) (j : ℕ) → positive ks ≡ true → first_in p (ks ++ (j ∷ [])) ≡ cond (eqb (first_in p ks) 0) (cond (p j) j 0) (first_in p ks)
unfolding first_in positive
first_last p [] j h = refl
first_last p (k ∷ ks) j h = go (p k) (first_last p ks j (right_true (ltb 0 k) (positive ks) h))
  where
    go : (b : Bool) → first_in p (ks ++ (j ∷ [])) ≡ cond (eqb (first_in p ks) 0) (cond (p j) j 0) (first_in p ks)
        → cond b k (first_in p (ks ++ (j ∷ []))) ≡ cond (eqb (cond b k (first_in p ks)) 0) (cond (p j) j 0) (cond b k (first_in p ks))
    go true e = rw (ne_eqb k 0 (λ q. omega (arith, ltb-true 0 k (left_true (ltb 0 k) (positive ks) h))))
    go false e = e

-- one number of a list apart from the others
pub none_but : (p : ℕ → Bool) (before behind : List ℕ) (k : ℕ) → NoneOf p (before ++ (k ∷ behind)) → (p k ≡ false) × NoneOf p (before ++ behind)
none_but p [] behind k f = f
none_but p (j ∷ before) behind k f = let r = none_but p before behind k f.1 in (r.0, (f.0, r.1))

pub but_none : (p : ℕ → Bool) (before behind : List ℕ) (k : ℕ) → p k ≡ false → NoneOf p (before ++ behind) → NoneOf p (before ++ (k ∷ behind))
but_none p [] behind k e f = (e, f)
but_none p (j ∷ before) behind k e f = (f.0, but_none p before behind k e f.1)
