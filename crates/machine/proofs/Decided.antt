-- Refusal 14 decided from the counts that an act touches, for every act: on a well formed store, none of whose own checks applies, the
-- store after the act is well formed exactly when the act fits.
-- Assumes nothing.
use mathlib.Core.Path.{◌≡◌, refl, ap, ◌∙◌}
use mathlib.Core.Bool.{Bool, true, false, cond, ◌||◌, true≢false}
use mathlib.Core.List.{List, ◌∷◌}
use Prim.Native.Nat.{ℕ, zero, suc, ◌<◌}
use native.Mathlib.Omega.{arith}
use lib.Dec.{ltb, eqb, eqb-suc-zero}
use borrow.Author.Tests.{ltb-false}
use Rattle.books.specs.Books.{transit_top}
use Rattle.books.proofs.Booleans.{right_false}
use Rattle.store.specs.Store.{well_formed}
use Rattle.machine.specs.Acts.{Act, row_of}
use Rattle.machine.specs.Effects.{after}
use Rattle.machine.specs.Machine.{rule, refusal}
use Rattle.machine.proofs.Firsts.{NoneOf, positive, first_none}
use Rattle.machine.proofs.Judged.{judged, positive-row, own, refusal-judged}
use Rattle.machine.specs.Fits.{fits}
use Rattle.machine.proofs.KeptActs.{copy_kept, drop_kept, send_kept, deliver_kept}
use Rattle.machine.proofs.KeptHear.{hear_kept}
use Rattle.machine.proofs.KeptObjects.{make_kept, retire_kept}

module _ (n : ℕ) (few : transit_top n < 65535) (s : List ℕ) (formed : well_formed n s ≡ true) where
  -- an act by its four numbers
  abbrev numbered : ℕ → ℕ → ℕ → ℕ → Act
  numbered c A o B = record { code = c; A = A; o = o; B = B }

  -- 2: the code is that of an act
  coded : (c A o B : ℕ) → rule n (numbered c A o B) s 2 ≡ false → (eqb c 0 || ltb 10 c) ≡ false
  unfolding rule
  coded c A o B e = e

  above : (c A o B : ℕ) → 10 < c → ¬ (rule n (numbered c A o B) s 2 ≡ false)
  above c A o B h e = omega (arith, ltb-false 10 c (right_false (eqb c 0) (ltb 10 c) (coded c A o B e)))

  by_code : (c A o B : ℕ) → NoneOf (rule n (numbered c A o B) s) (2 ∷ (row_of (numbered c A o B)).checks) → well_formed n (after n (numbered c A o B) s) ≡ fits n (numbered c A o B) s
  unfolding after fits
  by_code zero A o B f = absurd (true≢false (coded 0 A o B f.0))
  by_code (suc zero) A o B f = make_kept n s formed few A o B f
  by_code (suc (suc zero)) A o B f = send_kept n few s formed A o B f
  by_code (suc (suc (suc zero))) A o B f = copy_kept n few s formed A o B f
  by_code (suc (suc (suc (suc zero)))) A o B f = drop_kept n few s formed A o B f
  by_code (suc (suc (suc (suc (suc zero))))) A o B f = deliver_kept n few s formed A o B f
  by_code (suc (suc (suc (suc (suc (suc zero)))))) A o B f = hear_kept n few s formed A o B f
  by_code (suc (suc (suc (suc (suc (suc (suc zero))))))) A o B f = formed
  by_code (suc (suc (suc (suc (suc (suc (suc (suc zero)))))))) A o B f = retire_kept n s formed A o B f
  by_code (suc (suc (suc (suc (suc (suc (suc (suc (suc zero))))))))) A o B f = formed
  by_code (suc (suc (suc (suc (suc (suc (suc (suc (suc (suc zero)))))))))) A o B f = formed
  by_code (suc (suc (suc (suc (suc (suc (suc (suc (suc (suc (suc c))))))))))) A o B f =
      absurd (above (suc (suc (suc (suc (suc (suc (suc (suc (suc (suc (suc c))))))))))) A o B (omega arith) f.0)

  -- the store after an act is well formed exactly when the act fits
  pub kept : (a : Act) → NoneOf (rule n a s) (2 ∷ (row_of a).checks) → well_formed n (after n a s) ≡ fits n a s
  kept a f = by_code a.code a.A a.o a.B f

  -- the refusal of an act: its own checks, then 14 by what it touches
  pub refusal-fits : (a : Act) → refusal n a s ≡ judged (own n a s) (fits n a s)
  unfolding positive
  refusal-fits a = refusal-judged n a s formed ∙ go (own n a s) refl
    where
      go : (k : ℕ) → own n a s ≡ k → judged k (well_formed n (after n a s)) ≡ judged k (fits n a s)
      go zero e = ap (λ (b : Bool). cond b 0 14) (kept a (first_none (rule n a s) (2 ∷ (row_of a).checks) (positive-row a) e))
      go (suc k) e = rw (eqb-suc-zero k)
