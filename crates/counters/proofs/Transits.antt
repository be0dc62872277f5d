-- Laws of a transit as a signed count and as the number that is stored: the one of the other, and when either is in range; of the number
-- before one.
-- Assumes nothing.
use mathlib.Core.Path.{◌≡◌, refl, sym, ap, ◌∙◌}
use mathlib.Core.Bool.{true, false≢true}
use Prim.Native.Nat.{ℕ, zero, suc, ◌+◌, ◌-◌, ◌<◌, ◌≤◌}
use native.Mathlib.Decide.{dec_lt}
use native.Mathlib.Omega.{arith}
use lib.Dec.{leb, leb-zero}
use lib.IntN.{ℤ, pos, negsuc, pred_ℤ, nat_abs, sub_ℕ, ◌+ℤ◌, ◌-ℤ◌, -ℤ-+ℤ_cancel}
use lib.Signed.{le_z}
use borrow.Author.Tests.{lt-ltb, le-ltb, leb-true, le-leb, lt-leb}
use Rattle.books.specs.Books.{transit_zero, transit_top}
use Rattle.counters.specs.Counters.{counted, stored_as, in_range}
use Rattle.books.proofs.Booleans.{bool_ext, left_true}

-- the number before one above 0
pub before-pos : (x : ℕ) → 0 < x → nat_abs (pred_ℤ (pos x)) ≡ x - 1
before-pos zero h = absurd (omega arith)
before-pos (suc x) h = omega arith

-- a difference of numbers is the signed difference
pub sub_pos : (a d : ℕ) → pos a -ℤ pos d ≡ sub_ℕ a d
sub_pos a zero = rw (le-ltb a 0 (omega arith)) (ap pos (omega arith))
sub_pos a (suc d) = refl

module _ (d : ℕ) where
  -- d less, and d more again; of two differences the less is of the less
  sub_back : (k : ℕ) → sub_ℕ k d +ℤ pos d ≡ pos k
  sub_back k = ap (λ (z : ℤ). z +ℤ pos d) (sym (sub_pos k d)) ∙ -ℤ-+ℤ_cancel (pos k) (pos d)

  sub_le : (a b : ℕ) → le_z (sub_ℕ a d) (sub_ℕ b d) ≡ leb a b
  sub_le a b = elim (dec_lt a d) [ yes p ↦ elim (dec_lt b d) [ yes q ↦ low p q | no q ↦ rw (lt-ltb a d p, le-ltb b d (omega arith), le-leb a b (omega arith)) ] | no p ↦ elim (dec_lt b d) [ yes q ↦ rw (le-ltb a d (omega arith), lt-ltb b d q, lt-leb a b (omega arith)) | no q ↦ high (omega arith) (omega arith) ] ]
    where
      same : (x y : ℕ) → (x ≤ y → a ≤ b) → (a ≤ b → x ≤ y) → leb x y ≡ leb a b
      same x y f g = bool_ext (leb x y) (leb a b) (λ e. le-leb a b (f (leb-true x y e))) (λ e. le-leb x y (g (leb-true a b e)))

      low : a < d → b < d → le_z (sub_ℕ a d) (sub_ℕ b d) ≡ leb a b
      low p q = rw (lt-ltb a d p, lt-ltb b d q) (same (d - suc b) (d - suc a) (λ h. omega arith) (λ h. omega arith))

      high : d ≤ a → d ≤ b → le_z (sub_ℕ a d) (sub_ℕ b d) ≡ leb a b
      high p q = rw (le-ltb a d p, le-ltb b d q) (same (a - d) (b - d) (λ h. omega arith) (λ h. omega arith))

  -- a number that is at least -d is a difference
  low : (m : ℕ) → le_z (sub_ℕ 0 d) (negsuc m) ≡ true → m < d
  low m e = elim (dec_lt 0 d) [ yes p ↦ (let t : leb m (d - 1) ≡ true = rw (lt-ltb 0 d p) at e in omega (arith, leb-true m (d - 1) t)) | no p ↦ absurd (false≢true (rw (le-ltb 0 d (omega arith)) at e)) ]

  is_sub : (z : ℤ) → le_z (sub_ℕ 0 d) z ≡ true → z ≡ sub_ℕ (nat_abs (z +ℤ pos d)) d
  is_sub (pos m) e = rw (le-ltb (m + d) d (omega arith)) (ap pos (omega arith))
  is_sub (negsuc m) e =
      let h : m < d = low m e in
      rw (le-ltb d (suc m) h, lt-ltb (d - suc m) d (omega arith)) (ap negsuc (omega arith))

-- a count in range: the number stored for it, which is in range, and of which it is the count
pub record Stored (n : ℕ) (z : ℤ) : Type 0 where
  pub most : stored_as n z ≤ transit_top n
  pub is : z ≡ counted n (stored_as n z)

module _ (n : ℕ) where
  -- a count is in range where its stored number is; a count in range is that of a stored number
  pub range-of : (k : ℕ) → in_range n (counted n k) ≡ leb k (transit_top n)
  range-of k = rw (sub_le (transit_zero n) 0 k, sub_le (transit_zero n) k (transit_top n), leb-zero k)

  pub in_store : (z : ℤ) → in_range n z ≡ true → Stored n z
  in_store z h =
      let e : z ≡ counted n (stored_as n z) = is_sub (transit_zero n) z (left_true (le_z (counted n 0) z) (le_z z (counted n (transit_top n))) h) in
      let t : leb (stored_as n z) (transit_top n) ≡ true = sym (range-of (stored_as n z)) ∙ ap (in_range n) (sym e) ∙ h in
      record { most = leb-true (stored_as n z) (transit_top n) t; is = e }

  -- what is stored of the count of k is k
  pub stored_of : (k : ℕ) → stored_as n (counted n k) ≡ k
  stored_of k = ap nat_abs (sub_back (transit_zero n) k)

  -- a count in range and what a transit is stored plus make the number that is stored
  pub stored-pos : (z : ℤ) → Stored n z → z +ℤ pos (transit_zero n) ≡ pos (stored_as n z)
  stored-pos z s = ap (λ (y : ℤ). y +ℤ pos (transit_zero n)) s.is ∙ sub_back (transit_zero n) (stored_as n z)
