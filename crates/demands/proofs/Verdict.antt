-- The verdict read off the model: it is 1 or 2 exactly when the books say absent, which is exactly when 004's absence holds of what the
-- home has heard; and with every transit at 0 it is 1.
-- Assumes nothing.
use mathlib.Core.Path.{◌≡◌, refl, sym, ap, ◌∙◌}
use mathlib.Core.Bool.{Bool, true, false, cond, not, ◌&&◌, ◌||◌, false≢true}
use mathlib.Core.Logic.{◌⊎◌, inl, inr, ◌↔◌}
use mathlib.Core.List.{List}
use Prim.Native.Nat.{ℕ, zero, suc, ◌≤◌, ◌<◌}
use native.Mathlib.Omega.{arith}
use native.Mathlib.Decide.{ℕ_discrete, dec_lt}
use lib.Dec.{eqb, ltb}
use borrow.Author.Tests.{ltb-false, le-ltb, eq-eqb, ne_eqb}
use Rattle.paper.specs.Paper.{send, receive, count, Any, Absence}
use Rattle.books.specs.Numbers.{some}
use Rattle.books.specs.Books.{transit_zero, verdict}
use Rattle.machine.specs.Acts.{Act}
use Rattle.demands.specs.History.{heard}
use Rattle.demands.proofs.Model.{M}
use Rattle.demands.proofs.Absent.{Absent}
use Rattle.demands.proofs.Core.{Core}
use Rattle.demands.proofs.Counted.{Counted}

-- no number below n passes
pub some_none : (p : ℕ → Bool) (n : ℕ) → ((i : ℕ) → i < n → p i ≡ false) → some n p ≡ false
unfolding some
some_none p zero h = refl
some_none p (suc n) h = rw (some_none p n (λ i l. h i (omega arith)), h n (omega arith))

pub none_some : (p : ℕ → Bool) (n i : ℕ) → some n p ≡ false → i < n → p i ≡ false
unfolding some
none_some p zero i h l = absurd (omega arith)
none_some p (suc n) i h l = go (some n p) (p n) refl refl h (ℕ_discrete i n) (λ k j. none_some p n i k j)
  where
    go : (s t : Bool) → some n p ≡ s → p n ≡ t → (s || t) ≡ false → Dec (i ≡ n) → (some n p ≡ false → i < n → p i ≡ false) → p i ≡ false
    go true t q r k d ih = absurd (false≢true (sym k))
    go false true q r k d ih = absurd (false≢true (sym k))
    go false false q r k (yes e) ih = ap p e ∙ r
    go false false q r k (no e) ih = ih q (omega arith)

-- verdict 1 or 2, and verdict 1, by the three tests
abbrev Spoken : Bool → Bool → Bool → ℕ
Spoken a b c = cond (a || b) 0 (cond c 2 1)

spoken_means : (a b c : Bool) → (Spoken a b c ≡ 1) ⊎ (Spoken a b c ≡ 2) → (a ≡ false) × (b ≡ false)
spoken_means true b c (inl e) = absurd (omega arith)
spoken_means true b c (inr e) = absurd (omega arith)
spoken_means false true c (inl e) = absurd (omega arith)
spoken_means false true c (inr e) = absurd (omega arith)
spoken_means false false c e = (refl, refl)

means_spoken : (a b c : Bool) → a ≡ false → b ≡ false → (Spoken a b c ≡ 1) ⊎ (Spoken a b c ≡ 2)
means_spoken a b true p q = inr (rw (p, q))
means_spoken a b false p q = inl (rw (p, q))

module _ (n h o : ℕ) (m : M) where
  -- the home's verdict on o
  abbrev pub verdict_of : ℕ
  verdict_of = verdict n h (λ p. m.heard p o) (λ p. m.transit p o)

  abbrev pub SaysAbsent : Type 0
  SaysAbsent = (verdict_of ≡ 1) ⊎ (verdict_of ≡ 2)

  abbrev elsewhere : ℕ → Bool
  elsewhere p = not (eqb p h) && ltb 0 (m.heard p o)

  abbrev above : ℕ → Bool
  above p = ltb (transit_zero n) (m.transit p o)

  abbrev below : ℕ → Bool
  below p = ltb (m.transit p o) (transit_zero n)

  tests : Absent n h o m → (some n elsewhere ≡ false) × (some n above ≡ false)
  tests a = (some_none elsewhere n (λ p l. one p l (ℕ_discrete p h)), some_none above n (λ p l. le-ltb (transit_zero n) (m.transit p o) (a.none p l)))
    where
      one : (p : ℕ) → p < n → Dec (p ≡ h) → elsewhere p ≡ false
      one p l (yes q) = rw (eq-eqb p h q)
      one p l (no d) = rw (ne_eqb p h d, a.away p l d)

  pub says_absent : SaysAbsent ↔ Absent n h o m
  unfolding verdict
  says_absent = (
    λ e. (let w = spoken_means (some n elsewhere) (some n above) (some n below) e in record { away = away w.0; none = λ B l. ltb-false (transit_zero n) (m.transit B o) (none_some above n B w.1 l) }),
    λ a. means_spoken (some n elsewhere) (some n above) (some n below) (tests a).0 (tests a).1,
  )
    where
      away : some n elsewhere ≡ false → (X : ℕ) → X < n → ¬ (X ≡ h) → m.heard X o ≡ 0
      away w X l d = (let k : ltb 0 (m.heard X o) ≡ false = rw (ne_eqb X h d) at (none_some elsewhere n X w l) in omega (arith, ltb-false 0 (m.heard X o) k))

  -- with every transit at 0 the verdict is 1
  pub absent_exactly : Absent n h o m → ((B : ℕ) → B < n → m.transit B o ≡ transit_zero n) → verdict_of ≡ 1
  unfolding verdict
  absent_exactly a z = rw ((tests a).0, (tests a).1, some_none below n (λ p l. le-ltb (m.transit p o) (transit_zero n) (omega (arith, z p l))))

  -- DEMAND 2: absent is 004's absence of what the home has heard
  pub absent_is_absence : (acts : List Act) → Core n m → Counted n acts m → Absent n h o m ↔ Absence h o (heard o acts)
  absent_is_absence acts g c = (
    λ a. record { nowhere = λ X d k. nowhere a X d (dec_lt X n) k; paired = λ B. paired a B (dec_lt B n) },
    λ b. record { away = λ X l d. away b X d; none = λ B l. omega (arith, b.paired B, c.transits B o) },
  )
    where
      nowhere : Absent n h o m → (X : ℕ) → ¬ (X ≡ h) → Dec (X < n) → ¬ (Any o X (heard o acts))
      nowhere a X d (yes l) k = omega (arith, k, c.books X o, a.away X l d)
      nowhere a X d (no l) k = omega (arith, k, c.books X o, (g.outside X o (omega arith)).1)

      paired : Absent n h o m → (B : ℕ) → Dec (B < n) → count send o B (heard o acts) ≤ count receive o B (heard o acts)
      paired a B (yes l) = omega (arith, c.transits B o, a.none B l)
      paired a B (no l) = omega (arith, c.transits B o, (g.outside B o (omega arith)).2)

      away : Absence h o (heard o acts) → (X : ℕ) → ¬ (X ≡ h) → m.heard X o ≡ 0
      away b X d = go (ℕ_discrete (m.heard X o) 0)
        where
          go : Dec (m.heard X o ≡ 0) → m.heard X o ≡ 0
          go (yes q) = q
          go (no r) = absurd (b.nowhere X d (omega (arith, c.books X o)))
