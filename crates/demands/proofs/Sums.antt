-- Sums over the ports below n, and over the lanes between them.
-- Assumes nothing.
use mathlib.Core.Path.{◌≡◌, refl, sym, ◌∙◌}
use mathlib.Core.Bool.{Bool, true, false, cond, ◌&&◌}
use mathlib.Core.List.{List, [], ◌∷◌, ◌++◌}
use Prim.Native.Nat.{ℕ, zero, suc, ◌+◌, ◌*◌, ◌≤◌, ◌<◌}
use native.Mathlib.Omega.{arith}
use native.Mathlib.Decide.{ℕ_discrete}
use lib.Dec.{eqb}
use lib.ListN.{length, length-append}
use borrow.Author.Tests.{eq-eqb, ne_eqb}
use Rattle.paper.specs.Paper.{send, receive, Event}
use Rattle.books.specs.Numbers.{sum_to}
use Rattle.books.proofs.Numbers.{sum_ext}
use Rattle.machine.specs.Acts.{event, sending}
use Rattle.demands.specs.History.{those}
use Rattle.demands.proofs.Lists.{All, those_append}
use Rattle.demands.proofs.Order.{from, from_same, from_other}
use Rattle.demands.proofs.Events.{one}
use Rattle.demands.proofs.Model.{Lanes, Added, Taken, on_way}

-- one term grows by d
pub sum_grown : (n A d : ℕ) (f g : ℕ → ℕ) → A < n → g A ≡ f A + d → ((k : ℕ) → ¬ (k ≡ A) → g k ≡ f k) → sum_to n g ≡ sum_to n f + d
unfolding sum_to
sum_grown zero A d f g l e h = omega arith
sum_grown (suc n) A d f g l e h = go (ℕ_discrete A n) (λ k. sum_grown n A d f g k e h)
  where
    go : Dec (A ≡ n) → (A < n → sum_to n g ≡ sum_to n f + d) → sum_to n g + g n ≡ sum_to n f + f n + d
    go (yes q) ih = omega (arith, sum_ext g f n (λ k l. h k (λ r. omega arith)), rw q at e)
    go (no r) ih = omega (arith, ih (omega arith), h n (λ k. r (sym k)))

-- no term above b
pub sum_le : (n b : ℕ) (f : ℕ → ℕ) → ((k : ℕ) → k < n → f k ≤ b) → sum_to n f ≤ n * b
unfolding sum_to
sum_le zero b f h = omega arith
sum_le (suc n) b f h = omega (arith, sum_le n b f (λ k l. h k (omega arith)), h n (omega arith))

-- one of the terms is 0
pub sum_le_but : (n b A : ℕ) (f : ℕ → ℕ) → A < n → f A ≡ 0 → ((k : ℕ) → k < n → f k ≤ b) → sum_to n f + b ≤ n * b
sum_le_but n b A f l q h =
    omega (arith, sum_grown n A b f g l (rw (eq-eqb A A refl, q) (omega arith)) (λ k d. rw (ne_eqb k A d)), sum_le n b g (λ k j. le k j (eqb k A)))
  where
    g : ℕ → ℕ
    g k = cond (eqb k A) b (f k)

    le : (k : ℕ) → k < n → (t : Bool) → cond t b (f k) ≤ b
    le k j true = omega arith
    le k j false = h k j

-- a term is at most the sum; a sum above 0 has a term above 0; terms that are 0
pub sum_term : (n A : ℕ) (f : ℕ → ℕ) → A < n → f A ≤ sum_to n f
unfolding sum_to
sum_term zero A f l = omega arith
sum_term (suc n) A f l = go (ℕ_discrete A n) (λ k. sum_term n A f k)
  where
    go : Dec (A ≡ n) → (A < n → f A ≤ sum_to n f) → f A ≤ sum_to n f + f n
    go (yes q) ih = rw q (omega arith)
    go (no r) ih = omega (arith, ih (omega arith))

pub sum_find : (n : ℕ) (f : ℕ → ℕ) → 0 < sum_to n f → (k : ℕ) × (k < n) × (0 < f k)
unfolding sum_to
sum_find zero f h = absurd (omega arith)
sum_find (suc n) f h = go (f n) refl (λ k. sum_find n f k)
  where
    go : (x : ℕ) → f n ≡ x → (0 < sum_to n f → (k : ℕ) × (k < n) × (0 < f k)) → (k : ℕ) × (k < suc n) × (0 < f k)
    go zero q ih = (let r = ih (omega arith) in (r.0, omega (arith, r.1), r.2))
    go (suc x) q ih = (n, omega arith, omega arith)

pub sum_zero : (n : ℕ) (f : ℕ → ℕ) → ((k : ℕ) → k < n → f k ≡ 0) → sum_to n f ≡ 0
unfolding sum_to
sum_zero zero f h = refl
sum_zero (suc n) f h = omega (arith, sum_zero n f (λ k l. h k (omega arith)), h n (omega arith))

-- the reports of every port are all the reports
pub length_from : (n : ℕ) (l : List Event) → All (λ e. e.at < n) l → sum_to n (λ X. length (from X l)) ≡ length l
unfolding All
length_from n [] w = sum_zero n (λ X. length (from X [])) (λ X k. unfold those in refl)
length_from n (e ∷ l) w =
    sum_grown n e.at 1 (λ X. length (from X l)) (λ X. length (from X (e ∷ l))) w.0 (rw (from_same e.at e l refl) (omega arith))
    (λ X d. rw (from_other X e l (λ r. d (sym r))))
    ∙ rw (length_from n l w.1) (omega arith)

-- how many pointers to o a lane has, with x at its end or at its front
pub pointers_snoc : (o x : ℕ) (l : List ℕ) → length (those (λ y. eqb y o) (l ++ (x ∷ []))) ≡ length (those (λ y. eqb y o) l) + cond (eqb x o) 1 0
pointers_snoc o x l = rw (those_append (λ y. eqb y o) l (x ∷ []), length-append) (go (eqb x o) refl)
  where
    go : (b : Bool) → eqb x o ≡ b → length (those (λ y. eqb y o) l) + length (those (λ y. eqb y o) (x ∷ [])) ≡ length (those (λ y. eqb y o) l) + cond b 1 0
    go true q = unfold those in rw q
    go false q = unfold those in rw q

pub pointers-front : (o x : ℕ) (l : List ℕ) → length (those (λ y. eqb y o) (x ∷ l)) ≡ length (those (λ y. eqb y o) l) + cond (eqb x o) 1 0
pointers-front o x l = go (eqb x o) refl
  where
    go : (b : Bool) → eqb x o ≡ b → length (those (λ y. eqb y o) (x ∷ l)) ≡ length (those (λ y. eqb y o) l) + cond b 1 0
    go true q = unfold those in rw q (omega arith)
    go false q = unfold those in rw q (omega arith)

-- the pointers on the way once one lane, from A to B, has one of x more
module _ (n A B x : ℕ) (f g : Lanes ℕ) (port : A < n) (rest : (X Y : ℕ) → ¬ ((X ≡ A) × (Y ≡ B)) → g X Y ≡ f X Y)
    (more : (o : ℕ) → length (those (λ y. eqb y o) (g A B)) ≡ length (those (λ y. eqb y o) (f A B)) + cond (eqb x o) 1 0) where
  way_grown : (p o : ℕ) → on_way n g p o ≡ on_way n f p o + cond (eqb x o && eqb B p) 1 0
  unfolding on_way
  way_grown p o = go (ℕ_discrete p B)
    where
      both : (b : Bool) (k : ℕ) → k + cond b 1 0 ≡ k + cond (b && true) 1 0
      both true k = refl
      both false k = refl

      none : (b : Bool) (k : ℕ) → k ≡ k + cond (b && false) 1 0
      none true k = omega arith
      none false k = omega arith

      go : Dec (p ≡ B) → sum_to n (λ X. length (those (λ y. eqb y o) (g X p))) ≡ sum_to n (λ X. length (those (λ y. eqb y o) (f X p))) + cond (eqb x o && eqb B p) 1 0
      go (yes q) =
          rw (q, eq-eqb B B refl) (sum_grown n A (cond (eqb x o && true) 1 0) (λ X. length (those (λ y. eqb y o) (f X B))) (λ X. length (those (λ y. eqb y o) (g X B))) port
          (more o ∙ both (eqb x o) (length (those (λ y. eqb y o) (f A B)))) (λ X d. rw (rest X B (λ k. d k.0))))
      go (no d) =
          rw (ne_eqb B p (λ r. d (sym r)))
          (sum_ext (λ X. length (those (λ y. eqb y o) (g X p))) (λ X. length (those (λ y. eqb y o) (f X p))) n (λ X _. rw (rest X p (λ k. d k.1)))
          ∙ none (eqb x o) (sum_to n (λ X. length (those (λ y. eqb y o) (f X p)))))

-- once one is added, or taken: what the sending, or the receipt, adds to 004's count
module _ (n A B x : ℕ) (f g : Lanes ℕ) (port : A < n) where
  pub added_way : Added A B x f g → (p o : ℕ) → on_way n g p o ≡ on_way n f p o + one send o p (sending x A B)
  unfolding one
  added_way t = way_grown n A B x f g port t.rest (λ o. rw t.here (pointers_snoc o x (f A B)))

  pub taken_way : Taken A B x f g → (p o : ℕ) → on_way n g p o + one receive o p (event receive x B) ≡ on_way n f p o
  unfolding one
  taken_way t p o = sym (way_grown n A B x g f port (λ X Y d. sym (t.rest X Y d)) (λ q. rw t.here (pointers-front q x (g A B))) p o)
