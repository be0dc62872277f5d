-- Laws of the history: what one act more adds to what was sent, delivered, told and heard, and what is left of a lane.
-- Assumes nothing.
use mathlib.Core.Path.{◌≡◌, refl, sym, ap, ◌∙◌}
use mathlib.Core.Bool.{Bool, true, false, cond, not, ◌&&◌}
use mathlib.Core.List.{List, [], ◌∷◌, ◌++◌, append-nil}
use Prim.Native.Nat.{ℕ, ◌+◌, ◌≤◌}
use native.Mathlib.Nat.{zero-add, add_comm}
use native.Mathlib.Omega.{arith}
use native.Mathlib.Decide.{ℕ_discrete}
use lib.Dec.{eqb}
use lib.ListN.{length, length-append, length-drop, drop}
use lib.Seq.{drop-append-le, drop-drop}
use borrow.Author.Tests.{eq-eqb, ne_eqb}
use Rattle.paper.specs.Paper.{Event}
use Rattle.machine.specs.Acts.{Act, Name, MAKE, SEND, RETIRE, act, is, code_of}
use Rattle.demands.specs.History.{those, owner, next_free, times, sent, told, events_of}

-- all that went on to a lane; how many were taken from it; what is left on it
pub record Left {E : Type 0} (all : List E) (k : ℕ) (lane : List E) : Type 0 where
  pub left : drop k all ≡ lane
  pub few : k ≤ length all

-- one more on it; one taken from it
pub left_added : {E : Type 0} (x : E) (all : List E) (k : ℕ) (lane : List E) → Left all k lane → Left (all ++ (x ∷ [])) k (lane ++ (x ∷ []))
left_added x all k lane w = record {
  left = drop-append-le k all (x ∷ []) w.few ∙ ap (λ l. l ++ (x ∷ [])) w.left;
  few = rw length-append (omega (arith, w.few));
}

pub left_taken : {E : Type 0} (x : E) (all : List E) (k : ℕ) (lane : List E) → Left all k (x ∷ lane) → Left all (1 + k) lane
left_taken x all k lane w = record {
  left = ap (λ (j : ℕ). drop j all) (add_comm 1 k) ∙ sym (drop-drop 1 k all) ∙ ap (drop 1) w.left;
  few = omega (arith, length-drop k all, ap length w.left);
}

-- the test of a lane, at that lane and at another
pub at_lane : (A B : ℕ) → (eqb A A && eqb B B) ≡ true
at_lane A B = rw (eq-eqb A A refl, eq-eqb B B refl)

pub off_lane : (A B X Y : ℕ) → ¬ ((X ≡ A) × (Y ≡ B)) → (eqb A X && eqb B Y) ≡ false
off_lane A B X Y d = go (ℕ_discrete A X) (ℕ_discrete B Y)
  where
    right : (b : Bool) → (b && false) ≡ false
    right true = refl
    right false = refl

    go : Dec (A ≡ X) → Dec (B ≡ Y) → (eqb A X && eqb B Y) ≡ false
    go (no r) s = rw (ne_eqb A X r)
    go (yes q) (no r) = rw (ne_eqb B Y r) (right (eqb A X))
    go (yes q) (yes r) = absurd (d (sym q, sym r))

module _ (a : Act) (acts : List Act) (X Y : ℕ) where
  -- an act of another name
  pub times_other : (k : Name) → is k a ≡ false → times k X Y (a ∷ acts) ≡ times k X Y acts
  unfolding times
  times_other k h = rw h (zero-add (times k X Y acts))

  pub sent_other : is SEND a ≡ false → sent X Y (a ∷ acts) ≡ sent X Y acts
  unfolding sent
  sent_other h = rw h (append-nil (sent X Y acts))

  pub owner_other : is MAKE a ≡ false → is RETIRE a ≡ false → owner (a ∷ acts) X ≡ owner acts X
  unfolding owner
  owner_other h k = rw (h, k)

  -- an act that is no event
  pub told_none : events_of a acts ≡ [] → told X Y (a ∷ acts) ≡ told X Y acts
  unfolding told those
  told_none h = rw h (append-nil (told X Y acts))

  -- the one event of an act
  pub told-event : (e : Event) → events_of a acts ≡ e ∷ []
      → told X Y (a ∷ acts) ≡ told X Y acts ++ cond (eqb e.at X && eqb (owner (a ∷ acts) e.object) (Y + 1) && not (eqb X Y)) (e ∷ []) []
  unfolding told those
  told-event e h = rw h

-- an act of the name, on its lane and on another
module _ (acts : List Act) (A o B : ℕ) where
  pub times_here : (k : Name) → times k A B (act k A o B ∷ acts) ≡ 1 + times k A B acts
  unfolding times
  times_here k = rw (eq-eqb (code_of k) (code_of k) refl, at_lane A B)

  pub times_there : (k : Name) (X Y : ℕ) → ¬ ((X ≡ A) × (Y ≡ B)) → times k X Y (act k A o B ∷ acts) ≡ times k X Y acts
  unfolding times
  times_there k X Y d = rw (eq-eqb (code_of k) (code_of k) refl, off_lane A B X Y d) (zero-add (times k X Y acts))

  pub sent_here : sent A B (act SEND A o B ∷ acts) ≡ sent A B acts ++ (o ∷ [])
  unfolding sent
  sent_here = rw (at_lane A B)

  pub sent_there : (X Y : ℕ) → ¬ ((X ≡ A) × (Y ≡ B)) → sent X Y (act SEND A o B ∷ acts) ≡ sent X Y acts
  unfolding sent
  sent_there X Y d = rw (off_lane A B X Y d) (append-nil (sent X Y acts))

-- MAKE and RETIRE
pub owner-made : (acts : List Act) (A o B q : ℕ) → owner (act MAKE A o B ∷ acts) q ≡ cond (eqb q (next_free acts)) (A + 1) (owner acts q)
unfolding owner
owner-made acts A o B q = refl

pub owner_retired : (acts : List Act) (A o B q : ℕ) → owner (act RETIRE A o B ∷ acts) q ≡ cond (eqb q o) 0 (owner acts q)
unfolding owner
owner_retired acts A o B q = refl
