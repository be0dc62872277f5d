-- What ASK answers on the stores that acts make: the verdict is 004's absence of what the home has heard, the books are 004's counts of
-- that, and absent means gone.
-- Assumes nothing.
use mathlib.Core.Path.{◌≡◌, refl, sym, ap, ◌∙◌}
use mathlib.Core.Bool.{Bool, true, false, not}
use mathlib.Core.Logic.{◌⊎◌, inl, inr}
use mathlib.Core.List.{List, ◌∷◌}
use Prim.Native.Nat.{ℕ, ◌-◌, ◌<◌}
use native.Mathlib.Omega.{arith}
use lib.Dec.{leb, eqb}
use lib.IntN.{pos}
use borrow.Author.Tests.{lt-leb}
use Rattle.books.specs.Books.{object_limit, transit_top}
use Rattle.store.specs.Store.{in_use, home}
use Rattle.machine.specs.Acts.{Act, act, row_of, ASK}
use Rattle.machine.specs.Effects.{value_of}
use Rattle.machine.specs.Machine.{first_in, rule, refusal}
use Rattle.machine.proofs.Firsts.{NoneOf}
use Rattle.machine.proofs.Judged.{own, refusal-judged}
use Rattle.machine.proofs.Refusals.{answers, refused_value}
use Rattle.demands.specs.History.{run, accepted, those}
use Rattle.demands.specs.Demands.{answer, SaysAbsent, VerdictIsAbsence, BooksAreCounts, AbsentMeansGone}
use Rattle.demands.proofs.Model.{M}
use Rattle.demands.proofs.Verdict.{verdict_of}
use Rattle.demands.proofs.Reached.{verdict_exactly, books_exactly, absent_exactly_gone}
use Rattle.demands.proofs.Bridge.{model, owner_is, held_is, heard_is, transit_is, pointers_are_lem, reports_are_lem}
use Rattle.demands.proofs.BridgeCounts.{verdict_is}
use Rattle.demands.proofs.BridgeFormed.{owned-low}
use Rattle.demands.proofs.Run.{taken-value, run-formed, run_reached}
use Rattle.demands.proofs.Never.{taken-silent}
use Rattle.demands.proofs.Exactly.{used-owner}

module _ (n : ℕ) (few : transit_top n < 65535) (acts : List Act) (o : ℕ) where
  -- the store that the acts have made, its model, and ASK of o
  abbrev s : List ℕ
  s = run n acts

  abbrev m : M
  m = model n s

  abbrev ask : Act
  ask = act ASK 0 o 0

  -- of an object in use, ASK gives the verdict read off the model
  module _ (used : in_use n o s ≡ true) where
    pub used_low : o < object_limit
    used_low = owned-low n s (run-formed n few acts) o (λ z. omega (arith, z, used-owner n o s used))

    pub asked : (answer n ask s).value ≡ verdict_of n (home n o s) o m
    unfolding value_of
    asked = taken-value n s ask (sym (answers n ask s) ∙ (taken-silent n few acts ask).1 silent) ∙ verdict_is n s o used_low ∙ homed
      where
        silent : NoneOf (rule n ask s) (2 ∷ (row_of ask).checks)
        silent = unfold rule in (refl, (lt-leb object_limit o used_low, (ap not used, tt)))

        homed : verdict_of n (m.owner o - 1) o m ≡ verdict_of n (home n o s) o m
        homed = ap (λ (h : ℕ). verdict_of n h o m) (ap (λ (b : ℕ). b - 1) (owner_is n s o))

  -- of any other number it gives nothing but 0
  unused_value : in_use n o s ≡ false → (answer n ask s).value ≡ 0
  unused_value free = go (own_is (leb object_limit o) refl)
    where
      own_is : (b : Bool) → leb object_limit o ≡ b → (own n ask s ≡ 4) ⊎ (own n ask s ≡ 5)
      own_is true q = inl (unfold rule first_in in rw q)
      own_is false q = inr (unfold rule first_in in rw (q, free))

      refused : (k : ℕ) → own n ask s ≡ k → eqb k 0 ≡ false → refusal n ask s ≡ k
      refused k e d = refusal-judged n ask s (run-formed n few acts) ∙ rw (e, d)

      none : (k : ℕ) → refusal n ask s ≡ k → ¬ (k ≡ 0) → ¬ (k ≡ 13) → (answer n ask s).value ≡ 0
      none k e y z = refused_value n ask s (λ q. y (sym e ∙ sym (answers n ask s) ∙ q)) (λ q. z (sym e ∙ sym (answers n ask s) ∙ q))

      go : (own n ask s ≡ 4) ⊎ (own n ask s ≡ 5) → (answer n ask s).value ≡ 0
      go (inl e) = none 4 (refused 4 e refl) (λ q. omega arith) (λ q. omega arith)
      go (inr e) = none 5 (refused 5 e refl) (λ q. omega arith) (λ q. omega arith)

  -- so what is said absent is in use
  pub said_used : SaysAbsent n o s → in_use n o s ≡ true
  said_used a = go (in_use n o s) refl a
    where
      go : (b : Bool) → in_use n o s ≡ b → SaysAbsent n o s → b ≡ true
      go true q w = refl
      go false q (inl w) = absurd (omega (arith, w, unused_value q))
      go false q (inr w) = absurd (omega (arith, w, unused_value q))

-- THE VERDICT IS ABSENCE
pub verdict_is_absence_lem : (n : ℕ) → transit_top n < 65535 → VerdictIsAbsence n
verdict_is_absence_lem n few acts o used =
    let v = asked n few acts o used in
    let w = verdict_exactly n (accepted n acts) (model n (run n acts)) (run_reached n few acts) o (home n o (run n acts)) in
    (λ a. w.0 (rw v at a), λ b. rw v (w.1 b))

-- THE BOOKS ARE 004'S COUNTS
pub books_are_counts_lem : (n : ℕ) → transit_top n < 65535 → BooksAreCounts n
books_are_counts_lem n few acts o p used h =
    let w = books_exactly n (accepted n acts) (model n (run n acts)) (run_reached n few acts) p o in
    (ap pos (sym (heard_is n (run n acts) p o h)) ∙ w.0, ap pos (sym (transit_is n (run n acts) p o h (used_low n few acts o used))) ∙ w.1)

-- DEMAND 3: ABSENT MEANS GONE
pub absent_means_gone_lem : (n : ℕ) → transit_top n < 65535 → AbsentMeansGone n
absent_means_gone_lem n few acts o a =
    let s : List ℕ = run n acts in
    let used = said_used n few acts o a in
    let w = absent_exactly_gone n (accepted n acts) (model n s) (run_reached n few acts) o (home n o s) (used-owner n o s used) (rw (asked n few acts o used) at a) in (
      λ p l d. sym (held_is n s p o l) ∙ w.0 p l d,
      λ A B la lb. (
        ap (those (λ x. eqb x o)) (sym (pointers_are_lem n s A B la lb)) ∙ (w.1 A B la lb).0,
        ap (those (λ e. eqb e.object o)) (sym (reports_are_lem n s A B la lb)) ∙ (w.1 A B la lb).1,
      ),
    )
