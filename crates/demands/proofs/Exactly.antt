-- Demand 2 on the stores that acts make: a send, a copy, a drop and a receipt are taken exactly when 004 and the limits allow them; what
-- has happened about an object in use is legal; the lanes are what is left.
-- Assumes nothing.
use mathlib.Core.Path.{◌≡◌, refl, sym, ap, ◌∙◌}
use mathlib.Core.Bool.{true, false}
use mathlib.Core.Logic.{◌↔◌}
use mathlib.Core.List.{List, [], ◌∷◌, ◌++◌}
use Prim.Native.Nat.{ℕ, ◌+◌, ◌<◌}
use native.Mathlib.Omega.{arith}
use lib.Dec.{eqb}
use lib.ListN.{length}
use borrow.Author.Tests.{eqb-false, not-true}
use Rattle.paper.specs.Paper.{receive, Any, May}
use Rattle.books.specs.Books.{transit_top}
use Rattle.store.specs.Store.{object_byte, in_use, home}
use Rattle.machine.specs.Acts.{Act, act, row_of, event, SEND, COPY, DROP, DELIVER}
use Rattle.machine.specs.Machine.{rule}
use Rattle.machine.proofs.Firsts.{NoneOf, positive, none_first, first_none, none_but, but_none}
use Rattle.demands.specs.History.{run, accepted, undelivered, happened}
use Rattle.demands.specs.Demands.{Taken, Within, ExactlyLegal, ReceiptExactlyLegal, AlwaysLegal, LanesAreLeft}
use Rattle.demands.proofs.Model.{M}
use Rattle.demands.proofs.Left.{pointers_left, reports_left}
use Rattle.demands.proofs.Legal.{reached_legal}
use Rattle.demands.proofs.Reached.{holds_exactly, receipt_may}
use Rattle.demands.proofs.Bridge.{model, owner_is, pointers_are_lem, reports_are_lem}
use Rattle.demands.proofs.BridgeChecks.{port_check, ports_check, holds_check, pointer_check}
use Rattle.demands.proofs.BridgeGuards.{pointers-first}
use Rattle.demands.proofs.Run.{run-formed, run_reached}
use Rattle.demands.proofs.Never.{taken-silent}

-- an object in use has an owner, its home plus 1
pub used-owner : (n o : ℕ) (s : List ℕ) → in_use n o s ≡ true → (model n s).owner o ≡ home n o s + 1
used-owner n o s u =
    let d : ¬ (object_byte n o s ≡ 0) = eqb-false (object_byte n o s) 0 (not-true (eqb (object_byte n o s) 0) u) in
    omega (arith, owner_is n s o)

module _ (n : ℕ) (few : transit_top n < 65535) (acts : List Act) where
  -- the store that the acts have made, and its model
  abbrev s : List ℕ
  s = run n acts

  abbrev m : M
  m = model n s

  -- Of an act's checks but 2, k stands for 004's part P and the others are the limits. The limits say enough of the act for k to be P.
  exactly : (a : Act) (before behind : List ℕ) (k : ℕ) (P : Type 0) → (row_of a).checks ≡ before ++ (k ∷ behind) → rule n a s 2 ≡ false
      → positive (before ++ behind) ≡ true → (NoneOf (rule n a s) (before ++ behind) → (rule n a s k ≡ false) ↔ P)
      → Taken n a s ↔ (P × Within n (before ++ behind) a s)
  exactly a before behind k P e two pos means = (
    λ t. (let f = none_but (rule n a s) before behind k (rw e at ((taken-silent n few acts a).0 t).1) in
        ((means f.1).0 f.0, none_first (rule n a s) (before ++ behind) f.1)),
    λ w. (let f = first_none (rule n a s) (before ++ behind) pos w.1 in
        (taken-silent n few acts a).1 (two, rw e (but_none (rule n a s) before behind k ((means f).1 w.0) f))),
  )

  -- rule 7 at a port is 004's any
  any_check : (a : Act) → a.A < n → (rule n a s 7 ≡ false) ↔ Any a.o a.A (happened a.o (accepted n acts))
  any_check a h =
      let c = holds_check n s a h in
      let d = holds_exactly n (accepted n acts) m (run_reached n few acts) a.A a.o in
      (λ e. d.0 (c.0 e), λ w. c.1 (d.1 w))

-- DEMAND 2
pub exactly_legal_lem : (n : ℕ) → transit_top n < 65535 → ExactlyLegal n
unfolding positive
exactly_legal_lem n few acts A o B = (
  exactly n few acts (act SEND A o B) (3 ∷ 4 ∷ 5 ∷ 6 ∷ []) (8 ∷ 10 ∷ 11 ∷ []) 7 _ refl (unfold rule in refl) refl
      (λ f. any_check n few acts (act SEND A o B) ((ports_check n (run n acts) (act SEND A o B) refl refl).0 f.0).0),
  exactly n few acts (act COPY A o B) (3 ∷ 4 ∷ 5 ∷ []) (8 ∷ 11 ∷ []) 7 _ refl (unfold rule in refl) refl
      (λ f. any_check n few acts (act COPY A o B) ((port_check n (run n acts) (act COPY A o B) refl refl).0 f.0)),
  exactly n few acts (act DROP A o B) (3 ∷ 4 ∷ 5 ∷ []) (11 ∷ []) 7 _ refl (unfold rule in refl) refl
      (λ f. any_check n few acts (act DROP A o B) ((port_check n (run n acts) (act DROP A o B) refl refl).0 f.0)),
)

module _ (n : ℕ) (few : transit_top n < 65535) (acts : List Act) (A o B : ℕ) where
  -- a delivery from A to B
  abbrev a : Act
  a = act DELIVER A o B

  -- a sending from A to B is undelivered, and the receipt of the oldest is legal
  abbrev Undelivered : Type 0
  Undelivered = (x : ℕ) × (rest : List ℕ) × (undelivered A B (accepted n acts) ≡ x ∷ rest) × May (event receive x B) (happened x (accepted n acts))

  -- rule 9 at a lane between ports is 004's part of a receipt
  receipt_check : A < n → B < n → (rule n a (run n acts) 9 ≡ false) ↔ Undelivered
  receipt_check ha hb =
      let c = pointer_check n (run n acts) a ha hb refl in
      let r = run_reached n few acts in
      let left = pointers_left n (accepted n acts) (model n (run n acts)) r A B in (
        λ e. (let q = sym left ∙ pointers-first n (run n acts) (run-formed n few acts) A B ha hb (c.0 e) in
            (_, _, q, receipt_may n (accepted n acts) (model n (run n acts)) r A B _ _ ha q)),
        λ w. c.1 (λ z. omega (arith, z, ap length (left ∙ w.2))),
      )

  -- so the receipt is taken exactly when that and the limits allow it
  receipt : Taken n a (run n acts) ↔ (Undelivered × Within n (3 ∷ 6 ∷ 11 ∷ []) a (run n acts))
  unfolding positive
  receipt = exactly n few acts a (3 ∷ 6 ∷ []) (11 ∷ []) 9 Undelivered refl (unfold rule in refl) refl
      (λ f. (let p = (ports_check n (run n acts) a refl refl).0 f.0 in receipt_check p.0 p.1))

-- A RECEIPT
pub receipt_exactly_legal_lem : (n : ℕ) → transit_top n < 65535 → ReceiptExactlyLegal n
receipt_exactly_legal_lem n few acts A o B =
    let r = receipt n few acts A o B in
    (λ t. (let w = r.0 t in (w.0.0, w.0.1, w.0.2, w.0.3, w.1)), λ w. r.1 ((w.0, w.1, w.2, w.3), w.4))

-- WHAT HAS HAPPENED IS LEGAL
pub always_legal_lem : (n : ℕ) → transit_top n < 65535 → AlwaysLegal n
always_legal_lem n few acts o u =
    reached_legal n (accepted n acts) (model n (run n acts)) (run_reached n few acts) o (home n o (run n acts)) (used-owner n o (run n acts) u)

-- THE LANES ARE WHAT IS LEFT
pub lanes_are_left_lem : (n : ℕ) → transit_top n < 65535 → LanesAreLeft n
lanes_are_left_lem n few acts A B ha hb =
    let r = run_reached n few acts in (
      sym (pointers_are_lem n (run n acts) A B ha hb) ∙ pointers_left n (accepted n acts) (model n (run n acts)) r A B,
      sym (reports_are_lem n (run n acts) A B ha hb) ∙ reports_left n (accepted n acts) (model n (run n acts)) r A B,
    )
