-- A report's bytes and the event that they report are one; what a right report says of its event.
-- Assumes nothing.
use mathlib.Core.Path.{◌≡◌, refl, sym}
use mathlib.Core.Bool.{Bool, true, cond, not, ◌&&◌}
use mathlib.Core.List.{List, [], ◌∷◌}
use Prim.Native.Nat.{ℕ, zero, suc, ◌+◌, ◌*◌, ◌/◌, ◌%◌, ◌<◌}
use native.Mathlib.Omega.{arith}
use lib.Dec.{ltb, eqb, eqb-suc-zero}
use lib.ListN.{get_or}
use borrow.Author.Tests.{eqb-true, eqb-false, ltb-true, not-true}
use Rattle.paper.specs.Paper.{Kind, send, receive, create, delete, number, Event}
use Rattle.books.specs.Books.{object_limit}
use Rattle.books.proofs.Booleans.{left_true, right_true}
use Rattle.store.specs.Store.{report, reported, report_right}
use Rattle.demands.proofs.Events.{Names, Proper}

-- events with the same parts are one
event_ext : (e f : Event) → e.kind ≡ f.kind → e.object ≡ f.object → e.at ≡ f.at → e.names ≡ f.names → e ≡ f
event_ext e f p q r s = λ i. record { kind = p i; object = q i; at = r i; names = s i }

-- the first byte of a report, taken apart
kind_of_lem : (o : ℕ) (k : Kind) → o < object_limit → (o + object_limit * number k) / object_limit ≡ number k
kind_of_lem o send h = omega arith
kind_of_lem o receive h = omega arith
kind_of_lem o create h = omega arith
kind_of_lem o delete h = omega arith

object_of : (o : ℕ) (k : Kind) → o < object_limit → (o + object_limit * number k) % object_limit ≡ o
object_of o send h = omega arith
object_of o receive h = omega arith
object_of o create h = omega arith
object_of o delete h = omega arith

-- A REPORT SAYS ITS EVENT
pub reported-report : (n : ℕ) (e : Event) → Proper n e → e.object < object_limit → reported e.at (report e) ≡ e
reported-report n e w h =
    event_ext (reported e.at (report e)) e (rw (kind_of_lem e.object e.kind h) (kind e.kind)) (object_of e.object e.kind h) refl
    (rw (kind_of_lem e.object e.kind h) (named e.kind w.names))
  where
    kind : (k : Kind) → get_or (send ∷ receive ∷ create ∷ []) (number k) delete ≡ k
    kind send = refl
    kind receive = refl
    kind create = refl
    kind delete = refl

    named : (k : Kind) → Names k n e.at e.names
        → cond (eqb (number k) (number send)) (cond (eqb (number k) (number send)) e.names 0) e.at ≡ e.names
    named send p = refl
    named receive p = sym p
    named create p = sym p
    named delete p = sym p

-- a right report from port a to port b is of an object of b's, and its event can be
module _ (n a b : ℕ) (obj e : List ℕ) (right : report_right n obj a b e ≡ true) where
  -- the two parts of the test
  abbrev homed : Bool
  homed = eqb (get_or obj (get_or e 0 0 % object_limit) 0) (b + 1)

  abbrev port : Bool
  port = cond (eqb (get_or e 0 0 / object_limit) (number send)) (ltb (get_or e 1 0) n && not (eqb (get_or e 1 0) a)) (eqb (get_or e 1 0) 0)

  -- its object's home is b
  pub reported_home : get_or obj (reported a e).object 0 ≡ b + 1
  reported_home = eqb-true _ (b + 1) (left_true homed port right)

  -- its object is an object
  pub reported-low : (reported a e).object < object_limit
  reported-low = omega arith

  -- its event can be
  pub reported_proper : a < n → Proper n (reported a e)
  reported_proper h = record { port = h; names = named (get_or e 0 0 / object_limit) (right_true homed port right) }
    where
      named : (q : ℕ) → cond (eqb q (number send)) (ltb (get_or e 1 0) n && not (eqb (get_or e 1 0) a)) (eqb (get_or e 1 0) 0) ≡ true
          → Names (get_or (send ∷ receive ∷ create ∷ []) q delete) n a (cond (eqb q (number send)) (get_or e 1 0) a)
      named zero t = (
        ltb-true _ n (left_true (ltb (get_or e 1 0) n) (not (eqb (get_or e 1 0) a)) t),
        eqb-false _ a (not-true _ (right_true (ltb (get_or e 1 0) n) (not (eqb (get_or e 1 0) a)) t)),
      )
      named (suc zero) t = refl
      named (suc (suc zero)) t = refl
      named (suc (suc (suc q))) t = rw (eqb-suc-zero (suc (suc q)))
