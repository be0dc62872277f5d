-- One event in the counts of document 004, and the three counts that reports raise and lower: a port's transit, its holding above 0
-- wherever a holder acts, and its holding below the limit wherever it gains.
-- Assumes nothing.
use mathlib.Core.Path.{◌≡◌, refl, sym, ap, ◌∙◌}
use mathlib.Core.Bool.{Bool, true, false, cond, ◌&&◌}
use mathlib.Core.Logic.{◌⊎◌, inl, inr}
use mathlib.Core.List.{List, [], ◌∷◌}
use Prim.Native.Nat.{ℕ, ◌+◌, ◌≤◌, ◌<◌}
use native.Mathlib.Omega.{arith}
use native.Mathlib.Decide.{ℕ_discrete}
use lib.Dec.{eqb}
use borrow.Author.Tests.{eq-eqb, ne_eqb}
use Rattle.paper.specs.Paper.{Kind, send, receive, create, delete, number, Event, concerns, count}
use Rattle.demands.proofs.Lists.{All, all_map, total, total_none}
use Rattle.demands.proofs.Order.{Count}

-- 1 if e is an event ⟨k, o, Y⟩, else 0: what it adds to 004's count
unfoldable pub one : Kind → ℕ → ℕ → Event → ℕ
one k o Y e = cond (eqb (number e.kind) (number k) && concerns o Y e) 1 0

-- one event more, and none
pub count_more : (k : Kind) (o Y : ℕ) (e : Event) (E : List Event) → count k o Y (e ∷ E) ≡ one k o Y e + count k o Y E
unfolding one count
count_more k o Y e E = refl

pub count_none : (k : Kind) (o Y : ℕ) → count k o Y [] ≡ 0
unfolding count
count_none k o Y = refl

-- a port's holding gains one by r and +, and loses one by -
abbrev pub gain : ℕ → ℕ → Event → ℕ
gain o p e = one receive o p e + one create o p e

abbrev pub loss : ℕ → ℕ → Event → ℕ
loss o p e = one delete o p e

-- An event that can be: it happens at a port, an s names another port, and any other event names the port at which it happens.
abbrev pub Names : Kind → ℕ → ℕ → ℕ → Type 0
Names send n at names = (names < n) × ¬ (names ≡ at)
Names receive n at names = names ≡ at
Names create n at names = names ≡ at
Names delete n at names = names ≡ at

pub record Proper (n : ℕ) (e : Event) : Type 0 where
  pub port : e.at < n
  pub names : Names e.kind n e.at e.names

-- the events that only a holder brings about
abbrev pub Active : Kind → Type 0
Active send = Unit {0}
Active receive = ⊥
Active create = Unit {0}
Active delete = Unit {0}

abbrev pub Holder : ℕ → Event → Type 0
Holder o e = Active e.kind × (e.object ≡ o)

-- the three counts
abbrev pub transit_count : ℕ → ℕ → Count
transit_count o B = record { needs = λ e. 0 < one receive o B e; up = one send o B; down = one receive o B }

abbrev pub holder_count : ℕ → ℕ → Count
holder_count o p = record { needs = Holder o; up = gain o p; down = loss o p }

abbrev pub room_count : ℕ → ℕ → Count
room_count o p = record { needs = λ e. 0 < gain o p e; up = loss o p; down = gain o p }

-- what the four kinds have to do with a count, by their numbers; b is whether the event is about o and names Y
abbrev one_of : Kind → Kind → Bool → ℕ
one_of v k b = cond (eqb (number v) (number k) && b) 1 0

-- an event counts at most once
pub one_le : (k : Kind) (o Y : ℕ) (e : Event) → one k o Y e ≤ 1
unfolding one
one_le k o Y e = go (eqb (number e.kind) (number k) && concerns o Y e)
  where
    go : (b : Bool) → cond b 1 0 ≤ 1
    go true = omega arith
    go false = omega arith

-- an event is of one kind only
pub kinds_le : (o Y : ℕ) (e : Event) → one send o Y e + (gain o Y e + loss o Y e) ≤ 1
unfolding one
kinds_le o Y e = go e.kind (concerns o Y e)
  where
    go : (v : Kind) (b : Bool) → one_of v send b + (one_of v receive b + one_of v create b + one_of v delete b) ≤ 1
    go send true = omega arith
    go send false = omega arith
    go receive true = omega arith
    go receive false = omega arith
    go create true = omega arith
    go create false = omega arith
    go delete true = omega arith
    go delete false = omega arith

-- an event of another kind
pub one_kind : (k : Kind) (o Y : ℕ) (e : Event) → ¬ (number e.kind ≡ number k) → one k o Y e ≡ 0
unfolding one
one_kind k o Y e d = rw (ne_eqb (number e.kind) (number k) d)

-- an event about another object, or that names another port
pub one_object : (k : Kind) (o Y : ℕ) (e : Event) → ¬ (e.object ≡ o) → one k o Y e ≡ 0
unfolding one
one_object k o Y e d = rw (ne_eqb e.object o d) (go (eqb (number e.kind) (number k)))
  where
    go : (b : Bool) → ◌≡◌ {A = ℕ} (cond (b && false) 1 0) 0
    go true = refl
    go false = refl

pub one_names : (k : Kind) (o Y : ℕ) (e : Event) → ¬ (e.names ≡ Y) → one k o Y e ≡ 0
unfolding one
one_names k o Y e d = rw (ne_eqb e.names Y d) (go (eqb (number e.kind) (number k)) (eqb e.object o))
  where
    go : (b c : Bool) → ◌≡◌ {A = ℕ} (cond (b && (c && false)) 1 0) 0
    go true true = refl
    go true false = refl
    go false c = refl

-- an event that counts is about the object and names the port
pub one_concerns : (k : Kind) (o Y : ℕ) (e : Event) → 0 < one k o Y e → (e.object ≡ o) × (e.names ≡ Y)
one_concerns k o Y e h = (object (ℕ_discrete e.object o), names (ℕ_discrete e.names Y))
  where
    object : Dec (e.object ≡ o) → e.object ≡ o
    object (yes q) = q
    object (no d) = absurd (omega (arith, one_object k o Y e d))

    names : Dec (e.names ≡ Y) → e.names ≡ Y
    names (yes q) = q
    names (no d) = absurd (omega (arith, one_names k o Y e d))

-- the event itself
pub one_self : (k : Kind) (e : Event) → e.kind ≡ k → one k e.object e.names e ≡ 1
unfolding one
one_self k e q = rw (q, eq-eqb (number k) (number k) refl, eq-eqb e.object e.object refl, eq-eqb e.names e.names refl)

-- a proper event at another port neither gains, loses nor receives here
pub at_other : (n o X : ℕ) (e : Event) → Proper n e → ¬ (e.at ≡ X) → (one receive o X e ≡ 0) × (one create o X e ≡ 0) × (one delete o X e ≡ 0)
at_other n o X e w d = go e.kind refl w.names
  where
    off : e.names ≡ e.at → (one receive o X e ≡ 0) × (one create o X e ≡ 0) × (one delete o X e ≡ 0)
    off q = (let r : ¬ (e.names ≡ X) = λ s. d (sym q ∙ s) in (one_names receive o X e r, one_names create o X e r, one_names delete o X e r))

    sends : e.kind ≡ send → (one receive o X e ≡ 0) × (one create o X e ≡ 0) × (one delete o X e ≡ 0)
    sends q = unfold one in rw q (refl, refl, refl)

    go : (v : Kind) → e.kind ≡ v → Names v n e.at e.names → (one receive o X e ≡ 0) × (one create o X e ≡ 0) × (one delete o X e ≡ 0)
    go send q k = sends q
    go receive q k = off k
    go create q k = off k
    go delete q k = off k

-- a proper event names a port
pub names-port : (n : ℕ) (e : Event) → Proper n e → e.names < n
names-port n e w = go e.kind w.names
  where
    go : (v : Kind) → Names v n e.at e.names → e.names < n
    go send k = k.0
    go receive k = omega (arith, w.port)
    go create k = omega (arith, w.port)
    go delete k = omega (arith, w.port)

-- a loss is a holder's; an event about o is a holder's or a receipt where it happens
pub loss_holder : (o Y : ℕ) (e : Event) → 0 < loss o Y e → Holder o e
loss_holder o Y e h = (active, (one_concerns delete o Y e h).0)
  where
    active : Active e.kind
    active = unfold one in go e.kind (concerns o Y e) (unfold one in h)
      where
        go : (v : Kind) (b : Bool) → 0 < one_of v delete b → Active v
        go send b k = tt
        go receive b k = absurd (omega arith)
        go create b k = tt
        go delete b k = tt

pub holder_or_receipt : (n : ℕ) (e : Event) → Proper n e → Active e.kind ⊎ (one receive e.object e.at e ≡ 1)
holder_or_receipt n e w = go e.kind refl w.names
  where
    go : (v : Kind) → e.kind ≡ v → Names v n e.at e.names → Active e.kind ⊎ (one receive e.object e.at e ≡ 1)
    go send q k = inl (rw q tt)
    go receive q k = inr (ap (λ (y : ℕ). one receive e.object y e) (sym k) ∙ one_self receive e q)
    go create q k = inl (rw q tt)
    go delete q k = inl (rw q tt)

-- a list without events about o counts nothing of o
pub none_about : (k : Kind) (o Y : ℕ) (l : List Event) → All (λ e. ¬ (e.object ≡ o)) l → total (one k o Y) l ≡ 0
none_about k o Y l w = total_none (one k o Y) l (all_map _ _ l (λ e d. one_object k o Y e d) w)

pub none_gained : (o Y : ℕ) (l : List Event) → All (λ e. ¬ (e.object ≡ o)) l → total (gain o Y) l ≡ 0
none_gained o Y l w = total_none (gain o Y) l (all_map _ _ l (λ e d. omega (arith, one_object receive o Y e d, one_object create o Y e d)) w)
