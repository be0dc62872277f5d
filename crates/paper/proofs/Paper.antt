-- Table 3's two counts are differences of the counts of events: what was sent less what was received, and what was received and created
-- less what was deleted.
-- Assumes nothing.
use mathlib.Core.Path.{◌≡◌, refl, sym, ap, ◌∙◌}
use mathlib.Core.Bool.{Bool, true, false, cond, ◌&&◌}
use mathlib.Core.List.{List, [], ◌∷◌}
use Prim.Native.Nat.{ℕ, suc, ◌+◌}
use native.Mathlib.Omega.{arith}
use lib.Dec.{eqb}
use lib.IntN.{ℤ, pos, suc_ℤ, pred_ℤ, ◌+ℤ◌, ◌-ℤ◌, pred-suc, +ℤ-suc_ℤ, suc_ℤ-+ℤ, pred_ℤ-+ℤ, +ℤ_assoc, +ℤ-neg_ℤ_cancel, pos-+ℤ-pos}
use Rattle.paper.specs.Paper.{Kind, send, receive, create, delete, number, concerns, Event, count, in_transit, pointers_to, in_transit_after, pointers_to_after}

-- what is added on both sides may be left out
pub cancel : (a b c : ℤ) → a +ℤ c ≡ b +ℤ c → a ≡ b
cancel a b c h = sym (+ℤ-neg_ℤ_cancel a c) ∙ ap (λ (x : ℤ). x -ℤ c) h ∙ +ℤ-neg_ℤ_cancel b c

-- one more on the left of a sum; one less there, and one more on its right
up_left : (t : ℤ) (r c : ℕ) → t +ℤ pos r ≡ pos c → suc_ℤ t +ℤ pos r ≡ pos (suc c)
up_left t r c h = suc_ℤ-+ℤ t (pos r) ∙ ap suc_ℤ h

down_left : (t : ℤ) (r c : ℕ) → t +ℤ pos r ≡ pos c → pred_ℤ t +ℤ pos (suc r) ≡ pos c
down_left t r c h = pred_ℤ-+ℤ t (pos (suc r)) ∙ ap pred_ℤ (+ℤ-suc_ℤ t (pos r)) ∙ pred-suc (t +ℤ pos r) ∙ h

-- how an event of kind v counts as one of kind k; b is whether it is about the object and names the node
abbrev plus : Kind → Kind → Bool → ℕ → ℕ
plus v k b c = cond (eqb (number v) (number k) && b) 1 0 + c

-- one that does not concern them
off : (v k : Kind) (c : ℕ) → plus v k false c ≡ c
off v k c = go (eqb (number v) (number k))
  where
    go : (b : Bool) → cond (b && false) 1 0 + c ≡ c
    go true = omega arith
    go false = omega arith

-- a sum, its two numbers put another way
put : (t : ℤ) (r c r' c' : ℕ) → r' ≡ r → c' ≡ c → t +ℤ pos r ≡ pos c → t +ℤ pos r' ≡ pos c'
put t r c r' c' p q h = rw (p, q) h

module _ (o B : ℕ) where
  -- what was sent to B is what is in transit and what B has received
  pub transit-counted : (E : List Event) → in_transit o B E +ℤ pos (count receive o B E) ≡ pos (count send o B E)
  unfolding in_transit count
  transit-counted [] = refl
  transit-counted (e ∷ E) = go (in_transit o B E) (count receive o B E) (count send o B E) e.kind (concerns o B e) (transit-counted E)
    where
      go : (t : ℤ) (r c : ℕ) (v : Kind) (b : Bool) → t +ℤ pos r ≡ pos c → cond b (in_transit_after v t) t +ℤ pos (plus v receive b r) ≡ pos (plus v send b c)
      go t r c v false h = put t r c (plus v receive false r) (plus v send false c) (off v receive r) (off v send c) h
      go t r c send true h = put (suc_ℤ t) r (suc c) (0 + r) (1 + c) (omega arith) (omega arith) (up_left t r c h)
      go t r c receive true h = put (pred_ℤ t) (suc r) c (1 + r) (0 + c) (omega arith) (omega arith) (down_left t r c h)
      go t r c create true h = put t r c (0 + r) (0 + c) (omega arith) (omega arith) h
      go t r c delete true h = put t r c (0 + r) (0 + c) (omega arith) (omega arith) h

  -- what B has received and created is what it has and what it has deleted
  pub holding_counted : (E : List Event) → pointers_to o B E +ℤ pos (count delete o B E) ≡ pos (count receive o B E + count create o B E)
  unfolding pointers_to count
  holding_counted [] = refl
  holding_counted (e ∷ E) =
      go (pointers_to o B E) (count delete o B E) (count receive o B E) (count create o B E) e.kind (concerns o B e) (holding_counted E)
    where
      go : (t : ℤ) (d r c : ℕ) (v : Kind) (b : Bool) → t +ℤ pos d ≡ pos (r + c)
          → cond b (pointers_to_after v t) t +ℤ pos (plus v delete b d) ≡ pos (plus v receive b r + plus v create b c)
      go t d r c v false h = put t d (r + c) (plus v delete false d) (plus v receive false r + plus v create false c) (off v delete d) (omega (arith, off v receive r, off v create c)) h
      go t d r c send true h = put t d (r + c) (0 + d) (0 + r + (0 + c)) (omega arith) (omega arith) h
      go t d r c receive true h = put (suc_ℤ t) d (suc (r + c)) (0 + d) (1 + r + (0 + c)) (omega arith) (omega arith) (up_left t d (r + c) h)
      go t d r c create true h = put (suc_ℤ t) d (suc (r + c)) (0 + d) (0 + r + (1 + c)) (omega arith) (omega arith) (up_left t d (r + c) h)
      go t d r c delete true h = put (pred_ℤ t) (suc d) (r + c) (1 + d) (0 + r + (0 + c)) (omega arith) (omega arith) (down_left t d (r + c) h)

-- a number that counts as Table 3's counts do is that count
pub holding_is : (o p k : ℕ) (E : List Event) → k + count delete o p E ≡ count receive o p E + count create o p E → pos k ≡ pointers_to o p E
holding_is o p k E h = cancel (pos k) (pointers_to o p E) (pos (count delete o p E))
    (pos-+ℤ-pos k (count delete o p E) ∙ ap pos h ∙ sym (holding_counted o p E))

pub transit_is : (z o p k : ℕ) (E : List Event) → k + count receive o p E ≡ z + count send o p E → pos k ≡ pos z +ℤ in_transit o p E
transit_is z o p k E h = cancel (pos k) (pos z +ℤ in_transit o p E) (pos (count receive o p E))
    (pos-+ℤ-pos k (count receive o p E) ∙ ap pos h ∙ sym (pos-+ℤ-pos z (count send o p E)) ∙ ap (λ (x : ℤ). pos z +ℤ x) (sym (transit-counted o p E))
    ∙ sym (+ℤ_assoc (pos z) (in_transit o p E) (pos (count receive o p E))))
