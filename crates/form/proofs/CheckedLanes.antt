-- What a lane's test is, by the ways that the code decides it; and bytes that are all 0.
-- Assumes nothing.
use mathlib.Core.Path.{◌≡◌, refl, sym, ap, ◌∙◌}
use mathlib.Core.Bool.{Bool, true, false, not, ◌&&◌, ◌||◌, and-false, and-true, and_assoc}
use mathlib.Core.List.{List, [], ◌∷◌}
use Prim.Native.Nat.{ℕ, ◌+◌, ◌-◌, ◌*◌, ◌<◌, ◌≤◌}
use lib.Dec.{eqb, leb-zero}
use lib.Bits.{bit_or}
use lib.ListN.{length, get_or, take, drop, length-drop}
use lib.Seq.{take_all}
use borrow.Author.Tests.{le-leb, lt-leb, ne_eqb}
use native.Mathlib.Nat.{mul-zero}
use native.Mathlib.Omega.{arith}
use Rattle.std.specs.List.{fold}
use Rattle.books.specs.Numbers.{every}
use Rattle.books.proofs.Numbers.{every_front}
use Rattle.books.proofs.Loops.{eqb_or}
use Rattle.lanes.specs.Lane.{count, entry, silent, lane_formed}

-- silent is a test of every byte
pub silent-every : (l : List ℕ) → silent l ≡ every (length l) (λ i. eqb (get_or l i 0) 0)
unfolding silent every
silent-every [] = refl
silent-every (x ∷ l) = rw (silent-every l) (sym (every_front (λ i. eqb (get_or (x ∷ l) i 0) 0) (length l)))

-- the part of a lane from place a to its end
pub tail : (l : List ℕ) (a : ℕ) → take (length l - a) (drop a l) ≡ drop a l
tail l a = take_all (length l - a) (drop a l) (rw length-drop (omega arith))

module _ (w places : ℕ) (own : Bool) (right : List ℕ → Bool) (l : List ℕ) where
  -- every entry of the lane is right
  abbrev pub all_right : Bool
  all_right = every (count l) (λ i. right (entry w i l))

  -- an empty lane
  pub lane_none : count l ≡ 0 → lane_formed w places own right l ≡ silent (take (length l - 1) (drop 1 l))
  unfolding lane_formed every
  lane_none e = rw (tail l 1, e, mul-zero w, leb-zero places) (go own (silent (drop 1 l)))
    where
      go : (o b : Bool) → (b && (not o || true) && true) ≡ b
      go true true = refl
      go true false = refl
      go false true = refl
      go false false = refl

  -- too many entries; entries on a port's lane to itself; a wrong entry
  pub lane_long : places < count l → lane_formed w places own right l ≡ false
  unfolding lane_formed
  lane_long h = rw (lt-leb (count l) places h)

  pub lane_own : own ≡ true → (count l ≡ 0 → ⊥) → lane_formed w places own right l ≡ false
  unfolding lane_formed
  lane_own e h = rw (e, ne_eqb (count l) 0 h, and-false)

  pub lane_wrong : all_right ≡ false → lane_formed w places own right l ≡ false
  unfolding lane_formed
  lane_wrong h = rw (h, and-false)

  -- entries that are all right
  pub lane_right : count l ≤ places → own ≡ false → all_right ≡ true
      → lane_formed w places own right l ≡ silent (take (length l - (1 + w * count l)) (drop (1 + w * count l) l))
  unfolding lane_formed
  lane_right h o r = rw (tail l (1 + w * count l), le-leb (count l) places h, o, r) (go (silent (drop (1 + w * count l) l)))
    where
      go : (b : Bool) → (b && true && true) ≡ b
      go true = refl
      go false = refl

-- the ways together
pub ruleset lane_ways = (lane_none, lane_long, lane_own, lane_wrong, lane_right)

-- bits joined to those of a list are 0 exactly where they are, and the list is silent
pub joined : (l : List ℕ) (a : ℕ) → eqb (fold bit_or a l) 0 ≡ (eqb a 0 && silent l)
unfolding silent
joined [] a = sym (and-true (eqb a 0))
joined (x ∷ l) a = joined l (bit_or a x) ∙ ap (λ (b : Bool). b && silent l) (eqb_or a x) ∙ and_assoc (eqb a 0) (eqb x 0) (silent l)
