-- What it says that a rule does not apply, rule by rule.
-- Assumes nothing.
use mathlib.Core.Path.{◌≡◌, refl, sym}
use mathlib.Core.Bool.{Bool, true, false, cond, not, ◌&&◌, true≢false}
use mathlib.Core.List.{List}
use Prim.Native.Nat.{ℕ, ◌+◌, ◌<◌, ◌≤◌}
use lib.Dec.{leb, eqb}
use borrow.Author.Tests.{leb-false, ltb-false, eqb-false, ne_eqb}
use Rattle.books.proofs.Booleans.{left_false, right_false}
use Rattle.books.specs.Books.{object_limit, holding_limit}
use Rattle.lanes.specs.Lane.{pointer_places, report_places, count}
use Rattle.store.specs.Layout.{pointers, reports, read}
use Rattle.store.specs.Store.{object_byte, home, held_of, on_way}
use Rattle.machine.specs.Acts.{Act, row_of, is, HEAR}
use Rattle.machine.specs.Effects.{lowest_free, event_in}
use Rattle.machine.specs.Machine.{standing, rule}

named-false : (a b : Bool) → a ≡ true → (a && b) ≡ false → b ≡ false
named-false true b p e = e
named-false false b p e = absurd (true≢false (sym p))

module _ (n : ℕ) (a : Act) (s : List ℕ) where
  -- 3: the ports that it names are ports
  pub passed_A : (row_of a).names_a ≡ true → rule n a s 3 ≡ false → a.A < n
  unfolding rule
  passed_A q e = leb-false n a.A (named-false (row_of a).names_a (leb n a.A) q (left_false ((row_of a).names_a && leb n a.A) ((row_of a).names_b && leb n a.B) e))

  pub passed_B : (row_of a).names_b ≡ true → rule n a s 3 ≡ false → a.B < n
  unfolding rule
  passed_B q e = leb-false n a.B (named-false (row_of a).names_b (leb n a.B) q (right_false ((row_of a).names_a && leb n a.A) ((row_of a).names_b && leb n a.B) e))

  -- 4 and 5: it is an object, and in use
  pub passed_4 : rule n a s 4 ≡ false → a.o < object_limit
  unfolding rule
  passed_4 e = leb-false object_limit a.o e

  pub passed_5 : rule n a s 5 ≡ false → ¬ (object_byte n a.o s ≡ 0)
  unfolding rule
  passed_5 e = eqb-false (object_byte n a.o s) 0 (used (eqb (object_byte n a.o s) 0) e)
    where
      used : (b : Bool) → not (not b) ≡ false → b ≡ false
      used true q = q
      used false q = refl

  -- 6: the ports differ
  pub passed_6 : rule n a s 6 ≡ false → ¬ (a.A ≡ a.B)
  unfolding rule
  passed_6 e = eqb-false a.A a.B e

  -- 7 and 8: A holds one, and there is room for one more at the port that gains it
  pub passed_7 : rule n a s 7 ≡ false → ¬ (held_of n a.A a.o s ≡ 0)
  unfolding rule
  passed_7 e = eqb-false (held_of n a.A a.o s) 0 e

  pub passed_8 : rule n a s 8 ≡ false → held_of n (event_in n a s).names a.o s + on_way n (event_in n a s).names a.o s < holding_limit
  unfolding rule
  passed_8 e = leb-false holding_limit _ e

  -- 9: the lane named is not empty
  pub passed_9 : rule n a s 9 ≡ false → ¬ (count (read n (cond (is HEAR a) (reports a.A a.B) (pointers a.A a.B)) s) ≡ 0)
  unfolding rule
  passed_9 e = eqb-false _ 0 e

  -- 10: the pointer lane is not full
  pub passed_10 : rule n a s 10 ≡ false → ¬ (count (read n (pointers a.A a.B) s) ≡ pointer_places)
  unfolding rule
  passed_10 e = eqb-false _ pointer_places e

  -- 11: the acting port is the home, or its report lane to the home is not full
  pub passed_11 : rule n a s 11 ≡ false → ¬ (object_byte n (event_in n a s).object s ≡ (event_in n a s).at + 1)
      → ¬ (count (read n (reports (event_in n a s).at (home n (event_in n a s).object s)) s) ≡ report_places)
  unfolding rule
  passed_11 e away = eqb-false _ report_places (named-false (not (eqb (object_byte n (event_in n a s).object s) ((event_in n a s).at + 1))) _ (rw (ne_eqb _ _ away)) e)

  -- 12: some object is free
  pub passed_12 : rule n a s 12 ≡ false → ¬ (lowest_free n s ≡ object_limit)
  unfolding rule
  passed_12 e = eqb-false (lowest_free n s) object_limit e

  -- 13: no port stands against
  pub passed_13 : rule n a s 13 ≡ false → n ≤ standing n a.o s
  unfolding rule
  passed_13 e = ltb-false (standing n a.o s) n e
