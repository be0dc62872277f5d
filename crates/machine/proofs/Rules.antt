-- When each rule applies and when it does not, in the terms that code tests.
-- Assumes nothing.
use mathlib.Core.Path.{◌≡◌, refl, sym}
use mathlib.Core.Bool.{Bool, true, false, cond, not, ◌&&◌, ◌||◌}
use mathlib.Core.List.{List}
use Prim.Native.Nat.{ℕ, ◌+◌, ◌≤◌, ◌<◌}
use lib.Dec.{leb, eqb}
use borrow.Author.Tests.{le-leb, lt-leb, eq-eqb, ne_eqb}
use Rattle.books.specs.Books.{object_limit}
use Rattle.lanes.specs.Lane.{report_places, count}
use Rattle.store.specs.Layout.{pointers, reports, read}
use Rattle.store.specs.Store.{object_byte, home}
use Rattle.machine.specs.Acts.{Act, row_of, is, HEAR}
use Rattle.machine.specs.Effects.{event_in}
use Rattle.machine.specs.Machine.{rule}

module _ (n : ℕ) (a : Act) (s : List ℕ) where
  -- 3, of an act that names port A alone
  pub port_high : (row_of a).names_a ≡ true → n ≤ a.A → rule n a s 3 ≡ true
  unfolding rule
  port_high r h = rw (r, le-leb n a.A h)

  pub port-low : (row_of a).names_a ≡ true → (row_of a).names_b ≡ false → a.A < n → rule n a s 3 ≡ false
  unfolding rule
  port-low r q h = rw (r, q, lt-leb n a.A h)

  -- 3, of an act that names both ports
  pub port_high_B : (row_of a).names_b ≡ true → n ≤ a.B → rule n a s 3 ≡ true
  unfolding rule
  port_high_B r h = rw (r, le-leb n a.B h) (go ((row_of a).names_a && leb n a.A))
    where
      go : (b : Bool) → (b || true) ≡ true
      go true = refl
      go false = refl

  pub ports-low : (row_of a).names_a ≡ true → (row_of a).names_b ≡ true → a.A < n → a.B < n → rule n a s 3 ≡ false
  unfolding rule
  ports-low r q h k = rw (r, q, lt-leb n a.A h, lt-leb n a.B k)

  -- 4
  pub object_high : object_limit ≤ a.o → rule n a s 4 ≡ true
  unfolding rule
  object_high h = le-leb object_limit a.o h

  pub object-low : a.o < object_limit → rule n a s 4 ≡ false
  unfolding rule
  object-low h = lt-leb object_limit a.o h

  -- 5
  pub object_free : object_byte n a.o s ≡ 0 → rule n a s 5 ≡ true
  unfolding rule
  object_free e = rw (eq-eqb (object_byte n a.o s) 0 e)

  pub object-used : (object_byte n a.o s ≡ 0 → ⊥) → rule n a s 5 ≡ false
  unfolding rule
  object-used e = rw (ne_eqb (object_byte n a.o s) 0 e)

  -- 6
  pub ports_same : a.A ≡ a.B → rule n a s 6 ≡ true
  unfolding rule
  ports_same e = eq-eqb a.A a.B e

  pub ports-differ : (a.A ≡ a.B → ⊥) → rule n a s 6 ≡ false
  unfolding rule
  ports-differ e = ne_eqb a.A a.B e

  -- 9, of the pointer lane, or in HEAR the report lane
  abbrev entries : ℕ
  entries = count (read n (cond (is HEAR a) (reports a.A a.B) (pointers a.A a.B)) s)

  pub lane_empty : entries ≡ 0 → rule n a s 9 ≡ true
  unfolding rule
  lane_empty e = eq-eqb entries 0 e

  pub lane_entered : (entries ≡ 0 → ⊥) → rule n a s 9 ≡ false
  unfolding rule
  lane_entered e = ne_eqb entries 0 e

  -- 11, as the code asks it of the event's port and object: r says that its report has no room
  pub report-room : (r : Bool)
      → r ≡ (not (eqb (object_byte n (event_in n a s).object s) ((event_in n a s).at + 1))
      && eqb (count (read n (reports (event_in n a s).at (home n (event_in n a s).object s)) s)) report_places)
      → rule n a s 11 ≡ r
  unfolding rule
  report-room r e = sym e
