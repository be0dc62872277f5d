-- An object's home as the code asks for it, and its object byte.
-- Assumes nothing.
use mathlib.Core.Path.{◌≡◌, refl}
use mathlib.Core.Bool.{Bool, true, false, cond, not}
use mathlib.Core.List.{List}
use Prim.Native.Nat.{ℕ, ◌+◌, ◌-◌}
use native.Mathlib.Omega.{arith}
use lib.Dec.{eqb}
use borrow.Author.Tests.{eqb-true, eqb-false}
use Rattle.std.specs.Prelude.{Some, None}
use Rattle.std.specs.Option.{is_some}
use Rattle.store.specs.Store.{object_byte, home}
use Rattle.stretches.specs.Stretches.{home_of}

-- b is an object byte, t whether it is 0
module _ (b : ℕ) where
  byte_some : (a : ℕ) (t : Bool) → eqb b 0 ≡ t → cond (not t) (Some (b - 1)) None ≡ Some a → b ≡ a + 1
  byte_some a true q e = absurd cc
  byte_some a false q e = let k : b - 1 ≡ a = cc in omega (arith, eqb-false b 0 q)

  byte_used : (t : Bool) → eqb b 0 ≡ t → is_some (cond (not t) (Some (b - 1)) None) ≡ true → b ≡ 0 → ⊥
  byte_used true q e z = absurd cc
  byte_used false q e z = eqb-false b 0 q z

  byte_free : (t : Bool) → eqb b 0 ≡ t → is_some (cond (not t) (Some (b - 1)) None) ≡ false → b ≡ 0
  byte_free true q e = eqb-true b 0 q
  byte_free false q e = absurd cc

-- a home that is there is the object byte less one; it is there exactly where the object byte is not 0
module _ (n o : ℕ) (s : List ℕ) where
  pub home_some : (a : ℕ) → home_of n o s ≡ Some a → object_byte n o s ≡ a + 1
  home_some a = byte_some (object_byte n o s) a _ refl

  pub home_is : (a : ℕ) → home_of n o s ≡ Some a → home n o s ≡ a
  home_is a e = omega (arith, home_some a e)

  pub home_used : is_some (home_of n o s) ≡ true → object_byte n o s ≡ 0 → ⊥
  home_used = byte_used (object_byte n o s) _ refl

  pub home_free : is_some (home_of n o s) ≡ false → object_byte n o s ≡ 0
  home_free = byte_free (object_byte n o s) _ refl
