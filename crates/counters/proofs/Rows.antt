-- Laws of the two bytes that a row has for a transit: what they hold, and that written back they are as they were.
-- Assumes nothing.
use mathlib.Core.Path.{◌≡◌}
use mathlib.Core.List.{List}
use Prim.Native.Nat.{ℕ, ◌+◌, ◌*◌, ◌/◌, ◌%◌, ◌<◌}
use native.Mathlib.Omega.{arith}
use lib.ListN.{get_or}
use lib.Seq.{set-get_or}
use Rattle.books.specs.Books.{transit_at, set_transit}

-- two bytes hold a number up to the next 65,536
turn : (o k : ℕ) (r : List ℕ) → set_transit o (k + 65536) r ≡ set_transit o k r
unfolding set_transit
turn o k r =
    let a : (k + 65536) % 256 ≡ k % 256 = omega arith in
    let b : (k + 65536) / 256 ≡ k / 256 + 256 = omega arith in
    let c : (k / 256 + 256) % 256 ≡ k / 256 % 256 = omega arith in
    rw (a, b, c)

-- the bytes of a transit, written back
same : (o : ℕ) (r : List ℕ) → get_or r (2 * o) 0 < 256 → get_or r (2 * o + 1) 0 < 256 → set_transit o (transit_at o r) r ≡ r
unfolding set_transit
same o r p q =
    let a : transit_at o r % 256 ≡ get_or r (2 * o) 0 = omega arith in
    let b : transit_at o r / 256 ≡ get_or r (2 * o + 1) 0 = omega arith in
    let c : get_or r (2 * o + 1) 0 % 256 ≡ get_or r (2 * o + 1) 0 = omega arith in
    rw (a, set-get_or r (2 * o) 0, b, c, set-get_or r (2 * o + 1) 0)
