-- What the full check's inner functions test: a port's counts, and the lanes of a kind.
-- Assumes nothing.
use Rattle.std.specs.Prelude.{Bool, List, ℕ, eqb}
use Rattle.books.specs.Numbers.{every}
use Rattle.books.specs.Books.{object_limit}
use Rattle.lanes.specs.Lane.{lane_formed}
use Rattle.store.specs.Layout.{Stretch, objects, read}
use Rattle.store.specs.Store.{holding_formed, transit_formed, object_byte, held_of, heard_of, transit_of}

-- port p's holdings, and its transits, are well formed
module _ (n : ℕ) (s : List ℕ) (p : ℕ) where
  abbrev pub port_holdings : Bool
  port_holdings = every object_limit (λ o. holding_formed p (object_byte n o s) (held_of n p o s) (heard_of n p o s))

  abbrev pub port_transits : Bool
  port_transits = every object_limit (λ o. transit_formed n (object_byte n o s) (transit_of n p o s))

-- the lanes of a kind: an entry is w bytes, the lane from a to b is lane a b, and right n obj a b e says whether its entry e is right
module _ (w places : ℕ) (lane : ℕ → ℕ → Stretch) (right : ℕ → List ℕ → ℕ → ℕ → List ℕ → Bool) (n : ℕ) (s : List ℕ) where
  -- the lane from port a to port b is well formed; the lanes from port a; the lanes from every port
  abbrev pub lane_formed_at : ℕ → ℕ → Bool
  lane_formed_at a b = lane_formed w places (eqb a b) (right n (read n objects s) a b) (read n (lane a b) s)

  abbrev pub row_formed : ℕ → Bool
  row_formed a = every n (lane_formed_at a)

  abbrev pub lanes_formed : Bool
  lanes_formed = every n row_formed
