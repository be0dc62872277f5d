-- What an act's step asks of the store it is given. n is the number of ports.
-- Assumes nothing.
use Rattle.std.specs.Prelude.{◌≡◌, true, List, ℕ, ◌≤◌, ◌<◌}
use Rattle.store.specs.Store.{well_formed}

-- the full check has passed on a store of few ports
pub record Ready (n : ℕ) (s : List ℕ) : Type 0 where
  pub some : 0 < n
  pub few : n ≤ 16
  pub formed : well_formed n s ≡ true
