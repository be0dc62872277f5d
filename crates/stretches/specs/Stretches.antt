-- What the code that reads and writes the store by stretches asks of it. n is the number of ports.
-- Assumes nothing.
use Rattle.std.specs.Prelude.{◌≡◌, cond, List, Option, Some, None, ℕ, ◌+◌, ◌*◌, ◌≤◌, ◌<◌, length}
use Rattle.lanes.specs.Lane.{pointer_places, report_places, pointer_width, report_width, count}
use Rattle.store.specs.Layout.{Stretch, size, long, place, pointers, read}
use Rattle.store.specs.Store.{in_use, home}

-- a number of ports for which every place of the store is far from a word's limit
abbrev pub Few : ℕ → Type 0
Few n = n ≤ 16

-- a store of n ports has been lent: its size is right
pub record Lent (n : ℕ) (s : List ℕ) : Type 0 where
  pub few : Few n
  pub sized : length s ≡ size n

-- the lane from port a to port b is number r of n * n lanes
pub record Numbered (n a b r : ℕ) : Type 0 where
  pub number : r ≡ n * a + b
  pub low : r < n * n
  pub all : n * n ≤ 16 * 16

-- a lane has a length byte and then its places, each of one byte or two, and a byte counts them
pub record LaneSized (bytes width places : ℕ) : Type 0 where
  pub whole : bytes ≡ 1 + width * places
  pub least : pointer_width ≤ width
  pub most : width ≤ report_width
  pub some : 0 < places
  pub few : places ≤ report_places

-- stretch c begins at byte r, and ends within the store
pub record Begins (n : ℕ) (c : Stretch) (r : ℕ) : Type 0 where
  pub at : r ≡ place n c
  pub ends : r + long n c ≤ size n

-- no pointer lane to port p is longer than its places
abbrev pub LanesLow : ℕ → ℕ → List ℕ → Type 0
LanesLow n p s = (a : ℕ) → a < n → count (read n (pointers a p) s) ≤ pointer_places

-- the home of object o, if o is in use
abbrev pub home_of : ℕ → ℕ → List ℕ → Option ℕ
home_of n o s = cond (in_use n o s) (Some (home n o s)) None
