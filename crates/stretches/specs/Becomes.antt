-- What a function that writes a lent store leaves of it.
-- Assumes nothing.
use Rattle.std.specs.Prelude.{◌≡◌, List, ℕ}
use Rattle.stretches.specs.declared.writes.StoreMut.{StoreMut}

-- a store becomes the bytes s; its number of ports stays, and it is the same loan of bytes
pub record Becomes (old new : StoreMut) (s : List ℕ) : Type 0 where
  pub loan : new.bytes.ghost_name ≡ old.bytes.ghost_name
  pub ports : new.ports ≡ old.ports
  pub bytes : new.bytes.now ≡ s
