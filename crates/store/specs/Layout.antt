-- The bytes of the lent store of n ports. The store is a row of sections, and a section a table of stretches of one length. All that
-- reads or writes the store names a stretch: no offset stands anywhere but here.
-- Assumes nothing.
use Rattle.std.specs.Prelude.{List, [], ◌∷◌, ◌++◌, ℕ, ◌+◌, ◌*◌, get_or, take, drop}
use Rattle.books.specs.Books.{object_limit}
use Rattle.lanes.specs.Lane.{pointer_places, report_places, pointer_width, report_width}

-- a section has so many rows and columns of stretches, each of so many bytes
pub record Section : Type 0 where
  pub rows : ℕ
  pub columns : ℕ
  pub bytes : ℕ

-- the sections in order: object bytes, true holdings, heard holdings, heard transits, pointer lanes, report lanes
abbrev pub layout : ℕ → List Section
layout n =
    record { rows = 1; columns = 1; bytes = object_limit }
    ∷ record { rows = n; columns = 1; bytes = object_limit }
    ∷ record { rows = n; columns = 1; bytes = object_limit }
    ∷ record { rows = n; columns = 1; bytes = 2 * object_limit }
    ∷ record { rows = n; columns = n; bytes = 1 + pointer_width * pointer_places }
    ∷ record { rows = n; columns = n; bytes = 1 + report_width * report_places }
    ∷ []

-- a stretch: the number of its section, counted from 0, and its row and column there
pub record Stretch : Type 0 where
  pub part : ℕ
  pub row : ℕ
  pub column : ℕ

-- the object bytes; port p's true holdings, heard holdings and heard transits; the lanes from port a to port b
abbrev pub objects : Stretch
objects = record { part = 0; row = 0; column = 0 }

abbrev pub held : ℕ → Stretch
held p = record { part = 1; row = p; column = 0 }

abbrev pub heard : ℕ → Stretch
heard p = record { part = 2; row = p; column = 0 }

abbrev pub transit : ℕ → Stretch
transit p = record { part = 3; row = p; column = 0 }

abbrev pub pointers : ℕ → ℕ → Stretch
pointers a b = record { part = 4; row = a; column = b }

abbrev pub reports : ℕ → ℕ → Stretch
reports a b = record { part = 5; row = a; column = b }

-- the bytes of one section, and of several
abbrev pub extent : Section → ℕ
extent k = k.bytes * (k.rows * k.columns)

abbrev pub total : List Section → ℕ
total [] = 0
total (k ∷ ks) = extent k + total ks

module _ (n : ℕ) where
  -- the bytes of the store; section k
  abbrev pub size : ℕ
  size = total (layout n)

  abbrev pub section_at : ℕ → Section
  section_at k = get_or (layout n) k (record { rows = 0; columns = 0; bytes = 0 })

  -- a stretch's length and its place: behind the sections before its own, and the stretches before it in its own
  abbrev pub long : Stretch → ℕ
  long c = (section_at c.part).bytes

  abbrev pub place : Stretch → ℕ
  place c = total (take c.part (layout n)) + long c * ((section_at c.part).columns * c.row + c.column)

  -- the bytes of a stretch, and the store with f done to a stretch
  unfoldable pub read : Stretch → List ℕ → List ℕ
  read c s = take (long c) (drop (place c) s)

  unfoldable pub edit : Stretch → (List ℕ → List ℕ) → List ℕ → List ℕ
  edit c f s = take (place c) s ++ (f (read c s) ++ drop (long c) (drop (place c) s))
