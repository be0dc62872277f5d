-- A lane's cursor: how many entries the lane has, its oldest being entry 0; and what the code asks of a lane. An entry is w bytes.
-- Assumes nothing.
use Rattle.std.specs.Prelude.{Bool, not, List, ℕ, ◌+◌, ◌*◌, ◌%◌, ◌≤◌, ◌<◌, ◌≡◌, eqb, length, get_or}
use Rattle.books.specs.Numbers.{every}
use Rattle.books.specs.Books.{object_limit}
use Rattle.cursors.specs.declared.Cursor.{Cursor}
use Rattle.cursors.specs.declared.Front.{Front}
use Rattle.lanes.specs.Lane.{pointer_width, report_width, count, entry}

-- the cursor of a lane
abbrev pub cursor_of : List ℕ → Cursor
cursor_of l = record { len = count l }

-- the oldest entry's bytes, the second 0 on a pointer lane, with the cursor
abbrev pub front_of : ℕ → List ℕ → Front
front_of w l = record { first = get_or (entry w 0 l) 0 0; second = get_or (entry w 0 l) 1 0; cursor = cursor_of l }

-- c is the cursor of a lane whose entries are one or two bytes and which has an entry; or room for one more
pub record Entered (w : ℕ) (c : Cursor) (l : List ℕ) : Type 0 where
  pub least : pointer_width ≤ w
  pub most : w ≤ report_width
  pub cursor : c.len ≡ count l
  pub entered : 0 < c.len
  pub long : w < length l

pub record Roomy (w : ℕ) (c : Cursor) (l : List ℕ) : Type 0 where
  pub least : pointer_width ≤ w
  pub most : w ≤ report_width
  pub cursor : c.len ≡ count l
  pub room : 1 + w * c.len + w ≤ length l
  pub small : c.len < 255

-- no entry is about o: a pointer is an object's number, and a report's first byte holds one in its low bits
abbrev pub unnamed : ℕ → ℕ → List ℕ → Bool
unnamed w o l = every (count l) (λ i. not (eqb (get_or (entry w i l) 0 0 % object_limit) o))
