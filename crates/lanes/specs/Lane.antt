-- One lane as its bytes: the length, then the places, entries from the oldest. An entry is w bytes: one on a pointer lane, two on
-- a report lane.
-- Assumes nothing.
use Rattle.std.specs.Prelude.{Bool, true, cond, not, ◌&&◌, ◌||◌, List, [], ◌∷◌, ◌++◌, ℕ, ◌+◌, ◌-◌, ◌*◌, leb, eqb, get_or, set, take, drop, replicate}
use Rattle.std.proofs.lemmas.List.Edits.{sets}
use Rattle.books.specs.Numbers.{every, sum_to}

-- the places of a pointer lane and of a report lane, and the bytes of an entry of each
abbrev pub pointer_places : ℕ
pointer_places = 16

abbrev pub report_places : ℕ
report_places = 32

abbrev pub pointer_width : ℕ
pointer_width = 1

abbrev pub report_width : ℕ
report_width = 2

-- how many entries a lane has
abbrev pub count : List ℕ → ℕ
count l = get_or l 0 0

module _ (w : ℕ) where
  -- entry i, the oldest being entry 0
  abbrev pub entry : ℕ → List ℕ → List ℕ
  entry i l = take w (drop (1 + w * i) l)

  -- entry e added after the newest
  unfoldable pub added : List ℕ → List ℕ → List ℕ
  added e l = set (sets l (1 + w * count l) e) 0 (count l + 1)

  -- the oldest entry taken: the others move up, and the last place becomes zero
  unfoldable pub taken : List ℕ → List ℕ
  taken l = ((count l - 1) ∷ drop (1 + w) l) ++ replicate w 0

-- how many entries of a pointer lane are o
unfoldable pub pointers_to : ℕ → List ℕ → ℕ
pointers_to o l = sum_to (count l) (λ i. cond (eqb (get_or (entry pointer_width i l) 0 0) o) 1 0)

-- every byte is zero
unfoldable pub silent : List ℕ → Bool
silent [] = true
silent (x ∷ l) = eqb x 0 && silent l

-- A well formed lane: its length is in range, the places past it are all zero, a port's lane to itself (own) is empty, and every
-- entry is right.
unfoldable pub lane_formed : ℕ → ℕ → Bool → (List ℕ → Bool) → List ℕ → Bool
lane_formed w places own right l =
    leb (count l) places && silent (drop (1 + w * count l) l) && (not own || eqb (count l) 0) && every (count l) (λ i. right (entry w i l))
