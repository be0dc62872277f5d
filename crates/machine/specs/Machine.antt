-- The machine of n ports: the refusals, one rule a number; an act on a lent store; START.
-- Assumes nothing.
use Rattle.std.specs.Prelude.{Bool, false, cond, not, ◌&&◌, ◌||◌, List, [], ◌∷◌, ◌++◌, ℕ, ◌+◌, leb, ltb, eqb, length}
use Rattle.books.specs.Books.{object_limit, holding_limit, lowest_against}
use Rattle.lanes.specs.Lane.{pointer_places, report_places, count}
use Rattle.store.specs.Layout.{size, pointers, reports, read}
use Rattle.store.specs.Store.{well_formed, fresh, object_byte, in_use, home, held_of, heard_of, transit_of, on_way}
use Rattle.machine.specs.Acts.{Act, row_of, is, HEAR, Outcome, gives}
use Rattle.machine.specs.Effects.{lowest_free, event_in, after, value_of}

-- the first number of a list of which p holds, or 0 if there is none
unfoldable pub first_in : (ℕ → Bool) → List ℕ → ℕ
first_in p [] = 0
first_in p (k ∷ ks) = cond (p k) k (first_in p ks)

module _ (n : ℕ) where
  -- the lowest port standing against retiring o, n if there is none
  unfoldable pub standing : ℕ → List ℕ → ℕ
  standing o s = lowest_against n (home n o s) (λ p. heard_of n p o s) (λ p. transit_of n p o s) (held_of n (home n o s) o s)

  -- the refusal table: when the rule of number k applies
  unfoldable pub rule : Act → List ℕ → ℕ → Bool
  rule a s k =
      -- the store is not well formed before the act
      cond (eqb k 1) (not (well_formed n s))
      -- the code is 0 or above 10
      (cond (eqb k 2) (eqb a.code 0 || ltb 10 a.code)
      -- a named port is above 7
      (cond (eqb k 3) ((row_of a).names_a && leb n a.A || (row_of a).names_b && leb n a.B)
      -- the object number is above 63
      (cond (eqb k 4) (leb object_limit a.o)
      -- that object is not in use
      (cond (eqb k 5) (not (in_use n a.o s))
      -- A equals B
      (cond (eqb k 6) (eqb a.A a.B)
      -- A's true holding of o is 0
      (cond (eqb k 7) (eqb (held_of n a.A a.o s) 0)
      -- of o and the port that would gain one, which SEND's or COPY's event names, the true holding plus the pointers on all lanes to that port is 200 or more
      (cond (eqb k 8) (leb holding_limit (held_of n (event_in n a s).names a.o s + on_way n (event_in n a s).names a.o s))
      -- the lane named is empty
      (cond (eqb k 9) (eqb (count (read n (cond (is HEAR a) (reports a.A a.B) (pointers a.A a.B)) s)) 0)
      -- the pointer lane from A to B has 16 entries
      (cond (eqb k 10) (eqb (count (read n (pointers a.A a.B) s)) pointer_places)
      -- the acting port, at which the event happens, is not the home and its report lane to the home has 32 entries
      (cond (eqb k 11)
      (not (eqb (object_byte n (event_in n a s).object s) ((event_in n a s).at + 1))
      && eqb (count (read n (reports (event_in n a s).at (home n (event_in n a s).object s)) s)) report_places)
      -- all 64 objects are in use
      (cond (eqb k 12) (eqb (lowest_free n s) object_limit)
      -- some port stands against retiring
      (cond (eqb k 13) (ltb (standing a.o s) n)
      -- the store after the act would not be well formed
      (cond (eqb k 14) (not (well_formed n (after n a s))) false)))))))))))))

  -- the refusal of an act: the first of its checks whose rule applies, 1 and 2 first and 14 last; 0 if it is taken
  unfoldable pub refusal : Act → List ℕ → ℕ
  refusal a s = first_in (rule a s) (1 ∷ 2 ∷ ((row_of a).checks ++ (14 ∷ [])))

  -- What an act gives whose refusal is k. Taken: its value, and the store after it. Refused: value 0, except of 13 the lowest port
  -- standing against, and no byte of the store differs.
  unfoldable pub outcome : ℕ → Act → List ℕ → Outcome
  outcome k a s = cond (eqb k 0) (gives 0 (value_of n a s) (after n a s)) (gives k (cond (eqb k 13) (standing a.o s) 0) s)

  unfoldable pub does : Act → List ℕ → Outcome
  does a s = outcome (refusal a s) a s

  -- START: a buffer of the right size becomes fresh, whatever it held; another is refused with 1 and not written
  unfoldable pub start : List ℕ → Outcome
  start s = cond (eqb (length s) (size n)) (gives 0 0 (fresh n)) (gives 1 0 s)
