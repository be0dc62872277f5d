-- What the lent store of n ports says, when it is well formed, in document 01's clauses, and the fresh store.
-- Assumes nothing.
use Rattle.std.specs.Prelude.{Bool, cond, not, ◌&&◌, ◌||◌, List, [], ◌∷◌, ◌++◌, ℕ, zero, suc, ◌+◌, ◌-◌, ◌*◌, ◌/◌, ◌%◌, leb, ltb, eqb, length, get_or, replicate}
use Rattle.paper.specs.Paper.{send, receive, create, delete, number, Event}
use Rattle.books.specs.Numbers.{every, sum_to}
use Rattle.books.specs.Books.{object_limit, holding_limit, transit_zero, transit_top, transit_at}
use Rattle.lanes.specs.Lane.{pointer_places, report_places, pointer_width, report_width, pointers_to, lane_formed}
use Rattle.store.specs.Layout.{objects, held, heard, transit, pointers, reports, extent, size, section_at, read}

-- an event as a report: object plus 64 times event, then the port sent to (0 unless it is s); and the event at port a that such
-- bytes report
abbrev pub report : Event → List ℕ
report e = (e.object + object_limit * number e.kind) ∷ cond (eqb (number e.kind) (number send)) e.names 0 ∷ []

abbrev pub reported : ℕ → List ℕ → Event
reported a e = record {
  kind = get_or (send ∷ receive ∷ create ∷ []) (get_or e 0 0 / object_limit) delete;
  object = get_or e 0 0 % object_limit;
  at = a;
  names = cond (eqb (get_or e 0 0 / object_limit) (number send)) (get_or e 1 0) a;
}

-- An object's holdings at port p: b is its object byte, t its true and h its heard holding. Both are in range; a free object's are 0;
-- the home's heard holding equals its true holding.
abbrev pub holding_formed : ℕ → ℕ → ℕ → ℕ → Bool
holding_formed p b t h =
    leb t holding_limit && leb h holding_limit && (not (eqb b 0) || eqb t 0 && eqb h 0) && (not (eqb b (p + 1)) || eqb h t)

-- An object's transit x, as it is stored. It is in range; a free object's is 0.
abbrev pub transit_formed : ℕ → ℕ → ℕ → Bool
transit_formed n b x = leb x (transit_top n) && (not (eqb b 0) || eqb x (transit_zero n))

-- An entry of a pointer lane names an object in use; obj is the object bytes.
abbrev pub pointer_right : List ℕ → List ℕ → Bool
pointer_right obj e = not (eqb (get_or obj (get_or e 0 0) 0) 0)

-- An entry of the report lane from a to b names an object in use, which has the receiving port as home; of an s its port is a port
-- and not the sender; of any other its port byte is 0.
abbrev pub report_right : ℕ → List ℕ → ℕ → ℕ → List ℕ → Bool
report_right n obj a b e =
    eqb (get_or obj (get_or e 0 0 % object_limit) 0) (b + 1)
    && cond (eqb (get_or e 0 0 / object_limit) (number send)) (ltb (get_or e 1 0) n && not (eqb (get_or e 1 0) a)) (eqb (get_or e 1 0) 0)

-- k written m times, in two bytes each, low byte first
unfoldable pub words : ℕ → ℕ → List ℕ
words zero k = []
words (suc m) k = (k % 256) ∷ (k / 256) ∷ words m k

module _ (n : ℕ) where
  -- o's object byte: 0 if free, else home plus 1, and 0 of a number above 63; is o in use; its home
  abbrev pub object_byte : ℕ → List ℕ → ℕ
  object_byte o s = get_or (read n objects s) o 0

  abbrev pub in_use : ℕ → List ℕ → Bool
  in_use o s = not (eqb (object_byte o s) 0)

  abbrev pub home : ℕ → List ℕ → ℕ
  home o s = object_byte o s - 1

  -- port p's true holding, heard holding and heard transit (as it is stored) of o
  abbrev pub held_of : ℕ → ℕ → List ℕ → ℕ
  held_of p o s = get_or (read n (held p) s) o 0

  abbrev pub heard_of : ℕ → ℕ → List ℕ → ℕ
  heard_of p o s = get_or (read n (heard p) s) o 0

  abbrev pub transit_of : ℕ → ℕ → List ℕ → ℕ
  transit_of p o s = transit_at o (read n (transit p) s)

  -- the pointers to o on all lanes to port p
  unfoldable pub on_way : ℕ → ℕ → List ℕ → ℕ
  on_way p o s = sum_to n (λ a. pointers_to o (read n (pointers a p) s))

  -- Well formed: the right size; object bytes at most the number of ports; every object's holdings and transit at every port, and
  -- every lane from port a to port b.
  unfoldable pub well_formed : List ℕ → Bool
  well_formed s =
      eqb (length s) (size n)
      && every object_limit (λ o. leb (object_byte o s) n)
      && every n (λ p. every object_limit (λ o. holding_formed p (object_byte o s) (held_of p o s) (heard_of p o s)))
      && every n (λ p. every object_limit (λ o. transit_formed n (object_byte o s) (transit_of p o s)))
      && every n (λ a. every n (λ b. lane_formed pointer_width pointer_places (eqb a b) (pointer_right (read n objects s)) (read n (pointers a b) s)))
      && every n (λ a. every n (λ b. lane_formed report_width report_places (eqb a b) (report_right n (read n objects s) a b) (read n (reports a b) s)))

  -- the fresh store: no objects, no entries, all counts 0
  abbrev pub zeros : ℕ → List ℕ
  zeros k = replicate (extent (section_at n k)) 0

  unfoldable pub fresh : List ℕ
  fresh = zeros 0 ++ (zeros 1 ++ (zeros 2 ++ (words (object_limit * n) (transit_zero n) ++ (zeros 4 ++ zeros 5))))
