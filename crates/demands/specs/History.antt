-- The history: what happened and what was heard, worked out from the acts that were taken, in turn, and from no byte of any store. A
-- list of acts has the latest first.
-- Assumes nothing.
use Rattle.std.specs.Prelude.{Bool, cond, not, ◌&&◌, List, [], ◌∷◌, ◌++◌, ℕ, ◌+◌, leb, eqb, get_or, take, drop}
use Rattle.paper.specs.Paper.{Event}
use Rattle.books.specs.Numbers.{first}
use Rattle.books.specs.Books.{object_limit}
use Rattle.store.specs.Store.{fresh}
use Rattle.machine.specs.Acts.{Act, is, code_of, Name, MAKE, SEND, DELIVER, HEAR, RETIRE, event_of}
use Rattle.machine.specs.Machine.{refusal, does}

-- the store that acts have made from a fresh one of n ports, and which of the acts were taken
module _ (n : ℕ) where
  unfoldable pub run : List Act → List ℕ
  run [] = fresh n
  run (a ∷ acts) = (does n a (run acts)).bytes

  unfoldable pub accepted : List Act → List Act
  accepted [] = []
  accepted (a ∷ acts) = cond (eqb (refusal n a (run acts)) 0) (a ∷ accepted acts) (accepted acts)

-- the members of a list that pass a test
unfoldable pub those {ℓ} : {X : Type ℓ} → (X → Bool) → List X → List X
those p [] = []
those p (x ∷ xs) = cond (p x) (x ∷ those p xs) (those p xs)

-- From here on, acts are acts that were taken. An object's home plus 1 since its latest MAKE, 0 if it is not in use; MAKE gives the
-- lowest number that is not in use.
unfoldable pub owner : List Act → ℕ → ℕ
owner [] o = 0
owner (a ∷ acts) o =
    cond (is MAKE a && eqb o (first object_limit (λ p. eqb (owner acts p) 0))) (a.A + 1)
    (cond (is RETIRE a && eqb o a.o) 0 (owner acts o))

abbrev pub next_free : List Act → ℕ
next_free acts = first object_limit (λ p. eqb (owner acts p) 0)

-- the act is k from A to B; how many are
abbrev pub between : Name → ℕ → ℕ → Act → Bool
between k A B a = is k a && eqb a.A A && eqb a.B B

unfoldable pub times : Name → ℕ → ℕ → List Act → ℕ
times k A B [] = 0
times k A B (a ∷ acts) = cond (between k A B a) 1 0 + times k A B acts

-- the objects sent from A to B, the oldest first; each DELIVER from A to B has received the oldest that was left
unfoldable pub sent : ℕ → ℕ → List Act → List ℕ
sent A B [] = []
sent A B (a ∷ acts) = sent A B acts ++ cond (between SEND A B a) (a.o ∷ []) []

abbrev pub undelivered : ℕ → ℕ → List Act → List ℕ
undelivered A B acts = drop (times DELIVER A B acts) (sent A B acts)

-- the events that act a was, acts having gone before it: of MAKE, SEND, COPY, DROP and DELIVER one
unfoldable pub events_of : Act → List Act → List Event
events_of a acts =
    cond (leb a.code (code_of DELIVER)) (event_of a (cond (is MAKE a) (next_free acts) (get_or (undelivered a.A a.B acts) 0 0)) ∷ []) []

-- the events at A about objects homed at B, another port, the oldest first; the k-th HEAR from A at B has heard the k-th of them
unfoldable pub told : ℕ → ℕ → List Act → List Event
told A B [] = []
told A B (a ∷ acts) = told A B acts ++ those (λ e. eqb e.at A && eqb (owner (a ∷ acts) e.object) (B + 1) && not (eqb A B)) (events_of a acts)

abbrev pub unheard : ℕ → ℕ → List Act → List Event
unheard A B acts = drop (times HEAR A B acts) (told A B acts)

-- the events that homes came to know by act a: the one that HEAR hears, and those that happened at the home
unfoldable pub learnt : Act → List Act → List Event
learnt a acts =
    cond (is HEAR a) (take 1 (unheard a.A a.B acts)) (those (λ e. eqb (owner (a ∷ acts) e.object) (e.at + 1)) (events_of a acts))

-- of the events that f gives for each act, those about o since its latest MAKE, that MAKE's own among them, the latest first
unfoldable pub since : (Act → List Act → List Event) → ℕ → List Act → List Event
since f o [] = []
since f o (a ∷ acts) = those (λ e. eqb e.object o) (f a acts) ++ cond (is MAKE a && eqb o (next_free acts)) [] (since f o acts)

-- the events about o since its latest MAKE: those that happened, and those that its home has heard
abbrev pub happened : ℕ → List Act → List Event
happened = since events_of

abbrev pub heard : ℕ → List Act → List Event
heard = since learnt
