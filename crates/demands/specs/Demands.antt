-- The customer's demands 2 and 3 as statements, over the number of ports n. These are definitions: each says what is claimed, and
-- docs/READING.md says where it is proved. run n acts is the store that acts, any list of any acts, have made from a fresh one.
-- Assumes nothing.
use Rattle.std.specs.Prelude.{◌≡◌, true, ◌⊎◌, ◌↔◌, List, [], ◌∷◌, ℕ, suc, ◌+◌, ◌-◌, ◌*◌, ◌≤◌, ◌<◌, eqb, pos, ◌+ℤ◌, get_or}
use Rattle.paper.specs.Paper.{Event, receive, create, delete, May, Legal, Absence, in_transit, pointers_to}
use Rattle.books.specs.Numbers.{list_to}
use Rattle.books.specs.Books.{transit_zero}
use Rattle.lanes.specs.Lane.{pointer_places, report_places, pointer_width, report_width, count, entry}
use Rattle.store.specs.Layout.{pointers, reports, read}
use Rattle.store.specs.Store.{reported, well_formed, in_use, home, held_of, heard_of, transit_of}
use Rattle.machine.specs.Acts.{Act, Name, act, SEND, COPY, DROP, DELIVER, HEAR, ASK, SETTLE, code_of, event, sending, Answer}
use Rattle.machine.specs.Machine.{first_in, rule, does}
use Rattle.demands.specs.History.{run, accepted, those, undelivered, unheard, happened, heard}

module _ (n : ℕ) where
  -- what an act answers; it is taken; none of the rules ks applies to it
  abbrev pub answer : Act → List ℕ → Answer
  answer a s = (does n a s).answer

  abbrev pub Taken : Act → List ℕ → Type 0
  Taken a s = (answer a s).refusal ≡ 0

  abbrev pub Within : List ℕ → Act → List ℕ → Type 0
  Within ks a s = first_in (rule n a s) ks ≡ 0

  -- the pointers on the lane from a to b, and the events that its reports report, the oldest first
  abbrev pub pointers_on : ℕ → ℕ → List ℕ → List ℕ
  pointers_on a b s = list_to (count (read n (pointers a b) s)) (λ i. get_or (entry pointer_width i (read n (pointers a b) s)) 0 0)

  abbrev pub reports_on : ℕ → ℕ → List ℕ → List Event
  reports_on a b s = list_to (count (read n (reports a b) s)) (λ i. reported a (entry report_width i (read n (reports a b) s)))

  -- Every store that acts make is well formed, and no act on it is refused with 1 or with 14.
  abbrev pub NeverBroken : Type 0
  NeverBroken =
      (acts : List Act)
      → (well_formed n (run n acts) ≡ true) × ((a : Act) → ¬ ((answer a (run n acts)).refusal ≡ 1) × ¬ ((answer a (run n acts)).refusal ≡ 14))

  -- DEMAND 2. An act a, which is event e, is taken exactly when 004 allows adding e to what happened about its object since that was
  -- made, and the limits ks allow it.
  abbrev pub TakenExactly : List Act → Act → Event → List ℕ → Type 0
  TakenExactly acts a e ks = Taken a (run n acts) ↔ (May e (happened e.object (accepted n acts)) × Within ks a (run n acts))

  -- So it is with a send, a copy and a drop.
  abbrev pub ExactlyLegal : Type 0
  ExactlyLegal =
      (acts : List Act) (A o B : ℕ)
      → TakenExactly acts (act SEND A o B) (sending o A B) (3 ∷ 4 ∷ 5 ∷ 6 ∷ 8 ∷ 10 ∷ 11 ∷ [])
      × TakenExactly acts (act COPY A o B) (event create o A) (3 ∷ 4 ∷ 5 ∷ 8 ∷ 11 ∷ [])
      × TakenExactly acts (act DROP A o B) (event delete o A) (3 ∷ 4 ∷ 5 ∷ 11 ∷ [])

  -- A receipt is taken exactly when a sending from A to B is undelivered, the receipt at B of the oldest (first in, first out) is
  -- legal, and the limits allow it.
  abbrev pub ReceiptExactlyLegal : Type 0
  ReceiptExactlyLegal =
      (acts : List Act) (A o B : ℕ)
      → Taken (act DELIVER A o B) (run n acts)
      ↔ ((x : ℕ) × (rest : List ℕ) × (undelivered A B (accepted n acts) ≡ x ∷ rest) × May (event receive x B) (happened x (accepted n acts))
      × Within (3 ∷ 6 ∷ 11 ∷ []) (act DELIVER A o B) (run n acts))

  -- So what has happened about an object in use is a legal event set.
  abbrev pub AlwaysLegal : Type 0
  AlwaysLegal = (acts : List Act) (o : ℕ) → in_use n o (run n acts) ≡ true → Legal (home n o (run n acts)) o (happened o (accepted n acts))

  -- On any well formed store: the same, with the true holdings and the lanes in the history's place, and 14 among the limits.
  abbrev pub HolderExactly : Name → List ℕ → Type 0
  HolderExactly k ks =
      (s : List ℕ) (A o B : ℕ) → well_formed n s ≡ true → Taken (act k A o B) s ↔ ((0 < held_of n A o s) × Within ks (act k A o B) s)

  abbrev pub ExactlyAnywhere : Type 0
  ExactlyAnywhere =
      HolderExactly SEND (3 ∷ 4 ∷ 5 ∷ 6 ∷ 8 ∷ 10 ∷ 11 ∷ 14 ∷ [])
      × HolderExactly COPY (3 ∷ 4 ∷ 5 ∷ 8 ∷ 11 ∷ 14 ∷ [])
      × HolderExactly DROP (3 ∷ 4 ∷ 5 ∷ 11 ∷ 14 ∷ [])
      × ((s : List ℕ) (A o B : ℕ) → well_formed n s ≡ true
      → Taken (act DELIVER A o B) s ↔ ((0 < count (read n (pointers A B) s)) × Within (3 ∷ 6 ∷ 11 ∷ 14 ∷ []) (act DELIVER A o B) s))

  -- The lanes are what is left: a pointer lane is the undelivered sendings, a report lane the unheard events, in order.
  abbrev pub LanesAreLeft : Type 0
  LanesAreLeft =
      (acts : List Act) (A B : ℕ) → A < n → B < n
      → (pointers_on A B (run n acts) ≡ undelivered A B (accepted n acts)) × (reports_on A B (run n acts) ≡ unheard A B (accepted n acts))

  -- The home says absent, with verdict 1 or 2.
  abbrev pub SaysAbsent : ℕ → List ℕ → Type 0
  SaysAbsent o s = ((answer (act ASK 0 o 0) s).value ≡ 1) ⊎ ((answer (act ASK 0 o 0) s).value ≡ 2)

  -- It does so exactly when 004's absence holds of the events that it has heard about the object since that was made.
  abbrev pub VerdictIsAbsence : Type 0
  VerdictIsAbsence =
      (acts : List Act) (o : ℕ) → in_use n o (run n acts) ≡ true
      → SaysAbsent o (run n acts) ↔ Absence (home n o (run n acts)) o (heard o (accepted n acts))

  -- Its books are 004's two counts of those events.
  abbrev pub BooksAreCounts : Type 0
  BooksAreCounts =
      (acts : List Act) (o p : ℕ) → in_use n o (run n acts) ≡ true → p < n
      → (pos (heard_of n p o (run n acts)) ≡ pointers_to o p (heard o (accepted n acts)))
      × (pos (transit_of n p o (run n acts)) ≡ pos (transit_zero n) +ℤ in_transit o p (heard o (accepted n acts)))

  -- DEMAND 3. No port but the home holds o; nothing travels; an act that settles, a delivery or a hearing.
  abbrev pub OnlyHome : ℕ → List ℕ → Type 0
  OnlyHome o s = (p : ℕ) → p < n → ¬ (p ≡ home n o s) → held_of n p o s ≡ 0

  abbrev pub Still : List ℕ → Type 0
  Still s = (A B : ℕ) → A < n → B < n → (pointers_on A B s ≡ []) × (reports_on A B s ≡ [])

  abbrev pub Settling : Act → Type 0
  Settling a = (a.code ≡ code_of DELIVER) ⊎ (a.code ≡ code_of HEAR)

  -- When the home says absent, no other port holds the object, no handle to it travels, and no report about it is unheard.
  abbrev pub AbsentMeansGone : Type 0
  AbsentMeansGone =
      (acts : List Act) (o : ℕ) → SaysAbsent o (run n acts)
      → OnlyHome o (run n acts)
      × ((A B : ℕ) → A < n → B < n
      → (those (λ x. eqb x o) (pointers_on A B (run n acts)) ≡ []) × (those (λ e. eqb e.object o) (reports_on A B (run n acts)) ≡ []))

  -- While any handle or report travels, a delivery or a hearing can be taken.
  abbrev pub Progress : Type 0
  Progress = (acts : List Act) → ¬ (Still (run n acts)) → (a : Act) × Settling a × Taken a (run n acts)

  -- k deliveries and hearings, taken one after another, lead from s to t.
  pub data Settles (s : List ℕ) : ℕ → List ℕ → Type 0 where
    none : Settles s 0 s
    more : {k : ℕ} {t : List ℕ} → Settles s k t → (a : Act) → Settling a → Taken a t → Settles s (suc k) (does n a t).bytes

  -- No more are taken than the settling number first read, and that is at most 3,584 of eight ports.
  abbrev pub Bounded : Type 0
  Bounded =
      (acts : List Act)
      → ((k : ℕ) (t : List ℕ) → Settles (run n acts) k t → k ≤ (answer (act SETTLE 0 0 0) (run n acts)).value)
      × ((answer (act SETTLE 0 0 0) (run n acts)).value ≤ (2 * pointer_places + report_places) * (n * (n - 1)))

  -- Once none can be taken nothing travels, and the verdict on an object in use is absent exactly when no port but the home holds it.
  abbrev pub AtRest : Type 0
  AtRest =
      (acts : List Act) → ((a : Act) → Settling a → ¬ (Taken a (run n acts)))
      → Still (run n acts)
      × ((o : ℕ) → in_use n o (run n acts) ≡ true → ((answer (act ASK 0 o 0) (run n acts)).value ≡ 1) ↔ OnlyHome o (run n acts))
