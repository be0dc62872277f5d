-- Document 01's table of acts, the event that each act is, and what an act gives.
-- Assumes nothing.
use Rattle.std.specs.Prelude.{Bool, true, false, cond, List, [], ◌∷◌, ℕ, eqb, get_or}
use Rattle.paper.specs.Paper.{Kind, send, receive, create, delete, Event}

-- an act is four numbers
pub record Act : Type 0 where
  pub code : ℕ
  pub A : ℕ
  pub o : ℕ
  pub B : ℕ

-- a row of the table: whether the act names port A, whether it names port B, and its checks in order
pub record Row : Type 0 where
  pub names_a : Bool
  pub names_b : Bool
  pub checks : List ℕ

abbrev pub row : Bool → Bool → List ℕ → Row
row a b ks = record { names_a = a; names_b = b; checks = ks }

-- the rows of the codes from 0 on: no act, MAKE, SEND, COPY, DROP, DELIVER, HEAR, ASK, RETIRE, SETTLE, HOLD; above 10, no act
abbrev pub table : List Row
table =
    row false false []
    ∷ row true false (3 ∷ 12 ∷ [])
    ∷ row true true (3 ∷ 4 ∷ 5 ∷ 6 ∷ 7 ∷ 8 ∷ 10 ∷ 11 ∷ [])
    ∷ row true false (3 ∷ 4 ∷ 5 ∷ 7 ∷ 8 ∷ 11 ∷ [])
    ∷ row true false (3 ∷ 4 ∷ 5 ∷ 7 ∷ 11 ∷ [])
    ∷ row true true (3 ∷ 6 ∷ 9 ∷ 11 ∷ [])
    ∷ row true true (3 ∷ 6 ∷ 9 ∷ [])
    ∷ row false false (4 ∷ 5 ∷ [])
    ∷ row false false (4 ∷ 5 ∷ 13 ∷ [])
    ∷ row false false []
    ∷ row true false (3 ∷ 4 ∷ 5 ∷ [])
    ∷ []

abbrev pub row_of : Act → Row
row_of a = get_or table a.code (row false false [])

-- the acts by name
pub data Name : Type 0 where
  MAKE SEND COPY DROP DELIVER HEAR ASK RETIRE SETTLE HOLD : Name

abbrev pub code_of : Name → ℕ
code_of MAKE = 1
code_of SEND = 2
code_of COPY = 3
code_of DROP = 4
code_of DELIVER = 5
code_of HEAR = 6
code_of ASK = 7
code_of RETIRE = 8
code_of SETTLE = 9
code_of HOLD = 10

abbrev pub act : Name → ℕ → ℕ → ℕ → Act
act k A o B = record { code = code_of k; A = A; o = o; B = B }

abbrev pub is : Name → Act → Bool
is k a = eqb a.code (code_of k)

-- an event about o at port p, and s from p to b
abbrev pub event : Kind → ℕ → ℕ → Event
event k o p = record { kind = k; object = o; at = p; names = p }

abbrev pub sending : ℕ → ℕ → ℕ → Event
sending o p b = record { kind = send; object = o; at = p; names = b }

-- the event that an act is: MAKE and COPY are + at A, SEND is s at A, DROP is - at A, DELIVER is r at B; x is the object that
-- MAKE makes or DELIVER delivers
abbrev pub event_of : Act → ℕ → Event
event_of a x =
    cond (is MAKE a) (event create x a.A)
    (cond (is SEND a) (sending a.o a.A a.B)
    (cond (is COPY a) (event create a.o a.A)
    (cond (is DROP a) (event delete a.o a.A) (event receive x a.B))))

-- an answer: the refusal number, 0 if the act was taken, and the value; and what an act gives, with every byte of the store after it
pub record Answer : Type 0 where
  pub refusal : ℕ
  pub value : ℕ

pub record Outcome : Type 0 where
  pub answer : Answer
  pub bytes : List ℕ

abbrev pub gives : ℕ → ℕ → List ℕ → Outcome
gives k v s = record { answer = record { refusal = k; value = v }; bytes = s }
