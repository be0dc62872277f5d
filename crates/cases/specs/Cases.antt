-- Document 01's bench cases that are marked P, as one table.
-- Assumes nothing.
use Rattle.std.specs.Prelude.{Bool, true, ◌&&◌, List, [], ◌∷◌, ◌++◌, ℕ, ◌+◌, ◌-◌, eqb}
use Rattle.books.specs.Books.{transit_zero}
use Rattle.store.specs.Store.{fresh, heard_of, transit_of}
use Rattle.machine.specs.Acts.{Act, act, MAKE, SEND, DROP, DELIVER, HEAR, ASK, RETIRE, SETTLE, HOLD, Answer}
use Rattle.machine.specs.Machine.{does}

-- the number of ports
abbrev pub ports : ℕ
ports = 8

-- One line of a case: an act, with the refusal and the value that it must give; or a port, with what the books must say of object 0
-- there, the heard holding and the heard transit as it is stored.
pub data Line : Type 0 where
  gets : Act → ℕ → ℕ → Line
  says : ℕ → ℕ → ℕ → Line

-- an answer is what it must be
abbrev pub agrees : Answer → ℕ → ℕ → Bool
agrees r k v = eqb r.refusal k && eqb r.value v

-- the lines hold in turn, from the store s on
unfoldable pub passes : List Line → List ℕ → Bool
passes [] s = true
passes (gets a k v ∷ ls) s = agrees (does ports a s).answer k v && passes ls (does ports a s).bytes
passes (says p h x ∷ ls) s = eqb (heard_of ports p 0 s) h && eqb (transit_of ports p 0 s) x && passes ls s

-- a transit of 0, of 1 and of -1, as it is stored
abbrev pub none : ℕ
none = transit_zero ports

abbrev pub one : ℕ
one = none + 1

abbrev pub less_one : ℕ
less_one = none - 1

-- 1. On a fresh store, ASK 0 and ASK 64.
abbrev pub case1 : List Line
case1 = gets (act ASK 0 0 0) 5 0 ∷ gets (act ASK 0 64 0) 4 0 ∷ []

-- 2. The home holds the object: absent, and not to be retired until it drops it; the number is given out again.
abbrev pub case2 : List Line
case2 =
    gets (act MAKE 0 0 0) 0 0
    ∷ gets (act ASK 0 0 0) 0 1
    ∷ gets (act RETIRE 0 0 0) 13 0
    ∷ gets (act DROP 0 0 0) 0 0
    ∷ gets (act RETIRE 0 0 0) 0 0
    ∷ gets (act MAKE 3 0 0) 0 0
    ∷ []

-- 3. The worked script.
abbrev pub case3 : List Line
case3 =
    gets (act MAKE 0 0 0) 0 0
    ∷ gets (act SEND 0 0 1) 0 0
    ∷ gets (act ASK 0 0 0) 0 0
    ∷ gets (act DELIVER 0 0 1) 0 0
    ∷ gets (act DROP 1 0 0) 0 0
    ∷ gets (act SETTLE 0 0 0) 0 2
    ∷ gets (act ASK 0 0 0) 0 0
    ∷ gets (act HEAR 1 0 0) 0 0
    ∷ gets (act HEAR 1 0 0) 0 0
    ∷ gets (act ASK 0 0 0) 0 1
    ∷ []

-- 4. A handle passed on and dropped at port 2, before port 1's reports are heard.
abbrev pub case4 : List Line
case4 =
    gets (act MAKE 0 0 0) 0 0
    ∷ gets (act SEND 0 0 1) 0 0
    ∷ gets (act DELIVER 0 0 1) 0 0
    ∷ gets (act SEND 1 0 2) 0 0
    ∷ gets (act DELIVER 1 0 2) 0 0
    ∷ gets (act DROP 2 0 0) 0 0
    ∷ gets (act HEAR 2 0 0) 0 0
    ∷ gets (act HEAR 2 0 0) 0 0
    ∷ says 1 0 one
    ∷ says 2 0 less_one
    ∷ says 3 0 none
    ∷ says 4 0 none
    ∷ says 5 0 none
    ∷ says 6 0 none
    ∷ says 7 0 none
    ∷ gets (act ASK 0 0 0) 0 0
    ∷ gets (act HOLD 1 0 0) 0 1
    ∷ gets (act SETTLE 0 0 0) 0 2
    ∷ []

-- 5. After 4: port 1 drops it, and its three reports are heard.
abbrev pub case5 : List Line
case5 =
    case4
    ++ (gets (act DROP 1 0 0) 0 0
    ∷ gets (act HEAR 1 0 0) 0 0
    ∷ gets (act ASK 0 0 0) 0 0
    ∷ gets (act HEAR 1 0 0) 0 0
    ∷ gets (act ASK 0 0 0) 0 0
    ∷ gets (act HEAR 1 0 0) 0 0
    ∷ gets (act ASK 0 0 0) 0 1
    ∷ [])

-- 6. Refusals 6 and 7, and 3 before 4.
abbrev pub case6 : List Line
case6 = gets (act MAKE 0 0 0) 0 0 ∷ gets (act SEND 0 0 0) 6 0 ∷ gets (act DROP 2 0 0) 7 0 ∷ gets (act SEND 8 64 0) 3 0 ∷ []

-- 7. MAKE at port 8, act 11, HEAR on an empty lane.
abbrev pub case7 : List Line
case7 = gets (act MAKE 8 0 0) 3 0 ∷ gets (record { code = 11; A = 0; o = 0; B = 0 }) 2 0 ∷ gets (act HEAR 1 0 0) 9 0 ∷ []

-- 8. A handle that travels to the home.
abbrev pub case8 : List Line
case8 =
    gets (act MAKE 0 0 0) 0 0
    ∷ gets (act SEND 0 0 1) 0 0
    ∷ gets (act DELIVER 0 0 1) 0 0
    ∷ gets (act SEND 1 0 0) 0 0
    ∷ gets (act DROP 1 0 0) 0 0
    ∷ gets (act HEAR 1 0 0) 0 0
    ∷ gets (act HEAR 1 0 0) 0 0
    ∷ gets (act HEAR 1 0 0) 0 0
    ∷ gets (act ASK 0 0 0) 0 0
    ∷ gets (act DELIVER 1 0 0) 0 0
    ∷ gets (act ASK 0 0 0) 0 1
    ∷ []

-- the table: eight cases, each on a fresh store
abbrev pub table : List (List Line)
table = case1 ∷ case2 ∷ case3 ∷ case4 ∷ case5 ∷ case6 ∷ case7 ∷ case8 ∷ []

unfoldable pub all_pass : List (List Line) → Bool
all_pass [] = true
all_pass (c ∷ cs) = passes c (fresh ports) && all_pass cs
