-- Document 01's numbers for what the code answers an act.
-- Assumes nothing.
use Rattle.std.specs.Prelude.{ℕ, Result, Ok, Err}
use Rattle.machine.specs.Acts.{Answer}
use Rattle.acts.specs.declared.Refusal.{Refusal}
use Rattle.acts.specs.declared.Refusal.TheVariants.{NotWellFormed, NoSuchAct, NoSuchPort, NoSuchObject, NotInUse, SamePort, NotHeld, HoldingFull, LaneEmpty, PointersFull, ReportsFull, AllInUse, StandsAgainst, WouldBreak}

-- refused with a number and value 0
abbrev pub plainly : ℕ → Answer
plainly k = record { refusal = k; value = 0 }

-- each refusal's number; the value of 13 is the port standing against
abbrev pub refused : Refusal → Answer
refused NotWellFormed = plainly 1
refused NoSuchAct = plainly 2
refused NoSuchPort = plainly 3
refused NoSuchObject = plainly 4
refused NotInUse = plainly 5
refused SamePort = plainly 6
refused NotHeld = plainly 7
refused HoldingFull = plainly 8
refused LaneEmpty = plainly 9
refused PointersFull = plainly 10
refused ReportsFull = plainly 11
refused AllInUse = plainly 12
refused (StandsAgainst p) = record { refusal = 13; value = p }
refused WouldBreak = plainly 14

-- taken with a value, or refused
abbrev pub numbers : Result ℕ Refusal → Answer
numbers (Ok v) = record { refusal = 0; value = v }
numbers (Err e) = refused e
