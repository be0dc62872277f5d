-- Document 01's numbers for what the home answers to ASK.
-- Assumes nothing.
use Rattle.std.specs.Prelude.{ℕ}
use Rattle.acts.specs.declared.ask.Verdict.{Verdict}
use Rattle.acts.specs.declared.ask.Verdict.TheVariants.{InUse, Absent, Early}

-- each answer's number, by which an outcome has it as its value
abbrev pub number_of : Verdict → ℕ
number_of InUse = 0
number_of Absent = 1
number_of Early = 2
