-- `cursors::unnamed`: no entry of an empty lane is about o; of another the test of each entry's first byte is the test of each entry.
-- Assumes nothing.
use Rattle.std.proofs.Common.{rules, tests, arith, ◌∙◌, not, eqb, get_or, ◌+◌, ◌*◌, ◌%◌}
use Rattle.std.proofs.iter.Serving.{serving}
use Rattle.std.proofs.lemmas.Grind.{common_steps}
use Rattle.books.specs.Numbers.{every}
use Rattle.books.specs.Books.{object_limit}
use Rattle.books.proofs.Ranges.{all_every}
use Rattle.cursors.proofs.Bytes.{first_bytes}
use Rattle.cursors.proofs.unnamed.Goals as goal

pub all-requires-clause-callable : goal.all-requires-clause-callable
all-requires-clause-callable c = grind (serving, arith, common_steps)

pub returns-then-n-eq0 : goal.returns-then-n-eq0
unfolding every
returns-then-n-eq0 c = rw c.if-n-eq0.true

pub returns-else-n-eq0 : goal.returns-else-n-eq0
returns-else-n-eq0 c =
    let a = c.args in
    all_every (λ i. not (eqb (get_or a.lane.now (1 + a.w * i) 0 % object_limit) a.o)) _ _ c.all.ensures.ran (λ x b q k. search (rules, tests)) ∙ first_bytes a.w a.o a.lane.now c.requires.0
