-- `counts::every_object`: one object more.
-- Assumes nothing.
use Rattle.std.proofs.Common.{arith, sym}
use Rattle.books.proofs.Numbers.{every_more}
use Rattle.books.proofs.Loops.{every_none}
use Rattle.form.proofs.counts.every_object.Goals as goal

pub loop-o-init : goal.loop-o-init
loop-o-init g c p h = sym (every_none _)

pub loop-o-preserved : goal.loop-o-preserved
loop-o-preserved g c p h = rw (c.loop-o.invariant p h, h c.loop-o.o c.test-all.result (omega arith) c.test-all.ensures) (sym (every_more p c.loop-o.o))
