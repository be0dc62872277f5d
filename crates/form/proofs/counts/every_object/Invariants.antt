-- `counts::every_object`: every object so far passes.
-- Assumes nothing.
use Rattle.std.proofs.Common.{ℕ, Bool, ◌≡◌, ◌<◌}
use Rattle.books.specs.Numbers.{every}
use Rattle.books.specs.Books.{object_limit}
use Rattle.form.proofs.counts.every_object.Given as goal

abbrev pub invariant-loop-o : goal.invariant-loop-o
invariant-loop-o g l = (p : ℕ → Bool) → ((o : ℕ) (r : Bool) → o < object_limit → goal.F-post g l.test o r → r ≡ p o) → l.all ≡ every l.o p
