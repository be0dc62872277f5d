-- `start::fresh_of`: a store is cleared, then its transits are put in its middle.
-- Assumes nothing.
use Rattle.std.proofs.Common.{◌≡◌, ◌*◌, arith, ap₂, ◌∙◌}
use Rattle.books.specs.Books.{object_limit, transit_zero}
use Rattle.store.specs.Store.{words}
use Rattle.form.proofs.Started.{start_done}
use Rattle.form.proofs.start.fresh_of.Goals as goal

pub returns : goal.returns
returns c =
    let n = c.args.n in
    let a = c.place-a.ensures.at in
    let e = c.place-e.ensures.at in
    let w : c.write_words.new.s ≡ words (object_limit * n) (transit_zero n) = c.write_words.ensures ∙ ap₂ words (omega (arith, a, e)) (omega arith) in
    start_done n _ _ _ _ _ (omega arith) (c.fill.ensures.after (λ y e. e)) w a e
