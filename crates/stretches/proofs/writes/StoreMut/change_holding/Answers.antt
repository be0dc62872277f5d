-- `stretches::writes::StoreMut::change_holding`: the part that is lent is the port's row, and it comes back with the event's effect.
-- Assumes nothing.
use Rattle.std.proofs.Common.{refl, sym, ◌∙◌, arith}
use Rattle.books.specs.Books.{holding_effect}
use Rattle.counters.specs.Counters.{kind_of}
use Rattle.stretches.proofs.Places.{bytes-long, part_is, back_is}
use Rattle.stretches.proofs.writes.StoreMut.change_holding.Goals as goal

pub holding_effect-requires : goal.holding_effect-requires
holding_effect-requires g c =
    let s = c.args.self.now in
    let k = g.met.H.Stretch.bytes s.ports c.args.c in
    let h = c.place-at.ensures in
    rw (part_is h s.bytes.now (k ∙ sym c.BYTES.ensures)) (omega (arith, bytes-long h s.bytes.now s.lent.sized, k, g.met.H.Holdings.each), c.requires.fits)

pub returns : goal.returns
returns g c =
    record {
      loan = refl;
      ports = refl;
      bytes = back_is c.place-at.ensures c.args.self.now.bytes.now (g.met.H.Stretch.bytes _ _ ∙ sym c.BYTES.ensures) (holding_effect (kind_of c.args.e) c.args.o.number) _ c.holding_effect.ensures;
    }
