-- `stretches::writes::StoreMut::change_transit`: the part that is lent is the port's row, and it comes back with the event's effect.
-- Assumes nothing.
use Rattle.std.proofs.Common.{refl, arith}
use Rattle.books.specs.Books.{transit_effect}
use Rattle.counters.specs.Counters.{kind_of}
use Rattle.stretches.proofs.Places.{bytes-long, part_is, back_is}
use Rattle.stretches.proofs.writes.StoreMut.change_transit.Goals as goal

pub transit_effect-requires : goal.transit_effect-requires
transit_effect-requires c =
    let s = c.args.self.now in
    let h = c.place-at.ensures in
    rw (part_is h s.bytes.now refl)
    (record { ports = (omega arith, s.lent.few); place = omega (arith, bytes-long h s.bytes.now s.lent.sized); range = c.requires.range }, c.requires.fits)

pub returns : goal.returns
returns c =
    record {
      loan = refl;
      ports = refl;
      bytes = back_is c.place-at.ensures c.args.self.now.bytes.now refl (transit_effect (kind_of c.args.e) c.args.o.number) _ c.transit_effect.ensures;
    }
