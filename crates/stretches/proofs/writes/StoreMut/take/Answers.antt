-- `stretches::writes::StoreMut::take`: the part that is lent is the lane, which has an entry, and it comes back without the oldest.
-- Assumes nothing.
use Rattle.std.proofs.Common.{refl, sym, ◌∙◌}
use Rattle.lanes.specs.Lane.{taken}
use Rattle.stretches.proofs.Places.{bytes-long, part_is, back_is}
use Rattle.stretches.proofs.Lanes.{entered}
use Rattle.stretches.proofs.writes.StoreMut.take.Goals as goal

pub taken-requires : goal.taken-requires
taken-requires g c =
    let s = c.args.self.now in
    let k = g.met.L.Stretch.bytes s.ports c.args.c in
    let h = c.place-at.ensures in
    let p = part_is h s.bytes.now (k ∙ sym c.BYTES.ensures) in
    rw c.WIDTH.ensures (entered g.met.L.Lane.sized _ (rw p (bytes-long h s.bytes.now s.lent.sized ∙ k)) _ c.of.ensures (rw p c.requires.entered))

pub returns : goal.returns
returns g c =
    record {
      loan = refl;
      ports = refl;
      bytes = back_is c.place-at.ensures c.args.self.now.bytes.now (g.met.L.Stretch.bytes _ _ ∙ sym c.BYTES.ensures) (taken g.L.Lane.WIDTH) _
          (rw (← c.WIDTH.ensures) c.taken.ensures.lane);
    }
