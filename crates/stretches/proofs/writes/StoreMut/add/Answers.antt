-- `stretches::writes::StoreMut::add`: the part that is lent is the lane, which has room, and it comes back with the entry.
-- Assumes nothing.
use Rattle.std.proofs.Common.{refl, sym, ◌∙◌}
use Rattle.lanes.specs.Lane.{added}
use Rattle.stretches.proofs.Places.{bytes-long, part_is, back_is}
use Rattle.stretches.proofs.Lanes.{roomy}
use Rattle.stretches.proofs.writes.StoreMut.add.Goals as goal

pub added-requires : goal.added-requires
added-requires g c =
    let s = c.args.self.now in
    let k = g.met.L.Stretch.bytes s.ports c.args.c in
    let h = c.place-at.ensures in
    let p = part_is h s.bytes.now (k ∙ sym c.BYTES.ensures) in
    rw c.requires.wide (roomy g.met.L.Lane.sized _ (rw p (bytes-long h s.bytes.now s.lent.sized ∙ k)) _ c.of.ensures (rw p c.requires.room))

pub returns : goal.returns
returns g c =
    record {
      loan = refl;
      ports = refl;
      bytes = back_is c.place-at.ensures c.args.self.now.bytes.now (g.met.L.Stretch.bytes _ _ ∙ sym c.BYTES.ensures) (added g.L.Lane.WIDTH c.args.entry.now) _
          (rw (← c.requires.wide) c.added.ensures.lane);
    }
