-- `stretches::writes::StoreMut::set_object`: one byte written among the object bytes.
-- Assumes nothing.
use Rattle.std.proofs.Common.{refl}
use Rattle.stretches.proofs.Places.{object-set}
use Rattle.stretches.proofs.writes.StoreMut.set_object.Goals as goal

pub returns : goal.returns
returns c =
    let s = c.args.self.now in record {
      loan = refl;
      ports = refl;
      bytes = object-set s.ports s.bytes.now c.args.o.number c.args.b c.args.o.low s.lent.sized;
    }
