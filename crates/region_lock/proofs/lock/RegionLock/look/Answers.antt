use Rattle.std.proofs.Common.{arith, sym, ◌∙◌}
use Rattle.region_lock.proofs.Turns.{looks}
use Rattle.region_lock.proofs.lock.RegionLock.look.Goals as goal

pub load-requires : goal.load-requires
load-requires g c =
    let seat = c.args.seat.now in (
      c.requires.lock ∙ sym c.self.view_is,
      omega (arith, c.self.invariant.0),
      looks g.V.Chronicle.entries g.V.Chronicle.number c.self.inside.table.shared.table_id.slots seat.id seat.me,
    )
