use Rattle.std.proofs.Common.{arith, sym, ◌∙◌}
use Rattle.region_lock.proofs.Turns.{draws}
use Rattle.region_lock.proofs.lock.RegionLock.draw.Goals as goal

pub fetch_add-requires : goal.fetch_add-requires
fetch_add-requires g c =
    let seat = c.args.seat.now in (
      c.requires.lock ∙ sym c.self.view_is,
      omega (arith, c.self.invariant.0),
      draws g.V.Chronicle.entries g.V.Chronicle.number c.self.inside.table.shared.table_id.slots seat.id seat.me c.requires.lives c.requires.idle c.requires.free,
    )
