use Rattle.std.proofs.Common.{arith, sym, ◌∙◌}
use Rattle.region_lock.proofs.Turns.{raises}
use Rattle.region_lock.proofs.lock.RegionLock.raise.Goals as goal

pub store-requires : goal.store-requires
store-requires g c =
    let seat = c.args.seat.now in (
      c.requires.lock ∙ sym c.self.view_is,
      omega (arith, c.self.invariant.0),
      raises g.V.Chronicle.entries g.V.Chronicle.number c.self.inside.table.shared.table_id.slots seat.id seat.me c.args.count c.requires.may,
    )
