use Rattle.std.proofs.Common.{refl}
use Rattle.gap_bounds.specs.Seat.{stored}
use Rattle.page_space.proofs.SeatExtents.{lasts, stored_keeps}
use Rattle.page_space.proofs.space.Space.lasts_while_objects_stay.Goals as goal

pub returns-clause-objects : goal.returns-clause-objects
returns-clause-objects c old new count extents over = lasts c.args.self.now old new count extents over

pub returns-clause-store : goal.returns-clause-store
returns-clause-store c v a w over = lasts c.args.self.now v (stored v a w) refl (stored_keeps v.bodies a w) over
