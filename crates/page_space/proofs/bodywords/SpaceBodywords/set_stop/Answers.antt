use Rattle.std.proofs.Common.{rules, ap, ◌∙◌, sym}
use Rattle.gap_bounds.specs.Seat.{MaySetStop}
use Rattle.page_space.specs.Space.{IsSeatOf, heap_of}
use Rattle.page_space.proofs.bodywords.SpaceBodywords.set_stop.Goals as goal

pub set_stop-requires : goal.set_stop-requires
set_stop-requires g c =
    let seat : IsSeatOf c.args.self.now c.args.seat.now = search rules in
    let may : MaySetStop c.args.seat.now c.args.on = search rules in
    (seat ∙ ap heap_of (sym c.self.view_is) ∙ sym c.self.invariant.words ∙ sym c.deref.ensures, may)
