use Rattle.std.proofs.Common.{rules, ◌≡◌, ap, ◌∙◌, sym}
use Rattle.gap_bounds.specs.SeatLaws.{IsReadyToPublish}
use Rattle.gap_bounds.specs.Seat.{side}
use Rattle.page_space.specs.Space.{IsSeatOf, heap_of}
use Rattle.page_space.proofs.bodywords.SpaceBodywords.publish.Goals as goal

pub publish-requires : goal.publish-requires
publish-requires g c =
    let seat : IsSeatOf c.args.self.now c.args.seat.now = search rules in
    let place : g.body.place ≡ c.args.a = search rules in
    let ready : IsReadyToPublish (side c.args.seat.now) g.body = search rules in
    (seat ∙ ap heap_of (sym c.self.view_is) ∙ sym c.self.invariant.words ∙ sym c.deref.ensures, (place, ready))
