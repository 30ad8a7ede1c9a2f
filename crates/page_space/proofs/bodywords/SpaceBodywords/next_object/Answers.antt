use Rattle.std.proofs.Common.{rules, ap, ◌∙◌, sym}
use Rattle.page_space.specs.Space.{IsSeatOf, heap_of}
use Rattle.page_space.proofs.bodywords.SpaceBodywords.next_object.Goals as goal

pub next_object-requires : goal.next_object-requires
next_object-requires c =
    let seat : IsSeatOf c.args.self.now c.args.seat.now = search rules in
    record { heap = seat ∙ ap heap_of (sym c.self.view_is) ∙ sym c.self.invariant.words ∙ sym c.deref.ensures }
