use Rattle.std.proofs.Common.{◌≡◌, ◌+◌, ℕ, sym, ap, ◌∙◌, subst}
use Rattle.marker_core.specs.Bodies.{IsPlace}
use Rattle.page_words.specs.Seat.{SeatView}
use Rattle.ephemerons.specs.BodyGraph.{PlacesDiffer}
use Rattle.ephemerons.specs.Marking.{traced_count}
use Rattle.ephemerons.specs.Fixpoint.{Mode}
use Rattle.atomic_pause.proofs.MayMarks.{roots_mode, roots_ready}
use Rattle.atomic_pause.proofs.MarkedOut.{looked_out}
use Rattle.atomic_pause.proofs.PausedNodes.{roots_marked, traced_so_far}
use Rattle.atomic_pause.proofs.marking.mark_out.Goals as goal

pub visit_slots-requires-clause-marking : goal.visit_slots-requires-clause-marking
visit_slots-requires-clause-marking c = c.requires.ready.told ∙ sym c.requires.ready.on

pub visit_region-requires-clause-marking : goal.visit_region-requires-clause-marking
visit_region-requires-clause-marking c =
    ap (λ (o : Mode). o.on) c.visit_slots.ensures.marks.mode ∙ c.requires.ready.told
    ∙ sym (ap (λ (z : SeatView). z.on) c.visit_slots.ensures.marks.view ∙ c.requires.ready.on)

pub visit_region-requires-clause-alone : goal.visit_region-requires-clause-alone
visit_region-requires-clause-alone c = ap (λ (z : SeatView). z.lent) c.visit_slots.ensures.marks.view ∙ c.requires.ready.alone.none_lent

pub visit_region-requires-clause-places : goal.visit_region-requires-clause-places
visit_region-requires-clause-places c = λ x p is.
    subst (λ bs. IsPlace bs p) (sym (ap (λ (z : SeatView). z.bodies) c.visit_slots.ensures.marks.view)) (c.requires.shared x p is)

pub scan_stack-requires-clause-marking : goal.scan_stack-requires-clause-marking
scan_stack-requires-clause-marking c =
    ap (λ (o : Mode). o.on) c.visit_region.ensures.marks.mode ∙ ap (λ (o : Mode). o.on) c.visit_slots.ensures.marks.mode ∙ c.requires.ready.told
    ∙ sym (ap (λ (z : SeatView). z.on) c.visit_region.ensures.marks.view ∙ ap (λ (z : SeatView). z.on) c.visit_slots.ensures.marks.view ∙ c.requires.ready.on)

pub scan_stack-requires-clause-alone : goal.scan_stack-requires-clause-alone
scan_stack-requires-clause-alone c =
    ap (λ (z : SeatView). z.lent) c.visit_region.ensures.marks.view ∙ ap (λ (z : SeatView). z.lent) c.visit_slots.ensures.marks.view
    ∙ c.requires.ready.alone.none_lent

pub close-requires-clause-ready : goal.close-requires-clause-ready
close-requires-clause-ready c =
    roots_ready c.args.types.now c.args.seat.now c.visit_slots.new.seat c.visit_region.new.seat c.scan_stack.new.seat c.args.marking.now
    c.visit_slots.new.marking c.visit_region.new.marking c.scan_stack.new.marking c.args.notes.now c.visit_slots.ensures.marks
    c.visit_region.ensures.marks c.scan_stack.ensures.marks c.requires.ready

pub close-requires-clause-types : goal.close-requires-clause-types
close-requires-clause-types c =
    c.requires.types
    ∙ sym
    (ap (λ (z : SeatView). z.types) c.scan_stack.ensures.marks.view ∙ ap (λ (z : SeatView). z.types) c.visit_region.ensures.marks.view
    ∙ ap (λ (z : SeatView). z.types) c.visit_slots.ensures.marks.view)

pub close-requires-clause-differ : goal.close-requires-clause-differ
close-requires-clause-differ c =
    subst PlacesDiffer
    (sym
    (ap (λ (z : SeatView). z.bodies) c.scan_stack.ensures.marks.view ∙ ap (λ (z : SeatView). z.bodies) c.visit_region.ensures.marks.view
    ∙ ap (λ (z : SeatView). z.bodies) c.visit_slots.ensures.marks.view)) c.requires.differ

pub returns-clause-over : goal.returns-clause-over
returns-clause-over c =
    roots_marked c.args.types.now c.args.strong.now c.args.held.now.history c.args.precise c.args.stack.now c.args.seat.now c.visit_slots.new.seat
    c.visit_region.new.seat c.scan_stack.new.seat c.close.new.seat c.args.marking.now c.visit_slots.new.marking c.visit_region.new.marking
    c.scan_stack.new.marking c.bodies_lie_apart.ensures c.requires.ready.on c.requires.may c.visit_slots.ensures.marks c.visit_slots.ensures.roots
    c.visit_slots.ensures.only c.visit_region.ensures.marks c.visit_region.ensures.roots c.visit_region.ensures.only c.scan_stack.ensures.marks
    c.scan_stack.ensures.roots c.scan_stack.ensures.only c.close.ensures.over

pub returns-clause-traced : goal.returns-clause-traced
returns-clause-traced c =
    let before : traced_count c.scan_stack.new.seat ≡ traced_count c.args.seat.now =
    traced_so_far c.args.seat.now c.visit_slots.new.seat c.visit_region.new.seat c.scan_stack.new.seat c.args.marking.now c.visit_slots.new.marking
    c.visit_region.new.marking c.scan_stack.new.marking c.visit_slots.ensures.marks c.visit_region.ensures.marks c.scan_stack.ensures.marks in
    ap (λ (n : ℕ). n + c.close.result) (sym before) ∙ c.close.ensures.traced

pub returns-clause-shares : goal.returns-clause-shares
returns-clause-shares c =
    c.close.ensures.shares
    ∙ ap (λ (o : Mode). o.shares) (roots_mode c.args.seat.now c.visit_slots.new.seat c.visit_region.new.seat c.scan_stack.new.seat c.args.marking.now
    c.visit_slots.new.marking c.visit_region.new.marking c.scan_stack.new.marking c.visit_slots.ensures.marks c.visit_region.ensures.marks c.scan_stack.ensures.marks)

pub returns-clause-looked : goal.returns-clause-looked
returns-clause-looked c precise fine =
    looked_out c.args.types.now c.args.held.now.history c.args.seat.now c.visit_slots.new.seat c.visit_region.new.seat c.scan_stack.new.seat c.close.new.seat
    c.visit_slots.ensures.looked c.visit_region.ensures.looked (c.scan_stack.ensures.looked precise) c.visit_region.ensures.roots
    c.scan_stack.ensures.marks.marked c.close.ensures.over.roots
    (c.close.ensures.looked fine)
