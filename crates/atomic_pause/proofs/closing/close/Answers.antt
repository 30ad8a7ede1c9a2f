use Rattle.std.proofs.Common.{◌≡◌, length, refl, sym, ap, ◌∙◌, subst}
use Rattle.marker_core.specs.Bodies.{holds}
use Rattle.marker_core.specs.Closed.{IsClosedOver}
use Rattle.page_words.specs.Seat.{SeatView, ended}
use Rattle.page_words.specs.Roles.{kind_lists}
use Rattle.ephemerons.specs.Marking.{IsOver}
use Rattle.ephemerons.specs.Fixpoint.{IsUnrefused}
use Rattle.atomic_pause.proofs.MarkEnds.{walked_or_listed, unwalked, kept_are_counted, marks_reachable, looks_ended}
use Rattle.atomic_pause.proofs.closing.close.Goals as goal

pub fixpoint-traced-requires-clause-marking : goal.fixpoint-traced-requires-clause-marking
fixpoint-traced-requires-clause-marking c = c.requires.ready.told ∙ sym c.requires.ready.on

pub fixpoint-traced-requires-clause-listed : goal.fixpoint-traced-requires-clause-listed
fixpoint-traced-requires-clause-listed c p there = c.bodies_lie_apart.ensures.marked_are_bodies p (c.requires.ready.listed p there)

pub set_stop-requires : goal.set_stop-requires
set_stop-requires c =
    let v = c.fixpoint-traced.new.seat in
    let kept = c.fixpoint-traced.ensures.kept in
    let over : IsOver c.args.types.now v =
    c.fixpoint-traced.ensures.over
    (walked_or_listed c.args.types.now c.args.seat.now c.args.marking.now c.args.notes.now c.is_refused-walk.result c.requires.ready
    c.is_refused-walk.ensures.whole) in (
      kept.heap ∙ c.requires.heap ∙ sym (c.deref-2.ensures ∙ c.words-words.ensures),
      λ on alone. record {
        alone = c.fixpoint-traced.ensures.alone;
        traced = over.no_grey;
        closed = subst (λ ts. IsClosedOver (kind_lists ts) v.bodies (holds v.marked)) (c.requires.types ∙ sym kept.types) over.closed;
      },
    )

ends : (c : goal.After-marking-1) → c.set_stop.new.seat ≡ ended c.fixpoint-traced.new.seat
ends c =
    c.set_stop.ensures.ended refl (c.fixpoint-traced.ensures.kept.on ∙ c.requires.ready.on) c.fixpoint-traced.ensures.alone.none_lent

over : (c : goal.After-marking-1) → IsOver c.args.types.now c.fixpoint-traced.new.seat
over c =
    c.fixpoint-traced.ensures.over
    (walked_or_listed c.args.types.now c.args.seat.now c.args.marking.now c.args.notes.now c.is_refused-walk.result c.requires.ready
    c.is_refused-walk.ensures.whole)

pub returns-clause-over : goal.returns-clause-over
returns-clause-over c =
    marks_reachable c.args.types.now c.args.seat.now c.fixpoint-traced.new.seat c.set_stop.new.seat c.fixpoint-traced.ensures.kept (over c)
    c.fixpoint-traced.ensures.within (ends c)

pub returns-clause-traced : goal.returns-clause-traced
returns-clause-traced c =
    kept_are_counted c.args.types.now c.args.seat.now c.fixpoint-traced.new.seat c.set_stop.new.seat c.fixpoint-traced.result
    c.bodies_lie_apart-2.ensures c.fixpoint-traced.ensures.alone.none_lent (over c) (c.fixpoint-traced.ensures.counted c.requires.differ) (ends c)

pub returns-clause-looked : goal.returns-clause-looked
returns-clause-looked c fine =
    looks_ended c.args.types.now c.args.seat.now c.fixpoint-traced.new.seat c.set_stop.new.seat (ends c)
    (c.fixpoint-traced.ensures.looked
    (unwalked c.is_refused-walk.result (IsUnrefused c.args.marking.now.overflow c.args.notes.now) c.is_refused-walk.ensures.walked
    (c.fixpoint-traced.ensures.refused fine)) fine (record { listed = c.requires.ready.listed; noted = c.requires.ready.holders }))

pub returns-clause-early : goal.returns-clause-early
returns-clause-early c = ap (λ (v : SeatView). v.early) (ends c) ∙ sym (ap (λ (v : SeatView). length v.looked) (ends c))
