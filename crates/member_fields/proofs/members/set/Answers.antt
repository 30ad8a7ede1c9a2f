use Rattle.std.proofs.Common.{sym, subst}
use Rattle.gc_graph.specs.declared.kind.Kind.TheVariants.{Strong}
use Rattle.type_table.specs.Types.{is_kind}
use Rattle.marker_core.specs.Bodies.{IsReference}
use Rattle.page_words.specs.Seat.{SeatView}
use Rattle.member_fields.specs.Words.{written}
use Rattle.member_fields.specs.Barrier.{HasBarrier}
use Rattle.member_fields.proofs.Barriers.{over_written, off_stays, ready_after, bodies_after}
use Rattle.member_fields.proofs.PairWords.{stored_reference}
use Rattle.member_fields.proofs.members.set.Given as given
use Rattle.member_fields.proofs.members.set.Goals as goal

pub keep-requires-clause-target : goal.keep-requires-clause-target
keep-requires-clause-target g c =
    subst (λ (v : SeatView). IsReference v.bodies c.args.target) (sym c.write.ensures.view)
    (stored_reference c.args.seat.now c.args.holder c.args.word c.args.target c.args.target c.bodies_lie_apart.ensures
    (is_kind Strong, c.requires.field) c.requires.target)

barrier :
    (g : given.Over) (c : goal.After-keep g) → HasBarrier c.args.target (written c.args.seat.now c.args.holder c.args.word c.args.target) c.args.marking.now c.keep.new.seat c.keep.new.marking
barrier g c =
    over_written c.args.seat.now c.args.holder c.args.word c.args.target c.args.marking.now c.keep.new.seat c.keep.new.marking c.bodies_lie_apart.ensures
    (is_kind Strong, c.requires.field) c.requires.ready.no_pending
    (subst (λ (v : SeatView). HasBarrier c.args.target v c.args.marking.now c.keep.new.seat c.keep.new.marking) c.write.ensures.view c.keep.ensures)

pub returns-clause-word : goal.returns-clause-word
returns-clause-word g c = bodies_after c.args.target _ c.args.marking.now c.keep.new.seat c.keep.new.marking (barrier g c)

pub returns-clause-barrier : goal.returns-clause-barrier
returns-clause-barrier g c = barrier g c

pub returns-clause-off : goal.returns-clause-off
returns-clause-off g c off = off_stays c.args.target _ c.args.marking.now c.keep.new.seat c.keep.new.marking off (barrier g c)

pub returns-clause-ready : goal.returns-clause-ready
returns-clause-ready g c =
    ready_after c.args.target _ c.args.marking.now c.keep.new.seat c.keep.new.marking
    (record { no_hand = c.requires.ready.no_hand; no_pending = c.requires.ready.no_pending }) (barrier g c)
