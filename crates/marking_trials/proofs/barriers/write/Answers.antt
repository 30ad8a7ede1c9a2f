use Rattle.std.proofs.Common.{sym, subst, List}
use Rattle.marker_core.specs.declared.states.Body.{Body}
use Rattle.marker_core.specs.Bodies.{IsPlace}
use Rattle.page_words.specs.Seat.{SeatView}
use Rattle.member_fields.specs.Words.{written}
use Rattle.marking_trials.proofs.UnderWay.{strong_field, named_kept, written_goes, written_places, barrier_goes, three_go}
use Rattle.marking_trials.proofs.barriers.write.Goals as goal

pub set-requires-clause-field : goal.set-requires-clause-field
set-requires-clause-field c = strong_field c.args.three.now.space _ _ c.args.three.now.first c.requires.three.goes c.requires.three.first

pub set-requires-clause-kept : goal.set-requires-clause-kept
set-requires-clause-kept c = named_kept c.args.three.now.space _ _ c.args.target c.requires.three.goes c.requires.target

pub returns : goal.returns
returns c =
    let v : SeatView = c.args.three.now.seat in
    three_go c.args.three.now.space v c.set.new.seat c.args.three.now.marking.on c.set.new.marking.on c.args.three.now.first c.args.three.now.second
    c.args.three.now.third c.requires.three
    (barrier_goes c.args.three.now.space c.args.target (written v c.args.three.now.first 2 c.args.target) c.args.three.now.marking c.set.new.seat
    c.set.new.marking
    (written_goes c.args.three.now.space v c.args.three.now.marking.on c.args.three.now.first 2 c.args.target c.requires.three.goes) c.set.ensures.ready
    c.set.ensures.barrier) (λ p at.
    subst (λ (bodies : List Body). IsPlace bodies p) (sym c.set.ensures.word) (written_places v c.args.three.now.first 2 c.args.target p at))
