use Rattle.std.proofs.Common.{sym, subst, List}
use Rattle.marker_core.specs.declared.states.Body.{Body}
use Rattle.marker_core.specs.Bodies.{IsPlace}
use Rattle.page_words.specs.Seat.{SeatView}
use Rattle.member_fields.specs.Words.{written, pair_written}
use Rattle.marking_trials.proofs.UnderWay.{pair_field, named_kept, reference_is, written_goes, written_places, barrier_goes, three_go}
use Rattle.marking_trials.proofs.barriers.write_pair.Goals as goal

pub set_pair-requires-clause-pair : goal.set_pair-requires-clause-pair
set_pair-requires-clause-pair c = pair_field c.args.three.now.space _ _ c.args.three.now.first c.requires.goes c.requires.first

pub set_pair-requires-clause-key : goal.set_pair-requires-clause-key
set_pair-requires-clause-key c =
    reference_is c.args.three.now.seat c.args.three.now.second c.reference_to-key.result c.requires.second c.reference_to-key.ensures

pub set_pair-requires-clause-value : goal.set_pair-requires-clause-value
set_pair-requires-clause-value c =
    reference_is c.args.three.now.seat c.args.three.now.third c.reference_to-value.result c.requires.third c.reference_to-value.ensures

pub set_pair-requires-clause-key_kept : goal.set_pair-requires-clause-key_kept
set_pair-requires-clause-key_kept c =
    named_kept c.args.three.now.space _ _ c.reference_to-key.result c.requires.goes
    (reference_is c.args.three.now.seat c.args.three.now.second c.reference_to-key.result c.requires.second c.reference_to-key.ensures)

pub set_pair-requires-clause-value_kept : goal.set_pair-requires-clause-value_kept
set_pair-requires-clause-value_kept c =
    named_kept c.args.three.now.space _ _ c.reference_to-value.result c.requires.goes
    (reference_is c.args.three.now.seat c.args.three.now.third c.reference_to-value.result c.requires.third c.reference_to-value.ensures)

pub returns : goal.returns
returns c =
    let v : SeatView = c.args.three.now.seat in
    let key = c.reference_to-key.result in
    let value = c.reference_to-value.result in
    let mid : SeatView = written v c.args.three.now.first 4 value in
    three_go c.args.three.now.space v c.set_pair.new.seat c.args.three.now.marking.on c.set_pair.new.marking.on c.args.three.now.first
    c.args.three.now.second c.args.three.now.third c.requires
    (barrier_goes c.args.three.now.space value (pair_written v c.args.three.now.first 3 key value) c.args.three.now.marking c.set_pair.new.seat
    c.set_pair.new.marking
    (written_goes c.args.three.now.space mid c.args.three.now.marking.on c.args.three.now.first 3 key
    (written_goes c.args.three.now.space v c.args.three.now.marking.on c.args.three.now.first 4 value c.requires.goes)) c.set_pair.ensures.ready
    c.set_pair.ensures.barrier) (λ p at.
    subst (λ (bodies : List Body). IsPlace bodies p) (sym c.set_pair.ensures.words)
    (written_places mid c.args.three.now.first 3 key p (written_places v c.args.three.now.first 4 value p at)))
