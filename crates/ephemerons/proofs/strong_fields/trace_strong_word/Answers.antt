use Rattle.std.proofs.Common.{◌≡◌, true, sym, subst}
use Rattle.marker_core.specs.Bodies.{holds}
use Rattle.marker_core.specs.declared.states.Part.TheVariants.{Read}
use Rattle.pair_notes.specs.FieldWords.{strong_word_there, strong_in_hand, at_strong}
use Rattle.ephemerons.proofs.Graph.{strong_within}
use Rattle.ephemerons.proofs.strong_fields.trace_strong_word.Goals as goal

pub trace_target-requires-clause-field : goal.trace_target-requires-clause-field
trace_target-requires-clause-field g c =
    strong_word_there c.args.seat.now c.args.holder c.args.offset c.bodies_lie_apart.ensures
    (strong_in_hand c.args.seat.now c.args.holder c.args.offset Read c.requires.hand)

pub trace_target-requires-clause-hand : goal.trace_target-requires-clause-hand
trace_target-requires-clause-hand g c = at_strong c.args.seat.now c.args.holder c.args.offset c.requires.hand

pub returns-clause-within : goal.returns-clause-within
returns-clause-within g c =
    let at = c.requires.hand in
    strong_within c.args.seat.now.types c.args.seat.now c.args.seat.now c.trace_target.new.seat at.body c.args.offset at.there
    (subst (λ p. holds c.args.seat.now.marked p ≡ true) (sym at.place_is) c.requires.marked) at.among (λ test closed held p marked. held p marked)
    (λ p marked. c.trace_target.ensures.only at.body p at.there at.place_is marked)
