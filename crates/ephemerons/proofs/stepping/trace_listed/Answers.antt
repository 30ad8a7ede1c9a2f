use Rattle.std.proofs.Common.{sym}
use Rattle.ephemerons.proofs.UnderWaySteps.{step_ground}
use Rattle.ephemerons.proofs.stepping.trace_listed.Goals as goal

pub step_with_notes-requires-clause-ground : goal.step_with_notes-requires-clause-ground
step_with_notes-requires-clause-ground g c =
    step_ground c.args.types.now c.args.seat.now c.args.marking.now c.args.notes.now c.bodies_lie_apart.ensures (sym c.requires.types) c.requires.alone
    c.requires.whole c.requires.objects c.requires.under_way

pub step_pairless-requires-clause-ground : goal.step_pairless-requires-clause-ground
step_pairless-requires-clause-ground g c =
    step_ground c.args.types.now c.args.seat.now c.args.marking.now c.args.notes.now c.bodies_lie_apart.ensures (sym c.requires.types) c.requires.alone
    c.requires.whole c.requires.objects c.requires.under_way

pub returns-then-has_pairs-clause-notes_told : goal.returns-then-has_pairs-clause-notes_told
returns-then-has_pairs-clause-notes_told g c = c.step_with_notes.ensures.works.notes_told 0
