use Rattle.std.proofs.Common.{refl}
use Rattle.page_words.specs.Markers.{lent_from}
use Rattle.marking_trials.proofs.NewSeats.{lent_marking, joined_marking}
use Rattle.marking_trials.proofs.crews.step_once.Goals as goal

pub returns : goal.returns
returns c =
    joined_marking c.args.heap.now.space _ (lent_from c.args.heap.now.seat) c.step_beside.new.seat c.step_beside.ensures.step.marker
    c.step_beside.ensures.step.seat (lent_marking c.args.heap.now.space _ c.args.heap.now.seat (lent_from c.args.heap.now.seat) refl c.requires)
