use Rattle.marking_trials.proofs.NewSeats.{lent_marking, joined_marking}
use Rattle.marking_trials.proofs.draining.drained_once.Goals as goal

pub returns : goal.returns
returns c =
    joined_marking c.args.heap.now.space _ c.split-marker.new.seat c.join.new.seat c.drain-told.new.seat c.join.ensures.view
    (lent_marking c.args.heap.now.space _ c.args.heap.now.seat c.split-marker.new.seat c.split-marker.ensures.view c.requires)
