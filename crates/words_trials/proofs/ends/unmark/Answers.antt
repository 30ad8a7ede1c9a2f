use Rattle.words_trials.proofs.EndSteps.{end_place, unmarked_ends}
use Rattle.words_trials.proofs.ends.unmark.Goals as goal

pub unmark-requires-clause-place : goal.unmark-requires-clause-place
unmark-requires-clause-place c = end_place c.args.seat.now 5 9 c.args.place c.requires.ends.4 c.requires.place

pub returns : goal.returns
returns c = record { ends = unmarked_ends c.args.space.now c.args.seat.now c.unmark.new.seat c.args.place c.requires.ends c.unmark.ensures }
