use Rattle.words_trials.proofs.EndSteps.{ended_ends}
use Rattle.std.proofs.Common.{refl}
use Rattle.words_trials.proofs.ends.end.Goals as goal

pub returns : goal.returns
returns c = record {
  ends = ended_ends c.args.space.now c.args.seat.now c.set_stop.new.seat c.requires.ends (c.set_stop.ensures.ended refl c.requires.ends.3 c.requires.ends.8);
}
