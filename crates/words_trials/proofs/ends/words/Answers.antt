use Rattle.std.proofs.Common.{true, false, refl, ◌∙◌}
use Rattle.words_trials.proofs.EndSteps.{looked_ends}
use Rattle.words_trials.proofs.ends.words.Goals as goal

pub returns-clause-going : goal.returns-clause-going
returns-clause-going c =
    looked_ends c.args.space.now c.args.seat.now c.load-second.new.seat true (c.load-second.ensures.read refl ∙ c.load-first.ensures.read refl)

pub returns-clause-over : goal.returns-clause-over
returns-clause-over c =
    looked_ends c.args.space.now c.args.seat.now c.load-second.new.seat false (c.load-second.ensures.read refl ∙ c.load-first.ensures.read refl)
