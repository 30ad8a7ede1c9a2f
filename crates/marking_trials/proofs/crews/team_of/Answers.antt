use Rattle.marking_trials.proofs.crews.team_of.Goals as goal

pub returns-clause-shares : goal.returns-clause-shares
returns-clause-shares c = record { first = c.in-Ok.list; fresh = c.in-Ok.ensures; same = c.push.ensures.same }
