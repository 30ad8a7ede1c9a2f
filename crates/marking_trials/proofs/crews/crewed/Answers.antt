use Rattle.std.proofs.Common.{sym, subst}
use Rattle.mark_worklist.specs.Joining.{AreAllShares}
use Rattle.marking_trials.proofs.NewSeats.{all_back}
use Rattle.marking_trials.proofs.crews.crewed.Goals as goal

pub finish-tally-requires : goal.finish-tally-requires
finish-tally-requires g c = record {
  all = subst (AreAllShares _) (sym c.shares.ensures.given) (all_back c.args.markers _ _ _ c.in_ok-team.ensures.shares c.in_ok-told.ensures.shares);
}
