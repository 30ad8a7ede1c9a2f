use Rattle.std.proofs.Common.{◌≡◌, MatchOption}
use Rattle.mark_worklist.specs.Shares.{IsSameShare, put_of, taken_by_share}
use Rattle.marker_crew.specs.Drains.{IsIdle, IsOneTaken}
use Rattle.marker_crew.specs.Stages.{MarkerOnlyLooks}
use Rattle.marker_crew.proofs.taking.await_item.Given as goal

abbrev pub invariant-loop-look : goal.invariant-loop-look
invariant-loop-look l = record {
  taken : MatchOption l.found ((taken_by_share l.share ≡ taken_by_share l.fn.share) × IsIdle l.share) (λ a. IsOneTaken l.fn.share a l.share);
  lists : IsSameShare l.fn.share l.share;
  put : put_of l.share ≡ put_of l.fn.share;
  refused : l.share.refused ≡ l.fn.share.refused;
  looks : MarkerOnlyLooks l.fn.seat l.seat;
  hand : l.seat.hand ≡ l.fn.seat.hand;
}
