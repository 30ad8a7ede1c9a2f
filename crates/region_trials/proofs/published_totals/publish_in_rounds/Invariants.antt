use Rattle.std.specs.Prelude.{◌≡◌, ◌≤◌, ◌*◌}
use Rattle.region_trials.proofs.published_totals.publish_in_rounds.Given as goal

abbrev pub invariant-loop-round : goal.invariant-loop-round
invariant-loop-round g l =
    (l.publisher.board ≡ l.fn.board) × (l.publisher.last.ordinal ≤ l.round * 200)
    × (l.one.board ≡ l.fn.echoes.0.now) × (l.two.board ≡ l.fn.echoes.1.now)
