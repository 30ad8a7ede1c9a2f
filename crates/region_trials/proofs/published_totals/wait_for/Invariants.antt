use Rattle.std.specs.Prelude.{◌≡◌}
use Rattle.region_trials.proofs.published_totals.wait_for.Given as goal

abbrev pub invariant-loop : goal.invariant-loop
invariant-loop g l = l.pass.board ≡ l.fn.echo
