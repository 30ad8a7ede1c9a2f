use Rattle.std.specs.Prelude.{◌≡◌}
use Rattle.region_trials.proofs.published_totals.read_all.Given as goal

abbrev pub invariant-loop : goal.invariant-loop
invariant-loop g l =
    (l.pass.board ≡ l.fn.board) × (l.teller.board ≡ l.fn.echo) × (l.teller.last.ordinal ≡ l.told.last)
