use Rattle.std.proofs.Common.{rules}
use Rattle.std.specs.Prelude.{⊤}
use Rattle.persistent_slots.specs.Steady.{may_be_asked}
use Rattle.region_trials.proofs.region_calls.end_without.Goals as goal

pub pause_end-requires-clause-asks : goal.pause_end-requires-clause-asks
pause_end-requires-clause-asks c =
    may_be_asked _ _ (λ test. ⊤) (λ place. ⊤) (λ test place known fit. search rules) (λ test place answer next known s. tt) _ _ tt (λ k d l. tt)
