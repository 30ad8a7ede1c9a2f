-- The law of the history of a lawful run: it is what the run tells of it, and it gives the slots of the region.
use Rattle.std.specs.Prelude.{◌≡◌, List, ◌++◌}
use Rattle.std.specs.List.{flat_map}
use Rattle.gc_graph.specs.declared.command.Command.{Command}
use Rattle.gc_graph.specs.declared.region.Entry.{Entry}
use Rattle.gc_graph.specs.State.{Setup, empty_state}
use Rattle.gc_graph.specs.History.{IsLegal, replay}
use Rattle.gc_graph.specs.Lawful.{Outcome, last_state, IsLawful}
use Rattle.gc_graph.specs.JoinLaw.{entries_in}

-- the history is the entries that were told, in order, and then those that were not told yet; each reply of it is the one that a
-- region of one thread gives, and after it the slots of the region are those of the last state
pub record IsHistoryOf (outcomes : List Outcome) (history : List Entry) : Type 0 where
  pub told : history ≡ flat_map (λ (o : Outcome). entries_in o.lines) outcomes ++ (last_state empty_state outcomes).unprinted
  pub legal : IsLegal history
  pub slots : replay history ≡ (last_state empty_state outcomes).region

-- so is that of each lawful run
abbrev pub LawfulHistoryIsTold : Type 0
LawfulHistoryIsTold =
    (setup : Setup) (commands : List Command) (outcomes : List Outcome) (history : List Entry) → IsLawful setup commands outcomes history
    → IsHistoryOf outcomes history
