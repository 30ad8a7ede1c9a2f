-- The law of when a command is refused: for the first reason that it has, and only where it has one.
use Rattle.std.specs.Prelude.{◌≡◌, ◌↔◌, ℕ, ◌<◌, List, [], ◌∷◌}
use Rattle.gc_graph.specs.declared.command.Command.{Command}
use Rattle.gc_graph.specs.declared.line.Line.{Line}
use Rattle.gc_graph.specs.declared.line.Line.TheVariants as L
use Rattle.gc_graph.specs.declared.line.Refusal.{Refusal}
use Rattle.gc_graph.specs.declared.line.Refusal.TheVariants as R
use Rattle.gc_graph.specs.declared.region.Entry.{Entry}
use Rattle.gc_graph.specs.State.{Setup, State}
use Rattle.gc_graph.specs.Step.{Step}
use Rattle.gc_graph.specs.Commands.{HasReason}

-- ---- the law

-- the order in which reasons are told
abbrev pub rank : Refusal → ℕ
rank R.Phase = 0
rank R.Null = 1
rank R.Field = 2
rank R.Kind = 3
rank R.Stack = 4
rank R.Empty = 5

-- the command has this reason, and none before it
abbrev pub IsFirstReason : State → Command → Refusal → Type 0
IsFirstReason s command why = HasReason s command why × ((other : Refusal) → rank other < rank why → HasReason s command other → ⊥)

-- a step is a refusal just where its command has a reason, and tells the first
abbrev pub RefusedForTheFirstReason : Type 0
RefusedForTheFirstReason =
    (setup : Setup) (old new : State) (command : Command) (piece : List Entry) (lines : List Line) (why : Refusal)
    → Step setup old command piece lines new → (lines ≡ L.Refused why ∷ []) ↔ IsFirstReason old command why
