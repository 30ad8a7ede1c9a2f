-- The sections of threads among the commands of a script: orders are queued, threads go, and are joined.
use Rattle.std.specs.Prelude.{◌≡◌, Bool, true, false, List, [], ◌∷◌, ⊤}
use Rattle.gc_graph.specs.declared.command.Command.{Command}
use Rattle.gc_graph.specs.declared.command.Command.TheVariants as C

-- whether a join is awaited after a command
abbrev pub awaiting_after : Bool → Command → Bool
awaiting_after awaiting C.ThreadsGo = true
awaiting_after awaiting C.ThreadsJoin = false
awaiting_after awaiting _ = awaiting

-- an order and a start of threads stand where no join is awaited, and a join where one is
abbrev pub IsInSection : Bool → Command → Type 0
IsInSection awaiting (C.At j order) = awaiting ≡ false
IsInSection awaiting C.ThreadsGo = awaiting ≡ false
IsInSection awaiting C.ThreadsJoin = awaiting ≡ true
IsInSection awaiting _ = ⊤

-- so does each command, and no join is awaited at the end
abbrev pub AreInSections : Bool → List Command → Type 0
AreInSections awaiting [] = awaiting ≡ false
AreInSections awaiting (command ∷ commands) = IsInSection awaiting command × AreInSections (awaiting_after awaiting command) commands
