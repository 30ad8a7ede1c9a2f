-- What threads are told of a heap.
use Rattle.std.specs.Prelude.{◌≡◌, ℕ, List, [], ◌∷◌, ◌++◌, map, Contains}
use Rattle.gc_graph.specs.declared.command.Command.{Command}
use Rattle.gc_graph.specs.declared.command.Command.TheVariants as C
use Rattle.gc_graph.specs.declared.line.Line.{Line}
use Rattle.gc_graph.specs.declared.line.Line.TheVariants as L
use Rattle.gc_graph.specs.Lawful.{TellsTotals}
use Rattle.gc_graph.specs.State.{State, objects_of, used_of}
use Rattle.thread_queues.specs.Queues.{posted}
use Rattle.thread_queues.specs.Totals.{Totals}
use Rattle.heap_cycle.specs.declared.parts.Parts.{Parts}
use Rattle.heap_cycle.specs.Owned.{OwnedView}
use Rattle.heap_cycle.specs.Parts.{state_of}

-- the states since threads went last, up to the one before this command: the first one is that just before they went
abbrev pub since_after : Command → State → List State → List State
since_after C.ThreadsGo before since = before ∷ []
since_after _ before since = since ++ before ∷ []

-- each line of totals tells those of one of these states
abbrev pub TellOneOf : List State → List Line → Type 0
TellOneOf states lines =
    (j o n u f : ℕ) → Contains lines (L.ReplyTotals j o n u f)
    → (s : State) × Contains states s × TellsTotals s j (L.ReplyTotals j o n u f)

-- the totals of a state
abbrev pub totals_of : State → Totals
totals_of s = record { ordinal = s.ordinal; objects = objects_of s.nodes; used = used_of s.nodes; finalised = s.finalised }

-- the totals of the state were published last, and since the threads went those of these states
pub record ArePublished (since : List State) (s : State) (region : OwnedView) : Type 0 where
  pub last : region.last ≡ totals_of s
  pub before : region.since ≡ map totals_of since

-- the parts where the totals of their state were published
abbrev pub published : Parts → Parts
published p = record p { region = record p.region { last = totals_of (state_of p); since = posted p.region.since p.region.last } }
