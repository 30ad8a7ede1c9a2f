-- What a command does to a heap.
use Rattle.std.specs.Prelude.{◌≡◌, ◌⊎◌, ℕ, ◌+◌, ◌-◌, ◌^◌, ◌<◌, ◌≤◌, ◌++◌, true, false, List, [], ◌∷◌, length, Contains}
use Rattle.gc_graph.specs.declared.command.Command.{Command}
use Rattle.gc_graph.specs.declared.command.Command.TheVariants as C
use Rattle.gc_graph.specs.declared.line.Line.TheVariants as L
use Rattle.gc_graph.specs.declared.phase.Phase.TheVariants.{Marking}
use Rattle.gc_graph.specs.Graph.{IsWithin}
use Rattle.gc_graph.specs.Lawful.{TotalsNeverFall}
use Rattle.gc_graph.specs.Reach.{HoldsAll}
use Rattle.gc_graph.specs.State.{Node, slot_targets, strong_region_targets}
use Rattle.gc_graph.specs.Step.{Step}
use Rattle.heap_cycle.specs.Pages.{word_count}
use Rattle.heap_cycle.specs.Cycles.{HasNoRefusedNote, HasNoRefusedPush}
use Rattle.heap_cycle.specs.Nodes.{most_nodes}
use Rattle.heap_cycle.specs.Notes.{note_of}
use Rattle.heap_cycle.specs.Walks.{IsWalkToldIn}
use Rattle.heap_engine.specs.Going.{TellOneOf, since_after, totals_of}
use Rattle.heap_engine.specs.View.{Items, View}

-- where the command makes an object, a number is left for it
abbrev pub HasNumber : List Node → Command → Type 0
HasNumber nodes command = (p t e : ℕ) → command ≡ C.New p t e → length nodes < most_nodes

-- a step that is done: without markers each marked node is traced, unless a push was refused in the cycle; and beside markers the
-- owner's last pop and steal found nothing, or it took so many items that it was ended
pub record IsStepDone (old new : View) : Type 0 where
  pub alone : old.setup.markers ≡ 0 → HasNoRefusedPush new.refusals → IsWithin new.marked new.traced
  pub beside : 0 < old.setup.markers → (new.idle ≡ true) ⊎ (length new.items.taken ≡ length old.items.taken + (2 ^ 32 - 1))

-- an item is dealt with in a heap of so many words: the owner claimed the object there, or found it traced, or noted the place, where it
-- found no marked object or which is none of the heap
abbrev pub IsDealtWith : Items → ℕ → ℕ → Type 0
IsDealtWith items words p =
    Contains items.claimed p ⊎ (Contains items.found p ⊎ (Contains items.notes (note_of p 0) × (Contains items.missed p ⊎ (words ≤ p))))

-- the command is a step to the new state, which takes this piece of the region's history and tells these lines, so many; one command
-- more is counted, the piece follows the history, the totals of the new state are published, and the heap isn't closed; no pass is out where no join is awaited; each totals that a
-- join tells are those of one state since the threads went, and those of one thread never get older; a pause line tells truly whether
-- the heap was walked; where a cycle was started, what the strong slots name is marked, those of the region among them; while marking
-- goes on a seat is lent for each of the heap's markers, and each item that the owner took beside them is dealt with unless a note was
-- refused; a step keeps those that were taken before, and tells truly that it is done
pub record IsActed (old new : View) (command : Command) (lines : ℕ) : Type 0 where
  pub step : Step old.setup old.state command new.piece new.lines new.state
  pub count : lines ≡ length new.lines
  pub ordinal : new.state.ordinal ≡ old.state.ordinal + 1
  pub history : new.history ≡ old.history ++ new.piece
  pub out : new.state.awaiting ≡ false → new.out ≡ []
  pub since : new.since ≡ since_after command old.state old.since
  pub published : new.published ≡ totals_of new.state
  pub totals : command ≡ C.ThreadsJoin → TellOneOf new.since new.lines
  pub fall : command ≡ C.ThreadsJoin → TotalsNeverFall new.lines
  pub setup : new.setup ≡ old.setup
  pub closed : new.closed ≡ false
  pub walked : IsWalkToldIn old.state.phase old.refusals new.refusals new.lines
  pub started :
      Contains new.lines L.Started → HoldsAll new.marked (slot_targets new.state.slots ++ strong_region_targets new.state.region)
  pub lent : new.state.phase ≡ Marking → new.lent ≡ new.setup.markers
  pub items :
      new.state.phase ≡ Marking → 0 < new.setup.markers → HasNoRefusedNote new.refusals → (p : ℕ) → Contains new.items.taken p
      → IsDealtWith new.items (word_count new.setup.shape) p
  pub took : (n : ℕ) → command ≡ C.GcStep n → old.state.phase ≡ Marking → 0 < old.setup.markers → (p : ℕ) → Contains old.items.taken p → Contains new.items.taken p
  pub done : (t : ℕ) → new.lines ≡ L.Step t true ∷ [] → IsStepDone old new
