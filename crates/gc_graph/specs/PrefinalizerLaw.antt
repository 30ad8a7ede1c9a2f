-- The laws of prefinalizers: who is registered, which callbacks a pause runs and tells, and what each of them meets.
use Rattle.std.specs.Prelude.{◌≡◌, ◌⊎◌, ℕ, Bool, true, false, List, [], ◌∷◌, ◌++◌, map, filter, reverse, not, Contains}
use Rattle.gc_graph.specs.declared.action.ActionKind.{ActionKind}
use Rattle.gc_graph.specs.declared.command.Command.TheVariants as C
use Rattle.gc_graph.specs.declared.command.Want.{Want}
use Rattle.gc_graph.specs.declared.line.Line.{Line}
use Rattle.gc_graph.specs.declared.line.Line.TheVariants as L
use Rattle.gc_graph.specs.declared.region.Entry.{Entry}
use Rattle.gc_graph.specs.State.{Setup, State, Node, Registration, node_at, type_at, is_dead}
use Rattle.gc_graph.specs.Actions.{shown_words, action_of, acted}
use Rattle.gc_graph.specs.Pause.{clear_fields, kind_of_callback, prefinalised}
use Rattle.gc_graph.specs.WeakCalls.{weak_calls, called}
use Rattle.gc_graph.specs.Step.{Step}
use Rattle.gc_graph.specs.Valid.{IsValid}

-- ---- who is registered

-- a new object's callbacks are registered behind the others, in the order of its type's list
abbrev pub NewObjectsAreRegistered : Type 0
NewObjectsAreRegistered =
    (setup : Setup) (old new : State) (p t e n a : ℕ) (piece : List Entry) (lines : List Line)
    → Step setup old (C.New p t e) piece lines new → Contains lines (L.Placed n a)
    → new.registrations ≡ old.registrations ++ map (λ c. record { node = n; callback = c }) (type_at setup t).prefinalizers

-- ---- which callbacks run

-- the line tells that a callback ran
abbrev pub tells_prefinalizer : Line → Bool
tells_prefinalizer (L.Prefinalise n c) = true
tells_prefinalizer other = false

-- the registered node is dead
abbrev pub is_of_the_dead : List Node → Registration → Bool
is_of_the_dead nodes r = is_dead (node_at nodes r.node).life

-- the registrations of the dead, the last one first
abbrev pub last_first : List Node → List Registration → List Registration
last_first nodes registrations = reverse (filter (is_of_the_dead nodes) registrations)

-- the callbacks of those that are dead then ran, the last that was registered first; just these are told, in this order; they met
-- what weak callbacks left of the objects from before the pause, with weak fields cleared; and the other registrations stay as they
-- were
pub record RunsThoseOfTheDead (setup : Setup) (old : State) (lines : List Line) (new : State) : Type 0 where
  pub told : filter tells_prefinalizer lines ≡ map (λ r. L.Prefinalise r.node r.callback) (last_first new.nodes old.registrations)
  pub judged_nodes : List Node
  pub objects : (n : ℕ) → (node_at judged_nodes n).object ≡ (node_at old.nodes n).object
  pub lives : (n : ℕ) → (node_at new.nodes n).life ≡ (node_at judged_nodes n).life
  pub ran :
      new.nodes
      ≡ prefinalised setup.callbacks (last_first new.nodes old.registrations)
      (called setup.callbacks (weak_calls setup.types judged_nodes) (clear_fields judged_nodes))
  pub left : new.registrations ≡ filter (λ r. not (is_of_the_dead new.nodes r)) old.registrations

-- so does each pause of a valid state
abbrev pub PausesRunThoseOfTheDead : Type 0
PausesRunThoseOfTheDead =
    (setup : Setup) (old new : State) (want : Want) (piece : List Entry) (lines : List Line) (kept dead crew traced : ℕ) (walked : Bool)
    → IsValid setup old → Step setup old (C.GcFinish want) piece lines new ⊎ Step setup old (C.GcNow want) piece lines new
    → Contains lines (L.Pause kept dead crew traced walked) → RunsThoseOfTheDead setup old lines new

-- ---- what a callback meets

-- a callback acts on what those before it left, and is shown the words that they left
abbrev pub CallbacksMeetWhatIsLeft : Type 0
CallbacksMeetWhatIsLeft =
    (callbacks : List ActionKind) (earlier : List Registration) (r : Registration) (nodes : List Node)
    → prefinalised callbacks (earlier ++ r ∷ []) nodes
    ≡ acted (prefinalised callbacks earlier nodes) r.node
    (action_of (kind_of_callback callbacks r.callback) (shown_words (node_at (prefinalised callbacks earlier nodes) r.node)))
