-- The commands of the collection cycle: start, step, pause and sweep (`include/cppgc/heap.h`, `include/cppgc/README.md`).
use Rattle.std.specs.Prelude.{◌≡◌, ◌⊎◌, ℕ, ◌+◌, ◌≤◌, min, nat_lt, Bool, true, false, List, [], ◌∷◌, ◌++◌, length}
use Rattle.gc_graph.specs.declared.command.Want.{Want}
use Rattle.gc_graph.specs.declared.command.Want.TheVariants.{Precise, Conservative}
use Rattle.gc_graph.specs.declared.line.Line.{Line}
use Rattle.gc_graph.specs.declared.line.Line.TheVariants as L
use Rattle.gc_graph.specs.declared.line.Refusal.TheVariants as R
use Rattle.gc_graph.specs.declared.phase.Phase.{Phase}
use Rattle.gc_graph.specs.declared.phase.Phase.TheVariants.{Idle, Marking, Sweeping}
use Rattle.gc_graph.specs.declared.region.Entry.{Entry}
use Rattle.gc_graph.specs.declared.region.Op.TheVariants as O
use Rattle.gc_graph.specs.State.{Setup, State, Node, StackWord, objects_of, used_of}
use Rattle.gc_graph.specs.May.{marking, hits_for}
use Rattle.gc_graph.specs.Placement.{extents_of, IsUsedPages}
use Rattle.gc_graph.specs.Pause.{IsKept, condemn, live_count, dead_count, run_order}
use Rattle.gc_graph.specs.WeakCalls.{weak_calls}
use Rattle.gc_graph.specs.Paused.{entry_of_pause, paused, callback_lines}
use Rattle.gc_graph.specs.Sweep.{SweepsTo, SweepsToEnd}
use Rattle.gc_graph.specs.History.{IsLegalFrom}
use Rattle.gc_graph.specs.Outcomes.{answered, IsRefused, RefusedIf, RefusedUnless, IsMemory, finalise_lines, took, AreOthers, owner_entry}

-- ---- the start

-- the start entry was made, and marking goes on; others may have made entries before it
pub record IsStart (setup : Setup) (swept : State) (piece : List Entry) (new : State) : Type 0 where
  pub before : List Entry
  pub others : AreOthers swept before
  pub piece_is : piece ≡ before ++ owner_entry (took swept before) O.Start ∷ []
  pub legal : IsLegalFrom swept.region false piece
  pub after : new ≡ marking (took swept piece)

-- a collection begins: an open sweep is ended, and then it starts
pub record IsBegun (setup : Setup) (old : State) (piece : List Entry) (lines : List Line) (new : State) : Type 0 where
  pub numbers : List ℕ
  pub swept : State
  pub ended : SweepsToEnd setup.shape old numbers swept
  pub started : State
  pub start : IsStart setup swept piece started
  pub lines_are : lines ≡ finalise_lines numbers ++ L.Started ∷ []
  pub after : new ≡ answered started

-- whether marking goes on
abbrev pub is_marking : Phase → Bool
is_marking Idle = false
is_marking Marking = true
is_marking Sweeping = false

-- whether a sweep is open
abbrev pub is_sweeping : Phase → Bool
is_sweeping Idle = false
is_sweeping Marking = false
is_sweeping Sweeping = true

-- memory was wanting, and nothing was taken of the history
abbrev pub WantsMemory : State → List Entry → List Line → State → Type 0
WantsMemory old piece lines new = (piece ≡ []) × IsMemory old lines new

-- gc start: refused while marking goes on
abbrev pub StepGcStart : Setup → State → List Entry → List Line → State → Type 0
StepGcStart setup old piece lines new =
    RefusedIf (is_marking old.phase) ((piece ≡ []) × IsRefused R.Phase old lines new)
    (WantsMemory old piece lines new ⊎ IsBegun setup old piece lines new)

-- ---- a step

-- so many objects were traced: fewer than were asked for where there were no more to be found
pub record IsTraced (old : State) (n : ℕ) (lines : List Line) (new : State) : Type 0 where
  pub count : ℕ
  pub most : count ≤ n
  pub lines_are : lines ≡ L.Step count (nat_lt count n) ∷ []
  pub after : new ≡ answered (record old { traced = old.traced + count })

-- gc step: refused while no marking goes on
abbrev pub StepGcStep : State → ℕ → List Line → State → Type 0
StepGcStep old n lines new = RefusedUnless (is_marking old.phase) (IsRefused R.Phase old lines new) (IsTraced old n lines new)

-- ---- the pause

-- the crew's share is nothing where there are no markers
abbrev pub HasCrew : ℕ → ℕ → Type 0
HasCrew markers crew = markers ≡ 0 → crew ≡ 0

-- a pause at which so many markers run, from the state just before its entry and the nodes after judgement: each kept object
-- was traced once in the cycle
pub record IsPauseAt
    (setup : Setup) (markers : ℕ) (want : Want) (ready : State) (kept : List Bool) (judged_nodes : List Node) (lines : List Line) (new : State)
    : Type 0 where
  pub keeps : IsKept ready (hits_for want ready) kept
  pub crew : ℕ
  pub traced : ℕ
  pub walked : Bool
  pub crew_is : HasCrew markers crew
  pub counted : ready.traced + crew + traced ≡ live_count judged_nodes
  pub lines_are :
      lines
      ≡ L.Pause (live_count judged_nodes) (dead_count judged_nodes) crew traced walked
      ∷ callback_lines (weak_calls setup.types judged_nodes) (run_order judged_nodes ready.registrations)
  pub after : new ≡ paused setup ready judged_nodes

-- a pause of a collection that was started: others may make entries before its own, and then a set is kept and the other live
-- nodes are condemned
pub record IsPause (setup : Setup) (markers : ℕ) (want : Want) (old : State) (piece : List Entry) (lines : List Line) (new : State) : Type 0 where
  pub before : List Entry
  pub others : AreOthers old before
  pub kept : List Bool
  pub done : IsPauseAt setup markers want (took old before) kept (condemn kept (took old before).nodes) lines new
  pub piece_is : piece ≡ before ++ entry_of_pause (took old before) (condemn kept (took old before).nodes) ∷ []
  pub legal : IsLegalFrom old.region true piece

-- a precise pause wants an empty stack
abbrev pub is_stack_refused : Want → List StackWord → Bool
is_stack_refused Precise stack = nat_lt 0 (length stack)
is_stack_refused Conservative stack = false

-- the pause of a collection that was started, with its markers
abbrev pub IsFinished : Setup → Want → State → List Entry → List Line → State → Type 0
IsFinished setup want old piece lines new =
    (after : State) × IsPause setup setup.markers want old piece lines after × (new ≡ answered after)

-- gc finish: refused while no marking goes on, then where a precise pause finds words on the stack
abbrev pub StepGcFinish : Setup → Want → State → List Entry → List Line → State → Type 0
StepGcFinish setup want old piece lines new =
    RefusedUnless (is_marking old.phase) ((piece ≡ []) × IsRefused R.Phase old lines new)
    (RefusedIf (is_stack_refused want old.stack) ((piece ≡ []) × IsRefused R.Stack old lines new)
    (IsFinished setup want old piece lines new))

-- a whole collection: an unfinished sweep is ended, and then come start and pause, with no crew
pub record IsCollection (setup : Setup) (want : Want) (old : State) (piece : List Entry) (lines : List Line) (new : State) : Type 0 where
  pub numbers : List ℕ
  pub swept : State
  pub ended : SweepsToEnd setup.shape old numbers swept
  pub first : List Entry
  pub started : State
  pub start : IsStart setup swept first started
  pub second : List Entry
  pub pause_lines : List Line
  pub paused : State
  pub pause : IsPause setup 0 want started second pause_lines paused
  pub piece_is : piece ≡ first ++ second
  pub lines_are : lines ≡ finalise_lines numbers ++ pause_lines
  pub after : new ≡ answered paused

-- gc now: refused while marking goes on, then where a precise pause finds words on the stack
abbrev pub StepGcNow : Setup → Want → State → List Entry → List Line → State → Type 0
StepGcNow setup want old piece lines new =
    RefusedIf (is_marking old.phase) ((piece ≡ []) × IsRefused R.Phase old lines new)
    (RefusedIf (is_stack_refused want old.stack) ((piece ≡ []) × IsRefused R.Stack old lines new)
    (WantsMemory old piece lines new ⊎ IsCollection setup want old piece lines new))

-- ---- sweeps

-- the sweep went on until the first so many pages are swept
pub record HasSwept (setup : Setup) (old : State) (pages : ℕ) (lines : List Line) (new : State) : Type 0 where
  pub numbers : List ℕ
  pub swept : State
  pub goes : SweepsTo setup.shape old pages numbers swept
  pub lines_are : lines ≡ finalise_lines numbers ++ L.Swept pages ∷ []
  pub after : new ≡ answered swept

-- refused while no sweep is open
abbrev pub StepSweepTo : Setup → State → ℕ → List Line → State → Type 0
StepSweepTo setup old pages lines new =
    RefusedUnless (is_sweeping old.phase) (IsRefused R.Phase old lines new) (HasSwept setup old pages lines new)

-- sweep n: n pages more, or those that are left
abbrev pub StepSweep : Setup → State → ℕ → List Line → State → Type 0
StepSweep setup old n lines new = StepSweepTo setup old (min (old.cursor + n) setup.shape.pages) lines new

-- sweep all: all pages
abbrev pub StepSweepAll : Setup → State → List Line → State → Type 0
StepSweepAll setup old lines new = StepSweepTo setup old setup.shape.pages lines new

-- stat: the objects that are not finalised, their words, and the pages that hold one
abbrev pub StepStat : Setup → State → List Line → State → Type 0
StepStat setup old lines new =
    (pages : ℕ) × IsUsedPages setup.shape (extents_of old.nodes) pages
    × (lines ≡ L.Objects (objects_of old.nodes) (used_of old.nodes) pages ∷ []) × (new ≡ answered old)
