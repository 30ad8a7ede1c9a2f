-- The families of commands, and the frame of each: which parts of the state its commands may change, what they take of the
-- region's history, and the shape of their lines.
use Rattle.std.specs.Prelude.{◌≡◌, ◌⊎◌, ℕ, ◌+◌, ◌||◌, Bool, true, List, [], ◌∷◌, ◌++◌, All}
use Rattle.gc_graph.specs.declared.command.Command.{Command}
use Rattle.gc_graph.specs.declared.line.Line.{Line}
use Rattle.gc_graph.specs.declared.region.Entry.{Entry}
use Rattle.gc_graph.specs.State.{Setup, State, Registration}
use Rattle.gc_graph.specs.WeakCalls.{WeakCall}
use Rattle.gc_graph.specs.Paused.{callback_lines}
use Rattle.gc_graph.specs.CycleSteps.{is_marking}
use Rattle.gc_graph.specs.History.{replayed}
use Rattle.gc_graph.specs.Outcomes.{finalise_lines, IsThreadOp, AreOthers}
use Rattle.gc_graph.specs.CountsLaw.{tells_pause}
use Rattle.gc_graph.specs.LineKinds.{tells_that_nothing_was_done, tells_node, tells_ok, tells_place, tells_word, tells_start, tells_step, tells_sweep, tells_objects, tells_queued, tells_going}
use Rattle.gc_graph.specs.Step.{Step}
use Rattle.gc_graph.specs.Commands.{Family, family_of}
use Rattle.gc_graph.specs.Commands.Family.{Objects, Fields, Pairs, Slots, Stack, Cycle, Sweeps, Region, Threads}
use Rattle.gc_graph.specs.LineKinds.{tells_of_orders, tells_joined}

-- ---- the state

-- but for these parts the state is as it was, and one more command is counted; the region's slots are those after the piece, which
-- is to be printed; and only a command of the cycle begins or ends a collection
abbrev pub StaysElse : Family → State → List Entry → State → Type 0
StaysElse Objects old piece new =
    (is_marking new.phase ≡ is_marking old.phase)
    × (new ≡ record old {
      nodes = new.nodes;
      slots = new.slots;
      registrations = new.registrations;
      phase = new.phase;
      cursor = new.cursor;
      may = new.may;
      ordinal = old.ordinal + 1;
      finalised = new.finalised;
      full = new.full;
    })
StaysElse Fields old piece new = new ≡ record old { nodes = new.nodes; slots = new.slots; may = new.may; ordinal = old.ordinal + 1 }
StaysElse Pairs old piece new = new ≡ record old { nodes = new.nodes; slots = new.slots; may = new.may; ordinal = old.ordinal + 1 }
StaysElse Slots old piece new = new ≡ record old { slots = new.slots; weak = new.weak; may = new.may; ordinal = old.ordinal + 1 }
StaysElse Stack old piece new = new ≡ record old { slots = new.slots; stack = new.stack; ordinal = old.ordinal + 1 }
StaysElse Cycle old piece new =
    new ≡ record old {
      nodes = new.nodes;
      weak = new.weak;
      region = replayed old.region piece;
      registrations = new.registrations;
      phase = new.phase;
      cursor = new.cursor;
      may = new.may;
      traced = new.traced;
      unprinted = old.unprinted ++ piece;
      ordinal = old.ordinal + 1;
      pauses = new.pauses;
      finalised = new.finalised;
    }
StaysElse Sweeps old piece new =
    (is_marking new.phase ≡ is_marking old.phase)
    × (new ≡ record old { nodes = new.nodes; phase = new.phase; cursor = new.cursor; ordinal = old.ordinal + 1; finalised = new.finalised })
StaysElse Region old piece new =
    new ≡ record old { slots = new.slots; region = replayed old.region piece; may = new.may; unprinted = old.unprinted ++ piece; ordinal = old.ordinal + 1 }
StaysElse Threads old piece new =
    new ≡ record old {
      region = replayed old.region piece;
      may = new.may;
      queues = new.queues;
      running = new.running;
      awaiting = new.awaiting;
      unprinted = new.unprinted;
      ordinal = old.ordinal + 1;
    }

-- ---- the region's history

-- entries of threads that run, and then one of the owner, which does what no thread does
pub record EndsWithOwners (old : State) (piece : List Entry) : Type 0 where
  pub before : List Entry
  pub own : Entry
  pub others : AreOthers old before
  pub piece_is : piece ≡ before ++ own ∷ []
  pub owner : own.thread ≡ 0
  pub does : IsThreadOp own.op → ⊥

-- a whole collection takes a piece for its start, and one for its pause
abbrev pub EndsTwice : State → List Entry → Type 0
EndsTwice old piece = (first : List Entry) × (second : List Entry) × (piece ≡ first ++ second) × EndsWithOwners old first × EndsWithOwners old second

-- what a command of the family takes of the history
abbrev pub TakesPiece : Family → State → List Entry → Type 0
TakesPiece Objects old piece = piece ≡ []
TakesPiece Fields old piece = piece ≡ []
TakesPiece Pairs old piece = piece ≡ []
TakesPiece Slots old piece = piece ≡ []
TakesPiece Stack old piece = piece ≡ []
TakesPiece Cycle old piece = (piece ≡ []) ⊎ (EndsWithOwners old piece ⊎ EndsTwice old piece)
TakesPiece Sweeps old piece = piece ≡ []
TakesPiece Region old piece = (piece ≡ []) ⊎ EndsWithOwners old piece
TakesPiece Threads old piece = AreOthers old piece

-- ---- the lines

-- the line by which a command of the family is answered, where something was done
abbrev pub answers : Family → Line → Bool
answers Objects told = tells_place told
answers Fields told = tells_ok told || (tells_node told || tells_word told)
answers Pairs told = tells_ok told || tells_node told
answers Slots told = tells_ok told || tells_node told
answers Stack told = tells_ok told || tells_node told
answers Cycle told = tells_start told || (tells_step told || tells_pause told)
answers Sweeps told = tells_sweep told || tells_objects told
answers Region told = tells_ok told || tells_node told
answers Threads told = tells_queued told || (tells_going told || tells_joined told)

-- the nodes that a sweep finalised
abbrev pub AreFinalised : List Line → Type 0
AreFinalised told = (numbers : List ℕ) × (told ≡ finalise_lines numbers)

-- what is told before the answer
abbrev pub TellsBefore : Family → List Line → Type 0
TellsBefore Objects told = AreFinalised told
TellsBefore Fields told = told ≡ []
TellsBefore Pairs told = told ≡ []
TellsBefore Slots told = told ≡ []
TellsBefore Stack told = told ≡ []
TellsBefore Cycle told = AreFinalised told
TellsBefore Sweeps told = AreFinalised told
TellsBefore Region told = told ≡ []
TellsBefore Threads told = All (λ line. tells_of_orders line ≡ true) told

-- what is told after it: the callbacks that a pause ran
abbrev pub TellsAfter : Family → List Line → Type 0
TellsAfter Cycle told = (calls : List WeakCall) × (registrations : List Registration) × (told ≡ callback_lines calls registrations)
TellsAfter family told = told ≡ []

-- one line answers the command, or says that nothing was done
pub record IsAnsweredOnce (family : Family) (lines : List Line) : Type 0 where
  pub before : List Line
  pub answer : Line
  pub after : List Line
  pub lines_are : lines ≡ before ++ answer ∷ after
  pub first : TellsBefore family before
  pub fits : (tells_that_nothing_was_done answer || answers family answer) ≡ true
  pub then : TellsAfter family after

-- ---- the law

-- a command of the family came out so
pub record StaysInFamily (family : Family) (old : State) (piece : List Entry) (lines : List Line) (new : State) : Type 0 where
  pub rest : StaysElse family old piece new
  pub takes : TakesPiece family old piece
  pub told : IsAnsweredOnce family lines

-- so does each command
abbrev pub StepsStayInTheirFamily : Type 0
StepsStayInTheirFamily =
    (setup : Setup) (old : State) (command : Command) (piece : List Entry) (lines : List Line) (new : State)
    → Step setup old command piece lines new → StaysInFamily (family_of command) old piece lines new
