-- The law of what a command leaves alone: other slots, other words of objects, the stack, the registrations and the cycle.
use Rattle.std.specs.Prelude.{◌≡◌, ℕ, ◌+◌, ◌<◌, List, length}
use Rattle.gc_graph.specs.declared.command.Command.{Command}
use Rattle.gc_graph.specs.declared.line.Line.{Line}
use Rattle.gc_graph.specs.declared.region.Entry.{Entry}
use Rattle.gc_graph.specs.Graph.{Object}
use Rattle.gc_graph.specs.State.{Setup, State, node_at}
use Rattle.gc_graph.specs.Fields.{words_of_kind, kind_of_field, word_of_field, value_at}
use Rattle.gc_graph.specs.Outcomes.{slot_at, weak_slot_at}
use Rattle.gc_graph.specs.Step.{Step}
use Rattle.gc_graph.specs.Commands.{WritesSlot, WritesWeakSlot, WritesStack, WritesRegistrations, WritesWord, MovesCycle}

-- ---- the law

-- marking and sweeping are where they were, and each node lives on or is dead as it was
pub record IsSameCycle (old new : State) : Type 0 where
  pub phase : new.phase ≡ old.phase
  pub cursor : new.cursor ≡ old.cursor
  pub traced : new.traced ≡ old.traced
  pub count : length new.nodes ≡ length old.nodes
  pub lives : (n : ℕ) → (node_at new.nodes n).life ≡ (node_at old.nodes n).life

-- all else stays, and there are as many slots as before
pub record LeavesRest (old : State) (command : Command) (new : State) : Type 0 where
  pub slots : (z : ℕ) → (WritesSlot command z → ⊥) → slot_at new z ≡ slot_at old z
  pub weak : (z : ℕ) → (WritesWeakSlot command z → ⊥) → weak_slot_at new z ≡ weak_slot_at old z
  pub stack : (WritesStack command → ⊥) → new.stack ≡ old.stack
  pub registrations : (WritesRegistrations command → ⊥) → new.registrations ≡ old.registrations
  pub words :
      (n word : ℕ) → n < length old.nodes → (WritesWord old command n word → ⊥)
      → value_at (node_at new.nodes n) word ≡ value_at (node_at old.nodes n) word
  pub cycle : (MovesCycle command → ⊥) → IsSameCycle old new
  pub slot_count : length new.slots ≡ length old.slots
  pub weak_count : length new.weak ≡ length old.weak

-- so it is with each step
abbrev pub StepsLeaveRest : Type 0
StepsLeaveRest =
    (setup : Setup) (old : State) (command : Command) (piece : List Entry) (lines : List Line) (new : State)
    → Step setup old command piece lines new → LeavesRest old command new

-- the fields of an object take its words one after the other, from the first on
abbrev pub FieldsTakeTurns : Type 0
FieldsTakeTurns =
    (object : Object) → (word_of_field object 0 ≡ 0)
    × ((f : ℕ) → word_of_field object (f + 1) ≡ word_of_field object f + words_of_kind (kind_of_field object f))
