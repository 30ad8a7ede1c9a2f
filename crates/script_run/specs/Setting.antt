-- The heap that the program makes, and the scripts that it can run.
use Rattle.std.specs.Prelude.{ℕ, List}
use Rattle.gc_graph.specs.declared.action.ActionKind.{ActionKind}
use Rattle.gc_graph.specs.declared.command.Command.{Command}
use Rattle.gc_graph.specs.State.{Setup, Shape, ObjectType}
use Rattle.gc_graph.specs.Script.{Script}
use Rattle.gc_graph.specs.ScriptLaw.{IsInRanges}
use Rattle.command_line.specs.declared.options.Options.{Options}
use Rattle.command_line.specs.Options.{shape_asked}

-- what heap is made: its shape, and how many markers it has
pub record Plan : Type 0 where
  pub shape : Shape
  pub markers : ℕ

-- the heap that options ask for
abbrev pub plan_asked : Options → Plan
plan_asked options = record { shape = shape_asked options; markers = options.markers }

-- the heap that was set up
abbrev pub plan_of : Setup → Plan
plan_of setup = record { shape = setup.shape; markers = setup.markers }

-- a heap of the plan, with callbacks of these kinds and the types of a script
abbrev pub setup_of_plan : List ActionKind → Plan → List ObjectType → Setup
setup_of_plan kinds plan types = record { shape = plan.shape; markers = plan.markers; types = types; callbacks = kinds }

-- the script whose types a heap has, with these commands
abbrev pub script_on : Setup → List Command → Script
script_on setup commands = record { types = setup.types; commands = commands }

-- what the script says is in the ranges that a heap with so many callbacks wants
pub record IsRunnable (callbacks : ℕ) (script : Script) : Type 0 where
  pub ranges : IsInRanges callbacks script
