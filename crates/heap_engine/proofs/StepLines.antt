-- The lines of the commands that may tell nodes: those of finalised nodes come first, and the next one tells none.
use Rattle.std.proofs.Common.{◌≡◌, ℕ, Bool, true, false, List, [], ◌∷◌, ◌++◌, length, Option, Some, None, ap, ◌∙◌, sym, inl, inr}
use mathlib.Core.Logic.{◌⊎◌}
use Rattle.std.proofs.lemmas.Bool.{true≢false}
use Rattle.std.specs.Prelude.{MatchBool, MatchOption}
use Rattle.gc_graph.specs.declared.command.Command.{Command}
use Rattle.gc_graph.specs.declared.command.Command.TheVariants as C
use Rattle.gc_graph.specs.declared.command.Want.{Want}
use Rattle.gc_graph.specs.declared.line.Line.{Line}
use Rattle.gc_graph.specs.declared.line.Line.TheVariants as L
use Rattle.gc_graph.specs.declared.line.Refusal.{Refusal}
use Rattle.gc_graph.specs.declared.line.Refusal.TheVariants as R
use Rattle.gc_graph.specs.declared.region.Entry.{Entry}
use Rattle.gc_graph.specs.State.{Setup, State}
use Rattle.gc_graph.specs.Outcomes.{IsRefused, finalise_lines, took}
use Rattle.gc_graph.specs.ObjectSteps.{StepNew}
use Rattle.gc_graph.specs.CycleSteps.{StepGcStart, StepGcFinish, StepGcNow, StepSweepTo, WantsMemory, IsBegun, IsPause, IsCollection, is_marking, is_sweeping, is_stack_refused}
use Rattle.gc_graph.specs.Pause.{condemn, live_count, dead_count, run_order}
use Rattle.gc_graph.specs.Paused.{callback_lines}
use Rattle.gc_graph.specs.WeakCalls.{weak_calls}
use Rattle.gc_graph.specs.Step.{Step}
use Rattle.heap_cycle.specs.Printed.{TellsNode}

-- whether the command may tell a finalised node or a prefinalizer
abbrev pub may_tell_nodes : Command → Bool
may_tell_nodes (C.New p t e) = true
may_tell_nodes C.GcStart = true
may_tell_nodes (C.GcFinish want) = true
may_tell_nodes (C.GcNow want) = true
may_tell_nodes (C.Sweep n) = true
may_tell_nodes C.SweepAll = true
may_tell_nodes _ = false

-- finalised nodes, a line that tells no node, and others
pub record HasPlain (lines : List Line) : Type 0 where
  pub numbers : List ℕ
  pub line : Line
  pub others : List Line
  pub lines_are : lines ≡ finalise_lines numbers ++ line ∷ others
  pub plain : TellsNode line → ⊥

alone : (line : Line) (lines : List Line) → lines ≡ line ∷ [] → (TellsNode line → ⊥) → HasPlain lines
alone line lines is plain = record { numbers = []; line = line; others = []; lines_are = is; plain = plain }

after_numbers : (numbers : List ℕ) (line : Line) (lines : List Line) → lines ≡ finalise_lines numbers ++ line ∷ [] → (TellsNode line → ⊥) → HasPlain lines
after_numbers numbers line lines is plain = record { numbers = numbers; line = line; others = []; lines_are = is; plain = plain }

refused : (why : Refusal) (old : State) (lines : List Line) (new : State) → IsRefused why old lines new → HasPlain lines
refused why old lines new is = alone (L.Refused why) lines is.0 (λ node. node)

-- ---- choices

where_true : {Goal : Type 0} (b : Bool) (Yes No : Type 0) → MatchBool b Yes No → (Yes → Goal) → (No → Goal) → Goal
where_true true Yes No is held failed = held is
where_true false Yes No is held failed = failed is

where_some : {A Goal : Type 0} (o : Option A) (Nothing : Type 0) (Something : A → Type 0) → MatchOption o Nothing Something → (Nothing → Goal) → ((a : A) → Something a → Goal) → Goal
where_some None Nothing Something is nothing something = nothing is
where_some (Some a) Nothing Something is nothing something = something a is

-- ---- steps

makes : (setup : Setup) (old : State) (p t extra : ℕ) (lines : List Line) (new : State) → StepNew setup old p t extra lines new → HasPlain lines
makes setup old p t extra lines new (inl memory) = alone L.Memory lines memory.1.0 (λ node. node)
makes setup old p t extra lines new (inr is) =
    where_some is.place _ _ is.done (λ full. after_numbers is.numbers L.Full lines full.lines_are (λ node. node))
    (λ place made. after_numbers is.numbers (L.Placed (length is.mid.nodes) place) lines made.lines_are (λ node. node))

sweeps : (setup : Setup) (old : State) (pages : ℕ) (lines : List Line) (new : State) → StepSweepTo setup old pages lines new → HasPlain lines
sweeps setup old pages lines new is =
    where_true (is_sweeping old.phase) _ _ is (λ swept. after_numbers swept.numbers (L.Swept pages) lines swept.lines_are (λ node. node)) (refused _ old lines new)

collected : (setup : Setup) (want : Want) (old : State) (piece : List Entry) (lines : List Line) (new : State) → WantsMemory old piece lines new ⊎ IsCollection setup want old piece lines new
    → HasPlain lines
collected setup want old piece lines new (inl memory) = alone L.Memory lines memory.1.0 (λ node. node)
collected setup want old piece lines new (inr is) = record {
  numbers = is.numbers;
  line = L.Pause (live_count (condemn is.pause.kept (took is.started is.pause.before).nodes)) (dead_count (condemn is.pause.kept (took is.started is.pause.before).nodes))
      is.pause.done.crew is.pause.done.traced is.pause.done.walked;
  others = callback_lines (weak_calls setup.types (condemn is.pause.kept (took is.started is.pause.before).nodes)) (run_order (condemn is.pause.kept (took is.started is.pause.before).nodes) (took is.started is.pause.before).registrations);
  lines_are = is.lines_are ∙ ap (λ ls. finalise_lines is.numbers ++ ls) is.pause.done.lines_are;
  plain = λ node. node;
}

collects : (setup : Setup) (want : Want) (old : State) (piece : List Entry) (lines : List Line) (new : State) → StepGcNow setup want old piece lines new → HasPlain lines
collects setup want old piece lines new is =
    where_true (is_marking old.phase) _ _ is (λ why. refused _ old lines new why.1)
    (λ calm. where_true (is_stack_refused want old.stack) _ _ calm (λ why. refused _ old lines new why.1) (collected setup want old piece lines new))

begun : (setup : Setup) (old : State) (piece : List Entry) (lines : List Line) (new : State) → WantsMemory old piece lines new ⊎ IsBegun setup old piece lines new → HasPlain lines
begun setup old piece lines new (inl memory) = alone L.Memory lines memory.1.0 (λ other. other)
begun setup old piece lines new (inr is) = record { numbers = is.numbers; line = L.Started; others = []; lines_are = is.lines_are; plain = λ other. other }

starts : (setup : Setup) (old : State) (piece : List Entry) (lines : List Line) (new : State) → StepGcStart setup old piece lines new → HasPlain lines
starts setup old piece lines new is =
    where_true (is_marking old.phase) _ _ is (λ why. alone (L.Refused R.Phase) lines why.1.0 (λ other. other)) (begun setup old piece lines new)

pauses : (setup : Setup) (markers : ℕ) (want : Want) (old : State) (piece : List Entry) (lines : List Line) (new : State) → IsPause setup markers want old piece lines new → HasPlain lines
pauses setup markers want old piece lines new is = record {
  numbers = [];
  line = L.Pause (live_count (condemn is.kept (took old is.before).nodes)) (dead_count (condemn is.kept (took old is.before).nodes)) is.done.crew is.done.traced is.done.walked;
  others = callback_lines (weak_calls setup.types (condemn is.kept (took old is.before).nodes)) (run_order (condemn is.kept (took old is.before).nodes) (took old is.before).registrations);
  lines_are = is.done.lines_are;
  plain = λ other. other;
}

finishes : (setup : Setup) (want : Want) (old : State) (piece : List Entry) (lines : List Line) (new : State) → StepGcFinish setup want old piece lines new → HasPlain lines
finishes setup want old piece lines new is =
    where_true (is_marking old.phase) _ _ is
    (λ goes. where_true (is_stack_refused want old.stack) _ _ goes (λ why. refused _ old lines new why.1)
    (λ done. pauses setup setup.markers want old piece lines done.0 done.1))
    (λ why. refused _ old lines new why.1)

-- ---- these commands

pub step_has : (setup : Setup) (old : State) (command : Command) (piece : List Entry) (lines : List Line) (new : State) → may_tell_nodes command ≡ true
    → Step setup old command piece lines new → HasPlain lines
step_has setup old (C.New p t e) piece lines new may is = makes setup old p t e lines new is.1
step_has setup old C.GcStart piece lines new may is = starts setup old piece lines new is
step_has setup old (C.GcFinish want) piece lines new may is = finishes setup want old piece lines new is
step_has setup old (C.GcNow want) piece lines new may is = collects setup want old piece lines new is
step_has setup old (C.Sweep n) piece lines new may is = sweeps setup old _ lines new is.1
step_has setup old C.SweepAll piece lines new may is = sweeps setup old _ lines new is.1
step_has setup old _ piece lines new may is = absurd (true≢false (sym may))
