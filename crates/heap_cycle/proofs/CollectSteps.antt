-- The commands of a cycle are steps of the graph.
use Rattle.std.proofs.Common.{◌≡◌, ℕ, ◌==◌, not, true, false, List, ◌∷◌, ◌++◌, length, Option, inr, refl, sym, ap, ◌∙◌, subst}
use Rattle.std.proofs.lemmas.Bool.{true≢false}
use Rattle.gc_graph.specs.declared.phase.Phase.{Phase}
use Rattle.gc_graph.specs.declared.phase.Phase.TheVariants.{Idle, Marking, Sweeping}
use Rattle.gc_graph.specs.declared.command.Want.{Want}
use Rattle.gc_graph.specs.declared.line.Line.{Line}
use Rattle.gc_graph.specs.declared.region.Entry.{Entry}
use Rattle.gc_graph.specs.State.{Setup, State}
use Rattle.gc_graph.specs.CycleSteps.{IsStart, IsPause, IsFinished, IsCollection, StepGcFinish, StepGcNow, is_marking, is_stack_refused}
use Rattle.gc_graph.specs.Outcomes.{answered, finalise_lines}
use Rattle.gc_graph.specs.Sweep.{SweepsToEnd}
use Rattle.heap_roots.specs.Finished.{Finished}
use Rattle.heap_roots.specs.Refused.{RefusalsTold}
use Rattle.heap_cycle.specs.Cycles.{pause_line}
use Rattle.heap_cycle.specs.Printed.{Printed, count_ran, lines_with, ran_lines}
use Rattle.heap_cycle.specs.Views.{Ran}
use Rattle.heap_cycle.specs.Walks.{refused_before}
use Rattle.heap_cycle.proofs.OutcomeLines.{all_told}
use Rattle.heap_cycle.proofs.StartSteps.{on_false, on_true}

-- where marking doesn't go on and the stack isn't refused, gc now ends the open sweep, and then come start and pause
pub step_collected : (setup : Setup) (want : Want) (s t started u : State) (numbers : List ℕ) (piece first second : List Entry) (lines pause_lines : List Line) → is_marking s.phase ≡ false
    → is_stack_refused want s.stack ≡ false → SweepsToEnd setup.shape s numbers t → IsStart setup t first started
    → IsPause setup 0 want started second pause_lines u → piece ≡ first ++ second → lines ≡ finalise_lines numbers ++ pause_lines
    → StepGcNow setup want s piece lines (answered u)
step_collected setup want s t started u numbers piece first second lines pause_lines calm allowed ended start pause taken printed =
    let collects : IsCollection setup want s piece lines (answered u) = record {
      numbers = numbers;
      swept = t;
      ended = ended;
      first = first;
      started = started;
      start = start;
      second = second;
      pause_lines = pause_lines;
      paused = u;
      pause = pause;
      piece_is = taken;
      lines_are = printed;
      after = refl;
    } in
    on_false (is_marking s.phase) _ _ calm (on_false (is_stack_refused want s.stack) _ _ allowed (inr collects))

-- where marking goes on and the stack isn't refused, gc finish is the pause
pub step_finished : (setup : Setup) (want : Want) (s u : State) (piece : List Entry) (lines pause_lines : List Line) → is_marking s.phase ≡ true
    → is_stack_refused want s.stack ≡ false → IsPause setup setup.markers want s piece pause_lines u → lines ≡ pause_lines
    → StepGcFinish setup want s piece lines (answered u)
step_finished setup want s u piece lines pause_lines marks allowed pause printed =
    let finished : IsFinished setup want s piece lines (answered u) =
    (u, subst (λ ls. IsPause setup setup.markers want s piece ls u) (sym printed) pause, refl) in
    on_true (is_marking s.phase) _ _ marks (on_false (is_stack_refused want s.stack) _ _ allowed finished)

-- a command whose pause ran these callbacks prints the pause's lines behind those of what it finalised
pub pause_told : (out : Printed) (last : Option Line) (room : ℕ) (before numbers : List ℕ) (told ran : Ran) (result : Finished) (line : Line)
    → before ≡ numbers → out ≡ record { numbers = before; last = last; calls_back = not (count_ran told == 0); room = room } → told ≡ ran
    → line ≡ pause_line result → lines_with out ran line ≡ finalise_lines numbers ++ pause_line result ∷ ran_lines true ran
pause_told out last room before numbers told ran result line finalised outcome same is =
    ap (λ (o : Printed). lines_with o ran line) outcome
    ∙ ap (λ ns. finalise_lines ns ++ line ∷ ran_lines (not (count_ran told == 0)) ran) finalised
    ∙ ap (λ rs. finalise_lines numbers ++ line ∷ ran_lines (not (count_ran rs == 0)) ran) same
    ∙ ap (λ ls. finalise_lines numbers ++ line ∷ ls) (all_told ran) ∙ ap (λ l. finalise_lines numbers ++ l ∷ ran_lines true ran) is

-- ---- phases

pub phase_marks : (phase : Phase) → is_marking phase ≡ true → phase ≡ Marking
phase_marks Idle marks = cc
phase_marks Marking marks = refl
phase_marks Sweeping marks = cc

-- how much had been refused before the cycle that the command begins
pub before_calm : (phase : Phase) (told : RefusalsTold) → is_marking phase ≡ false → refused_before phase told ≡ told.now
before_calm Idle told calm = refl
before_calm Marking told calm = absurd (true≢false calm)
before_calm Sweeping told calm = refl
