-- The numbers of a summary, and that it is read back.
use Rattle.std.proofs.Common.{◌≡◌, ℕ, ◌+◌, ◌≤◌, List, [], ◌∷◌, length, All, Some, refl, sym, arith}
use Rattle.std.proofs.lemmas.List.{append-nil}
use Rattle.std.proofs.lemmas.List.Elements.{All-nil, All-cons, All-head, All-tail}
use Rattle.std.proofs.lemmas.List.Sums.{count_by-le-length}
use Rattle.gc_graph.specs.declared.command.Command.{Command}
use Rattle.gc_graph.specs.declared.line.Line.{Line}
use Rattle.gc_graph.specs.State.{Setup, State, Node, is_there, empty_state, objects_of, used_of}
use Rattle.gc_graph.specs.Valid.{IsValid}
use Rattle.gc_graph.specs.ValidLaw.{StepKeepsValid}
use Rattle.gc_graph.specs.Step.{Step}
use Rattle.gc_graph.specs.Lawful.{Outcome, Run, IsAllowed, last_state, summary_line}
use Rattle.gc_graph.specs.Report.{line_bytes}
use Rattle.gc_graph.specs.ReadBack.{read_report, IsOf64Bits}
use Rattle.gc_graph.specs.NumbersLaw.{IsWithinLimits}
use Rattle.gc_graph.specs.ThreadLaw.{IsCounted as CountsFew, StepsCount}
use Rattle.gc_graph.specs.SummaryLaw.{SummaryReadsBack}
use Rattle.gc_graph.proofs.Sound.{sound_from}
use Rattle.gc_graph.proofs.ValidSteps.{empty_is_valid}
use Rattle.gc_graph.proofs.Few.{Small, small_four, empty_few}
use Rattle.gc_graph.proofs.StepNumbers.{IsCounted, used_within}
use Rattle.gc_graph.proofs.RunNumbers.{step_numbers}
use Rattle.gc_graph.proofs.ReportsReadBack.{lines_read_back}

module _ (keeps : StepKeepsValid) (counts : StepsCount) (setup : Setup) (limits : IsWithinLimits setup) where
  -- after so many commands
  record IsFineAfter (k : ℕ) (s : State) : Type 0 where
    valid : IsValid setup s
    counted : IsCounted k s
    few : CountsFew s

  first_fine : IsFineAfter 0 empty_state
  first_fine = record { valid = empty_is_valid setup; counted = empty_few; few = record { pauses = omega arith; full = omega arith; finalised = refl } }

  step_fine : (k : ℕ) (old : State) (command : Command) (o : Outcome) → k + 1 ≤ 1000000 → IsAllowed (length setup.types) command → IsFineAfter k old
      → Step setup old command o.piece o.lines o.state → IsFineAfter (k + 1) o.state
  step_fine k old command o most allowed h step = record {
    valid = keeps setup old o.state command o.piece o.lines limits.some allowed h.valid step;
    counted = (step_numbers setup limits k (omega arith) old o.state o.piece o.lines h.counted (sound_from setup old h.valid) command allowed step).few;
    few = counts setup old command o.piece o.lines o.state step h.few;
  }

  last_fine : (k : ℕ) (s : State) (commands : List Command) (outcomes : List Outcome) → k + length commands ≤ 1000000
      → All (IsAllowed (length setup.types)) commands → IsFineAfter k s → Run setup s commands outcomes
      → (m : ℕ) × (m ≤ 1000000) × IsFineAfter m (last_state s outcomes)
  last_fine k s [] [] most allowed h run = (k, omega arith, h)
  last_fine k s [] (o ∷ os) most allowed h run = absurd run
  last_fine k s (c ∷ cs) [] most allowed h run = absurd run
  last_fine k s (c ∷ cs) (o ∷ os) most allowed h run =
      last_fine (k + 1) o.state cs os (omega arith) (All-tail (IsAllowed (length setup.types)) c cs allowed)
      (step_fine k s c o (omega arith) (All-head (IsAllowed (length setup.types)) c cs allowed) h run.0) run.1

  summary_small : (k : ℕ) (s : State) → k ≤ 1000000 → IsFineAfter k s → IsOf64Bits (summary_line s)
  summary_small k s most h =
      let commands = h.counted.commands_few in
      let nodes = h.counted.nodes_few in
      let finalised = h.counted.finalised_few in
      let pauses = h.few.pauses in
      let full = h.few.full in
      let there = count_by-le-length (λ (n : Node). is_there n.life) s.nodes in
      let used = used_within setup limits s.nodes (sound_from setup s h.valid).heap in
      All-cons Small s.ordinal (s.pauses ∷ objects_of s.nodes ∷ used_of s.nodes ∷ s.finalised ∷ s.full ∷ []) (omega arith)
      (All-cons Small s.pauses (objects_of s.nodes ∷ used_of s.nodes ∷ s.finalised ∷ s.full ∷ []) (omega arith)
      (small_four (objects_of s.nodes) (used_of s.nodes) s.finalised s.full (omega arith) (omega arith) (omega arith) (omega arith)))

-- a line whose numbers have 64 bits is read back
one_line : (line : Line) → IsOf64Bits line → read_report (line_bytes line) ≡ Some (line ∷ [])
one_line line small = (lines_read_back (line_bytes line) (line ∷ [])).always (All-cons IsOf64Bits line [] small (All-nil IsOf64Bits)) (sym (append-nil (line_bytes line)))

pub summary_reads_back : StepKeepsValid → StepsCount → SummaryReadsBack
summary_reads_back keeps counts setup commands outcomes history limits most allowed lawful =
    let last = last_fine keeps counts setup limits 0 empty_state commands outcomes (omega arith) allowed (first_fine keeps counts setup limits) lawful.run in
    let small = summary_small keeps counts setup limits last.0 (last_state empty_state outcomes) last.1 last.2 in
    record { numbers = small; read = one_line (summary_line (last_state empty_state outcomes)) small }
