-- Runs that are printed command by command.
use Rattle.std.proofs.Common.{◌≡◌, ℕ, suc, ◌+◌, ◌<◌, List, [], ◌∷◌, ◌++◌, length, take, drop, get_or, Bool, false, Option, refl, sym, ap, ◌∙◌, subst, arith}
use Rattle.std.proofs.lemmas.List.{append-nil, map-append}
use Rattle.std.proofs.lemmas.Grind.{flat_map-append}
use Rattle.std.proofs.Math.Seq.{drop-cons}
use Rattle.gc_graph.specs.declared.command.Command.{Command}
use Rattle.gc_graph.specs.State.{Setup, State, empty_state}
use Rattle.gc_graph.specs.HistoryLaw.{RunsAreReplayed}
use Rattle.gc_graph.specs.Lawful.{Outcome}
use Rattle.gc_graph.specs.Report.{lines_bytes, outcomes_bytes}
use Rattle.gc_graph.specs.Sections.{AreInSections, IsInSection, awaiting_after}
use Rattle.gc_graph.specs.ThreadLaw.{StepsLeaveThreads}
use Rattle.text_devices.specs.Devices.{Grew, GrewByFront}
use Rattle.heap_engine.specs.Acted.{IsActed}
use Rattle.heap_engine.specs.View.{View}
use Rattle.script_run.specs.Printed.{IsPrintedRun, IsPartRun, printed_lines}
use Rattle.script_run.proofs.LawfulRuns.{outcome_of, has_run_next, has_run_none}
use Rattle.script_run.proofs.Writing.{grew_by_none, grew, grew_front}

-- ---- one command more

outcomes_more : (outcomes : List Outcome) (outcome : Outcome)
    → outcomes_bytes (printed_lines (outcomes ++ outcome ∷ [])) ≡ outcomes_bytes (printed_lines outcomes) ++ lines_bytes outcome.lines
outcomes_more outcomes outcome =
    ap outcomes_bytes (map-append (λ (o : Outcome). o.lines) outcomes (outcome ∷ []))
    ∙ flat_map-append lines_bytes (printed_lines outcomes) (outcome.lines ∷ [])
    ∙ ap (λ u. outcomes_bytes (printed_lines outcomes) ++ u) (append-nil (lines_bytes outcome.lines))

-- d stands for what a read past the end would give
pub printed_more : (setup : Setup) (commands : List Command) (i : ℕ) (d : Command) (x y z : Option (List ℕ)) (mid heap : View) → RunsAreReplayed → i < length commands
    → IsPrintedRun setup (take i commands) x y mid → mid.setup ≡ setup → IsActed mid heap (get_or commands i d) (length heap.lines)
    → Grew y z (lines_bytes heap.lines) → IsPrintedRun setup (take (i + 1) commands) x z heap
printed_more setup commands i d x y z mid heap law low printed same acted more = record {
  outcomes = printed.outcomes ++ outcome_of heap ∷ [];
  ran = has_run_next setup commands i d printed.outcomes mid heap low (record { law = law; ran = printed.ran; same = same; acted = acted });
  written = subst (λ u. Grew x z u) (sym (outcomes_more printed.outcomes (outcome_of heap))) (grew x y z _ _ printed.written more);
}

-- the printing of its outcome failed
pub printed_part : (setup : Setup) (commands : List Command) (i : ℕ) (d : Command) (x y z : Option (List ℕ)) (mid heap : View) → RunsAreReplayed → i < length commands
    → IsPrintedRun setup (take i commands) x y mid → mid.setup ≡ setup → IsActed mid heap (get_or commands i d) (length heap.lines)
    → GrewByFront y z (lines_bytes heap.lines) → IsPartRun setup commands x z heap
printed_part setup commands i d x y z mid heap law low printed same acted more = record {
  number = i + 1;
  within = omega arith;
  outcomes = printed.outcomes ++ outcome_of heap ∷ [];
  ran = has_run_next setup commands i d printed.outcomes mid heap low (record { law = law; ran = printed.ran; same = same; acted = acted });
  written = subst (λ u. GrewByFront x z u) (sym (outcomes_more printed.outcomes (outcome_of heap))) (grew_front x y z _ _ printed.written more);
}

-- ---- no command

pub printed_none : (setup : Setup) (commands : List Command) (x : Option (List ℕ)) (heap : View) → heap.state ≡ empty_state → heap.history ≡ []
    → IsPrintedRun setup (take 0 commands) x x heap
printed_none setup commands x heap is fresh =
    record { outcomes = []; ran = has_run_none setup commands heap is fresh; written = grew_by_none x }

-- ---- sections of threads

drop_none : {X : Type 0} (xs : List X) → xs ≡ drop 0 xs
drop_none [] = refl
drop_none (x ∷ xs) = refl

-- the next command stands where it may
pub section_at : (commands : List Command) (i : ℕ) (d : Command) (awaiting : Bool) → i < length commands → AreInSections awaiting (drop i commands)
    → IsInSection awaiting (get_or commands i d)
section_at commands i d awaiting low are = (subst (AreInSections awaiting) (drop-cons commands i d low) are).0

-- and so do those after it
pub sections_after : (commands : List Command) (i : ℕ) (d : Command) (mid heap : View) (lines : ℕ) → StepsLeaveThreads → i < length commands
    → AreInSections mid.state.awaiting (drop i commands) → IsActed mid heap (get_or commands i d) lines
    → AreInSections heap.state.awaiting (drop (i + 1) commands)
sections_after commands i d mid heap lines law low are acted =
    let next : suc i ≡ i + 1 = omega arith in
    let left = law mid.setup mid.state (get_or commands i d) heap.piece heap.lines heap.state acted.step in
    subst (λ (awaiting : Bool). AreInSections awaiting (drop (i + 1) commands)) (sym left.awaiting)
    (subst (λ n. AreInSections (awaiting_after mid.state.awaiting (get_or commands i d)) (drop n commands)) next
    (subst (AreInSections mid.state.awaiting) (drop-cons commands i d low) are).1)

-- so they are before the first
pub sections_none : (commands : List Command) (heap : View) → heap.state ≡ empty_state → AreInSections false commands
    → AreInSections heap.state.awaiting (drop 0 commands)
sections_none commands heap is are =
    subst (λ (s : State). AreInSections s.awaiting (drop 0 commands)) (sym is) (subst (AreInSections false) (drop_none commands) are)
