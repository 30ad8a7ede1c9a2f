-- Each step leaves as many slots and queues as there were, and the threads that run in order.
use Rattle.std.proofs.Common.{◌≡◌, ℕ, zero, suc, ◌-◌, true, List, [], ◌∷◌, length, take, refl, sym, ap, ◌∙◌, subst, inl, inr, arith}
use Rattle.std.proofs.lemmas.List.{length-set}
use Rattle.gc_graph.specs.declared.command.Command.{Command}
use Rattle.gc_graph.specs.declared.command.Command.TheVariants as C
use Rattle.gc_graph.specs.declared.command.Order.{Order}
use Rattle.gc_graph.specs.declared.line.Line.{Line}
use Rattle.gc_graph.specs.declared.region.Entry.{Entry}
use Rattle.gc_graph.specs.State.{Setup, State, empty_state}
use Rattle.gc_graph.specs.Step.{Step}
use Rattle.gc_graph.specs.Lawful.{Outcome, Run, last_state}
use Rattle.gc_graph.specs.Replays.{replayed_length}
use Rattle.gc_graph.specs.JoinLaw.{AreThreads}
use Rattle.gc_graph.specs.ThreadLaw.{is_of_threads}
use Rattle.gc_graph.specs.SlotsLaw.{HasAllSlots, RunsKeepSlots}
use Rattle.gc_graph.proofs.StepFollows.{step_follows}
use Rattle.gc_graph.proofs.ThreadLaws.{steps_leave_threads}
use Rattle.gc_graph.proofs.FrameLaws.{steps_leave_rest}
use Rattle.std.proofs.lemmas.Bool.{cases_Bool}
use Rattle.gc_graph.proofs.JoinLaws.{started}

-- ---- queues, and the threads that run

-- eight queues, and the threads that run in order
abbrev HasQueues : List (List Order) → List ℕ → Type 0
HasQueues queues running = (length queues ≡ 8) × AreThreads running

none_runs : AreThreads []
none_runs = record { each = λ j c. absurd (omega (arith, c.1)); ascending = λ k low. absurd (omega (arith, low)) }

same_queues : (old new : State) → new.queues ≡ old.queues → new.running ≡ old.running → HasQueues old.queues old.running → HasQueues new.queues new.running
same_queues old new queues running h = (ap length queues ∙ h.0, subst AreThreads (sym running) h.1)

thread_queues : (setup : Setup) (old new : State) (command : Command) (piece : List Entry) (lines : List Line) → is_of_threads command ≡ true
    → Step setup old command piece lines new → HasQueues old.queues old.running → HasQueues new.queues new.running
thread_queues setup old new (C.At j order) piece lines its h q = elim h.1 [
  | inl memory ↦ same_queues old new (ap (λ (s : State). s.queues) memory.1) (ap (λ (s : State). s.running) memory.1) q
  | inr d ↦ (
    ap (λ (s : State). length s.queues) d.1 ∙ length-set old.queues (j - 1) _ ∙ q.0,
    subst AreThreads (sym (ap (λ (s : State). s.running) d.1)) q.1,
  )
]
thread_queues setup old new C.ThreadsGo piece lines its h q = elim h.1 [
  | inl d ↦ same_queues old new (ap (λ (s : State). s.queues) d.1) (ap (λ (s : State). s.running) d.1) q
  | inr d ↦ (
    ap (λ (s : State). length s.queues) d.1 ∙ q.0,
    subst AreThreads (sym (ap (λ (s : State). s.running) d.1)) (started old).threads,
  )
]
thread_queues setup old new C.ThreadsJoin piece lines its h q = (
  ap (λ (s : State). length s.queues) h.after,
  subst AreThreads (sym (ap (λ (s : State). s.running) h.after)) none_runs,
)
thread_queues setup old new command piece lines its h q = cc

queues_stay : (setup : Setup) (old new : State) (command : Command) (piece : List Entry) (lines : List Line) → Step setup old command piece lines new
    → HasQueues old.queues old.running → HasQueues new.queues new.running
queues_stay setup old new command piece lines h q =
    let left = steps_leave_threads setup old command piece lines new h in
    elim (cases_Bool (is_of_threads command)) [
      | inl its ↦ thread_queues setup old new command piece lines its h q
      | inr none ↦ same_queues old new (left.queues none) (left.running none) q
    ]

-- ---- runs

step_keeps_slots : (setup : Setup) (old new : State) (command : Command) (piece : List Entry) (lines : List Line) → Step setup old command piece lines new
    → HasAllSlots old → HasAllSlots new
step_keeps_slots setup old new command piece lines h all =
    let left = steps_leave_rest setup old command piece lines new h in
    let queues : HasQueues new.queues new.running = queues_stay setup old new command piece lines h (all.queues, all.threads) in
    record {
      strong = left.slot_count ∙ all.strong;
      weak = left.weak_count ∙ all.weak;
      region = ap length (step_follows setup old new command piece lines h).slots ∙ replayed_length old.region piece ∙ all.region;
      queues = queues.0;
      threads = queues.1;
    }

keep_slots : (setup : Setup) (first : State) (commands : List Command) (outcomes : List Outcome) (k : ℕ) → Run setup first commands outcomes
    → HasAllSlots first → HasAllSlots (last_state first (take k outcomes))
keep_slots setup first commands outcomes zero run all = all
keep_slots setup first commands [] (suc k) run all = all
keep_slots setup first [] (o ∷ outcomes) (suc k) run all = absurd run
keep_slots setup first (command ∷ commands) (o ∷ outcomes) (suc k) run all =
    keep_slots setup o.state commands outcomes k run.1 (step_keeps_slots setup first o.state command o.piece o.lines run.0 all)

pub runs_keep_slots : RunsKeepSlots
runs_keep_slots setup commands outcomes k run =
    keep_slots setup empty_state commands outcomes k run (record { strong = refl; weak = refl; region = refl; queues = refl; threads = none_runs })
