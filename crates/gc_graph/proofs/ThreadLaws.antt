-- What each command leaves of the threads, and that what is counted stays in bounds.
use Rattle.std.proofs.Common.{◌≡◌, ℕ, ◌+◌, ◌≤◌, Bool, true, false, true≢false, List, [], ◌∷◌, refl, sym, ap, ◌∙◌, inl, inr, arith}
use Rattle.std.specs.Prelude.{count_by, if◌then◌else◌}
use Rattle.std.proofs.lemmas.Bool.{cases_Bool}
use Rattle.std.proofs.lemmas.List.Sums.{sum_by-append}
use Rattle.gc_graph.specs.declared.command.Command.{Command}
use Rattle.gc_graph.specs.declared.command.Command.TheVariants as C
use Rattle.gc_graph.specs.declared.line.Line.{Line}
use Rattle.gc_graph.specs.declared.line.Line.TheVariants as L
use Rattle.gc_graph.specs.declared.region.Entry.{Entry}
use Rattle.gc_graph.specs.State.{Setup, State}
use Rattle.gc_graph.specs.Outcomes.{answered}
use Rattle.gc_graph.specs.Sections.{awaiting_after}
use Rattle.gc_graph.specs.Step.{Step}
use Rattle.gc_graph.specs.ThreadLaw.{is_of_threads, LeavesThreads, StepsLeaveThreads, StepsCount}
use Rattle.gc_graph.specs.CountsLaw.{tells_pause, tells_full}
use Rattle.gc_graph.specs.JoinLaw.{entries_in}
use Rattle.gc_graph.specs.Families.{IsAnsweredOnce}
use Rattle.gc_graph.specs.Commands.{Family, family_of}
use Rattle.gc_graph.specs.LineKinds.{tells_of_orders}
use Rattle.gc_graph.specs.Commands.Family.{Threads}
use Rattle.gc_graph.proofs.FamilyFrames.{steps_stay_in_their_family}
use Rattle.gc_graph.proofs.FamilyRests.{LeavesQueues, leaves_queues, nothing_more, none_before, none_after, tells_no_entry}
use Rattle.gc_graph.proofs.CountedLines.{one_more, none_counted, steps_count_lines}
use Rattle.gc_graph.proofs.Balances.{step_balances}

-- ---- the commands that are none of threads

owners : (command : Command) → is_of_threads command ≡ false → family_of command ≡ Threads → ⊥
owners (C.At j order) none = absurd (true≢false none)
owners C.ThreadsGo none = absurd (true≢false none)
owners C.ThreadsJoin none = absurd (true≢false none)
owners command none = λ e. cc

-- no join is awaited after such a command where none was before
none_awaited : (command : Command) (awaiting : Bool) → is_of_threads command ≡ false → awaiting_after awaiting command ≡ awaiting
none_awaited (C.At j order) awaiting none = absurd (true≢false none)
none_awaited C.ThreadsGo awaiting none = absurd (true≢false none)
none_awaited C.ThreadsJoin awaiting none = absurd (true≢false none)
none_awaited command awaiting none = refl

pub owners_leave : (setup : Setup) (old new : State) (command : Command) (piece : List Entry) (lines : List Line) → is_of_threads command ≡ false
    → Step setup old command piece lines new → LeavesQueues old piece new × (entries_in lines ≡ [])
owners_leave setup old new command piece lines none h =
    let stays = steps_stay_in_their_family setup old command piece lines new h in (
      leaves_queues (family_of command) old piece lines new (owners command none) stays,
      tells_no_entry (family_of command) lines (owners command none) stays.told,
    )

own_leave : (old new : State) (command : Command) (piece : List Entry) → is_of_threads command ≡ false → LeavesQueues old piece new
    → LeavesThreads old command piece new
own_leave old new command piece none h = record {
  awaiting = h.awaiting ∙ sym (none_awaited command old.awaiting none);
  queues = λ same. h.queues;
  running = λ same. h.running;
  unprinted = λ more. h.unprinted;
}

-- ---- commands of threads

-- from the state whose answer was counted
left : (old new x : State) (command : Command) (piece : List Entry) → is_of_threads command ≡ true → piece ≡ [] → new ≡ answered x
    → x.awaiting ≡ awaiting_after old.awaiting command → x.unprinted ≡ old.unprinted → LeavesThreads old command piece new
left old new x command piece its none e awaiting unprinted = record {
  awaiting = ap (λ (s : State). s.awaiting) e ∙ awaiting;
  queues = λ no. absurd (true≢false (sym its ∙ no));
  running = λ no. absurd (true≢false (sym its ∙ no));
  unprinted = λ more. nothing_more old new piece none (ap (λ (s : State). s.unprinted) e ∙ unprinted);
}

thread_leave : (setup : Setup) (old new : State) (command : Command) (piece : List Entry) (lines : List Line) → is_of_threads command ≡ true
    → Step setup old command piece lines new → LeavesThreads old command piece new
thread_leave setup old new (C.At j order) piece lines its h =
    elim h.1 [ inl memory ↦ left old new old (C.At j order) piece refl h.0 memory.1 refl refl | inr d ↦ left old new _ (C.At j order) piece refl h.0 d.1 refl refl ]
thread_leave setup old new C.ThreadsGo piece lines its h =
    elim h.1 [ inl d ↦ left old new _ C.ThreadsGo piece refl h.0 d.1 refl refl | inr d ↦ left old new _ C.ThreadsGo piece refl h.0 d.1 refl refl ]
thread_leave setup old new C.ThreadsJoin piece lines its h = record {
  awaiting = ap (λ (s : State). s.awaiting) h.after;
  queues = λ no. absurd (true≢false no);
  running = λ no. absurd (true≢false no);
  unprinted = λ more. absurd (more refl);
}
thread_leave setup old new command piece lines its h = cc

pub steps_leave_threads : StepsLeaveThreads
steps_leave_threads setup old command piece lines new h =
    elim (cases_Bool (is_of_threads command)) [
      | inl its ↦ thread_leave setup old new command piece lines its h
      | inr none ↦ own_leave old new command piece none (owners_leave setup old new command piece lines none h).0
    ]

-- ---- what is counted

at_most_one : (test : Line → Bool) → ((n : ℕ) → test (L.Finalise n) ≡ false) → ((n d : ℕ) → test (L.WeakCall n d) ≡ false)
    → ((n c : ℕ) → test (L.Prefinalise n c) ≡ false) → ((line : Line) → tells_of_orders line ≡ true → test line ≡ false) → (family : Family) (lines : List Line) → IsAnsweredOnce family lines
    → count_by test lines ≤ 1
at_most_one test gone weak runs orders family lines h =
    let first = none_counted test h.before (none_before test gone orders family h.before h.first) in
    let last = none_counted test h.after (none_after test weak runs family h.after h.then) in
    let all : count_by test lines ≡ count_by test h.before + count_by test (h.answer ∷ h.after) =
    ap (count_by test) h.lines_are ∙ sum_by-append (λ x. if test x then 1 else 0) h.before (h.answer ∷ h.after) in
    elim (cases_Bool (test h.answer)) [
      | inl on ↦ (let one = one_more test h.answer h.after true on in omega (arith, first, last, all, one))
      | inr off ↦ (let one = one_more test h.answer h.after false off in omega (arith, first, last, all, one))
    ]

order_no_pause : (line : Line) → tells_of_orders line ≡ true → tells_pause line ≡ false
order_no_pause (L.Pause kept dead crew traced walked) is = absurd (true≢false (sym is))
order_no_pause other is = refl

order_not_full : (line : Line) → tells_of_orders line ≡ true → tells_full line ≡ false
order_not_full L.Full is = absurd (true≢false (sym is))
order_not_full other is = refl

pub steps_count : StepsCount
steps_count setup old command piece lines new h before =
    let told = (steps_stay_in_their_family setup old command piece lines new h).told in
    let counts = steps_count_lines setup old command piece lines new h in
    let pauses = at_most_one tells_pause (λ n. refl) (λ n d. refl) (λ n c. refl) order_no_pause (family_of command) lines told in
    let full = at_most_one tells_full (λ n. refl) (λ n d. refl) (λ n c. refl) order_not_full (family_of command) lines told in
    record {
      pauses = omega (arith, before.pauses, counts.commands, counts.pauses, pauses);
      full = omega (arith, before.full, counts.commands, counts.full, full);
      finalised = step_balances setup old new command piece lines h before.finalised;
    }
