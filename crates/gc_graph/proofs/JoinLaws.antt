-- Orders wait in order, the threads that have some are started, a join tells all answers, and each entry is told once.
use Rattle.std.proofs.Common.{◌≡◌, ◌≢◌, ℕ, ◌+◌, ◌-◌, ◌<◌, ◌≤◌, nat_lt, Bool, true, false, List, [], ◌∷◌, ◌++◌, length, map, filter, get_or, set, refl, sym, ap, ◌∙◌, subst, inl, inr, arith, Contains, All, cond}
use Rattle.std.specs.List.{filter_map, flat_map, range_with_len}
use Rattle.std.specs.List.Sorted.{IsNonDecreasingBy}
use Rattle.std.proofs.lemmas.Bool.{lt-ltb, ltb-true}
use Rattle.std.proofs.lemmas.List.{append_assoc, append-nil, get_or-set_same, get_or-set_other, get_or_default}
use Rattle.std.proofs.lemmas.List.Elements.{filter-append}
use Rattle.std.proofs.lemmas.List.FromFn.{get_or-range_with_len, length-range_with_len, get_or-map-range_with_len}
use Rattle.std.proofs.lemmas.List.Kept.{IsStrictlyIncreasing-filter}
use Rattle.gc_graph.specs.declared.command.Command.{Command}
use Rattle.gc_graph.specs.declared.command.Command.TheVariants as C
use Rattle.gc_graph.specs.declared.command.Order.{Order}
use Rattle.gc_graph.specs.declared.line.Line.{Line}
use Rattle.gc_graph.specs.declared.line.Line.TheVariants as L
use Rattle.gc_graph.specs.declared.region.Entry.{Entry}
use Rattle.gc_graph.specs.State.{Setup, State, empty_state}
use Rattle.gc_graph.specs.Outcomes.{took}
use Rattle.gc_graph.specs.RegionSteps.{queue_of, entries_by, threads_with_orders, is_running, Answer, StepThreadsJoin}
use Rattle.gc_graph.specs.Step.{Step}
use Rattle.gc_graph.specs.Lawful.{Outcome, Run, last_state, history_of}
use Rattle.gc_graph.specs.Members.{was_in, has_passed, stays_in, in_range, to_range, holds_from, in_from_holds}
use Rattle.gc_graph.specs.JoinLaw.{IsThread, OrdersWaitInOrder, AreThreads, AreStarted, ThreadsWithOrdersGo, is_answer_of, tells_totals, reply_told, stand_of, TellsAnswers, LeavesNone, JoinsTellAll, entries_in, EntriesAreToldOnce}
use Rattle.gc_graph.specs.ThreadLaw.{is_of_threads}
use Rattle.gc_graph.proofs.FamilyFrames.{took_else}
use Rattle.gc_graph.proofs.FamilyRests.{nothing_more}
use Rattle.gc_graph.proofs.ThreadLaws.{owners_leave}
use Rattle.std.proofs.lemmas.Bool.{cases_Bool}
use Rattle.gc_graph.proofs.JoinLines.{kinds_of_answers, replies_of_answers, none_of_entries, up_from, told, none_told, all_told, join_rises, entries_in-append, entries_told, all_tell_none}

-- ---- orders

one_thread : (j k : ℕ) → IsThread j → IsThread k → k ≢ j → k - 1 ≢ j - 1
one_thread j k a b other same = other (let l = a.0 in let m = b.0 in omega (arith, same))

pub orders_wait_in_order : OrdersWaitInOrder
orders_wait_in_order setup old new j order piece lines thread whole h e = elim h.1 [
  | inl memory ↦ absurd (not_queued (sym memory.0 ∙ e))
  | inr done ↦
      (let queues : new.queues ≡ set old.queues (j - 1) (queue_of old j ++ order ∷ []) = ap (λ (s : State). s.queues) done.1 in
      record {
        last =
            ap (λ qs. get_or qs (j - 1) []) queues
            ∙ get_or-set_same old.queues (j - 1) (queue_of old j ++ order ∷ []) [] (let l = thread.0 in let m = thread.1 in omega (arith, whole));
        others = λ k other ne.
            ap (λ qs. get_or qs (k - 1) []) queues
            ∙ get_or-set_other old.queues (j - 1) (k - 1) (queue_of old j ++ order ∷ []) [] (one_thread j k thread other ne);
      })
] where
  not_queued : L.Memory ∷ [] ≡ L.Queued ∷ [] → ⊥
  not_queued e = cc

-- ---- starts

abbrev told_going : List Line → ℕ
told_going (L.Going m ∷ []) = m
told_going lines = 0

not_going : (m : ℕ) → L.Memory ∷ [] ≡ L.Going m ∷ [] → ⊥
not_going m e = cc

up_range : (k : ℕ) → k + 1 < length (range_with_len 1 8) → get_or (range_with_len 1 8) k 0 < get_or (range_with_len 1 8) (k + 1) 0
up_range k low =
    let whole = length-range_with_len 1 8 in
    let one = get_or-range_with_len 1 8 k 0 (omega (arith, low, whole)) in
    let next = get_or-range_with_len 1 8 (k + 1) 0 (omega (arith, low, whole)) in
    omega (arith, one, next)

some_order : (orders : List Order) → orders ≢ [] → 0 < length orders
some_order [] some = absurd (some refl)
some_order (order ∷ orders) some = omega arith

no_empty : (orders : List Order) → 0 < length orders → orders ≢ []
no_empty orders some none = (let e = ap length none in omega (arith, e, some))

pub started : (old : State) → AreStarted old (length (threads_with_orders old)) (record old { running = threads_with_orders old })
started old = record {
  count = refl;
  threads = record {
    each = λ j c. (let w = in_range 1 8 j (was_in (λ k. nat_lt 0 (length (queue_of old k))) (range_with_len 1 8) j c) in (w.0, omega (arith, w.1)));
    ascending = IsStrictlyIncreasing-filter (λ k. nat_lt 0 (length (queue_of old k))) (range_with_len 1 8) up_range;
  };
  with_orders = λ j thread some.
      stays_in (λ k. nat_lt 0 (length (queue_of old k))) (range_with_len 1 8) j (to_range 1 8 j thread.0 (let l = thread.1 in omega arith))
      (lt-ltb 0 (length (queue_of old j)) (some_order (queue_of old j) some));
  no_others = λ j c.
      no_empty (queue_of old j)
      (ltb-true 0 (length (queue_of old j)) (has_passed (λ k. nat_lt 0 (length (queue_of old k))) (range_with_len 1 8) j c));
}

running_started : (old new mid : State) (m n : ℕ) → new.running ≡ mid.running → n ≡ m → AreStarted old n mid → AreStarted old m new
running_started old new mid m n same e h = record {
  count = ap length same ∙ h.count ∙ e;
  threads = subst AreThreads (sym same) h.threads;
  with_orders = λ j thread some. subst (λ js. Contains js j) (sym same) (h.with_orders j thread some);
  no_others = λ j c. h.no_others j (subst (λ js. Contains js j) same c);
}

pub threads_with_orders_go : ThreadsWithOrdersGo
threads_with_orders_go setup old new piece lines m h e = elim h.1 [
  | inl memory ↦ absurd (not_going m (sym memory.0 ∙ e))
  | inr done ↦
      running_started old new (record old { running = threads_with_orders old }) m (length (threads_with_orders old))
      (ap (λ (s : State). s.running) done.1) (ap told_going (sym done.0 ∙ e)) (started old)
]

-- ---- joins

pub parts_of : (j : ℕ) (answers : ℕ → List Answer) (js : List ℕ) (entries : List Entry) (m : ℕ)
    → filter (is_answer_of j) (told answers js ++ map (λ entry. L.Entry entry) entries ++ L.Joined m ∷ []) ≡ filter (is_answer_of j) (told answers js)
parts_of j answers js entries m =
    filter-append (is_answer_of j) (told answers js ++ map (λ entry. L.Entry entry) entries) (L.Joined m ∷ [])
    ∙ append-nil (filter (is_answer_of j) (told answers js ++ map (λ entry. L.Entry entry) entries))
    ∙ filter-append (is_answer_of j) (told answers js) (map (λ entry. L.Entry entry) entries)
    ∙ ap (λ ls. filter (is_answer_of j) (told answers js) ++ ls) (none_of_entries j entries)
    ∙ append-nil (filter (is_answer_of j) (told answers js))

pub join_entries : (old new : State) (piece : List Entry) (lines : List Line) → StepThreadsJoin old piece lines new → entries_in lines ≡ (took old piece).unprinted
join_entries old new piece lines h =
    let answers : List Line = told h.answers old.running in
    let entries : List Line = map (λ entry. L.Entry entry) (took old piece).unprinted in
    ap entries_in h.lines_are
    ∙ entries_in-append (answers ++ entries) (L.Joined (length old.running) ∷ [])
    ∙ append-nil (entries_in (answers ++ entries))
    ∙ entries_in-append answers entries
    ∙ ap (λ es. es ++ entries_in entries) (all_tell_none h.answers old.running)
    ∙ entries_told (took old piece).unprinted

join_tells : (old new : State) (piece : List Entry) (lines : List Line) → AreThreads old.running → StepThreadsJoin old piece lines new → TellsAnswers old lines
join_tells old new piece lines threads h =
    let up = up_from old.running threads.ascending in
    let few : All (λ k. k ≤ 8) old.running = (λ i d low. (threads.each (get_or old.running i d) (i, low, get_or_default old.running i _ d low)).1) in
    let some : (j : ℕ) → filter (is_answer_of j) lines ≡ filter (is_answer_of j) (told h.answers old.running) =
    (λ j. ap (filter (is_answer_of j)) h.lines_are ∙ parts_of j h.answers old.running (took old piece).unprinted (length old.running)) in
    record {
      answers = λ j c.
          ap (map tells_totals) (some j ∙ all_told h.answers j old.running up c)
          ∙ kinds_of_answers j (queue_of old j) (h.answers j) _ (h.done j c);
      replies = λ j c.
          ap (filter_map reply_told) (some j ∙ all_told h.answers j old.running up c)
          ∙ replies_of_answers j (queue_of old j) (h.answers j) _ (h.done j c)
          ∙ ap (λ es. map (λ (entry : Entry). entry.reply) (entries_by j es)) (sym (join_entries old new piece lines h));
      no_others = λ j out. some j ∙ none_told h.answers j old.running out;
      in_order =
          subst (IsNonDecreasingBy stand_of) (sym h.lines_are)
          (join_rises h.answers old.running (took old piece).unprinted (length old.running) up few);
      last = (_, h.lines_are);
    }

is_false : (b : Bool) → (b ≡ true → ⊥) → b ≡ false
is_false true out = absurd (out refl)
is_false false out = refl

join_leaves : (old new : State) (piece : List Entry) (lines : List Line) → StepThreadsJoin old piece lines new → LeavesNone old new
join_leaves old new piece lines h =
    let mid : State = took old piece in
    let taken = took_else old piece in
    let running : (j : ℕ) → is_running mid j ≡ is_running old j = (λ j. ap (λ (s : State). is_running s j) taken) in
    let at : (j : ℕ) → IsThread j → queue_of new j ≡ cond (is_running old j) [] (queue_of old j) =
    (λ j thread.
    ap (λ (s : State). queue_of s j) h.after
    ∙ get_or-map-range_with_len (λ k. cond (is_running mid k) [] (queue_of mid k)) 1 8 (j - 1) j [] (let l = thread.0 in let m = thread.1 in omega arith)
    (let l = thread.0 in omega arith)
    ∙ ap (λ b. cond b [] (queue_of mid j)) (running j) ∙ ap (λ (s : State). cond (is_running old j) [] (queue_of s j)) taken) in
    record {
      emptied = λ j thread c. at j thread ∙ ap (λ b. cond b [] (queue_of old j)) (holds_from old.running j c);
      kept = λ j thread out.
          at j thread ∙ ap (λ b. cond b [] (queue_of old j)) (is_false (is_running old j) (λ on. out (in_from_holds old.running j on)));
      none_runs = ap (λ (s : State). s.running) h.after;
      none_awaited = ap (λ (s : State). s.awaiting) h.after;
      all_told = ap (λ (s : State). s.unprinted) h.after;
    }

pub joins_tell_all : JoinsTellAll
joins_tell_all setup old new piece lines threads h = (join_tells old new piece lines threads h, join_leaves old new piece lines h)

-- ---- entries are told once

-- what a step takes of the history is told by it, or is yet to be told
abbrev Accounts : State → List Entry → List Line → State → Type 0
Accounts old piece lines new = old.unprinted ++ piece ≡ entries_in lines ++ new.unprinted

-- the step tells no entry
quietly : (old new : State) (piece : List Entry) (lines : List Line) → entries_in lines ≡ [] → new.unprinted ≡ old.unprinted ++ piece
    → Accounts old piece lines new
quietly old new piece lines quiet e = sym e ∙ ap (λ es. es ++ new.unprinted) (sym quiet)

thread_accounts : (setup : Setup) (old new : State) (command : Command) (piece : List Entry) (lines : List Line) → is_of_threads command ≡ true
    → Step setup old command piece lines new → Accounts old piece lines new
thread_accounts setup old new (C.At j order) piece lines its h = elim h.1 [
  | inl memory ↦ quietly old new piece lines (ap entries_in memory.0) (nothing_more old new piece h.0 (ap (λ (s : State). s.unprinted) memory.1))
  | inr done ↦ quietly old new piece lines (ap entries_in done.0) (nothing_more old new piece h.0 (ap (λ (s : State). s.unprinted) done.1))
]
thread_accounts setup old new C.ThreadsGo piece lines its h = elim h.1 [
  | inl memory ↦ quietly old new piece lines (ap entries_in memory.0) (nothing_more old new piece h.0 (ap (λ (s : State). s.unprinted) memory.1))
  | inr done ↦ quietly old new piece lines (ap entries_in done.0) (nothing_more old new piece h.0 (ap (λ (s : State). s.unprinted) done.1))
]
thread_accounts setup old new C.ThreadsJoin piece lines its h =
    let mid : State = took old piece in
    let all : entries_in lines ≡ mid.unprinted = join_entries old new piece lines h in
    sym (ap (λ (s : State). s.unprinted) (took_else old piece)) ∙ sym all ∙ sym (append-nil (entries_in lines))
    ∙ ap (λ es. entries_in lines ++ es) (sym (ap (λ (s : State). s.unprinted) h.after))
thread_accounts setup old new command piece lines its h = cc

step_accounts : (setup : Setup) (old new : State) (command : Command) (piece : List Entry) (lines : List Line) → Step setup old command piece lines new
    → Accounts old piece lines new
step_accounts setup old new command piece lines h =
    elim (cases_Bool (is_of_threads command)) [
      | inl its ↦ thread_accounts setup old new command piece lines its h
      | inr none ↦
          (let own = owners_leave setup old new command piece lines none h in quietly old new piece lines own.1 own.0.unprinted)
    ]

abbrev all_entries : List Outcome → List Entry
all_entries outcomes = flat_map (λ (o : Outcome). entries_in o.lines) outcomes

run_accounts : (setup : Setup) (first : State) (commands : List Command) (outcomes : List Outcome) → Run setup first commands outcomes
    → first.unprinted ++ history_of outcomes ≡ all_entries outcomes ++ (last_state first outcomes).unprinted
run_accounts setup first [] [] run = append-nil first.unprinted
run_accounts setup first (command ∷ commands) (o ∷ outcomes) run =
    let rest = run_accounts setup o.state commands outcomes run.1 in
    sym (append_assoc first.unprinted o.piece (history_of outcomes))
    ∙ ap (λ es. es ++ history_of outcomes) (step_accounts setup first o.state command o.piece o.lines run.0)
    ∙ append_assoc (entries_in o.lines) o.state.unprinted (history_of outcomes)
    ∙ ap (λ es. entries_in o.lines ++ es) rest
    ∙ sym (append_assoc (entries_in o.lines) (all_entries outcomes) (last_state o.state outcomes).unprinted)
run_accounts setup first [] (o ∷ outcomes) run = absurd run
run_accounts setup first (command ∷ commands) [] run = absurd run

pub entries_are_told_once : EntriesAreToldOnce
entries_are_told_once setup commands outcomes run = run_accounts setup empty_state commands outcomes run
