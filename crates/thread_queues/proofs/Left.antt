-- The queues that a join leaves.
use Rattle.std.proofs.Common.{◌≡◌, ℕ, zero, suc, ◌+◌, Bool, true, false, List, [], ◌∷◌, length, map, replicate, refl, sym, ap, ◌∙◌, inl, inr, arith, cond, Contains, eqb}
use Rattle.std.specs.List.{list_any, range_with_len}
use Rattle.std.proofs.lemmas.Bool.{cases_Bool, ltb-false, true≢false}
use Rattle.std.proofs.lemmas.List.{nil_from_length}
use Rattle.gc_graph.specs.declared.command.Order.{Order}
use Rattle.gc_graph.specs.Members.{Contains-head, Contains-cons, holds_from, stays_in}
use Rattle.cross_thread_region.specs.Calls.{PassView}
use Rattle.heap_stats.specs.declared.totals.Totals.{Totals}
use Rattle.thread_queues.specs.Queues.{QueuesView, ThreadView, orders_of, passes_of, replies_of, queue_in, threads_in, queues_left, view_of}
use Rattle.thread_queues.proofs.Threads.{has_orders}

left_none : (queues : List (List Order)) (j : ℕ) → Contains (range_with_len 1 8) j
    → cond (list_any (λ k. eqb k j) (threads_in queues)) [] (queue_in queues j) ≡ []
left_none queues j within = elim (cases_Bool (list_any (λ k. eqb k j) (threads_in queues))) [
  | inl runs ↦ ap (λ b. cond b [] (queue_in queues j)) runs
  | inr rests ↦ ap (λ b. cond b [] (queue_in queues j)) rests ∙ elim (cases_Bool (has_orders queues j)) [
    | inl has ↦ absurd (true≢false (sym (holds_from (threads_in queues) j (stays_in (has_orders queues) (range_with_len 1 8) j within has)) ∙ rests))
    | inr empty ↦ nil_from_length (queue_in queues j) (omega (arith, ltb-false 0 (length (queue_in queues j)) empty))
  ]
]

all_none : (f : ℕ → List Order) (first n : ℕ) → ((j : ℕ) → Contains (range_with_len first n) j → f j ≡ []) → map f (range_with_len first n) ≡ replicate n []
all_none f first zero none = refl
all_none f first (suc n) none =
    ap (λ q. q ∷ map f (range_with_len (first + 1) n)) (none first (Contains-head first (range_with_len (first + 1) n)))
    ∙ ap (λ qs. [] ∷ qs) (all_none f (first + 1) n (λ j c. none j (Contains-cons first (range_with_len (first + 1) n) j c)))

-- after the join of all threads with orders each queue is empty
none_are_left : (queues : List (List Order)) → queues_left queues (threads_in queues) ≡ replicate 8 []
none_are_left queues = all_none (λ j. cond (list_any (λ k. eqb k j) (threads_in queues)) [] (queue_in queues j)) 1 8 (left_none queues)

-- the threads that run are those with orders
pub running_is : (threads : List ThreadView) (awaiting away : Bool) (last : Totals) (since : List Totals) (old : QueuesView)
    → view_of threads awaiting away last since ≡ old → old.awaiting ≡ true → old.running ≡ threads_in old.queues
running_is threads awaiting away last since old viewed awaits =
    sym (ap (λ (v : QueuesView). v.running) viewed) ∙ ap (λ b. cond b (threads_in (orders_of threads)) []) (ap (λ (v : QueuesView). v.awaiting) viewed ∙ awaits)
    ∙ ap (λ (v : QueuesView). threads_in v.queues) viewed

-- what a join leaves
pub joined_is : (threads left : List ThreadView) (awaiting away : Bool) (last : Totals) (since : List Totals) (old : QueuesView)
    → view_of threads awaiting away last since ≡ old → old.awaiting ≡ true → orders_of left ≡ replicate 8 [] → passes_of left ≡ passes_of threads
    → view_of left false away last since
    ≡ record old { queues = queues_left old.queues old.running; running = []; awaiting = false; replies = replies_of left }
joined_is threads left awaiting away last since old viewed awaits cleared here =
    let empty_queues : orders_of left ≡ queues_left old.queues old.running =
    cleared ∙ sym (none_are_left old.queues) ∙ ap (queues_left old.queues) (sym (running_is threads awaiting away last since old viewed awaits)) in
    ap (λ (x : List (List Order)). record (view_of left false away last since) { queues = x }) empty_queues
    ∙ ap (λ (x : List PassView). record (view_of left false away last since) { queues = queues_left old.queues old.running; passes = x }) here
    ∙ ap (λ (v : QueuesView). record v { queues = queues_left old.queues old.running; running = []; awaiting = false; replies = replies_of left }) viewed
