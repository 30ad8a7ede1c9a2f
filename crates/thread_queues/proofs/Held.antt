-- Queues as the code holds them: their orders and replies, after a change of one of them.
use Rattle.std.proofs.Common.{◌≡◌, ℕ, Bool, false, cond, ◌+◌, ◌-◌, ◌<◌, List, [], ◌∷◌, ◌++◌, length, get_or, set, take, replicate, Some, sym, ap, ◌∙◌, subst, arith}
use Rattle.std.specs.List.{flat_map, slice_get}
use Rattle.std.proofs.lemmas.List.{append-nil, length-map, get_or-map, map-set, replicate_more, take_more_set}
use Rattle.std.proofs.lemmas.List.Concat.{flat_map-append, get_or-flat_map}
use Rattle.std.proofs.lemmas.List.Folds.{flat_map-map, length-flat_map-take}
use Rattle.std.proofs.lemmas.Option.{slice_get-get_or}
use Rattle.std.proofs.Math.Seq.{map-set_same}
use Rattle.gc_graph.specs.declared.command.Order.{Order}
use Rattle.gc_graph.specs.declared.line.Line.{Line}
use Rattle.cross_thread_region.specs.Calls.{PassView}
use Rattle.heap_stats.specs.declared.totals.Totals.{Totals}
use Rattle.thread_queues.specs.Queues.{ThreadView, QueuesView, orders_of, pass_begun, passes_of, replies_of, queue_in, threads_in, view_of, with_order}
use Rattle.thread_queues.proofs.Threads.{next_queue}

-- the orders of a queue
pub orders_at : (threads : List ThreadView) (i : ℕ) (thread : ThreadView) → i < length threads → thread ≡ get_or threads i thread
    → get_or (orders_of threads) i [] ≡ thread.orders
orders_at threads i thread low is = get_or-map (λ (q : ThreadView). q.orders) threads i thread [] low ∙ ap (λ (q : ThreadView). q.orders) (sym is)

-- and of the thread whose queue it is
pub queue_at : (old now : List ThreadView) (i : ℕ) (thread : ThreadView) → orders_of now ≡ orders_of old → i < length now → thread ≡ get_or now i thread
    → queue_in (orders_of old) (i + 1) ≡ thread.orders
queue_at old now i thread same low is =
    next_queue (orders_of old) i ∙ ap (λ threads. get_or threads i []) (sym same) ∙ orders_at now i thread low is

-- a queue that keeps its orders
pub orders_stay : (threads : List ThreadView) (i : ℕ) (old new : ThreadView) → old ≡ get_or threads i old → new.orders ≡ old.orders
    → orders_of (set threads i new) ≡ orders_of threads
orders_stay threads i old new is same = map-set_same (λ (q : ThreadView). q.orders) threads i new old (same ∙ ap (λ (q : ThreadView). q.orders) is)

-- a queue that keeps its replies
pub replies_stay : (threads : List ThreadView) (i : ℕ) (old new : ThreadView) → old ≡ get_or threads i old → new.replies ≡ old.replies
    → replies_of (set threads i new) ≡ replies_of threads
replies_stay threads i old new is same =
    sym (flat_map-map (λ (r : List Line). r) (λ (q : ThreadView). q.replies) (set threads i new))
    ∙ ap (flat_map (λ (r : List Line). r)) (map-set_same (λ (q : ThreadView). q.replies) threads i new old (same ∙ ap (λ (q : ThreadView). q.replies) is))
    ∙ flat_map-map (λ (r : List Line). r) (λ (q : ThreadView). q.replies) threads

-- and one that keeps its passes
pub passes_stay : (threads : List ThreadView) (i : ℕ) (old new : ThreadView) → old ≡ get_or threads i old → new.run ≡ old.run
    → passes_of (set threads i new) ≡ passes_of threads
passes_stay threads i old new is same =
    sym (flat_map-map pass_begun (λ (q : ThreadView). q.run) (set threads i new))
    ∙ ap (flat_map pass_begun) (map-set_same (λ (q : ThreadView). q.run) threads i new old (same ∙ ap (λ (q : ThreadView). q.run) is))
    ∙ flat_map-map pass_begun (λ (q : ThreadView). q.run) threads

replies_push : (threads : List ThreadView) (thread : ThreadView) → replies_of (threads ++ thread ∷ []) ≡ replies_of threads ++ thread.replies
replies_push threads thread =
    flat_map-append (λ (q : ThreadView). q.replies) threads (thread ∷ []) ∙ ap (λ l. replies_of threads ++ l) (append-nil thread.replies)

-- the replies of one more queue
pub replies_next : (threads : List ThreadView) (i : ℕ) (new : ThreadView) → i < length threads
    → replies_of (take (i + 1) (set threads i new)) ≡ replies_of (take i threads) ++ new.replies
replies_next threads i new low = ap replies_of (take_more_set threads i new low) ∙ replies_push (take i threads) new

-- a reply of a queue is one of all
pub reply_at : (threads : List ThreadView) (i left index : ℕ) (thread : ThreadView) (replies : List Line) (line : Line) → i < length threads
    → thread ≡ get_or threads i thread → replies ≡ thread.replies → index ≡ length (replies_of (take i threads)) + left → left < length replies
    → slice_get (replies_of threads) index ≡ Some (get_or replies left line)
reply_at threads i left index thread replies line low is its at within =
    let same : (get_or threads i thread).replies ≡ replies = ap (λ (q : ThreadView). q.replies) (sym is) ∙ sym its in
    let inside : index < length (replies_of threads) =
    omega (arith, at, within, ap length same, length-flat_map-take (λ (q : ThreadView). q.replies) threads i thread low) in
    slice_get-get_or (replies_of threads) index line inside
    ∙ ap Some
    (ap (λ k. get_or (replies_of threads) k line) at
    ∙ get_or-flat_map (λ (q : ThreadView). q.replies) threads i left thread line low (omega (arith, within, ap length same)) ∙ ap (λ l. get_or l left line) same)

-- one more queue has no orders
pub cleared_next : (threads : List ThreadView) (i : ℕ) (new : ThreadView) → i < length threads → new.orders ≡ []
    → take i (orders_of threads) ≡ replicate i [] → take (i + 1) (orders_of (set threads i new)) ≡ replicate (i + 1) []
cleared_next threads i new low none cleared =
    ap (take (i + 1)) (map-set (λ (q : ThreadView). q.orders) threads i new ∙ ap (set (orders_of threads) i) none)
    ∙ take_more_set (orders_of threads) i [] (simp length-map low) ∙ ap (λ l. l ++ [] ∷ []) cleared ∙ replicate_more i []

-- ---- an order that waits

module _ (threads : List ThreadView) (thread : ℕ) (order : Order) (old new : ThreadView) (low : thread - 1 < length threads)
    (is : old ≡ get_or threads (thread - 1) old) (pushed : new ≡ record old { orders = old.orders ++ order ∷ [] }) where
  -- the threads with it
  abbrev now : List ThreadView
  now = set threads (thread - 1) new

  new_orders : new.orders ≡ queue_in (orders_of threads) thread ++ order ∷ []
  new_orders = ap (λ (q : ThreadView). q.orders) pushed ∙ ap (λ l. l ++ order ∷ []) (sym (orders_at threads (thread - 1) old low is))

  -- it stands behind the others of its thread
  orders_queued : orders_of now ≡ with_order (orders_of threads) thread order
  orders_queued = map-set (λ (q : ThreadView). q.orders) threads (thread - 1) new ∙ ap (set (orders_of threads) (thread - 1)) new_orders

  -- and nothing else changes
  pub view_queued : (awaiting away : Bool) (last : Totals) (since : List Totals) (view : QueuesView) → view_of threads awaiting away last since ≡ view
      → view.awaiting ≡ false → view_of now awaiting away last since ≡ record view { queues = with_order view.queues thread order }
  view_queued awaiting away last since view viewed joined =
      subst (λ (v : QueuesView). view_of now awaiting away last since ≡ record v { queues = with_order v.queues thread order }) viewed
      (ap (λ (r : List ℕ). record (view_of now awaiting away last since) { running = r })
      (none_run (threads_in (orders_of now)) ∙ sym (none_run (threads_in (orders_of threads))))
      ∙ ap (λ (o : List (List Order)). record (view_of now awaiting away last since) { queues = o; running = cond awaiting (threads_in (orders_of threads)) [] })
      orders_queued
      ∙ ap (λ (r : List Line). record (view_of threads awaiting away last since) { queues = with_order (orders_of threads) thread order; replies = r; passes = passes_of now })
      (replies_stay threads (thread - 1) old new is (ap (λ (q : ThreadView). q.replies) pushed))
      ∙ ap (λ (p : List PassView). record (view_of threads awaiting away last since) { queues = with_order (orders_of threads) thread order; passes = p })
      (passes_stay threads (thread - 1) old new is (ap (λ (q : ThreadView). q.run) pushed))) where
        none_run : (numbers : List ℕ) → cond awaiting numbers [] ≡ []
        none_run numbers = ap (λ b. cond b numbers []) (ap (λ (v : QueuesView). v.awaiting) viewed ∙ joined)
