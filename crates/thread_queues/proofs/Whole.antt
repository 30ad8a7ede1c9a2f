-- What is true of the threads and of the board between two calls.
use Rattle.std.proofs.Common.{◌≡◌, ℕ, ◌≤◌, Bool, true, false, List, [], ◌∷◌, ◌++◌, length, replicate, All, refl, sym, ap, ◌∙◌, subst}
use Rattle.std.proofs.lemmas.Bool.{true≢false}
use Rattle.std.proofs.lemmas.List.{append_assoc, length-map}
use Rattle.std.proofs.lemmas.Option.{none-some}
use Rattle.atomic_table.specs.Seated.{TableId}
use Rattle.cross_thread_region.specs.Calls.{RegionView, PassView}
use Rattle.heap_stats.specs.Boards.{PublisherView, with_published}
use Rattle.heap_stats.specs.declared.totals.Totals.{Totals}
use Rattle.thread_queues.specs.Queues.{QueuesView, ThreadView, orders_of, passes_of, posted, view_of}
use Rattle.thread_queues.specs.Going.{AreOut}
use Rattle.thread_queues.specs.Orders.{HasOut}
use Rattle.thread_queues.specs.Runs.{AreAtWork, IsLentBy, IsLentThen, IsPosted, ThreadsAreHere}
use Rattle.thread_queues.proofs.Away.{all_here}
use Rattle.thread_queues.proofs.Posted.{first_stays}

-- how many they are
pub eight_still : (threads now : List ThreadView) → orders_of now ≡ orders_of threads → length threads ≡ 8 → length now ≡ 8
eight_still threads now same eight =
    sym (length-map now (λ (t : ThreadView). t.orders)) ∙ ap length same ∙ length-map threads (λ (t : ThreadView). t.orders) ∙ eight

pub eight_cleared : (now : List ThreadView) → orders_of now ≡ replicate 8 [] → length now ≡ 8
eight_cleared now cleared = sym (length-map now (λ (t : ThreadView). t.orders)) ∙ ap length cleared

-- all threads are here
pub threads_here : (threads : List ThreadView) (awaiting : Bool) (room : ℕ) → length threads ≡ 8 → 8 ≤ room → passes_of threads ≡ []
    → ThreadsAreHere threads awaiting false room
threads_here threads awaiting room eight enough none = record {
  eight = eight;
  room_for_passes = enough;
  none_away = λ _. none;
  at_work = λ away. absurd (true≢false (sym away));
  awaited = λ away. absurd (true≢false (sym away));
}

-- they are while no join is awaited
pub not_away : (threads : List ThreadView) (awaiting away : Bool) (room : ℕ) → ThreadsAreHere threads awaiting away room → awaiting ≡ false → away ≡ false
not_away threads awaiting true room here still = absurd (true≢false (sym (here.awaited refl) ∙ still))
not_away threads awaiting false room here still = refl

-- or all that have orders are at work
pub threads_away : (threads : List ThreadView) (room : ℕ) → length threads ≡ 8 → 8 ≤ room → AreAtWork threads → ThreadsAreHere threads true true room
threads_away threads room eight enough work = record {
  eight = eight;
  room_for_passes = enough;
  none_away = λ here. absurd (true≢false here);
  at_work = λ _. work;
  awaited = λ _. refl;
}

-- the board stays, where no thread is away
pub posted_here : (board : TableId) (publisher now : PublisherView) (since : List Totals) (threads left : List ThreadView) → IsPosted board publisher since threads
    → now ≡ publisher → passes_of left ≡ [] → IsPosted board now since left
posted_here board publisher now since threads left p same none = record {
  board_is = ap (λ (q : PublisherView). q.board) same ∙ p.board_is;
  earlier = p.earlier;
  published =
      ap (λ (q : PublisherView). q.published) same ∙ p.published
      ∙ ap (λ (q : PublisherView). p.earlier ++ posted since q.last) (sym same);
  lent = λ i d low own runs. absurd (none-some own (sym (all_here left i d none low) ∙ runs));
  then_lent = λ i d low own runs. absurd (none-some own (sym (all_here left i d none low) ∙ runs));
}

-- one more publication
pub posted_more : (board : TableId) (publisher now : PublisherView) (since : List Totals) (totals : Totals) (threads : List ThreadView)
    → IsPosted board publisher since threads → now ≡ with_published publisher totals → IsPosted board now (posted since publisher.last) threads
posted_more board publisher now since totals threads p is =
    subst (λ (q : PublisherView). IsPosted board q (posted since publisher.last) threads) (sym is) (record {
      board_is = p.board_is;
      earlier = p.earlier;
      published =
          ap (λ l. l ++ totals ∷ []) p.published ∙ append_assoc p.earlier (posted since publisher.last) (totals ∷ []);
      lent = p.lent;
      then_lent = subst (λ n. All (IsLentThen n) threads) (sym (first_stays since publisher.last totals)) p.then_lent;
    })

-- threads went
pub posted_gone : (board : TableId) (publisher now : PublisherView) (since : List Totals) (threads left : List ThreadView) → IsPosted board publisher since threads
    → now ≡ publisher → All (IsLentBy publisher.board) left → All (IsLentThen publisher.last.ordinal) left → IsPosted board now [] left
posted_gone board publisher now since threads left p same lent then_lent =
    subst (λ (q : PublisherView). IsPosted board q [] left) (sym same) (record {
      board_is = p.board_is;
      earlier = p.earlier ++ since;
      published = p.published ∙ sym (append_assoc p.earlier since (publisher.last ∷ []));
      lent = subst (λ b. All (IsLentBy b) left) p.board_is lent;
      then_lent = then_lent;
    })

-- the passes of the threads that are away are out
pub out_of : (region : RegionView) (pass : PassView) (threads : List ThreadView) (awaiting away : Bool) (last : Totals) (since : List Totals) (view : QueuesView)
    → view_of threads awaiting away last since ≡ view → AreOut region pass view → HasOut region pass (passes_of threads)
out_of region pass threads awaiting away last since view viewed outs =
    subst (HasOut region pass) (sym (ap (λ (v : QueuesView). v.passes) viewed)) (record {
      ready = outs.ready;
      others = outs.others;
      numbers = outs.numbers;
      once = outs.once;
    })
