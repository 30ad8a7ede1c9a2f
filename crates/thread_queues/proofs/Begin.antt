-- Threads that go, one after the other.
use Rattle.std.proofs.Common.{◌≡◌, ℕ, ◌+◌, ◌-◌, ◌<◌, ◌≤◌, true, List, [], ◌∷◌, ◌++◌, length, get_or, All, Contains, Some, None, refl, sym, ap, ◌∙◌, subst, inl, inr, arith, cond, ltb}
use Rattle.std.proofs.lemmas.Bool.{cases_Bool, ltb-true, ltb-false, lt-ltb}
use Rattle.std.proofs.lemmas.List.{append-nil, get_or_default}
use Rattle.std.proofs.lemmas.List.Elements.{All-push}
use Rattle.std.proofs.lemmas.Option.{none-some, same_Some}
use Rattle.gc_graph.specs.declared.command.Order.{Order}
use Rattle.gc_graph.specs.Members.{was_in, has_passed, in_range}
use Rattle.std.specs.List.{range_with_len}
use Rattle.cross_thread_region.specs.declared.chronicle.PlacedEntry.{PlacedEntry}
use Rattle.cross_thread_region.specs.Calls.{RegionView, PassView}
use Rattle.cross_thread_region.specs.Passes.{split_off}
use Rattle.heap_stats.specs.Boards.{PublisherView, lent_from}
use Rattle.thread_queues.specs.Queues.{ThreadView, orders_of, pass_begun, passes_of, queue_in}
use Rattle.thread_queues.specs.Going.{HaveBegun, IsFirst}
use Rattle.thread_queues.specs.Orders.{HasOutBelow, out_after}
use Rattle.thread_queues.specs.Runs.{AreAtWork, IsAtWork, IsGone, IsLentBy, IsLentThen}
use Rattle.thread_queues.specs.declared.working.OwnPasses.{OwnPasses}
use Rattle.thread_queues.proofs.Away.{pass_among}
use Rattle.thread_queues.proofs.Held.{orders_at}
use Rattle.thread_queues.proofs.Passes.{out_next, out_same}
use Rattle.thread_queues.proofs.Threads.{has_orders, next_queue}

-- the passes with which a thread goes
abbrev passes_split : PassView → ℕ → PublisherView → OwnPasses
passes_split pass number publisher = record { region = split_off pass number; board = lent_from publisher }

module _ (number : ℕ) (old : ThreadView) (pass : PassView) (publisher : PublisherView) (new : ThreadView) (gone : IsGone number old pass publisher new) where
  none_or_some : (P : Type 0) → (length old.orders ≡ 0 → P) → (0 < length old.orders → P) → P
  none_or_some P empty full = elim (cases_Bool (ltb 0 (length old.orders))) [
    | inl has ↦ full (ltb-true 0 (length old.orders) has)
    | inr not ↦ empty (omega (arith, ltb-false 0 (length old.orders) not))
  ]

  -- where it went, it went with these passes
  went_with : (own : OwnPasses) → new.run ≡ Some own → own ≡ passes_split pass number publisher
  went_with own is = none_or_some (own ≡ passes_split pass number publisher)
      (λ empty. absurd (none-some own (sym (gone.idle empty) ∙ is)))
      (λ full. sym (same_Some (passes_split pass number publisher) own (sym (gone.busy full) ∙ is)))

  -- a thread that went is at work, where it has orders
  pub is_at_work : IsAtWork number new
  is_at_work = record {
    idle = λ empty. (gone.idle (ap length (sym gone.orders) ∙ empty), gone.replies);
    busy = λ full. (passes_split pass number publisher, gone.busy (subst (λ (os : List Order). 0 < length os) gone.orders full), refl);
  }

  pub is_lent : IsLentBy publisher.board new
  is_lent own is =
      let with = went_with own is in (ap (λ (o : OwnPasses). o.board.board) with, ap (λ (o : OwnPasses). o.board.read) with)

  pub is_lent_then : IsLentThen publisher.last.ordinal new
  is_lent_then own is = ap (λ (o : OwnPasses). o.board.from) (went_with own is)

  -- the passes that are out then
  pub out_gone : (region : RegionView) (after : PassView) (passes : List PassView) → IsFirst region pass → HasOutBelow region pass passes number → 1 ≤ number
      → after ≡ record pass { out = out_after number old.orders pass.out } → HasOutBelow region after (passes ++ pass_begun new.run) (number + 1)
  out_gone region after passes first o above is = none_or_some (HasOutBelow region after (passes ++ pass_begun new.run) (number + 1))
      (λ empty. subst (λ (ps : List PassView). HasOutBelow region after ps (number + 1))
      (sym (ap (λ r. passes ++ pass_begun r) (gone.idle empty) ∙ append-nil passes))
      (subst (λ (p : PassView). HasOutBelow region p passes (number + 1))
      (sym (is ∙ ap (λ n. record pass { out = cond (ltb 0 n) (number ∷ pass.out) pass.out }) empty))
      (out_same region pass passes number o)))
      (λ full. subst (λ (ps : List PassView). HasOutBelow region after ps (number + 1))
      (sym (ap (λ r. passes ++ pass_begun r) (gone.busy full)))
      (out_next region pass after (split_off pass number) passes number o
      (is ∙ ap (λ b. record pass { out = cond b (number ∷ pass.out) pass.out }) (lt-ltb 0 (length old.orders) full)) above
      (record { ready = record { lock = first.ready.lock; free = refl }; slots = first.slots; number_is = refl })))

  -- its pass has seen what the first one has
  seen_gone : (passes : List PassView) → All (λ (p : PassView). p.seen ≡ pass.seen) passes
      → All (λ (p : PassView). p.seen ≡ pass.seen) (passes ++ pass_begun new.run)
  seen_gone passes all = none_or_some (All (λ (p : PassView). p.seen ≡ pass.seen) (passes ++ pass_begun new.run))
      (λ empty. subst (All (λ (p : PassView). p.seen ≡ pass.seen)) (sym (ap (λ r. passes ++ pass_begun r) (gone.idle empty) ∙ append-nil passes)) all)
      (λ full. subst (All (λ (p : PassView). p.seen ≡ pass.seen)) (sym (ap (λ r. passes ++ pass_begun r) (gone.busy full)))
      (All-push (λ (p : PassView). p.seen ≡ pass.seen) passes (split_off pass number) all refl))

  -- as the first one had when the first thread went
  pub seen_next : (base : List PlacedEntry) → pass.seen ≡ base → (passes : List PassView) → All (λ (p : PassView). p.seen ≡ base) passes
      → All (λ (p : PassView). p.seen ≡ base) (passes ++ pass_begun new.run)
  seen_next base is passes all =
      subst (λ (b : List PlacedEntry). All (λ (p : PassView). p.seen ≡ b) (passes ++ pass_begun new.run)) is
      (seen_gone passes (subst (λ (b : List PlacedEntry). All (λ (p : PassView). p.seen ≡ b) passes) (sym is) all))

-- when all went each thread with orders has a pass of its own
pub all_began : (threads : List ThreadView) (base : List PlacedEntry) → length threads ≡ 8 → AreAtWork threads
    → All (λ (p : PassView). p.seen ≡ base) (passes_of threads) → HaveBegun (orders_of threads) base (passes_of threads)
all_began threads base eight work seen = record {
  each = λ j there.
      let r = in_range 1 8 j (was_in (has_orders (orders_of threads)) (range_with_len 1 8) j there) in
      let number : j - 1 + 1 ≡ j = omega (arith, r.0) in
      let low : j - 1 < 8 = omega (arith, r.0, r.1) in
      began j (j - 1) number low (has_passed (has_orders (orders_of threads)) (range_with_len 1 8) j there);
  seen = seen;
}
  where
    thread : ThreadView
    thread = record { orders = []; replies = []; run = None }

    began : (j i : ℕ) → i + 1 ≡ j → i < 8 → has_orders (orders_of threads) j ≡ true → (p : PassView) × Contains (passes_of threads) p × (p.number ≡ j)
    began j i same low has =
        let t : ThreadView = get_or threads i thread in
        let inside : i < length threads = omega (arith, low, eight) in
        let orders : queue_in (orders_of threads) (i + 1) ≡ t.orders = next_queue (orders_of threads) i ∙ orders_at threads i t inside (get_or_default threads i thread t inside) in
        let full : 0 < length t.orders = subst (λ (os : List Order). 0 < length os) orders (ltb-true 0 (length (queue_in (orders_of threads) (i + 1))) (subst (λ k. has_orders (orders_of threads) k ≡ true) (sym same) has)) in
        let own = (work i thread low).busy full in
        (own.0.region, pass_among threads i thread own.0 inside own.1, own.2 ∙ same)
