use Rattle.std.proofs.Common.{rules, ◌≡◌, ◌+◌, ◌<◌, [], ℕ, List, None, get_or, length, take, refl, sym, ◌∙◌, subst, arith}
use Rattle.std.proofs.lemmas.List.{get_or-set_other, take_all}
use Rattle.std.proofs.lemmas.List.Elements.{All-get_or}
use Rattle.gc_graph.specs.declared.command.Order.{Order}
use Rattle.gc_graph.specs.Lawful.{TotalsNeverFall}
use Rattle.cross_thread_region.specs.Calls.{PassView}
use Rattle.heap_stats.specs.Boards.{PublisherView}
use Rattle.thread_queues.specs.Queues.{ThreadView, orders_of, passes_of, posted, replies_of, queue_in}
use Rattle.thread_queues.specs.Going.{AreBack, TellSomeOf}
use Rattle.thread_queues.specs.Runs.{IsBack, IsLentBy}
use Rattle.thread_queues.proofs.Away.{none_out_here, up_to_next}
use Rattle.thread_queues.proofs.Back.{AreBackTo, AreSame, HasReturned, back_all, back_next, back_none, same_none, same_out}
use Rattle.thread_queues.proofs.Held.{queue_at, orders_stay, replies_next}
use Rattle.thread_queues.proofs.Waited.{waited_for, same_still}
use Rattle.thread_queues.proofs.returning.wait_for_all.Goals as goal

pub loop-i-init : goal.loop-i-init
loop-i-init g c = record {
  orders = refl;
  eight = c.requires.eight;
  here = λ k t below. absurd (omega (arith, below));
  still = λ k t above below. refl;
  back = subst (λ (ps : List PassView). AreBackTo (orders_of c.args.threads.now.items) 0 (passes_of c.args.threads.now.items) ps (posted c.args.since.now.value c.args.publisher.now.last) []) (sym c.requires.none) (back_none _ _ _ _ refl);
  same = subst (AreSame []) (sym c.requires.none) same_none;
  publisher = refl;
  room = refl;
  few = search rules;
  end = search rules;
}

pub wait-requires-clause-lent : goal.wait-requires-clause-lent
wait-requires-clause-lent g c =
    let low : c.loop-i.i < 8 = search rules in
    let within : c.loop-i.i < length c.args.threads.now.items = omega (arith, low, c.requires.eight) in
    subst (IsLentBy c.args.board.now) (sym (c.index_mut-thread.ensures.value ∙ c.loop-i.invariant.still c.loop-i.i c.index_mut-thread.result.now (omega arith) low))
    (All-get_or (IsLentBy c.args.board.now) c.args.threads.now.items c.loop-i.i c.index_mut-thread.result.now within c.requires.posted.lent)

pub loop-i-preserved : goal.loop-i-preserved
loop-i-preserved g c =
    let i : ℕ = c.loop-i.i in
    let inside : i < 8 = search rules in
    let low : i < length c.loop-i.threads.items = search rules in
    let within : i < length c.args.threads.now.items = omega (arith, inside, c.requires.eight) in
    let old : ThreadView = c.index_mut-thread.result.now in
    let new : ThreadView = c.wait.new.self in
    let is : old ≡ get_or c.args.threads.now.items i old = c.index_mut-thread.ensures.value ∙ c.loop-i.invariant.still i old (omega arith) inside in
    let back : IsBack old c.args.publisher.now.published c.loop-i.passes.items c.wait.new.passes.items new =
    subst (λ (p : PublisherView). IsBack old p.published c.loop-i.passes.items c.wait.new.passes.items new) c.loop-i.invariant.publisher c.wait.ensures.back in
    let queue : queue_in (orders_of c.args.threads.now.items) (i + 1) ≡ old.orders =
    queue_at c.args.threads.now.items c.loop-i.threads.items i old c.loop-i.invariant.orders low c.index_mut-thread.ensures.value in
    let returned : HasReturned (i + 1) old.orders (passes_of c.args.threads.now.items) c.loop-i.passes.items c.wait.new.passes.items (posted c.args.since.now.value c.args.publisher.now.last) new.replies =
    waited_for c.args.threads.now.items i old new c.args.since.now.value c.args.publisher.now.last c.requires.posted.earlier _ c.loop-i.passes.items c.wait.new.passes.items within is
    c.requires.posted.published c.totals_rise.ensures.rise (c.requires.work i old inside) c.requires.posted.then_lent back in
    record {
      orders =
          orders_stay c.loop-i.threads.items i old new c.index_mut-thread.ensures.value back.orders
          ∙ c.loop-i.invariant.orders;
      eight = search rules;
      here = up_to_next (λ k t. t.run ≡ None) c.loop-i.threads.items i new low c.loop-i.invariant.here back.here;
      still = λ k t above below.
          get_or-set_other c.loop-i.threads.items i k new t (λ same. omega (arith, above, same))
          ∙ c.loop-i.invariant.still k t (omega (arith, above)) below;
      back =
          back_next (orders_of c.args.threads.now.items) i (passes_of c.args.threads.now.items) c.loop-i.passes.items c.wait.new.passes.items _ (replies_of (take i c.loop-i.threads.items)) new.replies _
          c.loop-i.invariant.back
          (subst (λ (os : List Order). HasReturned (i + 1) os (passes_of c.args.threads.now.items) c.loop-i.passes.items c.wait.new.passes.items (posted c.args.since.now.value c.args.publisher.now.last) new.replies) (sym queue) returned)
          (replies_next c.loop-i.threads.items i new low);
      same =
          same_still c.args.threads.now.items i old new c.args.since.now.value c.args.publisher.now.last c.requires.posted.earlier _ c.loop-i.passes.items c.wait.new.passes.items within is
          c.requires.posted.published c.totals_rise.ensures.rise (c.requires.work i old inside) c.requires.posted.then_lent back c.loop-i.invariant.same;
      publisher = c.wait.ensures.publisher ∙ c.loop-i.invariant.publisher;
      room = search rules;
      few = search rules;
      end = c.loop-i.invariant.end;
    }

pub returns-clause-back : goal.returns-clause-back
returns-clause-back g c =
    let end : c.loop-i.i ≡ 8 = search rules in
    subst (λ (ts : List ThreadView). AreBack (orders_of c.args.threads.now.items) (passes_of c.args.threads.now.items) c.loop-i.passes.items (replies_of ts))
    (take_all c.loop-i.i c.loop-i.threads.items (search rules))
    (back_all _ c.loop-i.i _ _ _ _ c.loop-i.invariant.back end)

pub returns-clause-told : goal.returns-clause-told
returns-clause-told g c =
    subst (λ (ts : List ThreadView). TellSomeOf (posted c.args.since.now.value c.args.publisher.now.last) (replies_of ts))
    (take_all c.loop-i.i c.loop-i.threads.items (search rules)) c.loop-i.invariant.back.told

pub returns-clause-fall : goal.returns-clause-fall
returns-clause-fall g c =
    subst (λ (ts : List ThreadView). TotalsNeverFall (replies_of ts)) (take_all c.loop-i.i c.loop-i.threads.items (search rules)) c.loop-i.invariant.back.fall

pub returns-clause-here : goal.returns-clause-here
returns-clause-here g c =
    let end : c.loop-i.i ≡ 8 = search rules in
    none_out_here c.loop-i.threads.items (λ k t low. c.loop-i.invariant.here k t (omega (arith, low, end, c.loop-i.invariant.eight)))

pub returns-clause-out : goal.returns-clause-out
returns-clause-out g c = λ region pass out.
    same_out region pass (passes_of c.args.threads.now.items) c.loop-i.passes.items
    (subst (λ (ts : List ThreadView). AreSame (passes_of ts) c.loop-i.passes.items) (take_all c.loop-i.i c.args.threads.now.items (search rules)) c.loop-i.invariant.same) out
