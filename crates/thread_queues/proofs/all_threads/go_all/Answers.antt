use Rattle.std.proofs.Common.{rules, ◌≡◌, ◌+◌, ◌<◌, ◌++◌, List, ℕ, None, All, Contains, length, take, refl, sym, ap, ◌∙◌, subst, arith}
use Rattle.std.specs.Arc.{arc_value}
use Rattle.std.proofs.lemmas.List.{take_all}
use Rattle.std.proofs.lemmas.List.Elements.{All-nil}
use Rattle.gc_graph.specs.declared.command.Order.{Order}
use Rattle.gc_graph.specs.declared.line.Line.{Line}
use Rattle.cross_thread_region.specs.Calls.{PassView}
use Rattle.heap_stats.specs.Boards.{PublisherView}
use Rattle.thread_queues.specs.Queues.{ThreadView, orders_of, passes_of, replies_of, threads_in}
use Rattle.thread_queues.specs.Going.{HaveBegun}
use Rattle.thread_queues.specs.Orders.{HasOutBelow, out_after}
use Rattle.thread_queues.specs.Runs.{IsAtWork, IsGone, IsLentBy, IsLentThen}
use Rattle.thread_queues.proofs.Away.{all_here, all_next, from_next, passes_next, up_to_next}
use Rattle.thread_queues.proofs.Begin.{all_began, is_at_work, is_lent, is_lent_then, out_gone, seen_next}
use Rattle.thread_queues.proofs.Held.{queue_at, orders_stay, replies_next}
use Rattle.thread_queues.proofs.Passes.{none_out, all_out, out_alone}
use Rattle.thread_queues.proofs.Threads.{running_next}
use Rattle.thread_queues.proofs.all_threads.go_all.Goals as goal

pub loop-i-init : goal.loop-i-init
loop-i-init g c = record {
  orders = refl;
  eight = c.requires.eight;
  here = λ k t above below. all_here c.args.threads.now.items k t c.requires.here (omega (arith, below, c.requires.eight));
  work = λ k t below. absurd (omega (arith, below));
  replies = refl;
  lent = All-nil (IsLentBy c.args.publisher.now.board);
  then_lent = All-nil (IsLentThen c.args.publisher.now.last.ordinal);
  seen = All-nil (λ (p : PassView). p.seen ≡ c.args.pass.now.seen);
  pass = refl;
  first = c.requires.first;
  outs = none_out _ _ _ c.requires.alone refl;
  running =
      subst (All (Contains (threads_in (orders_of c.args.threads.now.items)))) (sym c.requires.alone)
      (All-nil (Contains (threads_in (orders_of c.args.threads.now.items))));
  publisher = refl;
  end = search rules;
}

pub loop-i-preserved : goal.loop-i-preserved
loop-i-preserved g c =
    let i : ℕ = c.loop-i.i in
    let inside : i < 8 = search rules in
    let low : i < length c.loop-i.threads.items = search rules in
    let new : ThreadView = c.go.new.self in
    let gone : IsGone (i + 1) c.index_mut-thread.result.now c.loop-i.pass c.loop-i.publisher new = c.go.ensures.gone in
    let out : List ℕ = out_after (i + 1) c.index_mut-thread.result.now.orders c.loop-i.pass.out in
    let begun : PassView = record c.args.pass.now { out = c.loop-i.pass.out } in
    let passes = passes_next c.loop-i.threads.items i new low in
    record {
      orders =
          orders_stay c.loop-i.threads.items i c.index_mut-thread.result.now new c.index_mut-thread.ensures.value gone.orders
          ∙ c.loop-i.invariant.orders;
      eight = search rules;
      here = from_next (λ k t. t.run ≡ None) c.loop-i.threads.items i new low c.loop-i.invariant.here;
      work = up_to_next (λ k t. IsAtWork (k + 1) t) c.loop-i.threads.items i new low c.loop-i.invariant.work (is_at_work _ _ _ _ new gone);
      replies = replies_next c.loop-i.threads.items i new low ∙ ap (λ (l : List Line). l ++ new.replies) c.loop-i.invariant.replies ∙ gone.replies;
      lent =
          all_next (IsLentBy c.args.publisher.now.board) c.loop-i.threads.items i new low c.loop-i.invariant.lent
          (subst (λ (p : PublisherView). IsLentBy p.board new) c.loop-i.invariant.publisher (is_lent _ _ _ _ new gone));
      then_lent =
          all_next (IsLentThen c.args.publisher.now.last.ordinal) c.loop-i.threads.items i new low c.loop-i.invariant.then_lent
          (subst (λ (p : PublisherView). IsLentThen p.last.ordinal new) c.loop-i.invariant.publisher (is_lent_then _ _ _ _ new gone));
      seen =
          subst (All (λ (p : PassView). p.seen ≡ c.args.pass.now.seen)) (sym passes)
          (seen_next _ _ _ _ new gone _ (ap (λ (p : PassView). p.seen) {y = begun} c.loop-i.invariant.pass) _ c.loop-i.invariant.seen);
      pass = out_alone c.args.pass.now c.loop-i.pass c.go.new.pass out c.loop-i.invariant.pass c.go.ensures.pass;
      first = c.go.ensures.first;
      outs =
          subst (λ (ps : List PassView). HasOutBelow (arc_value c.args.shared.now.region.now) c.go.new.pass ps (i + 1 + 1)) (sym passes)
          (out_gone _ _ _ _ new gone _ c.go.new.pass (passes_of (take i c.loop-i.threads.items)) c.loop-i.invariant.first c.loop-i.invariant.outs
          (omega arith) c.go.ensures.pass);
      running =
          all_out (Contains (threads_in (orders_of c.args.threads.now.items))) c.loop-i.pass c.go.new.pass out c.go.ensures.pass
          (running_next _ i _ c.loop-i.pass.out inside
          (queue_at c.args.threads.now.items c.loop-i.threads.items i _ c.loop-i.invariant.orders low c.index_mut-thread.ensures.value) c.loop-i.invariant.running);
      publisher = c.go.ensures.publisher ∙ c.loop-i.invariant.publisher;
      end = c.loop-i.invariant.end;
    }

pub returns-clause-replies : goal.returns-clause-replies
returns-clause-replies g c =
    let all : take c.loop-i.i c.loop-i.threads.items ≡ c.loop-i.threads.items = take_all c.loop-i.i c.loop-i.threads.items (search rules) in
    ap replies_of (sym all) ∙ c.loop-i.invariant.replies

pub returns-clause-began : goal.returns-clause-began
returns-clause-began g c =
    let end : c.loop-i.i ≡ 8 = search rules in
    let all : take c.loop-i.i c.loop-i.threads.items ≡ c.loop-i.threads.items = take_all c.loop-i.i c.loop-i.threads.items (search rules) in
    subst (λ (orders : List (List Order)). HaveBegun orders c.args.pass.now.seen (passes_of c.loop-i.threads.items)) c.loop-i.invariant.orders
    (all_began c.loop-i.threads.items c.args.pass.now.seen c.loop-i.invariant.eight
    (λ k t below. c.loop-i.invariant.work k t (omega (arith, below, end)))
    (subst (λ (ts : List ThreadView). All (λ (p : PassView). p.seen ≡ c.args.pass.now.seen) (passes_of ts)) all c.loop-i.invariant.seen))

pub returns-clause-work : goal.returns-clause-work
returns-clause-work g c = let end : c.loop-i.i ≡ 8 = search rules in λ k t below. c.loop-i.invariant.work k t (omega (arith, below, end))

pub returns-clause-lent : goal.returns-clause-lent
returns-clause-lent g c =
    subst (All (IsLentBy c.args.publisher.now.board)) (take_all c.loop-i.i c.loop-i.threads.items (search rules)) c.loop-i.invariant.lent

pub returns-clause-then_lent : goal.returns-clause-then_lent
returns-clause-then_lent g c =
    subst (All (IsLentThen c.args.publisher.now.last.ordinal)) (take_all c.loop-i.i c.loop-i.threads.items (search rules)) c.loop-i.invariant.then_lent

pub returns-clause-outs : goal.returns-clause-outs
returns-clause-outs g c =
    let end : c.loop-i.i ≡ 8 = search rules in
    subst (λ (ts : List ThreadView). HasOutBelow (arc_value c.args.shared.now.region.now) c.loop-i.pass (passes_of ts) 9)
    (take_all c.loop-i.i c.loop-i.threads.items (search rules))
    (subst (λ n. HasOutBelow (arc_value c.args.shared.now.region.now) c.loop-i.pass (passes_of (take c.loop-i.i c.loop-i.threads.items)) (n + 1)) end c.loop-i.invariant.outs)
