use Rattle.std.proofs.Common.{◌≡◌, ◌<◌, length, sym, ap, ◌∙◌, subst, arith}
use Rattle.heap_engine.specs.View.{View}
use Rattle.gc_graph.specs.State.{Setup}
use Rattle.gc_graph.specs.Valid.{IsValid}
use Rattle.oilpan.specs.Clearing.{HaveRun}
use Rattle.oilpan.specs.Rest.{IsAtRest}
use Rattle.oilpan.proofs.Cleared.{cleared_low, none_released, region_cleared, rest_cleared}
use Rattle.oilpan.proofs.heap.Oilpan.clear_released.Goals as goal

pub free_cleared-requires-clause-low : goal.free_cleared-requires-clause-low
free_cleared-requires-clause-low g c κs live x line there is =
    let low : x < length c.args.self.now.shared = cleared_low _ _ _ _ c.run_orders-count.ensures.run x line there is in
    omega (arith, low)

pub invariant_of-self : goal.invariant_of-self
invariant_of-self g c =
    let same : c.free_cleared.new.heap.core ≡ c.run_orders-count.new.heap.core = c.free_cleared.ensures.same in
    let run : HaveRun c.args.self.now.heap.core.state c.args.self.now.shared c.run_orders-count.new.heap.core.lines c.free_cleared.new.heap.core.state =
    subst (λ (v : View). HaveRun c.args.self.now.heap.core.state c.args.self.now.shared c.run_orders-count.new.heap.core.lines v.state) (sym same)
    c.run_orders-count.ensures.run in
    let setup : c.free_cleared.new.heap.core.setup ≡ c.args.self.now.heap.core.setup = ap (λ (v : View). v.setup) same ∙ c.run_orders-count.ensures.setup in
    record {
      opened = ap (λ (v : View). v.closed) same ∙ c.run_orders-count.ensures.opened;
      at_rest = subst (λ (s : Setup). IsAtRest s c.free_cleared.new.heap.core.state c.args.self.now.taken) (sym setup)
          (rest_cleared _ _ _ _ _ run c.free_cleared.ensures.freed c.args.self.now.region _ _ c.args.self.now.at_rest);
      region = region_cleared _ _ _ _ _ run c.free_cleared.ensures.freed c.args.self.now.region;
      valid = ∣ subst (λ (v : View). IsValid v.setup v.state) (sym same) c.is_valid.ensures ∣₁;
    }

pub returns-clause-none : goal.returns-clause-none
returns-clause-none g c = none_released _ (c.has_released.ensures.none c.if-has_released.false)
