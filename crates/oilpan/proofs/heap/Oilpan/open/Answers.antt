use Rattle.std.proofs.Common.{◌<◌, sym, subst, arith}
use Rattle.gc_graph.specs.State.{Setup, State}
use Rattle.gc_graph.specs.Valid.{IsValid}
use Rattle.oilpan.proofs.Regions.{region_empty}
use Rattle.oilpan.proofs.Resting.{rest_empty}
use Rattle.oilpan.proofs.heap.Oilpan.open.Goals as goal

pub invariant_of-result : goal.invariant_of-result
invariant_of-result g c = record {
  opened = c.in_ok-heap.ensures.closed;
  at_rest = rest_empty _ _ _ (subst (λ (s : Setup). 0 < s.shape.pages) (sym c.in_ok-heap.ensures.setup) (omega (arith, c.requires.shape.some)))
      c.in_ok-heap.ensures.state;
  region = region_empty _ _ c.in_ok-heap.ensures.state;
  valid = ∣ subst (λ (s : State). IsValid c.in_ok-heap.heap.core.setup s) (sym c.in_ok-heap.ensures.state) (c.empty_is_valid.ensures _) ∣₁;
}
