use Rattle.std.proofs.Common.{◌≡◌, vec_capacity}
use Rattle.heap_cycle.specs.Parts.{unregistered}
use Rattle.heap_cycle.proofs.WayToPlace.{IsOnTheWay}
use Rattle.heap_cycle.proofs.placement.sweep_until_found.Given as goal

abbrev pub invariant-loop-page : goal.invariant-loop-page
invariant-loop-page l = record {
  way : IsOnTheWay (unregistered l.fn.last l.initial.parts) (unregistered l.fn.last l.parts) l.size l.finalised.items;
  cursor : l.parts.cycle.sweep.cursor ≡ l.page;
  grey : l.parts.objects.grey ≡ l.initial.parts.objects.grey;
  registered : l.parts.cycle.registered ≡ l.initial.parts.cycle.registered;
  weakly : l.parts.cycle.weakly ≡ l.initial.parts.cycle.weakly;
  region : l.parts.region ≡ l.initial.parts.region;
  room : vec_capacity l.finalised ≡ vec_capacity l.initial.finalised;
}
