-- The markers of a heap are started: nothing changes for the graph.
use Rattle.std.proofs.Common.{◌≡◌, List, length, refl, sym, ap, ◌∙◌, subst, arith}
use Rattle.gc_graph.specs.declared.phase.Phase.TheVariants.{Marking}
use Rattle.gc_graph.specs.State.{Setup, Node}
use Rattle.heap_roots.specs.FieldNodes.{holders_same}
use Rattle.heap_roots.specs.WeakHolders.{StayHolders}
use Rattle.heap_roots.specs.Sweeping.{cursor_at}
use Rattle.heap_roots.specs.Marks.{HasMarking, HasMarks}
use Rattle.heap_roots.specs.Objects.{ObjectsView, setup_of_objects, StaysAt}
use Rattle.heap_cycle.specs.declared.parts.Parts.{Parts}
use Rattle.heap_cycle.specs.Cycles.{HasManned}
use Rattle.heap_cycle.specs.Parts.{setup_of, AreTied}
use Rattle.heap_cycle.specs.Ties.{tied_nodes}
use Rattle.heap_cycle.specs.Views.{IsSweepOf}

-- from the parts of a cycle that has begun to those with the objects once the markers were started
pub record Mans (s : Parts) (new : ObjectsView) : Type 0 where
  pub tied : AreTied s
  pub marking : s.cycle.phase ≡ Marking
  pub marks : HasMarking s.cycle.rest.may s.objects → HasMarking s.cycle.rest.may new
  pub running : length new.grey.running ≡ s.objects.grey.markers
  pub marked : new.seat.marked ≡ s.objects.seat.marked
  pub traced : new.grey.traced ≡ s.objects.grey.traced
  pub since : new.grey.since ≡ s.objects.grey.since
  pub nodes : new.nodes ≡ s.objects.nodes
  pub setup : setup_of_objects new ≡ setup_of s

pub has_manned : (s : Parts) (new : ObjectsView) → Mans s new → HasManned s (record s { objects = new })
has_manned s new is =
    let before : HasMarking s.cycle.rest.may s.objects =
    subst (λ ph. HasMarks ph (cursor_at s.objects.shape s.cycle.sweep) s.cycle.rest.may s.objects) is.marking is.tied.marks in
    let marks : HasMarks s.cycle.phase (cursor_at new.shape s.cycle.sweep) s.cycle.rest.may new =
    subst (λ ph. HasMarks ph (cursor_at new.shape s.cycle.sweep) s.cycle.rest.may new) (sym is.marking) (is.marks before) in
    record {
      tied = tied_nodes s new s.cycle is.tied (λ n. subst (λ (ns : List Node). StaysAt s.objects.nodes ns n) (sym is.nodes) (refl, refl)) is.setup refl
          (subst (StayHolders s.objects.nodes) (sym is.nodes) (holders_same s.objects.nodes)) refl
          (subst (λ (u : Setup). IsSweepOf u.shape s.cycle.phase s.cycle.rest.cursor s.cycle.sweep) (sym is.setup) is.tied.sweep) marks (is.traced ∙ is.tied.traced)
          (omega (arith, is.tied.made, ap length is.nodes));
      manned = is.running ∙ sym (ap (λ (u : Setup). u.markers) is.setup);
      setup = is.setup;
      nodes = is.nodes;
      marked = is.marked;
      since = is.since;
      others = refl;
    }
