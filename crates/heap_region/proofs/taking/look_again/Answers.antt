use Rattle.std.proofs.Common.{◌≡◌, ℕ, suc, ◌+◌, List, Option, Some, None, length, ◌<◌, ◌≤◌, take, subst, refl, sym, ap, ◌∙◌, arith}
use Rattle.gc_graph.specs.Outcomes.{took}
use Rattle.gc_graph.specs.State.{Node}
use Rattle.cross_thread_region.specs.declared.chronicle.PlacedEntry.{PlacedEntry}
use Rattle.cross_thread_region.specs.WeakReads.{weak_read_at}
use Rattle.heap_objects.specs.Marks.{HasMarks}
use Rattle.heap_objects.specs.Objects.{ObjectsView}
use Rattle.heap_region.specs.Handled.{IsHandled}
use Rattle.heap_region.specs.Taking.{entries_between, HasLooked}
use Rattle.heap_region.proofs.LookedAgain.{live_read, looked, no_look}
use Rattle.heap_region.proofs.taking.look_again.Goals as goal
use Rattle.heap_region.proofs.taking.look_again.Goals.{in-Some, in_default}

none_there : (o : Option ℕ) → ((p : ℕ) → o ≡ Some p → ⊥) → o ≡ None
none_there None never = refl
none_there (Some p) never = absurd (never p refl)

pub read_weakly-requires-clause-place : goal.read_weakly-requires-clause-place
read_weakly-requires-clause-place c =
    let history : List PlacedEntry = c.args.held.now.history in
    let low : c.loop-i.i < length history = omega (arith, c.requires.within, c.loop-i.auto.i-end, c.loop-i-test.true) in
    let told : weak_read_at history c.loop-i.i ≡ Some c.in-Some.place = sym c.read_place.ensures ∙ c.in-Some.is in
    let nodes : c.loop-i.objects.nodes ≡ c.args.objects.now.nodes = ap (λ (o : ObjectsView). o.nodes) c.loop-i.invariant.others in
    let handled : IsHandled c.args.objects.now.nodes (take c.loop-i.i history) =
    c.requires.handled c.loop-i.i (omega (arith, c.loop-i.auto.i)) (omega (arith, c.loop-i-test.true)) in
    live_read c.loop-i.objects.nodes history c.loop-i.i c.in-Some.place low
    (subst (λ (ns : List Node). IsHandled ns (take c.loop-i.i history)) (sym nodes) handled) told

pub loop-i-preserved : goal.loop-i-preserved
loop-i-preserved c =
    let history : List PlacedEntry = c.args.held.now.history in
    let old : ObjectsView = c.args.objects.now in
    let now : ObjectsView = c.loop-i.objects in
    let i : ℕ = c.loop-i.i in
    let above : c.args.from ≤ i = c.loop-i.auto.i in
    let low : i < length history = omega (arith, c.requires.within, c.loop-i-test.true) in
    let nodes : now.nodes ≡ old.nodes = ap (λ (o : ObjectsView). o.nodes) c.loop-i.invariant.others in
    let handled : IsHandled now.nodes (take i history) =
    subst (λ (ns : List Node). IsHandled ns (take i history)) (sym nodes) (c.requires.handled i above (omega (arith, c.loop-i-test.true))) in
    let k : suc i ≡ i + 1 = omega arith in
    let read : weak_read_at history i ≡ c.read_place.result = sym c.read_place.ensures in
    elim c.match-read_place.branch [
      | in-Some w ↦ (
          let after : ObjectsView = w.read_weakly.new.self in
          let looks : HasLooked old (take c.args.from history) (entries_between c.args.from (i + 1) history) after = record {
            others = w.read_weakly.ensures.others ∙ ap (λ (o : ObjectsView). record o { seat = after.seat }) c.loop-i.invariant.others;
            marks = λ s limit same slots marks.
                subst (λ n. HasMarks s.phase limit (took s (entries_between c.args.from n history)).may after) k
                (looked s limit c.args.from i w.in-Some.place history now after above low slots (same ∙ sym nodes) handled (read ∙ w.in-Some.is)
                w.read_weakly.ensures.marks (c.loop-i.invariant.marks s limit same slots marks));
          } in
          subst (HasLooked old (take c.args.from history) (entries_between c.args.from (i + 1) history)) (sym w.objects-is) looks
          )
      | in_default w ↦ (
          let looks : HasLooked old (take c.args.from history) (entries_between c.args.from (i + 1) history) now = record {
            others = c.loop-i.invariant.others;
            marks = λ s limit same slots marks.
                subst (λ n. HasMarks s.phase limit (took s (entries_between c.args.from n history)).may now) k
                (no_look s limit c.args.from i history now above low slots (read ∙ none_there c.read_place.result w.in_default.not-Some)
                (c.loop-i.invariant.marks s limit same slots marks));
          } in
          subst (HasLooked old (take c.args.from history) (entries_between c.args.from (i + 1) history)) (sym w.objects-is) looks
          )
    ]
