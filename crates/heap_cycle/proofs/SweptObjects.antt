-- What the cycle knows of its parts after a sweep up to an address.
use Rattle.std.proofs.Common.{Bool, ◌≡◌, ℕ, ◌+◌, ◌*◌, List, length, map, sym, ap, ◌∙◌, subst, inl, inr, arith, cond, eqb}
use Rattle.std.proofs.lemmas.Bool.{cases_Bool, eqb-true, eq-eqb}
use Rattle.std.proofs.lemmas.List.{length-append}
use Rattle.gc_graph.specs.declared.phase.Phase.TheVariants.{Idle, Sweeping}
use Rattle.gc_graph.specs.State.{Shape}
use Rattle.gc_graph.specs.Sweep.{finalise, phase_at, AreDeadInOrder}
use Rattle.heap_roots.specs.Seat.{IsQuiet}
use Rattle.heap_cycle.specs.Changes.{swept_to, SweepsParts}
use Rattle.heap_roots.specs.Finalising.{IsSweptTo, FinalisesBelow}
use Rattle.heap_roots.specs.Marks.{ObjectsAreAtRest, HasMarks}
use Rattle.heap_roots.specs.Objects.{ObjectsView, setup_of_objects}
use Rattle.heap_cycle.specs.Views.{CycleView}

-- ---- the phase

pub over_at : (shape : Shape) (pages : ℕ) → pages ≡ shape.pages → Idle ≡ phase_at shape pages
over_at shape pages all = sym (ap (λ b. cond b Idle Sweeping) (eq-eqb pages shape.pages all))

-- nothing is marked once all pages are swept, and else all is swept up to the address
pub marks_at : (shape : Shape) (pages limit : ℕ) (may : List Bool) (o : ObjectsView) → ObjectsAreAtRest o → IsSweptTo limit o.seat → (pages ≡ shape.pages → IsQuiet o.seat)
    → HasMarks (phase_at shape pages) limit may o
marks_at shape pages limit may o rest swept quiet =
    elim (cases_Bool (eqb pages shape.pages)) [
      | inl all ↦ subst (λ b. HasMarks (cond b Idle Sweeping) limit may o) (sym all) (rest, quiet (eqb-true pages shape.pages all))
      | inr some ↦ subst (λ b. HasMarks (cond b Idle Sweeping) limit may o) (sym some) (rest, swept)
    ]

-- ---- the parts

pub parts_swept : (o new : ObjectsView) (c after : CycleView) (pages count limit : ℕ) (before told : List ℕ) → setup_of_objects new ≡ setup_of_objects o
    → FinalisesBelow limit o.nodes before told new.nodes → limit ≡ pages * o.shape.page_words → length told ≡ length before + count → after.phase ≡ phase_at o.shape pages
    → after.sweep ≡ record c.sweep { cursor = pages } → after.registered ≡ c.registered → after.weakly ≡ c.weakly → after.ran ≡ c.ran → after.rest ≡ swept_to pages count c.rest
    → HasMarks after.phase limit after.rest.may new → new.grey ≡ o.grey → SweepsParts o new c after pages before told
parts_swept o new c after pages count limit before told setup is at counted phase sweep registered weakly ran rest marks grey =
    let many : count ≡ length is.numbers = omega (arith, counted, ap length is.follow, length-append before is.numbers) in
    record {
      setup = setup;
      nodes = record {
        numbers = is.numbers;
        follow = is.follow;
        order = subst (λ l. AreDeadInOrder o.nodes l is.numbers) at is.order;
        nodes = is.nodes ∙ ap (λ l. map (finalise l) o.nodes) at;
      };
      phase = phase;
      sweep = sweep;
      registered = registered;
      weakly = weakly;
      ran = ran;
      rest = rest ∙ ap (λ n. swept_to pages n c.rest) many;
      marks = subst (λ l. HasMarks after.phase l after.rest.may new) at marks;
      grey = grey;
    }
