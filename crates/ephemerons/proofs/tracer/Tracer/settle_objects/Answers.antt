use Rattle.std.proofs.Common.{◌≡◌, ℕ, ◌||◌, None, sym, ◌∙◌, subst, inl, inr}
use Rattle.std.proofs.lemmas.Bool.{cases_lt}
use Rattle.marker_core.specs.Bodies.{IsPlace}
use Rattle.page_words.specs.Seat.{SeatView}
use Rattle.ephemerons.specs.Fixpoint.{Stage, stage, IsSettledAt, Looks}
use Rattle.ephemerons.specs.Tracers.{Searches, stage_of}
use Rattle.ephemerons.proofs.Looks.{joined, object_stays, looks_more}
use Rattle.ephemerons.proofs.Tracers.{same_types, Keeps-then, Searches-then}
use Rattle.ephemerons.proofs.tracer.Tracer.settle_objects.Goals.{then-found, else-found}
use Rattle.ephemerons.proofs.tracer.Tracer.settle_objects.Goals as goal

pub loop-a-preserved : goal.loop-a-preserved
loop-a-preserved g c =
    let either : c.if-found.found ≡ (c.loop-a.found || c.settle_object-more.result) = joined c.loop-a.found c.settle_object-more.result c.if-found.found
    (elim c.if-found.branch [ then-found w ↦ inl (w.if-found.true, w.found-is) | else-found w ↦ inr (w.if-found.false, w.found-is) ]) in
    let keeps = c.loop-a.invariant.keeps in
    let before : Stage = stage_of c.loop-a.self in
    let after : Stage = stage_of c.settle_object-more.new.self in
    let looks : Searches c.loop-a.self c.settle_object-more.new.self c.settle_object-more.result =
    subst
    (λ (v : SeatView). Looks c.loop-a.self.types.now None
    (stage v c.loop-a.self.marking.now c.loop-a.self.groups.now c.loop-a.self.traced) after c.settle_object-more.result)
    c.next_object.ensures.view c.settle_object-more.ensures.looks in
    record {
      keeps = Keeps-then c.args.self.now c.loop-a.self c.settle_object-more.new.self keeps (record {
        space = c.settle_object-more.ensures.keeps.space;
        types = c.settle_object-more.ensures.keeps.types;
        seat = c.settle_object-more.ensures.keeps.seat;
        marking = c.settle_object-more.ensures.keeps.marking;
        groups = c.settle_object-more.ensures.keeps.groups;
        ready = c.settle_object-more.ensures.keeps.ready;
      });
      looks = rw either (Searches-then c.args.self.now c.loop-a.self c.settle_object-more.new.self keeps c.loop-a.found c.settle_object-more.result
          c.loop-a.invariant.looks looks);
      settled = λ none. looks_more (λ (s : Stage) (p : ℕ). IsPlace s.view.bodies p → IsSettledAt c.args.self.now.types.now s.view p)
          (object_stays c.args.self.now.types.now) before after c.loop-a.found
          c.settle_object-more.result c.in-Some.a
          (λ nothing k low place. elim (cases_lt k c.loop-a.from) [
            | inl early ↦ c.loop-a.invariant.settled nothing k early place
            | inr late ↦ absurd (c.in-Some.ensures.found.1 k low (late, place))
          ])
          looks.still (λ nothing place. rw (same_types keeps) at c.settle_object-more.ensures.settled nothing) (sym either ∙ none);
    }

pub returns-clause-settled : goal.returns-clause-settled
returns-clause-settled g c none p place =
    let there : IsPlace c.loop-a.self.seat.now.bodies p = rw c.next_object.ensures.view at place in
    rw c.next_object.ensures.view (elim (cases_lt p c.loop-a.from) [
      | inl early ↦ c.loop-a.invariant.settled none p early there
      | inr late ↦ absurd (c.in_default.ensures.none p (late, there))
    ])
