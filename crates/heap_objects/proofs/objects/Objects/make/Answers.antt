use Rattle.std.specs.Arc.{arc_value}
use Rattle.std.proofs.lemmas.Bool.{cases_Bool}
use Rattle.marker_core.specs.Bodies.{holds}
use Rattle.page_words.specs.Seat.{SeatView, IsView}
use Rattle.std.specs.List.{Contains}
use Rattle.std.proofs.Common.{◌≡◌, ◌<◌, ◌≤◌, ℕ, List, [], ◌∷◌, ◌++◌, Some, length, refl, sym, ap, ◌∙◌, subst, arith, inl, inr, false}
use Rattle.std.proofs.lemmas.List.{length_push}
use Rattle.gc_graph.specs.State.{Setup, ObjectType, Node}
use Rattle.gc_graph.specs.Fields.{new_node, size_of_type}
use Rattle.gc_graph.specs.Placement.{Extent}
use Rattle.page_space.specs.Occupying.{Occupies, IsNewNumber, least_size, new_body}
use Rattle.page_space.specs.Space.{IsFreePlace}
use Rattle.atomic_pause.specs.Nodes.{IsHeld}
use Rattle.heap_objects.specs.Objects.{with_made}
use Rattle.atomic_pause.specs.TypedNodes.{known_nodes}
use Rattle.heap_objects.proofs.HeldNodes.{room_for_fields, next_is_new, held_made, extents_held}
use Rattle.heap_objects.proofs.MarksMade.{marks_made}
use Rattle.heap_objects.proofs.MarksStored.{view_in}
use Rattle.gc_graph.specs.May.{may_with_new}
use Rattle.heap_objects.specs.Marking.{grey_of}
use Rattle.heap_objects.specs.Marks.{HasMarks}
use Rattle.heap_objects.proofs.objects.Objects.make.Goals as goal

pub occupy-requires-clause-place : goal.occupy-requires-clause-place
occupy-requires-clause-place c =
    subst (λ (es : List Extent). IsFreePlace c.self.inside.space.shape es c.args.size c.args.place) (sym (extents_held c.self.inside.nodes.value c.self.inside.seat c.self.invariant.held))
    (rw (← c.self.view_is) at c.requires.place)

pub occupy-requires-clause-ty : goal.occupy-requires-clause-ty
occupy-requires-clause-ty c =
    subst (λ (types : List ObjectType). c.args.t < length types) (sym c.self.invariant.known) (rw (← c.self.view_is) at c.requires.ty)

pub occupy-requires-clause-least : goal.occupy-requires-clause-least
occupy-requires-clause-least c =
    let setup : Setup = record { shape = c.self.inside.space.shape; markers = c.self.inside.grey.crew.markers; types = (arc_value c.self.inside.types); callbacks = c.self.inside.kinds.value } in
    let size : c.args.size ≡ size_of_type setup c.args.t c.args.extra = rw (← c.self.view_is) at c.requires.size in
    subst (λ n. least_size c.self.inside.seat c.args.t ≤ n) (sym size)
    (room_for_fields setup c.self.inside.seat c.args.t c.args.extra c.self.invariant.known)

pub occupy-requires-clause-number : goal.occupy-requires-clause-number
occupy-requires-clause-number c =
    subst (IsNewNumber c.self.inside.seat) (sym c.self.invariant.numbers_are)
    (next_is_new c.self.inside.nodes.value c.self.inside.seat c.self.invariant.held.bodies)

-- while marking goes on nothing is dead
not_dead : (v : SeatView) (place : ℕ) → IsView v → (v.on ≡ false → holds v.dead place ≡ false) → holds v.dead place ≡ false
not_dead v place view off_alive = elim (cases_Bool v.on) [ inl on ↦ ap (λ places. holds places place) (view.marking on).no_dead | inr off ↦ off_alive off ]

pub invariant_of-self : goal.invariant_of-self
invariant_of-self c =
    let nodes : List Node = c.self.inside.nodes.value in
    let setup : Setup = record { shape = c.self.inside.space.shape; markers = c.self.inside.grey.crew.markers; types = (arc_value c.self.inside.types); callbacks = c.self.inside.kinds.value } in
    let size : ℕ = size_of_type setup c.args.t c.args.extra in
    let occupies : Occupies c.self.inside.seat c.occupy.new.seat (new_body c.args.place c.args.t size (length nodes)) =
    subst (λ k. Occupies c.self.inside.seat c.occupy.new.seat (new_body c.args.place c.args.t size k)) c.self.invariant.numbers_are
    (subst (λ n. Occupies c.self.inside.seat c.occupy.new.seat (new_body c.args.place c.args.t n c.self.inside.made)) (rw (← c.self.view_is) at c.requires.size)
    c.occupy.ensures.occupied) in
    let new : with_made setup nodes c.args.t c.args.extra (Some c.args.place) ≡ c.made.result.value =
    sym (c.made.ensures
    ∙ ap (λ (ts : List ObjectType). with_made (record { shape = c.occupy.new.self.shape; markers = 0; types = ts; callbacks = [] }) nodes c.args.t c.args.extra (Some c.args.place)) c.deref.ensures
    ∙ ap (λ sh. with_made (record { shape = sh; markers = c.self.inside.grey.crew.markers; types = (arc_value c.self.inside.types); callbacks = c.self.inside.kinds.value }) nodes c.args.t c.args.extra (Some c.args.place)) c.occupy.ensures.shape) in
    record {
      called = c.self.invariant.called;
      few = c.self.invariant.few;
      known = occupies.types ∙ c.self.invariant.known;
      laid = c.occupy.ensures.space;
      still = record {
        no_hand = occupies.hand ∙ c.self.invariant.still.no_hand;
        no_pending = occupies.pending ∙ c.self.invariant.still.no_pending;
      };
      held = subst (λ (ns : List Node). IsHeld ns c.occupy.new.seat) new
          (held_made setup nodes c.self.inside.seat c.occupy.new.seat c.args.t c.args.extra c.args.place
          (known_nodes setup nodes (rw (← c.self.view_is) at c.requires.valid)) (not_dead c.self.inside.seat c.args.place c.bodies_lie_apart.ensures (rw (← c.self.view_is) at c.requires.alive)) c.self.invariant.held occupies);
      numbers_are = omega (arith, c.self.invariant.numbers_are, ap length new, length_push nodes (new_node setup c.args.t c.args.extra c.args.place));
      told = c.self.invariant.told ∙ sym occupies.on;
      own = c.self.invariant.own;
      found = λ some p there. subst (λ l. Contains l p) (sym occupies.done) (c.self.invariant.found some p there);
    }

pub returns-clause-marks : goal.returns-clause-marks
returns-clause-marks c =
    let nodes : List Node = c.self.inside.nodes.value in
    let setup : Setup = record { shape = c.self.inside.space.shape; markers = c.self.inside.grey.crew.markers; types = (arc_value c.self.inside.types); callbacks = c.self.inside.kinds.value } in
    let new : nodes ++ new_node setup c.args.t c.args.extra c.args.place ∷ [] ≡ c.made.result.value =
    sym (c.made.ensures
    ∙ ap (λ (ts : List ObjectType). with_made (record { shape = c.occupy.new.self.shape; markers = 0; types = ts; callbacks = [] }) nodes c.args.t c.args.extra (Some c.args.place)) c.deref.ensures
    ∙ ap (λ sh. with_made (record { shape = sh; markers = c.self.inside.grey.crew.markers; types = (arc_value c.self.inside.types); callbacks = c.self.inside.kinds.value }) nodes c.args.t c.args.extra (Some c.args.place)) c.occupy.ensures.shape) in
    let fresh : IsNewNumber c.self.inside.seat c.self.inside.made =
    subst (IsNewNumber c.self.inside.seat) (sym c.self.invariant.numbers_are) (next_is_new nodes c.self.inside.seat c.self.invariant.held.bodies) in
    rw (← c.self.view_is) (λ phase limit may low.
    subst (λ (ns : List Node). HasMarks phase limit may (view_in c.self.inside.space.shape (arc_value c.self.inside.types) c.self.inside.kinds.value nodes c.self.inside.seat (grey_of c.self.inside.grey))
    → HasMarks phase limit (may_with_new phase may) (view_in c.occupy.new.self.shape (arc_value c.self.inside.types) c.self.inside.kinds.value ns c.occupy.new.seat (grey_of c.self.inside.grey))) new
    (marks_made c.self.inside.space.shape c.occupy.new.self.shape (arc_value c.self.inside.types) c.self.inside.kinds.value nodes (new_node setup c.args.t c.args.extra c.args.place)
    c.self.inside.seat c.occupy.new.seat (new_body c.args.place c.args.t c.args.size c.self.inside.made) (grey_of c.self.inside.grey)
    c.bodies_lie_apart.ensures c.bodies_lie_apart-2.ensures c.occupy.ensures.occupied refl refl c.self.invariant.held.bodies fresh phase limit may low))
