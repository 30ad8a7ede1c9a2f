use Rattle.std.proofs.Common.{◌≡◌, ℕ, ◌+◌, ◌/◌, not, true, List, [], ◌∷◌, ◌++◌, refl, ap, sym, ◌∙◌, subst, map, filter, append-nil, arith, rules, Contains, ◌<◌}
use Rattle.std.proofs.lemmas.Grind.{common_steps}
use Rattle.marker_core.specs.declared.states.Body.{Body}
use Rattle.marker_core.specs.Bodies.{IsPlace, holds}
use Rattle.page_words.specs.Seat.{SeatView, IsView, MaySetStop, begun, ended}
use Rattle.page_words.specs.BodyPlaces.{no_place_beyond}
use Rattle.page_space.specs.Space.{IsSpaceOf}
use Rattle.words_trials.proofs.NoFields.{no_pairs, marked_out}
use Rattle.words_trials.proofs.aged.Aged.condemn.Goals as goal

all_unmarked : (places : List ℕ) → filter (λ a. not (holds [] a)) places ≡ places
all_unmarked [] = refl
all_unmarked (a ∷ places) = ap (λ l. a ∷ l) (all_unmarked places)

pub set_stop-requires : goal.set_stop-requires
set_stop-requires c =
    let none : c.self.inside.dead.items ≡ [] = grind (arith, common_steps) in (
      search rules,
      (
        record {
          off = c.self.invariant.1;
          marked = c.self.invariant.2;
          traced = c.self.invariant.3;
          dead = c.self.invariant.4 ∙ none;
        },
        no_pairs c.self.inside.seat c.self.invariant.6,
      ),
    )

-- the stop word is no header
stop_beyond : (v w : SeatView) (count : ℕ) → IsView v → v.count ≡ count → w ≡ begun v [] → IsPlace w.bodies (count + count / 64) → ⊥
stop_beyond v w count is same began at =
    no_place_beyond v (count + count / 64) is (omega (arith, same)) (subst (λ (u : SeatView). IsPlace u.bodies (count + count / 64)) began at)

pub set_stop-requires-2 : goal.set_stop-requires-2
set_stop-requires-2 c = (
  search rules,
  subst (λ (v : SeatView). MaySetStop v true) (sym (c.load-stop.ensures.beside refl (stop_beyond c.self.inside.seat c.set_stop.new.seat c.word_count-count.result c.bodies_lie_apart.ensures
      (c.self.invariant.0.seat ∙ sym c.word_count-count.ensures) c.set_stop.ensures.view) ∙ c.set_stop.ensures.view))
      (λ on alone. marked_out c.self.inside.seat (c.bodies_lie_apart.ensures.at_rest c.self.invariant.1) c.self.invariant.2),
)

pub invariant_of-self : goal.invariant_of-self
invariant_of-self c =
    let v : SeatView = c.self.inside.seat in
    let began : c.load-stop.new.seat ≡ begun v [] = c.load-stop.ensures.beside refl (stop_beyond c.self.inside.seat c.set_stop.new.seat c.word_count-count.result c.bodies_lie_apart.ensures
    (c.self.invariant.0.seat ∙ sym c.word_count-count.ensures) c.set_stop.ensures.view) ∙ c.set_stop.ensures.view in
    let over : c.set_stop-2.new.seat ≡ ended (begun v []) =
    c.set_stop-2.ensures.ended refl (ap (λ (u : SeatView). u.on) began)
    (ap (λ (u : SeatView). u.lent) began ∙ (c.bodies_lie_apart.ensures.at_rest c.self.invariant.1).none_lent) ∙ ap ended began in
    let none : c.self.inside.dead.items ≡ [] = grind (arith, common_steps) in
    let left : c.swap.new.y.items ≡ [] = cc in
    let places : map (λ (b : Body). b.place) c.self.inside.seat.bodies ≡ c.swap.new.x.items = cc in (
      subst (λ (v : SeatView). IsSpaceOf c.self.inside.space v) (sym over) c.self.invariant.0,
      ap (λ (v : SeatView). v.on) over,
      ap (λ (v : SeatView). v.marked) over ∙ c.self.invariant.2,
      ap (λ (v : SeatView). v.traced) over ∙ c.self.invariant.3,
      ap (λ (v : SeatView). v.dead) over ∙ ap (λ marked. filter (λ a. not (holds marked a)) (map (λ (b : Body). b.place) c.self.inside.seat.bodies)) c.self.invariant.2 ∙ all_unmarked _ ∙ places,
      ap (λ (v : SeatView). map (λ (b : Body). b.place) v.bodies) over ∙ places ∙ sym (append-nil c.swap.new.x.items) ∙ ap (λ l. c.swap.new.x.items ++ l) (sym left),
      ap (λ (v : SeatView). v.types) over ∙ c.self.invariant.6,
      subst (λ (v : SeatView). (b : Body) → Contains v.bodies b → b.serial < c.self.inside.next) (sym over) c.self.invariant.7,
    )
