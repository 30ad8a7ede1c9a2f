use Rattle.std.proofs.Common.{subst, ◌≡◌, ◌<◌, ℕ, true, false, not, List, [], ◌∷◌, ◌++◌, refl, ap, sym, ◌∙◌, map, filter, eqb, cond, arith}
use Rattle.std.proofs.lemmas.Grind.{common_steps}
use Rattle.std.proofs.lemmas.List.Elements.{filter-append}
use Rattle.std.specs.List.{Contains}
use Rattle.marker_core.specs.declared.states.Body.{Body}
use Rattle.marker_core.specs.Bodies.{holds, without}
use Rattle.page_words.specs.Seat.{SeatView, OnlyLooked, retracted}
use Rattle.gc_graph.specs.Members.{was_in}
use Rattle.words_trials.proofs.NoFields.{nothing_named}
use Rattle.words_trials.proofs.aged.Aged.free.Goals as goal

places_without : (bodies : List Body) (a : ℕ) → map (λ (b : Body). b.place) (filter (λ b. not (eqb b.place a)) bodies) ≡ without (map (λ (b : Body). b.place) bodies) a
places_without [] a = refl
places_without (b ∷ bodies) a = elim (not (eqb b.place a)) as (λ t. map (λ (d : Body). d.place) (cond t (b ∷ filter (λ d. not (eqb d.place a)) bodies) (filter (λ d. not (eqb d.place a)) bodies))
    ≡ cond t (b.place ∷ without (map (λ (d : Body). d.place) bodies) a) (without (map (λ (d : Body). d.place) bodies) a)) [
      | true ↦ ap (λ l. b.place ∷ l) (places_without bodies a)
      | false ↦ places_without bodies a
    ]

pub header_at-size-requires-clause-start : goal.header_at-size-requires-clause-start
header_at-size-requires-clause-start c =
    let dead : holds c.self.inside.seat.dead c.index-place.result.now ≡ true = grind (arith, common_steps) in
    (c.bodies_lie_apart.ensures.dead_are_unmarked c.index-place.result.now dead).0

pub free-requires-clause-size : goal.free-requires-clause-size
free-requires-clause-size c =
    subst (λ (v : SeatView). (b : Body) → Contains v.bodies b → b.place ≡ c.index-place.result.now → c.header_at-size.result.size ≡ b.size)
    (sym c.header_at-size.ensures.view) (λ b there at. (c.header_at-size.ensures.header b there at).size)

pub free-requires-clause-unnamed : goal.free-requires-clause-unnamed
free-requires-clause-unnamed c =
    let w : SeatView = c.header_at-size.new.seat in
    nothing_named w.types w.bodies w.dead c.index-place.result.now
    (ap (λ (v : SeatView). v.types) c.header_at-size.ensures.view ∙ c.self.invariant.6)

pub invariant_of-self : goal.invariant_of-self
invariant_of-self c =
    let a = c.index-place.result.now in
    let freed : OnlyLooked (retracted c.self.inside.seat a) c.free.new.seat = c.free.ensures.freed ∙ ap (λ v. retracted v a) c.header_at-size.ensures.view in (
      c.free.ensures.space,
      ap (λ (v : SeatView). v.on) freed ∙ c.self.invariant.1,
      ap (λ (v : SeatView). v.marked) freed ∙ c.self.invariant.2,
      ap (λ (v : SeatView). v.traced) freed ∙ c.self.invariant.3,
      ap (λ (v : SeatView). v.dead) freed ∙ ap (λ places. without places a) c.self.invariant.4 ∙ sym c.leave_out.ensures,
      ap (λ (v : SeatView). map (λ (b : Body). b.place) v.bodies) freed ∙ places_without c.self.inside.seat.bodies a ∙ ap (λ places. without places a) c.self.invariant.5
          ∙ filter-append (λ p. not (eqb p a)) c.self.inside.dead.items c.self.inside.young.items ∙ sym (ap (λ places. places ++ c.leave_out-2.new.places.items) c.leave_out.ensures ∙ ap (λ places. without c.self.inside.dead.items a ++ places) c.leave_out-2.ensures),
      ap (λ (v : SeatView). v.types) freed ∙ c.self.invariant.6,
      subst (λ (v : SeatView). (b : Body) → Contains v.bodies b → b.serial < c.self.inside.next) (sym freed)
          (λ b there. c.self.invariant.7 b (was_in (λ (d : Body). not (eqb d.place a)) c.self.inside.seat.bodies b there)),
    )
