-- What is true where all is swept, and how many dead there can be.
use Rattle.std.proofs.Common.{◌≡◌, ℕ, ◌*◌, ◌<◌, ◌≤◌, true, false, not, ◌&&◌, List, [], ◌∷◌, refl, sym, ap, ◌∙◌, inl, inr, arith, eqb}
use Rattle.std.specs.List.{filter}
use Rattle.std.proofs.lemmas.Bool.{true≢false, cases_lt, and_right, or_left, eq-eqb}
use Rattle.gc_graph.specs.Placement.{Extent}
use Rattle.marker_core.specs.Bodies.{IsPlace, holds}
use Rattle.marker_core.specs.declared.states.Body.{Body}
use Rattle.page_space.specs.Seat.{SeatView, IsView, IsQuiet}
use Rattle.page_space.specs.Pages.{word_count, is_between}
use Rattle.page_space.specs.Space.{SpaceView, IsSpaceOf, body_extent}
use Rattle.sweeper.specs.Sweeping.{IsClearBelow, is_dead_in, swept_in, all_swept, dead_between, outside}
use Rattle.sweeper.proofs.Filters.{filter_same}
use Rattle.sweeper.proofs.Places.{between, outside_none}
use Rattle.sweeper.proofs.Sweeping.{changed_same, unmarked_without_body, untraced_without_body, undead_without_body}
use Rattle.sweeper.proofs.Counts.{count_half}
use Rattle.page_space.specs.BodyPlaces.{body_below, place_below, no_place_beyond}

-- a list that holds no place is empty
holds_nothing : (places : List ℕ) → ((x : ℕ) → holds places x ≡ false) → places ≡ []
holds_nothing [] none = refl
holds_nothing (p ∷ places) none = absurd (true≢false (sym (or_left (eqb p p) (holds places p) (eq-eqb p p refl)) ∙ none p))

-- a heap is quiet where nothing below its end is marked, traced or dead
pub quiet_end : (v : SeatView) → IsView v → v.on ≡ false → IsClearBelow v.count v → IsQuiet v
quiet_end v view off clear =
    let none_behind : (x : ℕ) → v.count ≤ x → IsPlace v.bodies x → ⊥ = λ x high. no_place_beyond v x view high in
    record {
      off = off;
      marked = holds_nothing v.marked (λ x. elim (cases_lt x v.count) [
        | inl low ↦ clear.marked x low
        | inr high ↦ unmarked_without_body v x view (none_behind x high)
      ]);
      traced = holds_nothing v.traced (λ x. elim (cases_lt x v.count) [
        | inl low ↦ clear.traced x low
        | inr high ↦ untraced_without_body v x view (none_behind x high)
      ]);
      dead = holds_nothing v.dead (λ x. elim (cases_lt x v.count) [
        | inl low ↦ clear.dead x low
        | inr high ↦ undead_without_body v x view (none_behind x high)
      ]);
    }

-- what is held lies from the cursor up to the end
held_between : (from : ℕ) (v : SeatView) (places : List ℕ) → IsView v → ((a : ℕ) → a < from → holds places a ≡ false)
    → ((a : ℕ) → holds places a ≡ true → IsPlace v.bodies a) → (a : ℕ) → holds places a ≡ true → is_between from v.count a ≡ true
held_between from v places view none at a held = elim (cases_lt a from) [
  | inl low ↦ absurd (true≢false (sym held ∙ none a low))
  | inr high ↦ between from v.count a high (place_below v a view (at a held))
]

-- a sweep to the end leaves nothing that is marked, traced or dead, where there was nothing of it below its beginning
pub all_end : (from : ℕ) (v : SeatView) → IsView v → IsClearBelow from v → swept_in from v.count v ≡ all_swept v
all_end from v view clear =
    changed_same v (filter (λ b. not (is_dead_in from v.count v b)) v.bodies) (filter (λ (b : Body). not (holds v.dead b.place)) v.bodies)
    (outside from v.count v.marked) [] (outside from v.count v.traced) [] (outside from v.count v.dead) []
    (filter_same (λ b. not (is_dead_in from v.count v b)) (λ (b : Body). not (holds v.dead b.place)) v.bodies (λ b there. ap not (elim (cases_lt b.place from) [
      | inl low ↦ and_right (is_between from v.count b.place) _ (clear.dead b.place low) ∙ sym (clear.dead b.place low)
      | inr high ↦ ap (λ t. t && holds v.dead b.place) (between from v.count b.place high (body_below v b view there))
    ])))
    (outside_none from v.count v.marked (held_between from v v.marked view clear.marked view.marked_are_bodies))
    (outside_none from v.count v.traced
    (held_between from v v.traced view clear.traced view.traced_are_bodies))
    (outside_none from v.count v.dead (held_between from v v.dead view clear.dead (λ a dead. (view.dead_are_unmarked a dead).0)))

-- each dead body has two words at least
pub dead_few : (space : SpaceView) (v : SeatView) (from until : ℕ) → IsSpaceOf space v → 2 * dead_between from until v ≤ word_count space.shape
dead_few space v from until over =
    let half = count_half (is_dead_in from until v) body_extent (λ (e : Extent). e.size) v.bodies over.sizes in
    omega (arith, half, over.free, over.seat)
