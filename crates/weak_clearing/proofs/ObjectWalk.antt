-- From object to object: which bodies were cleared.
use Rattle.std.proofs.Common.{◌≡◌, ℕ, Bool, true, false, ◌||◌, cond, List, map, refl, sym, ap, ◌∙◌, inl, inr, eqb}
use Rattle.std.specs.List.{Contains}
use Rattle.std.proofs.lemmas.Bool.{cases_Bool, cond-true, cond-false, cond_both, eqb-true}
use Rattle.gc_graph.specs.declared.kind.Kind.{Kind}
use Rattle.gc_graph.specs.State.{ObjectType}
use Rattle.marker_core.specs.Bodies.{IsPlace, holds}
use Rattle.marker_core.specs.declared.states.Body.{Body}
use Rattle.page_words.specs.Seat.{SeatView, with_bodies}
use Rattle.weak_clearing.specs.declared.weak_handles.WeakHandles.{WeakHandles}
use Rattle.weak_clearing.specs.Clearing.{MarkedHaveReferencesOf}
use Rattle.weak_clearing.specs.Steps.{clear_handles, body_cleared, all_cleared}
use Rattle.weak_clearing.proofs.Lists.{map_same, map_after, map_stays}
use Rattle.gc_graph.specs.Members.{Contains-map}
use Rattle.weak_clearing.proofs.Lessened.{IsLessened, itself_lessened, body_lessened, references_stay}

-- an unmarked body stays
pub unmarked_stays : (handles : WeakHandles) (v : SeatView) (a : ℕ) → holds v.marked a ≡ false → v ≡ body_cleared handles v a
unmarked_stays handles v a unmarked =
    ap (λ (bs : List Body). with_bodies v bs)
    (sym (map_stays (λ b. cond (eqb b.place a) (clear_handles handles v.types v.marked b) b) v.bodies
    (λ b there. cond_both (eqb b.place a) (clear_handles handles v.types v.marked b) b (λ c. c ≡ b)
    (λ here. cond-false (holds v.marked b.place) _ b (ap (holds v.marked) (eqb-true b.place a here) ∙ unmarked)) (λ _. refl))))

-- a body was cleared where its address passes
abbrev pub clear_where : WeakHandles → List ObjectType → List ℕ → (ℕ → Bool) → Body → Body
clear_where handles types marked passes b = cond (passes b.place) (clear_handles handles types marked b) b

-- the same, in a view
abbrev pub cleared_where : WeakHandles → SeatView → (ℕ → Bool) → SeatView
cleared_where handles v passes = with_bodies v (map (clear_where handles v.types v.marked passes) v.bodies)

where_lessened : (handles : WeakHandles) (types : List ObjectType) (marked : List ℕ) (passes : ℕ → Bool) (b : Body)
    → IsLessened b (clear_where handles types marked passes b)
where_lessened handles types marked passes b =
    cond_both (passes b.place) (clear_handles handles types marked b) b (IsLessened b) (λ _. body_lessened handles types marked b) (λ _. itself_lessened b)

pub where_references : (handles : WeakHandles) (kind : Kind) (v : SeatView) (passes : ℕ → Bool) → MarkedHaveReferencesOf kind v
    → MarkedHaveReferencesOf kind (cleared_where handles v passes)
where_references handles kind v passes have =
    references_stay (clear_where handles v.types v.marked passes) (where_lessened handles v.types v.marked passes) kind v have

pub where_place : (handles : WeakHandles) (v : SeatView) (passes : ℕ → Bool) (a : ℕ) → IsPlace v.bodies a → IsPlace (cleared_where handles v passes).bodies a
where_place handles v passes a place =
    let f : Body → Body = clear_where handles v.types v.marked passes in
    (f place.0, Contains-map f v.bodies place.0 place.1, (where_lessened handles v.types v.marked passes place.0).place ∙ place.2)

-- where no body's address passes, nothing changes
pub where_none : (handles : WeakHandles) (v : SeatView) (passes : ℕ → Bool) → ((b : Body) → Contains v.bodies b → passes b.place ≡ false)
    → v ≡ cleared_where handles v passes
where_none handles v passes none =
    ap (λ (bs : List Body). with_bodies v bs)
    (sym (map_stays (clear_where handles v.types v.marked passes) v.bodies
    (λ b there. cond-false (passes b.place) (clear_handles handles v.types v.marked b) b (none b there))))

-- where each does, each is cleared
pub where_all : (handles : WeakHandles) (v : SeatView) (passes : ℕ → Bool) → ((b : Body) → Contains v.bodies b → passes b.place ≡ true)
    → cleared_where handles v passes ≡ all_cleared handles v
where_all handles v passes all =
    ap (λ (bs : List Body). with_bodies v bs)
    (map_same (clear_where handles v.types v.marked passes) (clear_handles handles v.types v.marked) v.bodies
    (λ b there. cond-true (passes b.place) (clear_handles handles v.types v.marked b) b (all b there)))

pub where_same : (handles : WeakHandles) (v : SeatView) (passes also : ℕ → Bool) → ((a : ℕ) → passes a ≡ also a)
    → cleared_where handles v passes ≡ cleared_where handles v also
where_same handles v passes also same =
    ap (λ (bs : List Body). with_bodies v bs)
    (map_same (clear_where handles v.types v.marked passes) (clear_where handles v.types v.marked also) v.bodies
    (λ b there. ap (λ t. cond t (clear_handles handles v.types v.marked b) b) (same b.place)))

one_after : (handles : WeakHandles) (types : List ObjectType) (marked : List ℕ) (first next both : ℕ → Bool)
    → ((a : ℕ) → first a ≡ true → next a ≡ false) → ((a : ℕ) → both a ≡ (first a || next a)) → (b : Body)
    → clear_where handles types marked next (clear_where handles types marked first b) ≡ clear_where handles types marked both b
one_after handles types marked first next both apart either b = elim (cases_Bool (first b.place)) [
  | inl is ↦
      (let now : clear_where handles types marked first b ≡ cleared = cond-true (first b.place) cleared b is in
      let place : cleared.place ≡ b.place = (body_lessened handles types marked b).place in
      ap (clear_where handles types marked next) now
      ∙ cond-false (next cleared.place) (clear_handles handles types marked cleared) cleared (ap next place ∙ apart b.place is)
      ∙ sym (cond-true (both b.place) cleared b (either b.place ∙ ap (λ t. t || next b.place) is)))
  | inr isnt ↦
      (let now : clear_where handles types marked first b ≡ b = cond-false (first b.place) cleared b isnt in
      ap (clear_where handles types marked next) now
      ∙ ap (λ t. cond t cleared b) (sym (either b.place ∙ ap (λ t. t || next b.place) isnt)))
] where
  cleared : Body
  cleared = clear_handles handles types marked b

-- the bodies at some addresses are cleared, and then those at others
pub where_after : (handles : WeakHandles) (v : SeatView) (first next both : ℕ → Bool) → ((a : ℕ) → first a ≡ true → next a ≡ false)
    → ((a : ℕ) → both a ≡ (first a || next a)) → cleared_where handles (cleared_where handles v first) next ≡ cleared_where handles v both
where_after handles v first next both apart either =
    ap (λ (bs : List Body). with_bodies v bs)
    (map_after (clear_where handles v.types v.marked next) (clear_where handles v.types v.marked first) v.bodies
    ∙ map_same _ (clear_where handles v.types v.marked both) v.bodies (λ b there. one_after handles v.types v.marked first next both apart either b))
