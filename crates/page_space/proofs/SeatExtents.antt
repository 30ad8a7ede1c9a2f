-- The bodies of a seat as extents.
use Rattle.std.proofs.Common.{◌≡◌, ℕ, not, List, [], ◌∷◌, map, refl, sym, ap, ◌∙◌, subst, inl, inr, cond, eqb}
use Rattle.std.specs.List.{Contains, filter}
use Rattle.std.proofs.lemmas.Bool.{cases_Bool}
use Rattle.gc_graph.specs.Placement.{Extent, HasWord}
use Rattle.gap_bounds.specs.Bodies.{with_word}
use Rattle.gap_bounds.specs.Body.{Body}
use Rattle.gap_bounds.specs.Seat.{Heap, SeatView, IsView}
use Rattle.page_space.specs.Space.{SpaceView, IsSpaceIn, IsSpaceOf, body_extent, extents_of_bodies}
use Rattle.page_space.proofs.PlaceBodies.{body_of_extent}
use Rattle.page_space.proofs.Extents.{others}
use Rattle.page_space.proofs.Left.{LieApart}

pub seat_apart : (v : SeatView) → IsView v → LieApart (extents_of_bodies v.bodies)
seat_apart v view d e x d_there e_there d_covers e_covers =
    let b : (b : Body) × Contains v.bodies b × (body_extent b ≡ d) = body_of_extent v.bodies d d_there in
    let c : (c : Body) × Contains v.bodies c × (body_extent c ≡ e) = body_of_extent v.bodies e e_there in
    let on_b : HasWord (body_extent b.0) x = subst (λ (f : Extent). HasWord f x) (sym b.2) d_covers in
    let on_c : HasWord (body_extent c.0) x = subst (λ (f : Extent). HasWord f x) (sym c.2) e_covers in
    sym b.2 ∙ ap body_extent (view.apart b.0 c.0 x b.1 c.1 on_b.0 on_b.1 on_c.0 on_c.1) ∙ c.2

pub extents_filter : (bodies : List Body) (a : ℕ) → extents_of_bodies (filter (λ (b : Body). not (eqb b.place a)) bodies) ≡ filter (others a) (extents_of_bodies bodies)
extents_filter [] a = refl
extents_filter (b ∷ bodies) a =
    elim (cases_Bool (not (eqb b.place a))) [
      | inl stays ↦
          ap (λ t. extents_of_bodies (cond t (b ∷ filter (λ (c : Body). not (eqb c.place a)) bodies) (filter (λ (c : Body). not (eqb c.place a)) bodies))) stays
          ∙ ap (λ es. body_extent b ∷ es) (extents_filter bodies a)
          ∙ sym (ap (λ t. cond t (body_extent b ∷ filter (others a) (extents_of_bodies bodies)) (filter (others a) (extents_of_bodies bodies))) stays)
      | inr goes ↦
          ap (λ t. extents_of_bodies (cond t (b ∷ filter (λ (c : Body). not (eqb c.place a)) bodies) (filter (λ (c : Body). not (eqb c.place a)) bodies))) goes
          ∙ extents_filter bodies a
          ∙ sym (ap (λ t. cond t (body_extent b ∷ filter (others a) (extents_of_bodies bodies)) (filter (others a) (extents_of_bodies bodies))) goes)
    ]

word_keeps : (a w : ℕ) (b : Body) → body_extent (with_word a w b) ≡ body_extent b
word_keeps a w b = refl

pub stored_keeps : (bodies : List Body) (a w : ℕ) → extents_of_bodies (map (with_word a w) bodies) ≡ extents_of_bodies bodies
stored_keeps [] a w = refl
stored_keeps (b ∷ bodies) a w =
    ap (λ e. e ∷ extents_of_bodies (map (with_word a w) bodies)) (word_keeps a w b) ∙ ap (λ es. body_extent b ∷ es) (stored_keeps bodies a w)

-- the objects are as before, to a space
pub lasts : (space : SpaceView) (old new : SeatView) → new.heap ≡ old.heap → extents_of_bodies new.bodies ≡ extents_of_bodies old.bodies
    → IsSpaceOf space old → IsSpaceOf space new
lasts space old new heap extents is =
    subst (λ (h : Heap). IsSpaceIn space h (extents_of_bodies new.bodies)) (sym heap) (subst (IsSpaceIn space old.heap) (sym extents) is)
