-- New objects, before marking begins and as it begins.
use Rattle.std.proofs.Common.{◌≡◌, ℕ, zero, suc, ◌+◌, true, List, [], ◌∷◌, get_or, refl, sym, ap, ◌∙◌, subst, inl, inr, arith, Contains}
use Rattle.std.proofs.lemmas.List.Elements.{Contains-push, Contains-push_cases}
use Rattle.gc_graph.specs.Members.{Contains-map, holds_from}
use Rattle.marker_core.specs.declared.states.Body.{Body}
use Rattle.marker_core.specs.Bodies.{IsPlace, holds, places}
use Rattle.page_words.specs.Seat.{SeatView, IsView, PairsAreWhole, begun}
use Rattle.page_space.specs.Space.{SpaceView, IsSpaceOf}
use Rattle.page_space.specs.Occupying.{Occupies, new_body}
use Rattle.marking_trials.specs.ThreeObjects.{IsYoung, IsMarkingThreeObjects}

-- an object with the next number was made
pub young_made : (space now : SpaceView) (v w : SeatView) (a number : ℕ) → IsYoung space v number → Occupies v w (new_body a 0 5 number) → IsSpaceOf now w
    → IsYoung now w (number + 1)
young_made space now v w a number is made laid = record {
  laid = laid;
  quiet = record {
    off = made.on ∙ is.quiet.off;
    marked = made.marked ∙ is.quiet.marked;
    traced = made.traced ∙ is.quiet.traced;
    dead = made.dead ∙ is.quiet.dead;
  };
  types = made.types ∙ is.types;
  fresh = λ c there. elim (Contains-push_cases v.bodies (new_body a 0 5 number) c (subst (λ (bodies : List Body). Contains bodies c) made.bodies there)) [
    | inl old ↦ (let before = is.fresh c old in (before.0, omega (arith, before.1)))
    | inr same ↦ (subst (λ (d : Body). d ≡ new_body d.place 0 5 d.serial) same refl, omega (arith, ap (λ (d : Body). d.serial) same))
  ];
}

pub made_there : (v w : SeatView) (b : Body) → Occupies v w b → IsPlace w.bodies b.place
made_there v w b made = (b, subst (λ (bodies : List Body). Contains bodies b) (sym made.bodies) (Contains-push v.bodies b), refl)

-- ---- marking begins

abbrev three_nulls : List ℕ
three_nulls = 0 ∷ 0 ∷ 0 ∷ []

nulls : (i : ℕ) → get_or three_nulls i 0 ≡ 0
nulls zero = refl
nulls (suc zero) = refl
nulls (suc (suc zero)) = refl
nulls (suc (suc (suc i))) = refl

pub pairs_are_whole : (space : SpaceView) (v : SeatView) (number : ℕ) → IsYoung space v number → PairsAreWhole v
pairs_are_whole space v number is b i there key =
    let null : (j : ℕ) → get_or b.fields j 0 ≡ 0 = λ j. ap (λ (c : Body). get_or c.fields j 0) (is.fresh b there).0 ∙ nulls j in
    (λ _. null (i + 1), λ _. null i)

pub all_held : (v : SeatView) (p : ℕ) → IsPlace v.bodies p → holds (places v.bodies) p ≡ true
all_held v p at =
    subst (λ q. holds (places v.bodies) q ≡ true) at.2 (holds_from (places v.bodies) at.0.place (Contains-map (λ (b : Body). b.place) v.bodies at.0 at.1))

pub under_way : (space : SpaceView) (v s : SeatView) (number : ℕ) (roots : List ℕ) → IsView v → IsYoung space v number → s ≡ begun v roots
    → ((p : ℕ) → IsPlace v.bodies p → holds s.may p ≡ true) → IsMarkingThreeObjects space s true
under_way space v s number roots is young e may =
    let rest = is.at_rest young.quiet.off in
    record {
      heap = ap (λ (u : SeatView). u.heap) e ∙ young.laid.words;
      on = ap (λ (u : SeatView). u.on) e;
      same = refl;
      ready = record {
        no_hand = ap (λ (u : SeatView). u.hand) e ∙ rest.no_hand;
        no_pending = ap (λ (u : SeatView). u.pending) e ∙ rest.no_pending;
      };
      types = ap (λ (u : SeatView). u.types) e ∙ young.types;
      bodies = λ b there.
          let old : Contains v.bodies b = subst (λ (u : SeatView). Contains u.bodies b) e there in
          let fresh = (young.fresh b old).0 in
          (ap (λ (c : Body). c.ty) fresh, ap (λ (c : Body). c.size) fresh, may b.place (b, old, refl));
    }

pub begun_places : (v s : SeatView) (roots : List ℕ) (p : ℕ) → s ≡ begun v roots → IsPlace v.bodies p → IsPlace s.bodies p
begun_places v s roots p e at = subst (λ (bodies : List Body). IsPlace bodies p) (sym (ap (λ (u : SeatView). u.bodies) e)) at
