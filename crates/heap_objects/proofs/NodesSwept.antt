-- A sweep up to an address finalises the dead nodes below it.
use Rattle.std.proofs.Common.{◌≡◌, ℕ, suc, ◌<◌, Bool, true, false, ◌&&◌, not, List, [], ◌∷◌, length, get_or, map, filter, refl, sym, ap, ◌∙◌, subst, inl, inr, arith, cond, ltb}
use Rattle.std.specs.List.{Contains}
use Rattle.std.proofs.lemmas.Bool.{true≢false, cases_Bool, cases_lt, and_parts, and_right, le-leb}
use Rattle.std.proofs.lemmas.List.{length-map, get_or-map}
use Rattle.std.proofs.lemmas.List.Elements.{All-get_or, All-from_get_or}
use Rattle.gc_graph.specs.State.{Node, Life, node_at, is_there, is_dead, IsDead}
use Rattle.gc_graph.specs.State.Life.{Live, Dead, Gone}
use Rattle.gc_graph.specs.Sweep.{buried, finalise, IsDeadBelow, AreDeadInOrder}
use Rattle.marker_core.specs.declared.states.Body.{Body}
use Rattle.marker_core.specs.Bodies.{holds, no_body}
use Rattle.page_words.specs.Seat.{SeatView}
use Rattle.page_space.specs.Pages.{is_between}
use Rattle.sweeper.specs.Sweeping.{IsClearBelow, Sweeps, AreDeadSerials, IsDeadBetween, outside, is_dead_in}
use Rattle.atomic_pause.specs.Nodes.{place_of, body_of, bodies_from, IsThere, IsHeld}
use Rattle.atomic_pause.specs.NodeBodies.{bodies-there, bodies-gone}
use Rattle.atomic_pause.specs.NodeChanges.{bodies-same}
use Rattle.atomic_pause.specs.NodePlaces.{node_body, body_node}
use Rattle.atomic_pause.specs.NodeLives.{is_dead_life}
use Rattle.heap_objects.specs.Finalising.{FinalisesBelow}
use Rattle.heap_objects.specs.SweptNodes.{life_below, finalise_is, place-finalised, life-finalised}
use Rattle.sweeper.specs.OutsidePlaces.{outside_holds}
use Rattle.gc_graph.specs.Members.{Contains-map}

-- ---- the nodes afterwards

-- it is no longer there where it was dead and lay below
there_below : (low : Bool) (l : Life) → is_there (cond low (buried l) l) ≡ (is_there l && not (low && is_dead l))
there_below true Live = refl
there_below true Dead = refl
there_below true Gone = refl
there_below false Live = refl
there_below false Dead = refl
there_below false Gone = refl

dead_below : (low : Bool) (l : Life) → is_dead (cond low (buried l) l) ≡ (not low && is_dead l)
dead_below true Live = refl
dead_below true Dead = refl
dead_below true Gone = refl
dead_below false l = refl

was_there : (limit : ℕ) (nodes : List Node) (n : ℕ) → IsThere (map (finalise limit) nodes) n → IsThere nodes n
was_there limit nodes n there =
    (and_parts _ _ (sym (there_below (ltb (place_of nodes n) limit) (node_at nodes n).life) ∙ sym (ap is_there (life-finalised limit nodes n)) ∙ there)).0

-- ---- the bodies afterwards

-- the bodies of the dead nodes below go, where a test of places tells which these are
bodies-below : (f : ℕ → ℕ) (k limit : ℕ) (nodes : List Node) (gone : ℕ → Bool)
    → ((n : ℕ) → IsThere nodes n → gone (place_of nodes n) ≡ (ltb (place_of nodes n) limit && is_dead (node_at nodes n).life))
    → bodies_from f k (map (finalise limit) nodes) ≡ filter (λ (b : Body). not (gone b.place)) (bodies_from f k nodes)
bodies-below f k limit [] gone tells = refl
bodies-below f k limit (x ∷ nodes) gone tells =
    let keeps : Body → Bool = λ b. not (gone b.place) in
    let kept : List Body = filter keeps (bodies_from f (suc k) nodes) in
    let first : bodies_from f k (map (finalise limit) (x ∷ nodes)) ≡ cond (is_there (life_below limit x)) (body_of f k x ∷ kept) kept =
    ap (λ y. bodies_from f k (y ∷ map (finalise limit) nodes)) (finalise_is limit x)
    ∙ ap (λ bs. cond (is_there (life_below limit x)) (body_of f k x ∷ bs) bs) (bodies-below f (suc k) limit nodes gone (λ n there. tells (suc n) there)) in
    let test : is_there (life_below limit x) ≡ (is_there x.life && not (ltb x.place limit && is_dead x.life)) = there_below (ltb x.place limit) x.life in
    elim (cases_Bool (is_there x.life)) [
      | inl present ↦
          (let same : is_there (life_below limit x) ≡ keeps (body_of f k x) =
          test ∙ ap (λ b. b && not (ltb x.place limit && is_dead x.life)) present ∙ ap not (sym (tells 0 present)) in
          first ∙ ap (λ b. cond b (body_of f k x ∷ kept) kept) same ∙ sym (ap (filter keeps) (bodies-there f k x nodes present)))
      | inr absent ↦
          first ∙ ap (λ b. cond b (body_of f k x ∷ kept) kept) (test ∙ ap (λ b. b && not (ltb x.place limit && is_dead x.life)) absent)
          ∙ sym (ap (filter keeps) (bodies-gone f k x nodes absent))
    ]

-- where nothing below the one address is dead, what is dead between the two is what is dead below the other
dead_between : (from limit place : ℕ) (dead : Bool) → (place < from → dead ≡ false) → (is_between from limit place && dead) ≡ (ltb place limit && dead)
dead_between from limit place dead clear =
    elim (cases_lt place from) [
      | inl low ↦ and_right (is_between from limit place) dead (clear low) ∙ sym (and_right (ltb place limit) dead (clear low))
      | inr high ↦ ap (λ b. (b && ltb place limit) && dead) (le-leb from place high)
    ]

alive_between : (from limit place : ℕ) (dead : Bool) → (place < from → dead ≡ false) → (not (is_between from limit place) && dead) ≡ (not (ltb place limit) && dead)
alive_between from limit place dead clear =
    elim (cases_lt place from) [
      | inl low ↦ and_right (not (is_between from limit place)) dead (clear low) ∙ sym (and_right (not (ltb place limit)) dead (clear low))
      | inr high ↦ ap (λ b. not (b && ltb place limit) && dead) (le-leb from place high)
    ]

pub held_below : (nodes : List Node) (v w : SeatView) (from limit : ℕ) (before after : List ℕ) → IsHeld nodes v → IsClearBelow from v
    → Sweeps from limit v before w after → IsHeld (map (finalise limit) nodes) w
held_below nodes v w from limit before after held clear sweeps =
    let new : List Node = map (finalise limit) nodes in
    let gone : ℕ → Bool = λ a. is_between from limit a && holds v.dead a in
    record {
      bodies = ap (λ (s : SeatView). s.bodies) sweeps.view ∙ ap (filter (λ (b : Body). not (is_dead_in from limit v b))) held.bodies
          ∙ sym (bodies-below (place_of nodes) 0 limit nodes gone (λ n there.
          dead_between from limit (place_of nodes n) (holds v.dead (place_of nodes n)) (clear.dead (place_of nodes n))
          ∙ ap (λ d. ltb (place_of nodes n) limit && d) (held.dead n there)))
          ∙ bodies-same (place_of nodes) (place_of new) new (λ n. sym (place-finalised limit nodes n));
      dead = λ n there.
          let place : ℕ = place_of nodes n in
          ap (λ (s : SeatView). holds s.dead (place_of new n)) sweeps.view ∙ ap (holds (outside from limit v.dead)) (place-finalised limit nodes n)
          ∙ outside_holds from limit v.dead place ∙ alive_between from limit place (holds v.dead place) (clear.dead place)
          ∙ ap (λ d. not (ltb place limit) && d) (held.dead n (was_there limit nodes n there))
          ∙ sym (ap is_dead (life-finalised limit nodes n) ∙ dead_below (ltb place limit) (node_at nodes n).life);
    }

-- ---- what is told

-- the node of a dead body
dead_node : (nodes : List Node) (v : SeatView) (from limit : ℕ) (b : Body) → IsHeld nodes v → IsDeadBetween from limit v b
    → IsDead nodes b.serial × (place_of nodes b.serial ≡ b.place)
dead_node nodes v from limit b held is =
    let w = body_node nodes v b held.bodies is.there in
    let number : w.0 ≡ b.serial = sym (ap (λ (c : Body). c.serial) w.3) in
    let place : b.place ≡ place_of nodes w.0 = ap (λ (c : Body). c.place) w.3 in
    let dead : IsDead nodes w.0 = is_dead_life (node_at nodes w.0).life (sym (held.dead w.0 w.2) ∙ ap (holds v.dead) (sym place) ∙ is.dead) in
    (subst (IsDead nodes) number dead, sym (place ∙ ap (place_of nodes) number))

-- the body of a dead node
dead_body : (nodes : List Node) (v : SeatView) (from limit n : ℕ) → IsHeld nodes v → IsClearBelow from v → IsDeadBelow nodes limit n
    → IsDeadBetween from limit v (body_of (place_of nodes) n (node_at nodes n))
dead_body nodes v from limit n held clear is =
    let there : IsThere nodes n = ap is_there is.dead in
    let dead : holds v.dead (place_of nodes n) ≡ true = held.dead n there ∙ ap is_dead is.dead in
    record {
      there = node_body nodes v n held.bodies there;
      dead = dead;
      first = elim (cases_lt (place_of nodes n) from) [
        | inl low ↦ absurd (true≢false (sym dead ∙ clear.dead (place_of nodes n) low))
        | inr high ↦ high
      ];
      last = is.below;
    }

dead_in_order : (nodes : List Node) (v : SeatView) (from limit : ℕ) (numbers : List ℕ) → IsHeld nodes v → IsClearBelow from v
    → AreDeadSerials from limit v numbers → AreDeadInOrder nodes limit numbers
dead_in_order nodes v from limit numbers held clear serials =
    let is : numbers ≡ map (λ (b : Body). b.serial) serials.dead = serials.numbers_are in
    let long : length numbers ≡ length serials.dead = ap length is ∙ length-map serials.dead (λ (b : Body). b.serial) in
    let body : ℕ → Body = λ i. get_or serials.dead i no_body in
    let node : (i : ℕ) → i < length numbers → IsDeadBelow nodes limit (get_or numbers i 0) × (place_of nodes (get_or numbers i 0) ≡ (body i).place) =
    λ i low.
    let inside : i < length serials.dead = subst (λ l. i < l) long low in
    let number : get_or numbers i 0 ≡ (body i).serial =
    ap (λ l. get_or l i 0) is ∙ get_or-map (λ (b : Body). b.serial) serials.dead i no_body 0 inside in
    let each : IsDeadBetween from limit v (body i) = All-get_or (IsDeadBetween from limit v) serials.dead i no_body inside serials.each in
    let d = dead_node nodes v from limit (body i) held each in
    let place : place_of nodes (get_or numbers i 0) ≡ (body i).place = ap (place_of nodes) number ∙ d.1 in
    (record { dead = subst (IsDead nodes) (sym number) d.0; below = omega (arith, place, each.last) }, place) in
    record {
      dead = All-from_get_or (IsDeadBelow nodes limit) numbers 0 (λ i low. (node i low).0);
      whole = λ n below.
          let b : Body = body_of (place_of nodes) n (node_at nodes n) in
          subst (λ l. Contains l n) (sym is)
          (Contains-map (λ (c : Body). c.serial) serials.dead b (serials.whole b (dead_body nodes v from limit n held clear below)));
      ascending = λ i j before low.
          let early : i < length numbers = omega arith in
          let places : (body i).place < (body j).place = serials.ascending i j before (subst (λ l. j < l) long low) in
          omega (arith, places, (node i early).1, (node j low).1);
    }

pub finalises_below : (nodes : List Node) (v w : SeatView) (from limit : ℕ) (before after : List ℕ) → IsHeld nodes v → IsClearBelow from v
    → Sweeps from limit v before w after → FinalisesBelow limit nodes before after (map (finalise limit) nodes)
finalises_below nodes v w from limit before after held clear sweeps = record {
  numbers = sweeps.told.numbers;
  follow = sweeps.told.follow;
  order = dead_in_order nodes v from limit sweeps.told.numbers held clear sweeps.told.are;
  nodes = refl;
}
