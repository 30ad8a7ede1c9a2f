-- What weak callbacks are told of a body is what the definitions say of its node.
use Rattle.std.proofs.Common.{◌≡◌, ℕ, ◌<◌, ◌==◌, Bool, true, false, List, [], ◌∷◌, length, map, Option, Some, None, cond, refl, sym, ap, ◌∙◌, subst, inl, inr, arith}
use Rattle.std.specs.List.{All, Contains}
use Rattle.std.proofs.lemmas.Bool.{true≢false, cases_Bool, eqb-true, eq-eqb}
use Rattle.std.proofs.lemmas.List.Elements.{All-head, All-tail, All-get_or}
use Rattle.gc_graph.specs.declared.kind.Kind.{Kind}
use Rattle.gc_graph.specs.declared.kind.Kind.TheVariants.{Strong, Weak, Pair, Plain}
use Rattle.gc_graph.specs.declared.kind.Value.{Value}
use Rattle.gc_graph.specs.Graph.{Object}
use Rattle.gc_graph.specs.State.{Setup, ObjectType, Node, node_at, no_node, IsLive}
use Rattle.gc_graph.specs.Valid.{HaveKinds, IsTyped, NamesLive}
use Rattle.gc_graph.specs.Pause.{condemn, names_dead, is_dead_at, mask_of}
use Rattle.gc_graph.specs.WeakCalls as calls
use Rattle.gc_graph.specs.Members.{Contains-cons, Contains-head, Contains-cons_cases}
use Rattle.type_table.specs.Types.{declared_kinds}
use Rattle.type_table.specs.Layouts.{kinds_of_words}
use Rattle.marker_core.specs.declared.states.Body.{Body}
use Rattle.marker_core.specs.Bodies.{IsPlace, holds}
use Rattle.page_words.specs.BodyPlaces.{same_body}
use Rattle.page_words.specs.Seat.{SeatView, IsView}
use Rattle.weak_clearing.specs.Dying.{dying_flags, dying_mask, dying_of}
use Rattle.prefinalizer_effects.specs.NodeLives.{object-condemn}
use Rattle.prefinalizer_effects.specs.NodePlaces.{live_is_there, node_body}
use Rattle.prefinalizer_effects.specs.Nodes.{place_of, word_of, body_of, bodies_of}
use Rattle.prefinalizer_effects.specs.PlacesInWords.{kept_of}
use Rattle.atomic_pause.specs.WeakCalling.{dying_at}
use Rattle.atomic_pause.proofs.WeakBodies.{TellsUnmarked, names_word}
use Rattle.atomic_pause.proofs.WeakJudged.{IsMarked, tells_unmarked}

-- ---- word by word

flags_are : (nodes : List Node) (marked : List ℕ) (f : ℕ → ℕ) (dead : ℕ → Bool) (bound : ℕ) (kinds : List Kind) (values : List Value)
    → TellsUnmarked nodes marked f dead → HaveKinds bound kinds values → All (NamesLive nodes) values
    → dying_flags marked (kinds_of_words kinds) (map (word_of f) values) ≡ calls.dying_words dead kinds values
flags_are nodes marked f dead bound [] values tells have live = refl
flags_are nodes marked f dead bound (Strong ∷ kinds) [] tells have live = absurd have
flags_are nodes marked f dead bound (Weak ∷ kinds) [] tells have live = absurd have
flags_are nodes marked f dead bound (Pair ∷ kinds) [] tells have live = absurd have
flags_are nodes marked f dead bound (Plain ∷ kinds) [] tells have live = absurd have
flags_are nodes marked f dead bound (Strong ∷ kinds) (v ∷ values) tells have live =
    ap (λ flags. false ∷ flags) (flags_are nodes marked f dead bound kinds values tells have.1 (All-tail (NamesLive nodes) v values live))
flags_are nodes marked f dead bound (Plain ∷ kinds) (v ∷ values) tells have live =
    ap (λ flags. false ∷ flags) (flags_are nodes marked f dead bound kinds values tells have.1 (All-tail (NamesLive nodes) v values live))
flags_are nodes marked f dead bound (Weak ∷ kinds) (v ∷ values) tells have live =
    ap (λ flag. flag ∷ dying_flags marked (kinds_of_words kinds) (map (word_of f) values))
    (names_word nodes marked f dead bound v tells have.0 (All-head (NamesLive nodes) v values live))
    ∙ ap (λ flags. names_dead dead v ∷ flags)
    (flags_are nodes marked f dead bound kinds values tells have.1 (All-tail (NamesLive nodes) v values live))
flags_are nodes marked f dead bound (Pair ∷ kinds) (key ∷ []) tells have live = absurd have
flags_are nodes marked f dead bound (Pair ∷ kinds) (key ∷ v ∷ values) tells have live =
    ap (λ flags. false ∷ false ∷ flags)
    (flags_are nodes marked f dead bound kinds values tells have.3
    (All-tail (NamesLive nodes) v values (All-tail (NamesLive nodes) key (v ∷ values) live)))

-- ---- the mask of a live node

mask_is : (setup : Setup) (nodes : List Node) (v : SeatView) (n : ℕ) → IsMarked setup nodes v → n < length nodes → IsLive nodes n
    → dying_mask v.types v.marked (body_of (place_of nodes) n (node_at nodes n)) ≡ calls.dying_mask (condemn (kept_of (holds v.marked) nodes) nodes) n
mask_is setup nodes v n is low live =
    let kept : List Bool = kept_of (holds v.marked) nodes in
    let f : ℕ → ℕ = place_of nodes in
    let x : Node = node_at nodes n in
    let dead : ℕ → Bool = is_dead_at (condemn kept nodes) in
    let typed : IsTyped setup (length nodes) x = All-get_or (IsTyped setup (length nodes)) nodes n no_node low is.known.typed in
    ap (λ (ts : List ObjectType). mask_of (dying_flags v.marked (kinds_of_words (declared_kinds ts x.object.ty)) (map (word_of f) x.object.values))) is.types
    ∙ ap (λ (ks : List Kind). mask_of (dying_flags v.marked (kinds_of_words ks) (map (word_of f) x.object.values))) (sym typed.kinds_are)
    ∙ ap mask_of (flags_are nodes v.marked f dead (length nodes) x.object.kinds x.object.values (tells_unmarked nodes v) typed.values_are (is.known.references n live))
    ∙ sym (ap (λ (o : Object). mask_of (calls.dying_words dead o.kinds o.values)) (object-condemn kept nodes n))

-- ---- the body at a place

-- what is told of each body there is told of the place
pub told_at : (v : SeatView) (bodies : List Body) (place : ℕ) (answer : Option ℕ)
    → ((b : Body) → Contains bodies b → b.place ≡ place → answer ≡ dying_of v b) → IsPlace bodies place → answer ≡ dying_at v bodies place
told_at v [] place answer told there = absurd (omega (arith, there.1.1))
told_at v (b ∷ bodies) place answer told there =
    elim (cases_Bool (b.place == place)) [
      | inl same ↦
          told b (Contains-head b bodies) (eqb-true b.place place same)
          ∙ sym (ap (λ t. cond t (dying_of v b) (dying_at v bodies place)) same)
      | inr other ↦
          told_at v bodies place answer (λ c later at. told c (Contains-cons b bodies c later) at) (later_place other there)
          ∙ sym (ap (λ t. cond t (dying_of v b) (dying_at v bodies place)) other)
    ] where
      later_place : (b.place == place) ≡ false → IsPlace (b ∷ bodies) place → IsPlace bodies place
      later_place other (c, here, at) =
          elim (Contains-cons_cases b bodies c here) [
            | inl first ↦ absurd (true≢false (sym (eq-eqb b.place place (ap (λ (d : Body). d.place) first ∙ at)) ∙ other))
            | inr later ↦ (c, later, at)
          ]

one_body : (v : SeatView) (b : Body) → IsView v → Contains v.bodies b → dying_at v v.bodies b.place ≡ dying_of v b
one_body v b view there =
    sym (told_at v v.bodies b.place (dying_of v b) (λ c also at. ap (dying_of v) (same_body v b c view there also (sym at))) (b, there, refl))

-- of a live node the mask is told where its place is marked
pub told_of_node : (setup : Setup) (nodes : List Node) (v : SeatView) (n : ℕ) → IsMarked setup nodes v → IsView v → v.bodies ≡ bodies_of nodes
    → n < length nodes → IsLive nodes n
    → dying_at v v.bodies (place_of nodes n)
    ≡ cond (holds v.marked (place_of nodes n)) (Some (calls.dying_mask (condemn (kept_of (holds v.marked) nodes) nodes) n)) None
told_of_node setup nodes v n is view held low live =
    one_body v (body_of (place_of nodes) n (node_at nodes n)) view (node_body nodes v n held (live_is_there nodes n live))
    ∙ ap (λ mask. cond (holds v.marked (place_of nodes n)) (Some mask) None) (mask_is setup nodes v n is low live)
