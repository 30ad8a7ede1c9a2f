-- What preparing makes of the registrations of weak callbacks: those of the nodes that are kept are left, each with the mask of its
-- node, and these run the calls of the pause.
use Rattle.std.proofs.Common.{◌≡◌, ℕ, zero, suc, ◌<◌, ◌≤◌, ◌==◌, ◌&&◌, not, Bool, true, false, All, List, [], ◌∷◌, ◌++◌, length, get_or, map, filter, drop, Option, Some, None, cond, refl, sym, ap, ◌∙◌, subst, inl, inr, arith}
use Rattle.std.specs.List.{flat_map, range_with_len, Contains}
use Rattle.std.proofs.lemmas.Bool.{true≢false, cases_Bool, cases_lt, and_parts, not-false, eqb-true}
use Rattle.std.proofs.lemmas.List.{get_or_past}
use Rattle.std.proofs.lemmas.List.Elements.{All-head, All-tail, All-nil, All-cons, All-get_or, All-map, All-weaker, filter_passes}
use Rattle.gc_graph.specs.Graph.{Object, has}
use Rattle.gc_graph.specs.Fields.{field_words}
use Rattle.gc_graph.specs.State.{Setup, ObjectType, Node, Life, node_at, no_type, is_live, is_dead, IsLive}
use Rattle.gc_graph.specs.State.Life.{Live, Dead, Gone}
use Rattle.gc_graph.specs.ActionLaw.{HaveStayed}
use Rattle.gc_graph.specs.NodeNumbers.{there_below}
use Rattle.gc_graph.specs.Pause.{judged, condemn, with_cleared, clear_node, is_dead_at}
use Rattle.gc_graph.specs.Condemning.{length-condemn}
use Rattle.gc_graph.specs.WeakCalls.{WeakCall, weak_call, dying_mask, calls_for, weak_calls}
use Rattle.callback_table.specs.WeakRegistry.{WeakRegistration, weakly_registered, places_of, left_by, calls_of, calls_in_order, IsWeaklyRegistered}
use Rattle.type_table.specs.Types.{declared_kinds}
use Rattle.marker_core.specs.declared.states.Body.{Body}
use Rattle.marker_core.specs.Bodies.{holds}
use Rattle.page_words.specs.BodyPlaces.{same_body}
use Rattle.page_words.specs.Seat.{SeatView, IsView}
use Rattle.prefinalizer_effects.specs.Judgement.{nodes_after}
use Rattle.prefinalizer_effects.specs.KeptNodes.{has-kept}
use Rattle.prefinalizer_effects.specs.NodeLives.{life-condemn, object-condemn, place-condemn}
use Rattle.prefinalizer_effects.specs.NodePlaces.{is_live_life, live_is_there, node_body}
use Rattle.prefinalizer_effects.specs.Nodes.{place_of, body_of, bodies_of}
use Rattle.prefinalizer_effects.specs.PlacesInWords.{kept_of}
use Rattle.prefinalizer_effects.specs.WeakNodes.{life-after, place-after, length-after}
use Rattle.atomic_pause.specs.WeakCalling.{weak_callbacks_of, is_weak_holder, weak_holders, registration_at, without_mask, AreOfHolders, MayCallBack, IsShownAt, dying_at}
use Rattle.atomic_pause.proofs.WeakJudged.{IsMarked}
use Rattle.atomic_pause.proofs.WeakMasks.{told_of_node}

-- ---- registrations of a list of nodes

-- the registration of each node with its mask
abbrev with_mask : (ℕ → WeakRegistration) → (ℕ → ℕ) → ℕ → WeakRegistration
with_mask entry mask n = record (entry n) { mask = mask n }

-- the registration whose masks aside are those of the nodes stand at their places
pub same_places : (entry : ℕ → WeakRegistration) (ns : List ℕ) (entries : List WeakRegistration) → map without_mask entries ≡ map entry ns
    → places_of entries ≡ map (λ n. (entry n).place) ns
same_places entry [] [] same = refl
same_places entry [] (e ∷ entries) same = absurd (let none : length (map without_mask (e ∷ entries)) ≡ 0 = ap length same in omega (arith, none))
same_places entry (n ∷ ns) [] same = absurd (let none : 0 ≡ length (map entry (n ∷ ns)) = ap length same in omega (arith, none))
same_places entry (n ∷ ns) (e ∷ entries) same =
    ap (λ p. p ∷ places_of entries) (ap (λ es. (get_or es 0 e).place) same)
    ∙ ap (λ ps. (entry n).place ∷ ps) (same_places entry ns entries (ap (drop 1) same))

-- the answers leave those of the nodes that pass the test, with their masks
pub left_is : (rule : ℕ → Option ℕ) (entry : ℕ → WeakRegistration) (is_kept : ℕ → Bool) (mask : ℕ → ℕ) (ns : List ℕ) (entries : List WeakRegistration)
    → All (λ n. rule (entry n).place ≡ cond (is_kept n) (Some (mask n)) None) ns → map without_mask entries ≡ map entry ns
    → left_by (map rule (places_of entries)) entries ≡ map (with_mask entry mask) (filter is_kept ns)
left_is rule entry is_kept mask [] [] each same = refl
left_is rule entry is_kept mask [] (e ∷ entries) each same =
    absurd (let none : length (map without_mask (e ∷ entries)) ≡ 0 = ap length same in omega (arith, none))
left_is rule entry is_kept mask (n ∷ ns) [] each same = absurd (let none : 0 ≡ length (map entry (n ∷ ns)) = ap length same in omega (arith, none))
left_is rule entry is_kept mask (n ∷ ns) (e ∷ entries) each same =
    let Answers : ℕ → Type 0 = λ m. rule (entry m).place ≡ cond (is_kept m) (Some (mask m)) None in
    let head : without_mask e ≡ entry n = ap (λ es. get_or es 0 e) same in
    let rest : left_by (map rule (places_of entries)) entries ≡ map (with_mask entry mask) (filter is_kept ns) =
    left_is rule entry is_kept mask ns entries (All-tail Answers n ns each) (ap (drop 1) same) in
    let first : rule e.place ≡ cond (is_kept n) (Some (mask n)) None = ap (λ (r : WeakRegistration). rule r.place) head ∙ All-head Answers n ns each in
    elim (cases_Bool (is_kept n)) [
      | inl passes ↦
          ap (λ answer. left_by (answer ∷ map rule (places_of entries)) (e ∷ entries)) (first ∙ ap (λ b. cond b (Some (mask n)) None) passes)
          ∙ ap (λ (r : WeakRegistration). record r { mask = mask n } ∷ left_by (map rule (places_of entries)) entries) head
          ∙ ap (λ more. with_mask entry mask n ∷ more) rest
          ∙ sym (ap (λ b. map (with_mask entry mask) (cond b (n ∷ filter is_kept ns) (filter is_kept ns))) passes)
      | inr fails ↦
          ap (λ answer. left_by (answer ∷ map rule (places_of entries)) (e ∷ entries)) (first ∙ ap (λ b. cond b (Some (mask n)) None) fails)
          ∙ rest ∙ sym (ap (λ b. map (with_mask entry mask) (cond b (n ∷ filter is_kept ns) (filter is_kept ns))) fails)
    ]

-- what is left runs the calls of all nodes, where those of the others are none
calls_are : (entry : ℕ → WeakRegistration) (calls : ℕ → List WeakCall) (test : ℕ → Bool) (ns : List ℕ)
    → ((n : ℕ) → test n ≡ true → calls_of (entry n) ≡ calls n) → ((n : ℕ) → test n ≡ false → calls n ≡ [])
    → calls_in_order (map entry (filter test ns)) ≡ flat_map calls ns
calls_are entry calls test [] some none = refl
calls_are entry calls test (n ∷ ns) some none =
    let rest : calls_in_order (map entry (filter test ns)) ≡ flat_map calls ns = calls_are entry calls test ns some none in
    elim (cases_Bool (test n)) [
      | inl passes ↦
          ap (λ b. calls_in_order (map entry (cond b (n ∷ filter test ns) (filter test ns)))) passes
          ∙ ap (λ cs. cs ++ calls_in_order (map entry (filter test ns))) (some n passes) ∙ ap (λ more. calls n ++ more) rest
      | inr fails ↦
          ap (λ b. calls_in_order (map entry (cond b (n ∷ filter test ns) (filter test ns)))) fails ∙ rest
          ∙ sym (ap (λ cs. cs ++ flat_map calls ns) (none n fails))
    ]

filter_both : (p q r : ℕ → Bool) (xs : List ℕ) → ((x : ℕ) → (q x && p x) ≡ r x) → filter p (filter q xs) ≡ filter r xs
filter_both p q r [] same = refl
filter_both p q r (x ∷ xs) same =
    let rest : filter p (filter q xs) ≡ filter r xs = filter_both p q r xs same in
    elim (cases_Bool (q x)) [
      | inl passes ↦
          ap (λ b. filter p (cond b (x ∷ filter q xs) (filter q xs))) passes ∙ ap (λ more. cond (p x) (x ∷ more) more) rest
          ∙ ap (λ b. cond b (x ∷ filter r xs) (filter r xs)) (sym (ap (λ b. b && p x) passes) ∙ same x)
      | inr fails ↦
          ap (λ b. filter p (cond b (x ∷ filter q xs) (filter q xs))) fails ∙ rest
          ∙ ap (λ b. cond b (x ∷ filter r xs) (filter r xs)) (sym (sym (same x) ∙ ap (λ b. b && p x) fails))
    ]

-- ---- holders among judged nodes

live_judged : (l : Life) (m : Bool) → is_live (judged (is_live l && m) l) ≡ (is_live l && m)
live_judged Live true = refl
live_judged Live false = refl
live_judged Dead m = refl
live_judged Gone m = refl

exchanged : (a b c : Bool) → ((a && b) && c) ≡ ((a && c) && b)
exchanged true true true = refl
exchanged true false true = refl
exchanged true true false = refl
exchanged true false false = refl
exchanged false b c = refl

by_zero : (zero : Bool) (calls : List WeakCall) → cond zero [] calls ≡ cond (not zero) calls []
by_zero true calls = refl
by_zero false calls = refl

never : (b : Bool) → cond b [] [] ≡ (let none : List WeakCall = [] in none)
never true = refl
never false = refl

no_callbacks : (cs : List ℕ) → not (length cs == 0) ≡ false → cs ≡ []
no_callbacks [] e = refl
no_callbacks (c ∷ cs) e = absurd (let none : length (c ∷ cs) ≡ 0 = eqb-true _ _ (not-false _ e) in omega (arith, none))

some_callbacks : (cs : List ℕ) → not (length cs == 0) ≡ true → cs ≡ [] → ⊥
some_callbacks cs e none = true≢false (sym e ∙ ap (λ (xs : List ℕ). not (length xs == 0)) none)

ty-clear : (dead : ℕ → Bool) (x : Node) → (clear_node dead x).object.ty ≡ x.object.ty
ty-clear dead x = go (is_live x.life) where
  go : (b : Bool) → (cond b (with_cleared dead x) x).object.ty ≡ x.object.ty
  go true = refl
  go false = refl

ty-clear_nodes : (dead : ℕ → Bool) (nodes : List Node) (n : ℕ) → (node_at (map (clear_node dead) nodes) n).object.ty ≡ (node_at nodes n).object.ty
ty-clear_nodes dead [] n = refl
ty-clear_nodes dead (x ∷ nodes) zero = ty-clear dead x
ty-clear_nodes dead (x ∷ nodes) (suc n) = ty-clear_nodes dead nodes n

-- a node keeps its type
ty-after : (kept : List Bool) (nodes : List Node) (n : ℕ) → (node_at (nodes_after kept nodes) n).object.ty ≡ (node_at nodes n).object.ty
ty-after kept nodes n =
    ty-clear_nodes (is_dead_at (condemn kept nodes)) (condemn kept nodes) n ∙ ap (λ (o : Object). o.ty) (object-condemn kept nodes n)

-- the callbacks of a type are known, and there are none past the last type
known_at : (callbacks : ℕ) (types : List ObjectType) (ty : ℕ) → MayCallBack callbacks types
    → All (λ c. c < callbacks) (get_or types ty no_type).weak_callbacks
known_at callbacks types ty may = elim (cases_lt ty (length types)) [
  | inl low ↦ may.known ty no_type low
  | inr past ↦
      subst (λ (t : ObjectType). All (λ c. c < callbacks) t.weak_callbacks) (sym (get_or_past types ty no_type past)) (All-nil (λ c. c < callbacks))
]

-- a type with weak callbacks has few words
few_words : (types : List ObjectType) (callbacks ty : ℕ) → MayCallBack callbacks types → ((get_or types ty no_type).weak_callbacks ≡ [] → ⊥)
    → field_words (declared_kinds types ty) ≤ 64
few_words types callbacks ty may some = elim (cases_lt ty (length types)) [
  | inl low ↦ may.shown ty no_type low some
  | inr past ↦ absurd (some (ap (λ (t : ObjectType). t.weak_callbacks) (get_or_past types ty no_type past)))
]

module _ (types : List ObjectType) (nodes : List Node) (marked : ℕ → Bool) where
  abbrev kept : List Bool
  kept = kept_of marked nodes

  abbrev pub judged_nodes : List Node
  judged_nodes = condemn kept nodes

  lives_on : (n : ℕ) → is_live (node_at judged_nodes n).life ≡ (is_live (node_at nodes n).life && marked (place_of nodes n))
  lives_on n =
      ap is_live (life-condemn kept nodes n ∙ ap (λ flag. judged flag (node_at nodes n).life) (has-kept marked nodes n))
      ∙ live_judged (node_at nodes n).life (marked (place_of nodes n))

  pub callbacks_stay : (n : ℕ) → weak_callbacks_of types judged_nodes n ≡ weak_callbacks_of types nodes n
  callbacks_stay n = ap (λ (o : Object). (get_or types o.ty no_type).weak_callbacks) (object-condemn kept nodes n)

  holds_on : (n : ℕ) → (is_weak_holder types nodes n && marked (place_of nodes n)) ≡ is_weak_holder types judged_nodes n
  holds_on n =
      exchanged (is_live (node_at nodes n).life) (not (length (weak_callbacks_of types nodes n) == 0)) (marked (place_of nodes n))
      ∙ ap (λ b. b && not (length (weak_callbacks_of types nodes n) == 0)) (sym (lives_on n))
      ∙ ap (λ (cs : List ℕ). is_live (node_at judged_nodes n).life && not (length cs == 0)) (sym (callbacks_stay n))

  -- the holders that are marked are those that are kept
  pub kept_holders : filter (λ n. marked (place_of nodes n)) (weak_holders types nodes) ≡ weak_holders types judged_nodes
  kept_holders =
      filter_both (λ n. marked (place_of nodes n)) (is_weak_holder types nodes) (is_weak_holder types judged_nodes) (range_with_len 0 (length nodes)) holds_on
      ∙ ap (λ count. filter (is_weak_holder types judged_nodes) (range_with_len 0 count)) (sym (length-condemn kept nodes))

  -- ---- the calls

  -- the registration of a node with the mask of its node
  abbrev pub masked_entry : ℕ → WeakRegistration
  masked_entry = with_mask (registration_at types nodes) (dying_mask judged_nodes)

  some_calls : (n : ℕ) → is_weak_holder types judged_nodes n ≡ true → calls_of (masked_entry n) ≡ calls_for types judged_nodes n
  some_calls n holder =
      let mask : ℕ = dying_mask judged_nodes n in
      by_zero (mask == 0) (map (weak_call n mask) (weak_callbacks_of types nodes n))
      ∙ ap (λ cs. cond (not (mask == 0)) (map (weak_call n mask) cs) []) (sym (callbacks_stay n))
      ∙ ap (λ live. cond (live && not (mask == 0)) (map (weak_call n mask) (weak_callbacks_of types judged_nodes n)) [])
      (sym (and_parts (is_live (node_at judged_nodes n).life) _ holder).0)

  no_calls : (n : ℕ) → is_weak_holder types judged_nodes n ≡ false → calls_for types judged_nodes n ≡ []
  no_calls n other =
      let mask : ℕ = dying_mask judged_nodes n in
      let cs : List ℕ = weak_callbacks_of types judged_nodes n in
      elim (cases_Bool (is_live (node_at judged_nodes n).life)) [
        | inl live ↦
            (let none : cs ≡ [] = no_callbacks cs (sym (ap (λ b. b && not (length cs == 0)) live) ∙ other) in
            ap (λ ds. cond (is_live (node_at judged_nodes n).life && not (mask == 0)) (map (weak_call n mask) ds) []) none
            ∙ never (is_live (node_at judged_nodes n).life && not (mask == 0)))
        | inr dead ↦ ap (λ b. cond (b && not (mask == 0)) (map (weak_call n mask) cs) []) dead
      ]

  -- the registrations that are left make the calls of the pause
  pub calls_of_kept : calls_in_order (map masked_entry (weak_holders types judged_nodes)) ≡ weak_calls types judged_nodes
  calls_of_kept =
      calls_are masked_entry (calls_for types judged_nodes) (is_weak_holder types judged_nodes) (range_with_len 0 (length judged_nodes)) some_calls no_calls

  -- their nodes stand where they stood, and their callbacks are known
  fits : (callbacks n : ℕ) → MayCallBack callbacks types → is_weak_holder types judged_nodes n ≡ true
      → IsWeaklyRegistered (nodes_after kept nodes) callbacks (masked_entry n)
  fits callbacks n may holder =
      let live : IsLive judged_nodes n = is_live_life _ (and_parts (is_live (node_at judged_nodes n).life) _ holder).0 in
      let low : n < length judged_nodes = there_below judged_nodes n (live_is_there judged_nodes n live) in
      record {
        stands = record {
          there = omega (arith, low, length-condemn kept nodes, length-after kept nodes);
          place_is = place-after kept nodes n;
          not_gone = λ gone. (let e : Live ≡ Gone = sym (life-after kept nodes n ∙ live) ∙ gone in cc);
        };
        known = known_at callbacks types (node_at nodes n).object.ty may;
      }

  pub may_run : (callbacks : ℕ) → MayCallBack callbacks types
      → All (IsWeaklyRegistered (nodes_after kept nodes) callbacks) (map masked_entry (weak_holders types judged_nodes))
  may_run callbacks may =
      All-map (IsWeaklyRegistered (nodes_after kept nodes) callbacks) masked_entry (weak_holders types judged_nodes)
      (All-weaker (λ n. is_weak_holder types judged_nodes n ≡ true) (λ n. IsWeaklyRegistered (nodes_after kept nodes) callbacks (masked_entry n))
      (λ n holder. fits callbacks n may holder) (weak_holders types judged_nodes)
      (filter_passes (is_weak_holder types judged_nodes) (range_with_len 0 (length judged_nodes))))

  -- ---- after the callbacks

  maskless : (ns : List ℕ) → map without_mask (map masked_entry ns) ≡ map (registration_at types nodes) ns
  maskless [] = refl
  maskless (n ∷ ns) = ap (λ es. registration_at types nodes n ∷ es) (maskless ns)

  module _ (new : List Node) (stayed : HaveStayed (nodes_after kept nodes) new) where
    same_callbacks : (n : ℕ) → weak_callbacks_of types new n ≡ weak_callbacks_of types nodes n
    same_callbacks n = ap (λ ty. (get_or types ty no_type).weak_callbacks) (stayed.ty n ∙ ty-after kept nodes n)

    same_entry : (n : ℕ) → registration_at types nodes n ≡ registration_at types new n
    same_entry n =
        ap (λ p. weakly_registered n p (weak_callbacks_of types nodes n)) (sym (stayed.place n ∙ place-after kept nodes n))
        ∙ ap (weakly_registered n (place_of new n)) (sym (same_callbacks n))

    same_holder : (n : ℕ) → is_weak_holder types judged_nodes n ≡ is_weak_holder types new n
    same_holder n =
        ap (λ l. is_live l && not (length (weak_callbacks_of types judged_nodes n) == 0)) (sym (stayed.life n ∙ life-after kept nodes n))
        ∙ ap (λ (cs : List ℕ). is_live (node_at new n).life && not (length cs == 0)) (callbacks_stay n ∙ sym (same_callbacks n))

    same_holders : weak_holders types judged_nodes ≡ weak_holders types new
    same_holders =
        ap (λ test. filter test (range_with_len 0 (length judged_nodes))) (λ i. λ n. same_holder n i)
        ∙ ap (λ count. filter (is_weak_holder types new) (range_with_len 0 count))
        (length-condemn kept nodes ∙ sym (stayed.count ∙ length-after kept nodes))

    -- the registrations that are left are those of the holders that are left
    pub left_registered : AreOfHolders types new (map masked_entry (weak_holders types judged_nodes))
    left_registered =
        maskless (weak_holders types judged_nodes)
        ∙ ap (λ entry. map entry (weak_holders types judged_nodes)) (λ i. λ n. same_entry n i)
        ∙ ap (map (registration_at types new)) same_holders

-- ---- the registrations before and after preparing

module _ (types : List ObjectType) (nodes : List Node) (v : SeatView) (callbacks : ℕ) (entries : List WeakRegistration) where
  -- a holder's body is at its place, with no more words than are shown
  shown_at : (n : ℕ) → IsView v → v.bodies ≡ bodies_of nodes → v.types ≡ types → MayCallBack callbacks types → is_weak_holder types nodes n ≡ true
      → IsShownAt v (place_of nodes n)
  shown_at n view held known may holder =
      let parts = and_parts (is_live (node_at nodes n).life) _ holder in
      let ty : ℕ = (node_at nodes n).object.ty in
      let there : Contains v.bodies (body_of (place_of nodes) n (node_at nodes n)) =
      node_body nodes v n held (live_is_there nodes n (is_live_life _ parts.0)) in
      let few : field_words (declared_kinds types ty) ≤ 64 = few_words types callbacks ty may (some_callbacks (weak_callbacks_of types nodes n) parts.1) in
      record {
        there = (body_of (place_of nodes) n (node_at nodes n), there, refl);
        shown = λ b also at.
            subst (λ (ts : List ObjectType). field_words (declared_kinds ts b.ty) ≤ 64) (sym known)
            (subst (λ (c : Body). field_words (declared_kinds types c.ty) ≤ 64)
            (same_body v (body_of (place_of nodes) n (node_at nodes n)) b view there also (sym at)) few);
      }

  pub all_shown : IsView v → v.bodies ≡ bodies_of nodes → v.types ≡ types → MayCallBack callbacks types → AreOfHolders types nodes entries
      → All (IsShownAt v) (places_of entries)
  all_shown view held known may registered =
      subst (All (IsShownAt v)) (sym (same_places (registration_at types nodes) (weak_holders types nodes) entries registered))
      (All-map (IsShownAt v) (place_of nodes) (weak_holders types nodes)
      (All-weaker (λ n. is_weak_holder types nodes n ≡ true) (λ n. IsShownAt v (place_of nodes n))
      (λ n holder. shown_at n view held known may holder) (weak_holders types nodes)
      (filter_passes (is_weak_holder types nodes) (range_with_len 0 (length nodes)))))

-- preparing leaves the registrations of the holders that are kept, with their masks
pub left_after : (setup : Setup) (nodes : List Node) (v : SeatView) (entries : List WeakRegistration) → IsMarked setup nodes v → IsView v
    → v.bodies ≡ bodies_of nodes → AreOfHolders setup.types nodes entries
    → left_by (map (dying_at v v.bodies) (places_of entries)) entries
    ≡ map (masked_entry setup.types nodes (holds v.marked)) (weak_holders setup.types (judged_nodes setup.types nodes (holds v.marked)))
left_after setup nodes v entries is view held registered =
    let judged : List Node = condemn (kept_of (holds v.marked) nodes) nodes in
    let Told : ℕ → Type 0 = λ n. dying_at v v.bodies (place_of nodes n) ≡ cond (holds v.marked (place_of nodes n)) (Some (dying_mask judged n)) None in
    left_is (dying_at v v.bodies) (registration_at setup.types nodes) (λ n. holds v.marked (place_of nodes n)) (dying_mask judged) (weak_holders setup.types nodes) entries
    (All-weaker (λ n. is_weak_holder setup.types nodes n ≡ true) Told
    (λ n holder. (let live : IsLive nodes n = is_live_life _ (and_parts (is_live (node_at nodes n).life) _ holder).0 in
    told_of_node setup nodes v n is view held (there_below nodes n (live_is_there nodes n live)) live)) (weak_holders setup.types nodes)
    (filter_passes (is_weak_holder setup.types nodes) (range_with_len 0 (length nodes)))) registered
    ∙ ap (map (masked_entry setup.types nodes (holds v.marked))) (kept_holders setup.types nodes (holds v.marked))
