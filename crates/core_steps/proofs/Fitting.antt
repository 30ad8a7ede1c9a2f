-- References fit: what a hand reads, and what is stored, is null or one more than an address. For the step after which it is
-- known keeps what is true of every state, and there what is in a hand, known to a marker or waits for its mark is an object.
use Rattle.std.proofs.Common.{◌≡◌, ℕ, ◌-◌, ◌<◌, ◌≤◌, ◌^◌, List, [], ◌∷◌, ◌++◌, length, get_or, true, false, not, ◌&&◌, eqb, Option, Some, None, refl, sym, ap, ◌∙◌, inl, inr, arith, Contains}
use mathlib.Core.Logic.{◌⊎◌}
use Rattle.std.specs.List.{list_any}
use Rattle.std.proofs.lemmas.Bool.{cases_eq, cases_lt, and_parts, cond-true, cond-false, eqb-true, ne_eqb, false≢true}
use Rattle.std.proofs.lemmas.List.{length-set, get_or-set_same, get_or_past}
use Rattle.gc_graph.specs.declared.kind.Kind.{Kind}
use Rattle.object_headers.specs.Offsets.{first_field}
use Rattle.gc_graph.specs.Members.{any_member, pushed_is_held}
use Rattle.marker_core.specs.declared.states.Body.{Body}
use Rattle.marker_core.specs.declared.states.CoreState.{CoreState}
use Rattle.marker_core.specs.declared.states.Hand.{Hand}
use Rattle.marker_core.specs.declared.states.MarkerView.{MarkerView}
use Rattle.marker_core.specs.declared.states.Part.{Part}
use Rattle.marker_core.specs.declared.states.Part.TheVariants.{Read, Mark, Key, Value}
use Rattle.marker_core.specs.declared.states.Role.{Role}
use Rattle.marker_core.specs.declared.states.Role.TheVariants.{StrongWord, WeakWord, KeyWord, ValueWord, PlainWord}
use Rattle.marker_core.specs.declared.states.Why.TheVariants.{Trace}
use Rattle.marker_core.specs.declared.steps.CoreStep.TheVariants.{Load, Store, Field}
use Rattle.marker_core.specs.Bodies.{is_place, holds}
use Rattle.marker_core.specs.Hands.{hand_read, hand_moved, part_found, role_at_hand, wants_word, wants_key, wants, each_hand}
use Rattle.marker_core.specs.MarkerSteps.{can_read_field, core_field_read, known_by}
use Rattle.marker_core.specs.MutatorSteps.{can_load, core_loaded, can_store, core_stored}
use Rattle.marker_core.specs.SeatSteps.{keeps_in}
use Rattle.marker_core.specs.Tracing.{PartFits, HandFits}
use Rattle.marker_core.specs.Views.{spent_view, view_at}
use Rattle.marker_core.specs.Core.{IsCoreOk}
use Rattle.marker_core.specs.Laws.{StepsKeep}
use Rattle.core_steps.proofs.Runs.{step_is}

-- the place of an object is an address
place_fits : (s : CoreState) → IsCoreOk s → (w : ℕ) → is_place s.mutator.bodies (w - 1) ≡ true → w ≤ 2 ^ 32
place_fits s ok w at =
    let found = any_member (λ (b : Body). eqb b.place (w - 1)) s.mutator.bodies at in
    let whole = ok.bodies_are_whole found.0 found.1 in
    let here = eqb-true found.0.place (w - 1) found.2 in
    omega (arith, ok.has_room.small, whole.inside, whole.fields, here)

-- ---- what the mutator's hand reads

found_cases : (role : Role) (part : Part) (t : ℕ) → (part_found role part t ≡ Key t) ⊎ (part_found role part t ≡ Mark t)
found_cases KeyWord Read t = inl refl
found_cases KeyWord (Mark m) t = inr refl
found_cases KeyWord (Key k) t = inr refl
found_cases KeyWord Value t = inr refl
found_cases StrongWord part t = inr refl
found_cases WeakWord part t = inr refl
found_cases ValueWord part t = inr refl
found_cases PlainWord part t = inr refl

part_is_place : (bodies : List Body) (marks : ℕ → ℕ) (pending : Option ℕ) (may : List ℕ) (role : Role) (b : Body) (i : ℕ) (part : Part) (t : ℕ)
    → (part ≡ Key t) ⊎ (part ≡ Mark t) → PartFits bodies marks pending may role b i part → is_place bodies t ≡ true
part_is_place bodies marks pending may role b i Read t is fits = elim is [ inl key ↦ cc | inr mark ↦ cc ]
part_is_place bodies marks pending may role b i (Mark m) t is fits = elim is [
  | inl key ↦ cc
  | inr mark ↦ (let same : m ≡ t = cc in ap (is_place bodies) (sym same) ∙ fits.0)
]
part_is_place bodies marks pending may role b i (Key k) t is fits = elim is [
  | inl key ↦ (let same : k ≡ t = cc in ap (is_place bodies) (sym same) ∙ fits.0)
  | inr mark ↦ cc
]
part_is_place bodies marks pending may role b i Value t is fits = elim is [ inl key ↦ cc | inr mark ↦ cc ]

hand_is_place : (types : List (List Kind)) (bodies : List Body) (marks : ℕ → ℕ) (pending : Option ℕ) (may : List ℕ) (h : Hand) (t : ℕ)
    → (h.part ≡ Key t) ⊎ (h.part ≡ Mark t) → HandFits types bodies marks pending may h → is_place bodies t ≡ true
hand_is_place types bodies marks pending may h t is fits =
    part_is_place bodies marks pending may (role_at_hand types h) fits.body (h.next - first_field) h.part t is fits.part

pub read_fits : StepsKeep → (s : CoreState) (a : ℕ) (h : Hand) → IsCoreOk s → can_load s a Trace ≡ true → s.mutator.hand ≡ Some h
    → wants_key h.part a ≡ false → get_or s.words a 0 ≤ 2 ^ 32
read_fits keep s a h ok can own no_key = elim (cases_eq (get_or s.words a 0) 0) [
  | inl null ↦ omega arith
  | inr some ↦
      (let w = get_or s.words a 0 in
      let t = core_loaded s a Trace in
      let then : IsCoreOk t = keep s t (Load a Trace) ok (step_is s t (Load a Trace) can refl) in
      let found : Part = part_found (role_at_hand s.types h) h.part (w - 1) in
      let now : Hand = record h { part = found } in
      let other : wants (λ g. wants_key g.part a) s.mutator.hand ≡ false = ap (wants (λ g. wants_key g.part a)) own ∙ no_key in
      let reads : hand_read s.types w h ≡ Some now = cond-false (eqb w 0) (hand_moved s.types h) (Some now) (ne_eqb w 0 some) in
      let hand : t.mutator.hand ≡ Some now = cc in
      place_fits t then w
      (hand_is_place _ t.mutator.bodies _ _ _ now (w - 1) (found_cases (role_at_hand s.types h) h.part (w - 1))
      (then.hands_are_bodies.hands now (inl hand))))
]

-- ---- what a store leaves to be marked

pub stored_fits : StepsKeep → (s : CoreState) (a w : ℕ) → IsCoreOk s → can_store s a w ≡ true
    → (s.mutator.on && not (eqb w 0) && list_any (keeps_in s.types a) s.mutator.bodies) ≡ true → (0 < w) × (w ≤ 2 ^ 32)
stored_fits keep s a w ok can joins =
    let t = core_stored s a w in
    let then : IsCoreOk t = keep s t (Store a w) ok (step_is s t (Store a w) can refl) in
    let both = and_parts (s.mutator.on && not (eqb w 0)) (list_any (keeps_in s.types a) s.mutator.bodies) joins in
    let each = and_parts s.mutator.on (not (eqb w 0)) both.0 in
    let some : w ≡ 0 → ⊥ = λ null. false≢true (sym (ap (λ n. not (eqb n 0)) null) ∙ each.1) in
    let marking = then.may_is_closed each.0 in
    let waits : t.mutator.pending ≡ Some (w - 1) =
    cond-true (s.mutator.on && not (eqb w 0) && list_any (keeps_in s.types a) s.mutator.bodies) (Some (w - 1)) s.mutator.pending joins
    in
    (omega arith, place_fits t then w (marking.are_places (w - 1) (marking.pending_in (w - 1) waits)))

-- ---- what a marker reads

field_there : (views : List MarkerView) (k : ℕ) (h : Hand) → (view_at views k).hand ≡ Some h → k < length views
field_there views k h own = elim (cases_lt k (length views)) [
  | inl below ↦ below
  | inr past ↦ (let e : None ≡ Some h = sym (ap (λ (v : MarkerView). v.hand) (get_or_past views k spent_view past)) ∙ own in cc)
]

pub field_fits : StepsKeep → (s : CoreState) (k a : ℕ) → IsCoreOk s → can_read_field s k a ≡ true → get_or s.words a 0 ≤ 2 ^ 32
field_fits keep s k a ok can = elim (cases_eq (get_or s.words a 0) 0) [
  | inl null ↦ omega arith
  | inr some ↦
      (let w = get_or s.words a 0 in
      let t = core_field_read s k a in
      let then : IsCoreOk t = keep s t (Field k a) ok (step_is s t (Field k a) can refl) in
      let v = view_at s.markers k in
      let now : MarkerView = record v { hand = each_hand (hand_read s.types w) v.hand; known = v.known ++ known_by w } in
      let there : k < length s.markers = elim (hand_cases v.hand) [
        | inl none ↦ absurd (false≢true (sym (ap (wants (λ h. wants_word h h.part a)) none) ∙ can))
        | inr held ↦ field_there s.markers k held.0 held.1
      ] in
      let is_in : Contains t.markers now = (k, omega (arith, length-set s.markers k now), get_or-set_same s.markers k now now there) in
      let one : known_by w ≡ (w - 1) ∷ [] = cond-false (eqb w 0) [] ((w - 1) ∷ []) (ne_eqb w 0 some) in
      let known : holds now.known (w - 1) ≡ true = ap (λ l. holds (v.known ++ l) (w - 1)) one ∙ pushed_is_held v.known (w - 1) in
      place_fits t then w (then.hands_are_bodies.known now (w - 1) is_in known))
] where
  hand_cases : (o : Option Hand) → (o ≡ None) ⊎ ((h : Hand) × (o ≡ Some h))
  hand_cases None = inl refl
  hand_cases (Some h) = inr (h, refl)
