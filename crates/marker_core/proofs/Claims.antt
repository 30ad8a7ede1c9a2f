-- A marked object is claimed: what its traced bit and the new hand change, whoever claims it.
use Rattle.std.proofs.Common.{◌≡◌, ℕ, ◌+◌, ◌-◌, ◌<◌, get_or, set, true, not, ltb, Option, Some, None, refl, sym, ap, ◌∙◌, subst, inl, inr, arith, Contains}
use Rattle.std.specs.Option.{is_none}
use Rattle.std.proofs.lemmas.Bool.{cases_eq, and_parts, false≢true}
use Rattle.object_headers.specs.Layout.{header_word, word_with_traced}
use Rattle.marker_core.specs.declared.states.Body.{Body}
use Rattle.marker_core.specs.declared.states.CoreState.{CoreState}
use Rattle.marker_core.specs.declared.states.Hand.{Hand}
use Rattle.marker_core.specs.declared.states.Part.TheVariants.{Read, Mark}
use Rattle.marker_core.specs.Layout.{has_mark, has_traced, is_marked, type_in}
use Rattle.marker_core.specs.Bodies.{role_at, kinds_of_type, is_traced_role, role_in, is_place, holds}
use Rattle.marker_core.specs.Hands.{hand_claimed, role_at_hand}
use Rattle.marker_core.specs.SeatSteps.{is_grey}
use Rattle.marker_core.specs.Views.{marks_at, traces_at, IsHand, IsNoted}
use Rattle.marker_core.specs.Tracing.{IsInHand, StrongAccounted, PairsAccounted, PartFits, HandFits, IsLoaded, TracedAreMarked}
use Rattle.marker_core.specs.Core.{IsCoreOk}
use Rattle.marker_core.proofs.Apart.{body_of_place, same_place}
use Rattle.marker_core.proofs.Counts.{true_is_some, some_is_true}
use Rattle.marker_core.proofs.Headers.{mark_tells, type_tells, traced_in_header}
use Rattle.marker_core.proofs.Offsets.{hand_past_is, hand_past_finds}
use Rattle.marker_core.proofs.Rewords.{Rewords, header_written}
use Rattle.marker_core.proofs.Tricolour.{HandChanges}

pub is_none_tells : {X : Type 0} (o : Option X) → is_none o ≡ true → o ≡ None
is_none_tells None h = refl
is_none_tells (Some x) h = absurd (false≢true h)

module _ (s : CoreState) (ok : IsCoreOk s) (on : s.mutator.on ≡ true) (a : ℕ) (place : is_place s.mutator.bodies a ≡ true) (grey : is_grey (get_or s.words a 0) ≡ true) (now : ℕ → ℕ) (own : now a ≡ 1) (other : (x : ℕ) → (x ≡ a → ⊥) → now x ≡ traces_at s.mutator s.markers x) where
  abbrev marks : ℕ → ℕ
  marks = marks_at s.mutator s.markers

  abbrev traces : ℕ → ℕ
  traces = traces_at s.mutator s.markers

  abbrev header : ℕ
  header = get_or s.words a 0

  abbrev at : (b : Body) × Contains s.mutator.bodies b × (b.place ≡ a)
  at = body_of_place s.mutator.bodies a place

  pub marked_here : 0 < marks a
  marked_here =
      let bit = (and_parts (has_mark header) (not (has_traced header)) grey).0 in
      let tells = mark_tells s.words marks traces s.mutator.bodies ok.headers_match at.0 at.1 in
      let one : ltb 0 (marks at.0.place) ≡ true = sym tells ∙ ap (is_marked s.words) at.2 ∙ bit in
      subst (λ x. 0 < marks x) at.2 (true_is_some (marks at.0.place) one)

  type_here : type_in header ≡ at.0.ty
  type_here =
      let small : at.0.ty < 16384 = omega (arith, (ok.bodies_are_whole at.0 at.1).ty, ok.are_types.few) in
      ap (λ x. type_in (get_or s.words x 0)) (sym at.2)
      ∙ type_tells s.words marks traces s.mutator.bodies ok.headers_match at.0 at.1 small

  pub claimed_words : Rewords s (set s.words a (word_with_traced true header)) marks now
  claimed_words =
      header_written s ok a (word_with_traced true header) place marks now (λ x apart. (refl, other x apart))
      (λ b h same.
      let one : 0 < now b.place = (let e : now b.place ≡ 1 = ap now same ∙ own in omega arith) in
      ap (λ p. word_with_traced true (get_or s.words p 0)) (sym same) ∙ ap (word_with_traced true) (ok.headers_match b h)
      ∙ traced_in_header true (ltb 0 (marks b.place)) (ltb 0 (traces b.place)) b.ty b.size
      ∙ ap (λ t. header_word true (ltb 0 (marks b.place)) t b.ty b.size) (sym (some_is_true (now b.place) one)))

  pub claimed_traced : TracedAreMarked marks now
  claimed_traced x =
      let was = ok.traced_are_marked x in
      elim (cases_eq x a) [
        | inl same ↦
            (let one : now x ≡ 1 = ap now same ∙ own in
            let some : 0 < marks x = subst (λ y. 0 < marks y) (sym same) marked_here in
            omega arith)
        | inr apart ↦ (let kept = other x apart in omega arith)
      ]

  pub still_traced : (x : ℕ) → 0 < traces x → 0 < now x
  still_traced x some = elim (cases_eq x a) [
    | inl same ↦ (let one : now x ≡ 1 = ap now same ∙ own in omega arith)
    | inr apart ↦ (let kept = other x apart in omega arith)
  ]

  -- ---- the new hand

  module _ (new : Hand → Type 0) (changes : HandChanges (IsHand s.mutator s.markers) new None (hand_claimed s.types a header)) where
    abbrev old : Hand → Type 0
    old = IsHand s.mutator s.markers

    goes : (g : Hand) → old g → new g
    goes g is = elim (changes.lost g is) [ inl still ↦ still | inr gone ↦ (let e : None ≡ Some g = gone in cc) ]

    still_held : (p offset : ℕ) → IsInHand old p offset → IsInHand new p offset
    still_held p offset held = (held.0, goes held.0 held.1, held.2, held.3)

    -- each traced word of the object is still to be read
    all_to_read : (b : Body) (i : ℕ) → Contains s.mutator.bodies b → b.place ≡ a → is_traced_role (role_in s.types b i) ≡ true
        → IsInHand new b.place (i + 2)
    all_to_read b i there same role =
        let ty : type_in header ≡ b.ty =
        type_here ∙ ap (λ (c : Body). c.ty) (same_place s.count s.types s.mutator.bodies ok.bodies_are_whole ok.bodies_lie_apart at.0 b at.1 there (at.2 ∙ sym same))
        in
        let role' : is_traced_role (role_at (kinds_of_type s.types (type_in header)) i) ≡ true =
        ap (λ t. is_traced_role (role_at (kinds_of_type s.types t) i)) ty ∙ role
        in
        let found = hand_past_finds s.types a (type_in header) 1 i role' (omega arith) in
        (found.0, changes.comes found.0 found.1, found.2 ∙ sym same, found.3)

    pub strong_claimed : StrongAccounted s.types s.mutator.bodies marks now s.mutator.pending new
    strong_claimed b i there traced role = elim (cases_eq b.place a) [
      | inl same ↦ inr (all_to_read b i there same (ap is_traced_role role))
      | inr apart ↦
          (let kept = other b.place apart in
          elim (ok.strong_targets_accounted on b i there (omega arith) role) [
            | inl covered ↦ inl covered
            | inr held ↦ inr (still_held b.place (i + 2) held)
          ])
    ]

    pub pairs_claimed : PairsAccounted s.types s.mutator.bodies marks now s.mutator.pending new (IsNoted s.mutator s.markers)
    pairs_claimed b i there traced role = elim (cases_eq b.place a) [
      | inl same ↦ inr (inr (inr (all_to_read b i there same (ap is_traced_role role))))
      | inr apart ↦
          (let kept = other b.place apart in
          elim (ok.pairs_accounted on b i there (omega arith) role) [
            | inl null ↦ inl null
            | inr some ↦ elim some [
              | inl covered ↦ inr (inl covered)
              | inr more ↦ elim more [
                | inl note ↦ inr (inr (inl note))
                | inr held ↦ inr (inr (inr (still_held b.place (i + 2) held)))
              ]
            ]
          ])
    ]

    pub fits_claimed : (g : Hand) → new g → HandFits s.types s.mutator.bodies marks s.mutator.pending s.mutator.may g
    fits_claimed g is = elim (changes.from g is) [
      | inl was ↦ ok.hands_are_bodies.hands g was
      | inr come ↦
          (let past = hand_past_is s.types a (type_in header) 1 g come in
          record {
            body = at.0;
            there = at.1;
            place = at.2 ∙ sym (ap (λ (x : Hand). x.place) past.is);
            ty = sym type_here ∙ sym (ap (λ (x : Hand). x.ty) past.is);
            past_serial = past.past_serial;
            at_hand = ap (λ (x : Hand). is_traced_role (role_at (kinds_of_type s.types x.ty) (g.next - 2))) past.is ∙ past.at_hand;
            part =
                subst (PartFits s.mutator.bodies marks s.mutator.pending s.mutator.may (role_at_hand s.types g) at.0 (g.next - 2))
                (sym (ap (λ (x : Hand). x.part) past.is)) tt;
          })
    ]

    pub hands_in_claimed : (g : Hand) → new g → holds s.mutator.may g.place ≡ true
    hands_in_claimed g is = elim (changes.from g is) [
      | inl was ↦ (ok.may_is_closed on).hands_in g was
      | inr come ↦
          (let past = hand_past_is s.types a (type_in header) 1 g come in
          ap (λ (x : Hand). holds s.mutator.may x.place) past.is ∙ (ok.may_is_closed on).marked_in a marked_here)
    ]

    pub loaded_in_claimed : (g : Hand) (t : ℕ) → new g → IsLoaded g.part t → holds s.mutator.may t ≡ true
    loaded_in_claimed g t is loaded = elim (changes.from g is) [
      | inl was ↦ (ok.may_is_closed on).loaded_in g t was loaded
      | inr come ↦
          (let past = hand_past_is s.types a (type_in header) 1 g come in
          let read : Read ≡ Mark t = sym (ap (λ (x : Hand). x.part) past.is) ∙ loaded in
          cc)
    ]
