-- An object is marked: what its mark changes, whoever set it.
use Rattle.std.proofs.Common.{◌≡◌, ℕ, ◌-◌, ◌<◌, get_or, set, true, ltb, Option, refl, sym, ap, ◌∙◌, subst, inl, inr, arith}
use mathlib.Core.Logic.{◌⊎◌}
use Rattle.std.proofs.lemmas.Bool.{cases_eq, false≢true, eqb-true}
use Rattle.object_headers.specs.Layout.{header_word, word_with_mark}
use Rattle.marker_core.specs.declared.states.Body.{Body}
use Rattle.marker_core.specs.declared.states.CoreState.{CoreState}
use Rattle.marker_core.specs.declared.states.Hand.{Hand}
use Rattle.marker_core.specs.declared.states.Part.{Part}
use Rattle.marker_core.specs.declared.states.Part.TheVariants.{Read, Mark, Key, Value}
use Rattle.marker_core.specs.Bodies.{role_at, kinds_of_type, role_in, is_place, holds}
use Rattle.marker_core.specs.Hands.{role_at_hand, wants_mark}
use Rattle.marker_core.specs.Views.{marks_at, traces_at}
use Rattle.marker_core.specs.Tracing.{IsCovered, PartFits, HandFits, marking_word, TracedAreMarked, MarksCountedOnce}
use Rattle.marker_core.specs.Core.{IsCoreOk}
use Rattle.marker_core.proofs.Apart.{same_place}
use Rattle.marker_core.proofs.Counts.{some_is_true}
use Rattle.marker_core.proofs.Headers.{mark_in_header}
use Rattle.marker_core.proofs.Rewords.{Rewords, header_written}
use Rattle.marker_core.proofs.Tricolour.{IsWordDone}

module _ (s : CoreState) (ok : IsCoreOk s) (on : s.mutator.on ≡ true) (a : ℕ) (place : is_place s.mutator.bodies a ≡ true) (now : ℕ → ℕ) (own : now a ≡ 1) (other : (x : ℕ) → (x ≡ a → ⊥) → now x ≡ marks_at s.mutator s.markers x) where
  abbrev marks : ℕ → ℕ
  marks = marks_at s.mutator s.markers

  abbrev traces : ℕ → ℕ
  traces = traces_at s.mutator s.markers

  abbrev header : ℕ
  header = get_or s.words a 0

  pub grown : (x : ℕ) → 0 < marks x → 0 < now x
  grown x some = elim (cases_eq x a) [
    | inl same ↦ (let one : now x ≡ 1 = ap now same ∙ own in omega arith)
    | inr apart ↦ (let kept = other x apart in omega arith)
  ]

  pub new_mark_cases : (x : ℕ) → 0 < now x → (x ≡ a) ⊎ (0 < marks x)
  new_mark_cases x some = elim (cases_eq x a) [ inl same ↦ inl same | inr apart ↦ (let kept = other x apart in inr (omega arith)) ]

  pub remarked_words : Rewords s (set s.words a (word_with_mark true header)) now traces
  remarked_words =
      header_written s ok a (word_with_mark true header) place now traces (λ x apart. (other x apart, refl))
      (λ b h at.
      let one : 0 < now b.place = (let e : now b.place ≡ 1 = ap now at ∙ own in omega arith) in
      ap (λ p. word_with_mark true (get_or s.words p 0)) (sym at) ∙ ap (word_with_mark true) (ok.headers_match b h)
      ∙ mark_in_header true (ltb 0 (marks b.place)) (ltb 0 (traces b.place)) b.ty b.size
      ∙ ap (λ m. header_word true m (ltb 0 (traces b.place)) b.ty b.size) (sym (some_is_true (now b.place) one)))

  pub remarked_traced : TracedAreMarked now traces
  remarked_traced x =
      let was = ok.traced_are_marked x in
      let once = ok.marks_counted_once.once x in
      elim (cases_eq x a) [
        | inl same ↦ (let one : now x ≡ 1 = ap now same ∙ own in omega arith)
        | inr apart ↦ (let kept = other x apart in omega arith)
      ]

  pub remarked_once : MarksCountedOnce s.mutator.bodies now s.mutator.dead
  remarked_once = record {
    once = λ x.
        let was = ok.marks_counted_once.once x in
        elim (cases_eq x a) [
          | inl same ↦ (let one : now x ≡ 1 = ap now same ∙ own in omega arith)
          | inr apart ↦ (let kept = other x apart in omega arith)
        ];
    are_bodies = λ x some. elim (new_mark_cases x some) [
      | inl same ↦ ap (is_place s.mutator.bodies) same ∙ place
      | inr was ↦ ok.marks_counted_once.are_bodies x was
    ];
    dead_are_unmarked = λ x dead.
        absurd (false≢true (ap (λ places. holds places x) (sym (ok.quiet_while_off.no_dead on)) ∙ dead));
  }

  -- the hand that waited for this mark has done with its word
  module _ (later : Option ℕ) (noted : ℕ → ℕ → Type 0) (h : Hand) (fits : HandFits s.types s.mutator.bodies now later s.mutator.may h) where
    abbrev Fits : Part → Type 0
    Fits part = PartFits s.mutator.bodies now later s.mutator.may (role_at_hand s.types h) fits.body (h.next - 2) part

    covered_now : (t : ℕ) → t ≡ a → Fits (Mark t) → IsCovered now later (marking_word (role_at_hand s.types h) fits.body (h.next - 2))
    covered_now t same part = elim part.1 [
      | inl holds_it ↦ (let one : now (marking_word (role_at_hand s.types h) fits.body (h.next - 2) - 1) ≡ 1 =
          ap now (let e : marking_word (role_at_hand s.types h) fits.body (h.next - 2) - 1 ≡ a = omega (arith, holds_it) in e) ∙ own
          in
          inr (inl (omega (arith, one))))
      | inr covered ↦ covered
    ]

    word_done : (t : ℕ) → t ≡ a → Fits (Mark t) → IsWordDone s.types s.mutator.bodies now later noted h
    word_done t same part b i there at next =
        let covered = covered_now t same part in
        let body : fits.body ≡ b =
        same_place s.count s.types s.mutator.bodies ok.bodies_are_whole ok.bodies_lie_apart fits.body b fits.there there (fits.place ∙ sym at)
        in
        let number : h.next - 2 ≡ i = omega arith in
        let role : role_at_hand s.types h ≡ role_in s.types b i =
        ap (λ ty. role_at (kinds_of_type s.types ty) (h.next - 2)) (sym fits.ty ∙ ap (λ (c : Body). c.ty) body) ∙ ap (role_in s.types b) number
        in
        let here : IsCovered now later (marking_word (role_in s.types b i) b i) =
        subst (λ r. IsCovered now later (marking_word r b i)) role
        (subst (λ c. IsCovered now later (marking_word (role_at_hand s.types h) c i)) body
        (subst (λ j. IsCovered now later (marking_word (role_at_hand s.types h) fits.body j)) number covered))
        in (
          λ strong. subst (λ r. IsCovered now later (marking_word r b i)) strong here,
          λ key. inr (inl (subst (λ r. IsCovered now later (marking_word r b i)) key here)),
        )

    by_part : (part : Part) → h.part ≡ part → wants_mark part a ≡ true → IsWordDone s.types s.mutator.bodies now later noted h
    by_part (Mark t) e wants = word_done t (sym (eqb-true a t wants)) (subst Fits e fits.part)
    by_part Read e wants = absurd (false≢true wants)
    by_part Value e wants = absurd (false≢true wants)
    by_part (Key k) e wants = absurd (false≢true wants)

    pub mark_done : wants_mark h.part a ≡ true → IsWordDone s.types s.mutator.bodies now later noted h
    mark_done wants = by_part h.part refl wants
