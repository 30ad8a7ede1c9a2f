-- What steps of a marking cycle are for: new bodies and weak reads may be kept, and the end leaves nothing grey.
use Rattle.std.proofs.Common.{◌≡◌, ℕ, ◌+◌, ◌-◌, ◌<◌, [], ◌∷◌, ◌++◌, length, filter, Bool, true, false, not, ◌&&◌, ◌||◌, eqb, ltb, refl, sym, ap, ◌∙◌, subst, inl, inr, arith, Contains}
use Rattle.std.specs.List.{list_all, range_with_len}
use Rattle.std.specs.Option.{is_none}
use Rattle.std.proofs.lemmas.Bool.{cases_Bool, cond-true, cond-false, and_parts, or_cases, not-true, not_from_false, both_ways, eqb-true}
use Rattle.std.proofs.lemmas.Option.{cond_some}
use Rattle.gc_graph.specs.Reach.{ReachIsLeast}
use Rattle.marker_core.specs.declared.states.Body.{Body}
use Rattle.marker_core.specs.declared.states.CoreState.{CoreState}
use Rattle.marker_core.specs.declared.states.Role.TheVariants.{KeyWord}
use Rattle.marker_core.specs.declared.states.Why.TheVariants.{Weak}
use Rattle.marker_core.specs.declared.steps.CoreStep.TheVariants.{Stop}
use Rattle.marker_core.specs.Layout.{is_marked, is_traced}
use Rattle.marker_core.specs.Bodies.{kinds_of_type, refers, word_in, role_in, places, is_place, holds}
use Rattle.marker_core.specs.Closed.{IsClosedOver, word_closes, body_closes, closes_over, reach_over}
use Rattle.marker_core.specs.CycleSteps.{ends, can_end, core_ended, core_stopped}
use Rattle.marker_core.specs.MutatorSteps.{can_load, core_loaded, can_publish, core_published}
use Rattle.marker_core.specs.Views.{marks_at, traces_at}
use Rattle.marker_core.specs.Step.{is_allowed, changed, core_step}
use Rattle.marker_core.specs.Core.{IsCoreOk}
use Rattle.marker_core.specs.Laws.{is_marked_in, NewAndReadMayBeKept, HasEndedMarking, EndsMarkedOut}
use Rattle.marker_core.proofs.Members.{all_member}
use Rattle.gc_graph.specs.Members.{pushed_is_held, holds_from, Contains-map, stays_in, below_ranged}
use Rattle.marker_core.proofs.Apart.{body_of_place, place_of_body, named}
use Rattle.marker_core.proofs.Counts.{some_is_true, true_is_some, none_is_false}
use Rattle.marker_core.specs.RoleOrder.{value_after_key}
use Rattle.marker_core.proofs.Headers.{mark_tells, traced_tells}
use Rattle.marker_core.proofs.Reached.{reach_over_law}
use Rattle.marker_core.proofs.Turns.{all_name_bodies, within_fields}

pub may_be_kept : ReachIsLeast → NewAndReadMayBeKept
unfolding core_step
may_be_kept law s t a ok on step = elim step [
  | inl publish ↦
      (let both = cond_some (can_publish s a) (core_published s a) t publish in
      subst (λ u. holds u.mutator.may a ≡ true) both.1
      (ap (λ l. holds l a) (cond-true s.mutator.on (s.mutator.may ++ a ∷ []) s.mutator.may on) ∙ pushed_is_held s.mutator.may a))
  | inr read ↦
      (let both = cond_some (can_load s a Weak) (core_loaded s a Weak) t read in
      let least = reach_over_law law s.count s.types s.mutator.bodies (s.mutator.may ++ a ∷ []) ok.bodies_are_whole ok.bodies_lie_apart (all_name_bodies s ok on) in
      subst (λ u. holds u.mutator.may a ≡ true) both.1
      (ap (λ l. holds l a) (cond-true s.mutator.on (reach_over s.count s.types s.mutator.bodies (s.mutator.may ++ a ∷ [])) s.mutator.may on)
      ∙ least.roots_in a (pushed_is_held s.mutator.may a) both.0))
]

either : (x y : Bool) → (not x || y) ≡ true → x ≡ true → y ≡ true
either x y h on = elim (or_cases (not x) y h) [ inl no_x ↦ absurd (both_ways x (not-true x no_x) on) | inr is ↦ is ]

module _ (s : CoreState) (ok : IsCoreOk s) (on : s.mutator.on ≡ true) (can : can_end s ≡ true) where
  abbrev bit : ℕ → Bool
  bit = is_marked s.words

  abbrev tests : ((is_none s.mutator.hand && is_none s.mutator.pending && list_all (λ a. not (bit a) || is_traced s.words a) (places s.mutator.bodies)) ≡ true)
      × (closes_over s.types bit s.mutator.bodies ≡ true)
  tests = and_parts (is_none s.mutator.hand && is_none s.mutator.pending && list_all (λ a. not (bit a) || is_traced s.words a) (places s.mutator.bodies)) (closes_over s.types bit s.mutator.bodies) can

  all_traced : list_all (λ a. not (bit a) || is_traced s.words a) (places s.mutator.bodies) ≡ true
  all_traced = (and_parts (is_none s.mutator.hand && is_none s.mutator.pending) (list_all (λ a. not (bit a) || is_traced s.words a) (places s.mutator.bodies)) tests.0).1

  -- the mark in a header, and the count of its place
  mark_is : (a : ℕ) → is_place s.mutator.bodies a ≡ true → bit a ≡ is_marked_in s a
  mark_is a place =
      let at = body_of_place s.mutator.bodies a place in
      ap bit (sym at.2) ∙ mark_tells s.words (marks_at s.mutator s.markers) (traces_at s.mutator s.markers) s.mutator.bodies ok.headers_match at.0 at.1
      ∙ ap (is_marked_in s) at.2

  place_in : (a : ℕ) → is_place s.mutator.bodies a ≡ true → Contains (places s.mutator.bodies) a
  place_in a place =
      let at = body_of_place s.mutator.bodies a place in
      subst (Contains (places s.mutator.bodies)) at.2 (Contains-map (λ (b : Body). b.place) s.mutator.bodies at.0 at.1)

  word_closed : (b : Body) (i : ℕ) → Contains s.mutator.bodies b → is_marked_in s b.place ≡ true → refers (role_in s.types b i) ≡ true
      → word_closes bit (role_in s.types b i) (word_in b i) (word_in b (i + 1)) ≡ true
  word_closed b i h marked r =
      let own = mark_is b.place (place_of_body s.mutator.bodies b b.place h refl) in
      let words = either (bit b.place) (list_all (λ j. word_closes bit (role_in s.types b j) (word_in b j) (word_in b (j + 1))) (range_with_len 0 (length b.fields)))
      (all_member (body_closes s.types bit) s.mutator.bodies b tests.1 h) (own ∙ marked)
      in
      all_member (λ j. word_closes bit (role_in s.types b j) (word_in b j) (word_in b (j + 1))) (range_with_len 0 (length b.fields)) i words
      (below_ranged (length b.fields) i (within_fields s.count s.types b i (ok.bodies_are_whole b h) r))

  pair_closed : (b : Body) (i : ℕ) → Contains s.mutator.bodies b → is_marked_in s b.place ≡ true → role_in s.types b i ≡ KeyWord → 0 < word_in b i
      → is_marked_in s (word_in b i - 1) ≡ true → 0 < word_in b (i + 1) → is_marked_in s (word_in b (i + 1) - 1) ≡ true
  pair_closed b i h marked role key key_marked value =
      let names = all_name_bodies s ok on in
      let key_place = named s.mutator.bodies (word_in b i) (names b i h (ap refers role)) key in
      let after = value_after_key (kinds_of_type s.types b.ty) i role in
      let target = named s.mutator.bodies (word_in b (i + 1)) (names b (i + 1) h (ap refers after)) value in
      let is_key : bit (word_in b i - 1) ≡ true = mark_is (word_in b i - 1) key_place ∙ key_marked in
      let test : (eqb (word_in b i) 0 || not (bit (word_in b i - 1)) || eqb (word_in b (i + 1)) 0 || bit (word_in b (i + 1) - 1)) ≡ true =
      ap (λ r. word_closes bit r (word_in b i) (word_in b (i + 1))) (sym role) ∙ word_closed b i h marked (ap refers role)
      in
      elim (or_cases (eqb (word_in b i) 0 || not (bit (word_in b i - 1)) || eqb (word_in b (i + 1)) 0) (bit (word_in b (i + 1) - 1)) test) [
        | inr is ↦ sym (mark_is (word_in b (i + 1) - 1) target) ∙ is
        | inl other ↦ elim (or_cases (eqb (word_in b i) 0 || not (bit (word_in b i - 1))) (eqb (word_in b (i + 1)) 0) other) [
          | inr null ↦ (let zero = eqb-true (word_in b (i + 1)) 0 null in absurd (omega arith))
          | inl rest ↦ elim (or_cases (eqb (word_in b i) 0) (not (bit (word_in b i - 1))) rest) [
            | inl null ↦ (let zero = eqb-true (word_in b i) 0 null in absurd (omega arith))
            | inr unmarked ↦ absurd (both_ways (bit (word_in b i - 1)) (not-true (bit (word_in b i - 1)) unmarked) is_key)
          ]
        ]
      ]

  closed_out : IsClosedOver s.types s.mutator.bodies (is_marked_in s)
  closed_out = record {
    strong = λ b i h marked role some.
        let test : (eqb (word_in b i) 0 || bit (word_in b i - 1)) ≡ true =
        ap (λ r. word_closes bit r (word_in b i) (word_in b (i + 1))) (sym role) ∙ word_closed b i h marked (ap refers role)
        in
        let target = named s.mutator.bodies (word_in b i) (all_name_bodies s ok on b i h (ap refers role)) some in
        elim (or_cases (eqb (word_in b i) 0) (bit (word_in b i - 1)) test) [
          | inl null ↦ (let zero = eqb-true (word_in b i) 0 null in absurd (omega arith))
          | inr is ↦ sym (mark_is (word_in b i - 1) target) ∙ is
        ];
    pairs = λ b i h marked role key key_marked value. pair_closed b i h marked role key key_marked value;
  }

  marked_out : HasEndedMarking (core_ended s)
  marked_out = record {
    closed = closed_out;
    traced = λ a some.
        let place = ok.marks_counted_once.are_bodies a some in
        let at = body_of_place s.mutator.bodies a place in
        let on_bit : bit a ≡ true = mark_is a place ∙ some_is_true (marks_at s.mutator s.markers a) some in
        let traced : is_traced s.words a ≡ true =
        either (bit a) (is_traced s.words a) (all_member (λ p. not (bit p) || is_traced s.words p) (places s.mutator.bodies) a all_traced (place_in a place)) on_bit
        in
        let tells = traced_tells s.words (marks_at s.mutator s.markers) (traces_at s.mutator s.markers) s.mutator.bodies ok.headers_match at.0 at.1 in
        let one : ltb 0 (traces_at s.mutator s.markers at.0.place) ≡ true = sym tells ∙ ap (is_traced s.words) at.2 ∙ traced in
        subst (λ x. 0 < traces_at s.mutator s.markers x) at.2 (true_is_some (traces_at s.mutator s.markers at.0.place) one);
    dead = λ a place none.
        let off : bit a ≡ false = mark_is a place ∙ none_is_false (marks_at s.mutator s.markers a) none in
        holds_from (filter (λ p. not (bit p)) (places s.mutator.bodies)) a
        (stays_in (λ p. not (bit p)) (places s.mutator.bodies) a (place_in a place) (not_from_false (bit a) off));
  }

pub ends_marked_out : EndsMarkedOut
unfolding core_step
ends_marked_out s t roots ok on step off =
    let both = cond_some (is_allowed s (Stop true roots)) (changed s (Stop true roots)) t step in
    elim (cases_Bool (ends s)) [
      | inl ending ↦
          (let can : can_end s ≡ true = sym (cond-true (ends s) (can_end s) true ending) ∙ both.0 in
          subst HasEndedMarking (sym (cond-true (ends s) (core_ended s) (core_stopped s) ending) ∙ both.1) (marked_out s ok on can))
      | inr goes_on ↦
          (let same : t.mutator.on ≡ s.mutator.on =
          ap (λ (u : CoreState). u.mutator.on) (sym both.1 ∙ cond-false (ends s) (core_ended s) (core_stopped s) goes_on)
          in
          absurd (both_ways s.mutator.on (sym same ∙ off) on))
    ]
