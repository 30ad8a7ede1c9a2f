-- The step that ends marking, told by the mutator's own lists, where no view is lent.
use Rattle.std.proofs.Common.{◌≡◌, ℕ, ◌+◌, ◌-◌, List, [], ◌∷◌, length, set, filter, Bool, true, false, not, cond, ◌&&◌, ◌||◌, eqb, ltb, refl, sym, ap, ◌∙◌, inl, inr, arith, Contains}
use Rattle.std.specs.List.{list_all, range_with_len}
use Rattle.std.specs.Option.{is_none}
use Rattle.std.proofs.lemmas.Bool.{cases_Bool, cond-true, cond-false, both_ways, and_parts, or_cases, eqb-true, lt-ltb}
use Rattle.gc_graph.specs.Members.{Contains-cons, Contains-head, Contains-map_some}
use Rattle.marker_core.specs.declared.states.Body.{Body}
use Rattle.marker_core.specs.declared.states.CoreState.{CoreState}
use Rattle.marker_core.specs.declared.states.MarkerView.{MarkerView}
use Rattle.marker_core.specs.declared.states.MutatorView.{MutatorView}
use Rattle.marker_core.specs.declared.states.Role.{Role}
use Rattle.marker_core.specs.declared.states.Role.TheVariants.{StrongWord, WeakWord, KeyWord, ValueWord, PlainWord}
use Rattle.marker_core.specs.Layout.{stop_at, is_marked, is_traced}
use Rattle.marker_core.specs.Bodies.{refers, kinds_of_type, word_in, role_in, places, is_place, names_body, holds}
use Rattle.marker_core.specs.Closed.{word_closes, body_closes, closes_over}
use Rattle.marker_core.specs.Views.{times, marks_at, traces_at}
use Rattle.marker_core.specs.Seats.{SeatSide, core_of, with_view}
use Rattle.marker_core.specs.SeatSteps.{seat_can_end, unmarked_places, ended_with, seat_ended}
use Rattle.marker_core.specs.CycleSteps.{can_end, core_ended, core_stopped, core_unmarked_places}
use Rattle.marker_core.specs.Step.{core_step}
use Rattle.marker_core.specs.Core.{IsCoreOk}
use Rattle.marker_core.specs.SeatLaws.{seat_ends, StopsAreSteps}
use Rattle.marker_core.proofs.Apart.{body_of_place, place_of_body}
use Rattle.marker_core.proofs.Counts.{times_cons}
use Rattle.marker_core.specs.RoleOrder.{value_after_key}
use Rattle.marker_core.proofs.Headers.{mark_tells, traced_tells}
use Rattle.marker_core.proofs.Quiet.{no_marks, no_traces}
use Rattle.marker_core.proofs.Stops.{all_spent}
use Rattle.marker_core.proofs.SeatSteps.{taken}

-- ---- tests that agree on the members of a list

pub all_same : {X : Type 0} (p q : X → Bool) (xs : List X) → ((x : X) → Contains xs x → p x ≡ q x) → list_all p xs ≡ list_all q xs
all_same p q [] same = refl
all_same p q (x ∷ xs) same =
    ap (λ t. t && list_all p xs) (same x (Contains-head x xs))
    ∙ ap (λ t. q x && t) (all_same p q xs (λ y h. same y (Contains-cons x xs y h)))

pub filter_same : {X : Type 0} (p q : X → Bool) (xs : List X) → ((x : X) → Contains xs x → p x ≡ q x) → filter p xs ≡ filter q xs
filter_same p q [] same = refl
filter_same p q (x ∷ xs) same =
    ap (λ t. cond t (x ∷ filter p xs) (filter p xs)) (same x (Contains-head x xs))
    ∙ ap (λ ys. cond (q x) (x ∷ ys) ys) (filter_same p q xs (λ y h. same y (Contains-cons x xs y h)))

-- a place is in a list exactly where it stands there at least once
pub some_times : (a : ℕ) (members : List ℕ) → ltb 0 (times a members) ≡ holds members a
some_times a [] = refl
some_times a (p ∷ members) = elim (cases_Bool (eqb p a)) [
  | inl same ↦
      (let one : times a (p ∷ members) ≡ 1 + times a members = times_cons a p members ∙ ap (λ t. cond t 1 0 + times a members) same in
      lt-ltb 0 (times a (p ∷ members)) (omega (arith, one)) ∙ sym (ap (λ t. t || holds members a) same))
  | inr other ↦
      (let none : times a (p ∷ members) ≡ times a members = times_cons a p members ∙ ap (λ t. cond t 1 0 + times a members) other ∙ omega arith in
      ap (ltb 0) none ∙ some_times a members ∙ sym (ap (λ t. t || holds members a) other))
]

-- ---- words that close

later_same : (a x y : Bool) → (a ≡ false → x ≡ y) → (a || x) ≡ (a || y)
later_same true x y same = refl
later_same false x y same = same refl

pair_same : (a b x y k l : Bool) → (a ≡ false → k ≡ l) → (b ≡ false → x ≡ y) → (a || not k || b || x) ≡ (a || not l || b || y)
pair_same true b x y k l keys values = refl
pair_same false true x y true true keys values = refl
pair_same false true x y true false keys values = refl
pair_same false true x y false true keys values = refl
pair_same false true x y false false keys values = refl
pair_same false false x y k l keys values =
    ap (λ t. not t || false || x) (keys refl) ∙ ap (λ t. not l || false || t) (values refl)

module _ (bodies : List Body) (p q : ℕ → Bool) (agree : (a : ℕ) → is_place bodies a ≡ true → p a ≡ q a) where
  named_agree : (w : ℕ) → names_body bodies w ≡ true → eqb w 0 ≡ false → p (w - 1) ≡ q (w - 1)
  named_agree w names some = elim (or_cases (eqb w 0) (is_place bodies (w - 1)) names) [
    | inl null ↦ absurd (both_ways (eqb w 0) some null)
    | inr place ↦ agree (w - 1) place
  ]

  word_same : (role : Role) (w next : ℕ) → (refers role ≡ true → names_body bodies w ≡ true) → (role ≡ KeyWord → names_body bodies next ≡ true)
      → word_closes p role w next ≡ word_closes q role w next
  word_same StrongWord w next own other = later_same (eqb w 0) (p (w - 1)) (q (w - 1)) (named_agree w (own refl))
  word_same KeyWord w next own other =
      pair_same (eqb w 0) (eqb next 0) (p (next - 1)) (q (next - 1)) (p (w - 1)) (q (w - 1)) (named_agree w (own refl)) (named_agree next (other refl))
  word_same WeakWord w next own other = refl
  word_same ValueWord w next own other = refl
  word_same PlainWord w next own other = refl

module _ (v : SeatSide) (words : List ℕ) (markers : List MarkerView) (ok : IsCoreOk (core_of v words markers)) (lent : v.mutator.lent ≡ 0) where
  abbrev bodies : List Body
  bodies = v.mutator.bodies

  abbrev spent : (m : MarkerView) → Contains markers m → m.spent ≡ true
  spent = all_spent (core_of v words markers) ok lent

  own_marks : (a : ℕ) → ltb 0 (marks_at v.mutator markers a) ≡ holds v.mutator.marked a
  own_marks a =
      ap (ltb 0) (ap (λ n. times a v.mutator.marked + n) (no_marks (core_of v words markers) ok spent a) ∙ omega arith)
      ∙ some_times a v.mutator.marked

  pub own_traces : (a : ℕ) → ltb 0 (traces_at v.mutator markers a) ≡ holds v.mutator.traced a
  own_traces a =
      ap (ltb 0) (ap (λ n. times a v.mutator.traced + n) (no_traces (core_of v words markers) ok spent a) ∙ omega arith)
      ∙ some_times a v.mutator.traced

  pub marked_same : (a : ℕ) → is_place bodies a ≡ true → is_marked words a ≡ holds v.mutator.marked a
  marked_same a place =
      let at = body_of_place bodies a place in
      ap (is_marked words) (sym at.2)
      ∙ mark_tells words (marks_at v.mutator markers) (traces_at v.mutator markers) bodies ok.headers_match at.0 at.1
      ∙ own_marks at.0.place ∙ ap (holds v.mutator.marked) at.2

  pub traced_same : (a : ℕ) → is_place bodies a ≡ true → is_traced words a ≡ holds v.mutator.traced a
  traced_same a place =
      let at = body_of_place bodies a place in
      ap (is_traced words) (sym at.2)
      ∙ traced_tells words (marks_at v.mutator markers) (traces_at v.mutator markers) bodies ok.headers_match at.0 at.1
      ∙ own_traces at.0.place ∙ ap (holds v.mutator.traced) at.2

  listed_place : (a : ℕ) → Contains (places bodies) a → is_place bodies a ≡ true
  listed_place a h =
      let from = Contains-map_some (λ (b : Body). b.place) bodies a h in place_of_body bodies from.0 a from.1 from.2

  grey_same : list_all (λ a. not (is_marked words a) || is_traced words a) (places bodies)
      ≡ list_all (λ a. not (holds v.mutator.marked a) || holds v.mutator.traced a) (places bodies)
  grey_same =
      all_same (λ a. not (is_marked words a) || is_traced words a) (λ a. not (holds v.mutator.marked a) || holds v.mutator.traced a) (places bodies)
      (λ a h. let place = listed_place a h in
      ap (λ t. not t || is_traced words a) (marked_same a place) ∙ ap (λ t. not (holds v.mutator.marked a) || t) (traced_same a place))

  dead_same : core_unmarked_places (core_of v words markers) ≡ unmarked_places v
  dead_same =
      filter_same (λ a. not (is_marked words a)) (λ a. not (holds v.mutator.marked a)) (places bodies)
      (λ a h. ap not (marked_same a (listed_place a h)))

module _ (v : SeatSide) (words : List ℕ) (markers : List MarkerView) (ok : IsCoreOk (core_of v words markers)) (on : v.mutator.on ≡ true) (lent : v.mutator.lent ≡ 0) where
  names : (b : Body) (i : ℕ) → Contains v.mutator.bodies b → refers (role_in v.types b i) ≡ true → names_body v.mutator.bodies (word_in b i) ≡ true
  names b i h r = ok.references_name_bodies b i h (ap (λ dead. holds dead b.place) (ok.quiet_while_off.no_dead on)) r

  body_same : (b : Body) → Contains v.mutator.bodies b → body_closes v.types (is_marked words) b ≡ body_closes v.types (holds v.mutator.marked) b
  body_same b h =
      ap (λ t. not t || list_all (λ i. word_closes (is_marked words) (role_in v.types b i) (word_in b i) (word_in b (i + 1))) (range_with_len 0 (length b.fields)))
      (marked_same v words markers ok lent b.place (place_of_body v.mutator.bodies b b.place h refl))
      ∙ ap (λ t. not (holds v.mutator.marked b.place) || t)
      (all_same (λ i. word_closes (is_marked words) (role_in v.types b i) (word_in b i) (word_in b (i + 1)))
      (λ i. word_closes (holds v.mutator.marked) (role_in v.types b i) (word_in b i) (word_in b (i + 1))) (range_with_len 0 (length b.fields))
      (λ i _. word_same v.mutator.bodies (is_marked words) (holds v.mutator.marked) (marked_same v words markers ok lent) (role_in v.types b i) (word_in b i) (word_in b (i + 1))
      (names b i h)
      (λ key. names b (i + 1) h (ap refers (value_after_key (kinds_of_type v.types b.ty) i key)))))

  end_same : can_end (core_of v words markers) ≡ seat_can_end v
  end_same =
      ap (λ t. is_none v.mutator.hand && is_none v.mutator.pending && t && closes_over v.types (is_marked words) v.mutator.bodies) (grey_same v words markers ok lent)
      ∙ ap
      (λ t. is_none v.mutator.hand && is_none v.mutator.pending
      && list_all (λ a. not (holds v.mutator.marked a) || holds v.mutator.traced a) (places v.mutator.bodies)
      && t)
      (all_same (body_closes v.types (is_marked words)) (body_closes v.types (holds v.mutator.marked)) v.mutator.bodies body_same)

pub stops_are_steps : StopsAreSteps
unfolding core_step
stops_are_steps v roots can words markers ok =
    let s = core_of v words markers in
    let to : MutatorView → CoreState = λ m. core_of (with_view v m) (set words (stop_at v.count) 1) markers in
    elim (cases_Bool (seat_ends v)) [
      | inl ends ↦
          (let both = and_parts v.mutator.on (eqb v.mutator.lent 0) ends in
          let lent = eqb-true v.mutator.lent 0 both.1 in
          taken (cond (seat_ends v) (can_end s) true) (cond (seat_ends v) (core_ended s) (core_stopped s)) _
          (cond-true (seat_ends v) (can_end s) true ends ∙ end_same v words markers ok both.0 lent ∙ can ends)
          (cond-true (seat_ends v) (core_ended s) (core_stopped s) ends
          ∙ ap (λ dead. to (ended_with v dead)) (dead_same v words markers ok lent)
          ∙ ap to (sym (cond-true (seat_ends v) (seat_ended v) v.mutator ends))))
      | inr goes_on ↦
          taken (cond (seat_ends v) (can_end s) true) (cond (seat_ends v) (core_ended s) (core_stopped s)) _ (cond-false (seat_ends v) (can_end s) true goes_on)
          (cond-false (seat_ends v) (core_ended s) (core_stopped s) goes_on ∙ ap to (sym (cond-false (seat_ends v) (seat_ended v) v.mutator goes_on)))
    ]
