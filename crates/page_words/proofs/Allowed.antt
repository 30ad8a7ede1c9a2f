-- What a call asks of the view is what its step asks.
use Rattle.std.proofs.Common.{◌≡◌, ℕ, ◌+◌, ◌-◌, ◌<◌, List, [], length, true, false, Bool, not, cond, ◌&&◌, ◌||◌, eqb, ltb, None, refl, sym, ap, ◌∙◌, inl, inr, arith}
use mathlib.Core.Logic.{◌↔◌}
use Rattle.std.specs.Option.{is_none}
use Rattle.std.specs.List.{list_all, range_with_len}
use Rattle.std.proofs.lemmas.Bool.{and_from, and_parts, or_left, or_right, cases_Bool, cases_eq, lt-ltb, eq-eqb, ne_eqb, eqb-true, false_from_ne_true, true≢false}
use Rattle.std.proofs.lemmas.List.Sums.{list_all-from_AllPass}
use Rattle.page_words.proofs.Elements.{members_are}
use Rattle.gc_graph.specs.Members.{any_member, in_range}
use Rattle.object_headers.specs.Offsets.{reference_to}
use Rattle.type_table.specs.Types.{declared_kinds}
use Rattle.marker_core.specs.declared.states.Body.{Body}
use Rattle.marker_core.specs.declared.states.Role.{Role}
use Rattle.marker_core.specs.declared.states.Role.TheVariants.{StrongWord, WeakWord, KeyWord, ValueWord, PlainWord}
use Rattle.marker_core.specs.Bodies.{IsPlace, IsInBody, holds, is_place, places, role_in, role_at, word_in, refers, refers_to}
use Rattle.marker_core.specs.Closed.{IsClosedOver, closes_over, body_closes, word_closes}
use Rattle.marker_core.specs.SeatSteps.{seat_can_fill, seat_can_retract, seat_can_mark, seat_can_claim, seat_can_unmark, seat_can_begin, seat_can_end, pair_is_whole, pairs_are_whole}
use Rattle.marker_core.specs.SeatLaws.{seat_ends}
use Rattle.page_words.specs.Bodies.{is_reference_word}
use Rattle.page_words.specs.PlaceTests.{test_of_place, test_of_outside}
use Rattle.page_words.specs.Roles.{kind_lists, kinds_fit, refers_by_kind}
use Rattle.page_words.specs.Seat.{SeatView, IsView, IsQuiet, PairsAreWhole, IsMarkedOut, IsUnnamed, side}

-- a word refers exactly where the kind of its field isn't plain
pub role_refers : (v : SeatView) (b : Body) (i : ℕ) → refers (role_in (kind_lists v.types) b i) ≡ is_reference_word v.types b i
role_refers v b i =
    ap (λ kinds. refers (role_at kinds i)) (kinds_fit v.types b.ty) ∙ refers_by_kind (declared_kinds v.types b.ty) i

pub fill_allowed : (v : SeatView) (a : ℕ) → a < v.count → (IsInBody v.bodies a → ⊥) → seat_can_fill (side v) a ≡ true
fill_allowed v a below outside =
    and_from (ltb a v.count) _ (lt-ltb a v.count below) (ap not (test_of_outside v.bodies a outside))

pub retract_allowed : (v : SeatView) (a : ℕ) → v.on ≡ false → holds v.dead a ≡ true → IsUnnamed v.types v.bodies v.dead a
    → seat_can_retract (side v) a ≡ true
retract_allowed v a off dead unnamed =
    and_from (not v.on && holds v.dead a) _ (and_from (not v.on) (holds v.dead a) (ap not off) dead)
    (ap not (false_from_ne_true _ (λ some.
    let found = any_member (λ (b : Body). not (holds v.dead b.place) && refers_to (kind_lists v.types) a b) v.bodies some in
    let b : Body = found.0 in
    let parts = and_parts (not (holds v.dead b.place)) (refers_to (kind_lists v.types) a b) found.2 in
    let living : holds v.dead b.place ≡ false =
    false_from_ne_true (holds v.dead b.place) (λ is. true≢false (sym parts.0 ∙ ap not is)) in
    let word = any_member (λ i. refers (role_in (kind_lists v.types) b i) && eqb (word_in b i) (reference_to a)) (range_with_len 0 (length b.fields)) parts.1 in
    let i : ℕ = word.0 in
    let named = and_parts (refers (role_in (kind_lists v.types) b i)) (eqb (word_in b i) (reference_to a)) word.2 in
    let low = in_range 0 (length b.fields) i word.1 in
    unnamed b i found.1 living (omega (arith, low.1)) (sym (role_refers v b i) ∙ named.0) (eqb-true (word_in b i) (reference_to a) named.1))))

pub mark_allowed : (v : SeatView) (a : ℕ) → v.on ≡ true → IsPlace v.bodies a → holds v.may a ≡ true → seat_can_mark (side v) a ≡ true
mark_allowed v a on place may = and_from (v.on && is_place v.bodies a) (holds v.may a) (and_from v.on (is_place v.bodies a) on (test_of_place v.bodies a place)) may

pub claim_allowed : (v : SeatView) (a : ℕ) → v.on ≡ true → v.hand ≡ None → IsPlace v.bodies a → seat_can_claim (side v) a ≡ true
claim_allowed v a on empty place =
    and_from (v.on && is_none v.hand) (is_place v.bodies a) (and_from v.on (is_none v.hand) on (ap is_none empty)) (test_of_place v.bodies a place)

pub unmark_allowed : (v : SeatView) (a : ℕ) → v.on ≡ false → IsPlace v.bodies a → seat_can_unmark (side v) a ≡ true
unmark_allowed v a off place = and_from (not v.on) (is_place v.bodies a) (ap not off) (test_of_place v.bodies a place)

-- ---- marking begins

key_is_whole : (role : Role) (key value : ℕ) → (role ≡ KeyWord → (key ≡ 0) ↔ (value ≡ 0)) → pair_is_whole role key value ≡ true
key_is_whole KeyWord key value whole = elim (cases_eq key 0) [
  | inl null ↦ ap (λ b. cond b (eqb value 0) (not (eqb value 0))) (eq-eqb key 0 null) ∙ eq-eqb value 0 ((whole refl).0 null)
  | inr some ↦ ap (λ b. cond b (eqb value 0) (not (eqb value 0))) (ne_eqb key 0 some)
      ∙ ap not (ne_eqb value 0 (λ e. some ((whole refl).1 e)))
]
key_is_whole StrongWord key value whole = refl
key_is_whole WeakWord key value whole = refl
key_is_whole ValueWord key value whole = refl
key_is_whole PlainWord key value whole = refl

no_length : (places : List ℕ) → places ≡ [] → eqb (length places) 0 ≡ true
no_length places none = ap (λ (xs : List ℕ). eqb (length xs) 0) none

pub begin_allowed : (v : SeatView) → IsView v → v.noted ≡ [] → IsQuiet v → PairsAreWhole v → seat_can_begin (side v) ≡ true
begin_allowed v is none quiet whole =
    let lent : v.lent ≡ 0 = (is.at_rest quiet.off).none_lent in
    and_from _ (list_all (pairs_are_whole (kind_lists v.types)) v.bodies)
    (and_from _ (eqb v.lent 0)
    (and_from _ (eqb (length v.dead) 0)
    (and_from _ (eqb (length v.noted) 0)
    (and_from _ (eqb (length v.traced) 0)
    (and_from (not v.on) (eqb (length v.marked) 0) (ap not quiet.off) (no_length v.marked quiet.marked))
    (no_length v.traced quiet.traced))
    (ap (λ (xs : List (ℕ × ℕ)). eqb (length xs) 0) none))
    (no_length v.dead quiet.dead))
    (eq-eqb v.lent 0 lent))
    (list_all-from_AllPass (pairs_are_whole (kind_lists v.types)) v.bodies
    (members_are (λ b. pairs_are_whole (kind_lists v.types) b ≡ true) v.bodies (λ b h.
    let kept : ℕ → Bool = λ i. pair_is_whole (role_in (kind_lists v.types) b i) (word_in b i) (word_in b (i + 1)) in
    let words : List ℕ = range_with_len 0 (length b.fields) in
    list_all-from_AllPass kept words (members_are (λ i. kept i ≡ true) words (λ i low.
    key_is_whole (role_in (kind_lists v.types) b i) (word_in b i) (word_in b (i + 1)) (whole b i h))))))

-- ---- marking ends

some_word : (w : ℕ) → (w ≡ 0 → ⊥) → 0 < w
some_word w some = omega (arith, some)

strong_closes : (test : ℕ → Bool) (w : ℕ) → (0 < w → test (w - 1) ≡ true) → (eqb w 0 || test (w - 1)) ≡ true
strong_closes test w named = elim (cases_eq w 0) [
  | inl null ↦ or_left (eqb w 0) (test (w - 1)) (eq-eqb w 0 null)
  | inr some ↦ or_right (eqb w 0) (test (w - 1)) (named (some_word w some))
]

-- each word of a closed body closes
closes_word : (test : ℕ → Bool) (role : Role) (w next : ℕ) → (role ≡ StrongWord → 0 < w → test (w - 1) ≡ true)
    → (role ≡ KeyWord → 0 < w → test (w - 1) ≡ true → 0 < next → test (next - 1) ≡ true) → word_closes test role w next ≡ true
closes_word test StrongWord w next strong pair = strong_closes test w (strong refl)
closes_word test KeyWord w next strong pair = elim (cases_eq w 0) [
  | inl null ↦ or_left (eqb w 0 || not (test (w - 1)) || eqb next 0) (test (next - 1))
      (or_left (eqb w 0 || not (test (w - 1))) (eqb next 0) (or_left (eqb w 0) (not (test (w - 1))) (eq-eqb w 0 null)))
  | inr some ↦ elim (cases_Bool (test (w - 1))) [
    | inl marked ↦ elim (cases_eq next 0) [
      | inl null ↦ or_left (eqb w 0 || not (test (w - 1)) || eqb next 0) (test (next - 1))
          (or_right (eqb w 0 || not (test (w - 1))) (eqb next 0) (eq-eqb next 0 null))
      | inr other ↦ or_right (eqb w 0 || not (test (w - 1)) || eqb next 0) (test (next - 1))
          (pair refl (some_word w some) marked (some_word next other))
    ]
    | inr unmarked ↦ or_left (eqb w 0 || not (test (w - 1)) || eqb next 0) (test (next - 1))
        (or_left (eqb w 0 || not (test (w - 1))) (eqb next 0) (or_right (eqb w 0) (not (test (w - 1))) (ap not unmarked)))
  ]
]
closes_word test WeakWord w next strong pair = refl
closes_word test ValueWord w next strong pair = refl
closes_word test PlainWord w next strong pair = refl

closes : (v : SeatView) (test : ℕ → Bool) → IsClosedOver (kind_lists v.types) v.bodies test → closes_over (kind_lists v.types) test v.bodies ≡ true
closes v test closed =
    list_all-from_AllPass (body_closes (kind_lists v.types) test) v.bodies
    (members_are (λ b. body_closes (kind_lists v.types) test b ≡ true) v.bodies (λ b h.
    let word : ℕ → Bool = λ i. word_closes test (role_in (kind_lists v.types) b i) (word_in b i) (word_in b (i + 1)) in
    let words : List ℕ = range_with_len 0 (length b.fields) in
    elim (cases_Bool (test b.place)) [
      | inl marked ↦ or_right (not (test b.place)) (list_all word words)
          (list_all-from_AllPass word words (members_are (λ i. word i ≡ true) words (λ i low.
          closes_word test (role_in (kind_lists v.types) b i) (word_in b i) (word_in b (i + 1)) (closed.strong b i h marked)
          (closed.pairs b i h marked))))
      | inr other ↦ or_left (not (test b.place)) (list_all word words) (ap not other)
    ]))

pub end_allowed : (v : SeatView) → (v.on ≡ true → v.lent ≡ 0 → IsMarkedOut v) → seat_ends (side v) ≡ true → seat_can_end (side v) ≡ true
end_allowed v may ends =
    let parts = and_parts v.on (eqb v.lent 0) ends in
    let out : IsMarkedOut v = may parts.0 (eqb-true v.lent 0 parts.1) in
    and_from _ (closes_over (kind_lists v.types) (holds v.marked) v.bodies)
    (and_from (is_none v.hand && is_none v.pending) _
    (and_from (is_none v.hand) (is_none v.pending) (ap is_none out.alone.no_hand) (ap is_none out.alone.no_pending))
    (list_all-from_AllPass (λ a. not (holds v.marked a) || holds v.traced a) (places v.bodies)
    (members_are (λ a. (not (holds v.marked a) || holds v.traced a) ≡ true) (places v.bodies) (λ a h. elim (cases_Bool (holds v.marked a)) [
      | inl marked ↦ or_right (not (holds v.marked a)) (holds v.traced a) (out.traced a marked)
      | inr other ↦ or_left (not (holds v.marked a)) (holds v.traced a) (ap not other)
    ]))))
    (closes v (holds v.marked) out.closed)
