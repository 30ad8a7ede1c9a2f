-- Each step of a marker's seat, in every state in which its view is one that is not spent.
use Rattle.std.proofs.Common.{◌≡◌, ℕ, ◌%◌, List, [], ◌∷◌, ◌++◌, get_or, set, Bool, true, not, cond, ◌&&◌, eqb, ltb, Option, Some, None, refl, sym, ap, ◌∙◌, inl, inr}
use Rattle.std.specs.Option.{is_none}
use Rattle.std.proofs.lemmas.Bool.{cases_Bool, cond-true, cond-false, and_from, eq-eqb, eqb-true, lt-ltb}
use Rattle.std.proofs.lemmas.List.{set-get_or}
use Rattle.object_headers.specs.Layout.{word_with_mark, word_with_traced}
use Rattle.marker_core.specs.declared.states.CoreState.{CoreState}
use Rattle.marker_core.specs.declared.states.MarkerView.{MarkerView}
use Rattle.marker_core.specs.declared.states.MutatorView.{MutatorView}
use Rattle.marker_core.specs.Layout.{bitmap_at, bit_is_set, stop_at, has_mark, has_traced}
use Rattle.marker_core.specs.Hands.{hand_claimed}
use Rattle.marker_core.specs.Bodies.{holds}
use Rattle.marker_core.specs.Views.{view_at}
use Rattle.marker_core.specs.Seats.{core_of}
use Rattle.marker_core.specs.SeatSteps.{is_grey}
use Rattle.marker_core.specs.SeatLaws.{exchanged}
use Rattle.marker_core.specs.CycleSteps.{can_join}
use Rattle.marker_core.specs.MarkerSeats.{MarkerSide, seat_beside, marker_found_start, marker_polled, marker_looked, marker_claimed, marker_wants_word, marker_read, marker_wants_mark, marker_marked}
use Rattle.marker_core.specs.MarkerSteps.{is_last}
use Rattle.marker_core.specs.Step.{core_step}
use Rattle.marker_core.specs.MarkerLaws.{BitsAreSteps, PollsAreSteps, LooksAreSteps, ClaimsAsAreSteps, FieldsAreSteps, MarksAsAreSteps, SplitsAreSteps, JoinsAreSteps}
use Rattle.marker_core.proofs.SeatSteps.{taken}

-- a step that is allowed for the view that is there is taken, and makes of it what it makes of that view
taken_by : (allowed : MarkerView → Bool) (makes : MarkerView → CoreState) (here own : MarkerView) (y : CoreState) → here ≡ own
    → allowed own ≡ true → makes own ≡ y → cond (allowed here) (Some (makes here)) None ≡ Some y
taken_by allowed makes here own y e can same =
    ap (λ (w : MarkerView). cond (allowed w) (Some (makes w)) None) e ∙ taken (allowed own) (makes own) y can same

-- the state with another view of this marker, whose words are these
abbrev state_with : MarkerSide → MutatorView → List ℕ → List MarkerView → ℕ → MarkerView → CoreState
state_with v m words markers k now = core_of (seat_beside v m) words (set markers k now)

-- a word that is left as it was found
word_left : (v : MarkerSide) (m : MutatorView) (words : List ℕ) (markers : List MarkerView) (k at : ℕ) (now : MarkerView)
    → state_with v m words markers k now ≡ state_with v m (set words at (get_or words at 0)) markers k now
word_left v m words markers k at now = ap (λ ws. state_with v m ws markers k now) (sym (set-get_or words at 0))

pub bits_are_steps : BitsAreSteps
unfolding core_step
bits_are_steps v a below m words markers k ok e out =
    taken_by (λ w. not w.spent && ltb a v.count)
    (λ w. state_with v m words markers k (marker_found_start (record v { marker = w }) a (bit_is_set (get_or words (bitmap_at v.count a) 0) (a % 64))))
    (view_at markers k) v.marker _ e (and_from (not v.spent) (ltb a v.count) (ap not out) (lt-ltb a v.count below))
    (word_left v m words markers k (bitmap_at v.count a) _)

pub polls_are_steps : PollsAreSteps
unfolding core_step
polls_are_steps v m words markers k ok e out =
    taken_by (λ w. not w.spent)
    (λ w. state_with v m words markers k (marker_polled (record v { marker = w }) (eqb (get_or words (stop_at v.count) 0) 1)))
    (view_at markers k) v.marker _ e (ap not out) (word_left v m words markers k (stop_at v.count) _)

pub looks_are_steps : LooksAreSteps
unfolding core_step
looks_are_steps v a known m words markers k ok e out =
    taken_by (λ w. holds w.known a)
    (λ w. state_with v m words markers k (marker_looked (record v { marker = w }) a (get_or words a 0)))
    (view_at markers k) v.marker _ e known (word_left v m words markers k a _)

pub fields_are_steps : FieldsAreSteps
unfolding core_step
fields_are_steps v a can m words markers k ok e out =
    taken_by (λ w. marker_wants_word (record v { marker = w }) a)
    (λ w. state_with v m words markers k (marker_read (record v { marker = w }) (get_or words a 0)))
    (view_at markers k) v.marker _ e can (word_left v m words markers k a _)

pub marks_as_are_steps : MarksAsAreSteps
unfolding core_step
marks_as_are_steps v a can m words markers k ok e out =
    taken_by (λ w. marker_wants_mark (record v { marker = w }) a)
    (λ w.
    state_with v m (set words a (word_with_mark true (get_or words a 0))) markers k
    (marker_marked (record v { marker = w }) a (has_mark (get_or words a 0))))
    (view_at markers k) v.marker _ e can refl

-- ---- claim

last_is : (last : Option (ℕ × ℕ)) (a header : ℕ) → last ≡ Some (a, header) → is_last last a header ≡ true
last_is last a header e =
    ap (λ l. is_last l a header) e ∙ and_from (eqb a a) (eqb header header) (eq-eqb a a refl) (eq-eqb header header refl)

module _ (v : MarkerSide) (m : MutatorView) (words : List ℕ) (markers : List MarkerView) (k a header : ℕ) where
  abbrev found : ℕ
  found = get_or words a 0

  abbrev traced : List ℕ
  traced = set words a (word_with_traced true found)

  -- the view where the header is still the one that was read, and where it is another
  abbrev hit : MarkerView → MarkerView
  hit w = record w { traced = w.traced ++ a ∷ []; hand = hand_claimed v.types a found }

  abbrev miss : MarkerView → MarkerView
  miss w = record w {
    done = cond (has_traced found) (w.done ++ a ∷ []) w.done;
    missed = cond (has_traced found) w.missed (w.missed ++ a ∷ []);
  }

  abbrev hit_state : MarkerView → CoreState
  hit_state w = state_with v m traced markers k (hit w)

  abbrev miss_state : MarkerView → CoreState
  miss_state w = state_with v m words markers k (miss w)

  abbrev made : MarkerView → CoreState
  made w = cond (eqb found header) (hit_state w) (miss_state w)

  abbrev wanted : ℕ → MarkerView → CoreState
  wanted word now = state_with v m (set words a word) markers k now

  claim_made : made v.marker ≡ wanted (exchanged header (word_with_traced true header) found) (marker_claimed v a header found)
  claim_made = elim (cases_Bool (eqb found header)) [
    | inl same ↦
        cond-true (eqb found header) (hit_state v.marker) (miss_state v.marker) same
        ∙ ap (λ w. wanted w (hit v.marker))
        (ap (word_with_traced true) (eqb-true found header same)
        ∙ sym (cond-true (eqb found header) (word_with_traced true header) found same))
        ∙ ap (wanted (exchanged header (word_with_traced true header) found)) (sym (cond-true (eqb found header) (hit v.marker) (miss v.marker) same))
    | inr other ↦
        cond-false (eqb found header) (hit_state v.marker) (miss_state v.marker) other
        ∙ word_left v m words markers k a (miss v.marker)
        ∙ ap (λ w. wanted w (miss v.marker)) (sym (cond-false (eqb found header) (word_with_traced true header) found other))
        ∙ ap (wanted (exchanged header (word_with_traced true header) found)) (sym (cond-false (eqb found header) (hit v.marker) (miss v.marker) other))
  ]

pub claims_as_are_steps : ClaimsAsAreSteps
unfolding core_step
claims_as_are_steps v a header known none last grey m words markers k ok e out =
    taken_by (λ w. holds w.known a && is_none w.hand && is_last w.last a header && is_grey header) (made v m words markers k a header)
    (view_at markers k) v.marker _ e
    (and_from (holds v.known a && is_none v.hand && is_last v.last a header) (is_grey header)
    (and_from (holds v.known a && is_none v.hand) (is_last v.last a header)
    (and_from (holds v.known a) (is_none v.hand) known (ap is_none none)) (last_is v.last a header last)) grey)
    (claim_made v m words markers k a header)

-- ---- a view is lent, and given back

pub splits_are_steps : SplitsAreSteps
unfolding core_step
splits_are_steps v words markers on = taken v.on _ _ on refl

pub joins_are_steps : JoinsAreSteps
unfolding core_step
joins_are_steps v words markers k out none =
    taken (can_join (core_of v words markers) k) _ _
    (and_from (not (view_at markers k).spent) (is_none (view_at markers k).hand) (ap not out) (ap is_none none)) refl
