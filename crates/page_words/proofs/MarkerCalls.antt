-- What each call of a marker does is a step of the machine, and what it finds.
use Rattle.std.proofs.Common.{◌≡◌, ℕ, ◌+◌, ◌/◌, ◌%◌, ◌<◌, ◌≤◌, Bool, true, false, not, eqb, Option, None, Some, bit_or, refl, sym, ap, ◌∙◌, subst, arith}
use Rattle.std.proofs.lemmas.Bool.{cond_both, and_parts, both_ways, not-true, false≢true, eqb-true, eq-eqb, false_from_ne_true}
use Rattle.object_headers.specs.Layout.{word_with_mark, word_with_traced}
use Rattle.marker_core.specs.declared.states.Hand.{Hand}
use Rattle.marker_core.specs.declared.states.MarkerView.{MarkerView}
use Rattle.marker_core.specs.declared.states.Part.{Part}
use Rattle.marker_core.specs.declared.states.Part.TheVariants.{Read, Mark, Key, Value}
use Rattle.marker_core.specs.declared.steps.CoreStep.TheVariants.{Bit, Look, Claim, Field, MarkerMark, Poll}
use Rattle.marker_core.specs.Bodies.{holds}
use Rattle.marker_core.specs.Hands.{wants, wants_word, wants_mark}
use Rattle.marker_core.specs.Layout.{bitmap_at, bit_is_set, stop_at, has_mark, has_traced}
use Rattle.marker_core.specs.MarkerFacts.{MarkerMayFind, IsMarkerHand, IsMarkerOk}
use Rattle.marker_core.specs.MarkerLaws.{BitsAreSteps, PollsAreSteps, LooksAreSteps, ClaimsAsAreSteps, FieldsAreSteps, MarksAsAreSteps}
use Rattle.marker_core.specs.MarkerSeats.{marker_found_start, marker_polled, marker_looked, marker_claimed, marker_wants_word, marker_read, marker_wants_mark, marker_marked}
use Rattle.marker_core.specs.SeatLaws.{exchanged}
use Rattle.marker_core.specs.SeatSteps.{is_grey}
use Rattle.page_words.specs.MarkerRule.{IsMarkerStepOf}
use Rattle.page_words.specs.Markers.{MarkerSeatView, marker_side}
use Rattle.page_words.proofs.Bits.{mark_is_bit}

pub reads_start : BitsAreSteps → (v : MarkerSeatView) (a : ℕ) → a < v.count
    → IsMarkerStepOf v (bitmap_at v.count a) (λ n. n) (λ n. marker_found_start (marker_side v) a (bit_is_set n (a % 64)))
reads_start law v a below = record {
  step = λ number. Bit number a;
  makes = λ n. n;
  law = law (marker_side v) a below;
  same = λ n small. refl;
  out = λ out n. out;
}

pub reads_stop : PollsAreSteps → (v : MarkerSeatView) (count : ℕ) → count ≡ v.count
    → IsMarkerStepOf v (count + count / 64) (λ n. n) (λ n. marker_polled (marker_side v) (eqb n 1))
reads_stop law v count same =
    subst (λ n. IsMarkerStepOf v (stop_at n) (λ n. n) (λ n. marker_polled (marker_side v) (eqb n 1))) (sym same)
    (record {
      step = λ number. Poll number;
      makes = λ n. n;
      law = law (marker_side v);
      same = λ n small. refl;
      out = λ out n. out;
    })

pub reads_header : LooksAreSteps → (v : MarkerSeatView) (a : ℕ) → holds v.known a ≡ true → IsMarkerStepOf v a (λ n. n) (marker_looked (marker_side v) a)
reads_header law v a known = record {
  step = λ number. Look number a;
  makes = λ n. n;
  law = law (marker_side v) a known;
  same = λ n small. refl;
  out = λ out n. out;
}

pub claims_object : ClaimsAsAreSteps → (v : MarkerSeatView) (a header traced : ℕ) → holds v.known a ≡ true → v.hand ≡ None → v.last ≡ Some (a, header)
    → is_grey header ≡ true → traced ≡ word_with_traced true header
    → IsMarkerStepOf v a (exchanged header traced) (marker_claimed (marker_side v) a header)
claims_object law v a header traced known none last grey written = record {
  step = λ number. Claim number a header;
  makes = exchanged header (word_with_traced true header);
  law = law (marker_side v) a header known none last grey;
  same = λ n small. ap (λ new. exchanged header new n) (sym written);
  out = λ out n. cond_both (eqb n header) _ _ (λ (m : MarkerView). m.spent ≡ false) (λ _. out) (λ _. out);
}

pub reads_field : FieldsAreSteps → (v : MarkerSeatView) (a : ℕ) → marker_wants_word (marker_side v) a ≡ true
    → IsMarkerStepOf v a (λ n. n) (marker_read (marker_side v))
reads_field law v a wanted = record {
  step = λ number. Field number a;
  makes = λ n. n;
  law = law (marker_side v) a wanted;
  same = λ n small. refl;
  out = λ out n. out;
}

pub marks_target : MarksAsAreSteps → (v : MarkerSeatView) (a : ℕ) → marker_wants_mark (marker_side v) a ≡ true
    → IsMarkerStepOf v a (λ n. bit_or n 2) (λ n. marker_marked (marker_side v) a (has_mark n))
marks_target law v a wanted = record {
  step = λ number. MarkerMark number a;
  makes = word_with_mark true;
  law = law (marker_side v) a wanted;
  same = λ n small. mark_is_bit n;
  out = λ out n. out;
}

-- ---- where the words are

-- there is a hand that wants something
hand_of : (test : Hand → Bool) (hand : Option Hand) → wants test hand ≡ true → (h : Hand) × (hand ≡ Some h) × (test h ≡ true)
hand_of test None wanted = absurd (false≢true wanted)
hand_of test (Some h) wanted = (h, refl, wanted)

pub known_within : (v : MarkerSeatView) (a : ℕ) → IsMarkerOk (marker_side v) → holds v.known a ≡ true → a ≤ stop_at v.count
known_within v a is known = let low = is.known_below a known in omega (arith, low)

-- the word that the hand wants lies in the heap
word_within : (v : MarkerSeatView) (a : ℕ) (h : Hand) (part : Part) → IsMarkerHand (marker_side v) h → h.part ≡ part → wants_word h part a ≡ true
    → a ≤ stop_at v.count
word_within v a h Read is part wants = omega (arith, eqb-true a (h.place + h.next) wants, is.within, is.inside)
word_within v a h Value is part wants =
    let pair = is.pair_within (is.value part) in omega (arith, eqb-true a (h.place + h.next + 1) wants, pair, is.inside)
word_within v a h (Mark t) is part wants = absurd (false≢true wants)
word_within v a h (Key k) is part wants = absurd (false≢true wants)

pub wanted_within : (v : MarkerSeatView) (a : ℕ) → IsMarkerOk (marker_side v) → marker_wants_word (marker_side v) a ≡ true → a ≤ stop_at v.count
wanted_within v a is wanted =
    let some = hand_of (λ h. wants_word h h.part a) v.hand wanted in word_within v a some.0 some.0.part (is.hand_is some.0 some.1) refl some.2

-- and so does the header of its target
mark_within : (v : MarkerSeatView) (a : ℕ) (h : Hand) (part : Part) → IsMarkerHand (marker_side v) h → h.part ≡ part → wants_mark part a ≡ true
    → a ≤ stop_at v.count
mark_within v a h (Mark t) is part wants = let low = is.target t part in omega (arith, eqb-true a t wants, low)
mark_within v a h Read is part wants = absurd (false≢true wants)
mark_within v a h Value is part wants = absurd (false≢true wants)
mark_within v a h (Key k) is part wants = absurd (false≢true wants)

pub target_within : (v : MarkerSeatView) (a : ℕ) → IsMarkerOk (marker_side v) → marker_wants_mark (marker_side v) a ≡ true → a ≤ stop_at v.count
target_within v a is wanted =
    let some = hand_of (λ h. wants_mark h.part a) v.hand wanted in mark_within v a some.0 some.0.part (is.hand_is some.0 some.1) refl some.2

-- ---- what is found

-- an object that this marker traced is not grey
pub claimed_is_fresh : (v : MarkerSeatView) (a header found : ℕ) → MarkerMayFind (marker_side v) a found → is_grey header ≡ true → eqb found header ≡ true
    → holds v.traced a ≡ false
claimed_is_fresh v a header found is grey same = false_from_ne_true (holds v.traced a) (λ own.
    let bit : has_traced header ≡ true = ap has_traced (sym (eqb-true found header same)) ∙ is.traced own in
    both_ways (has_traced header) (not-true (has_traced header) (and_parts (has_mark header) (not (has_traced header)) grey).1) bit)

-- nor is one that it marked without a mark
pub marked_is_fresh : (v : MarkerSeatView) (a found : ℕ) → MarkerMayFind (marker_side v) a found → has_mark found ≡ false → holds v.marked a ≡ false
marked_is_fresh v a found is none = false_from_ne_true (holds v.marked a) (λ own. both_ways (has_mark found) none (is.marked own))

-- a marker that was told to stop is told so again
pub stop_is_known : (v : MarkerSeatView) (count found : ℕ) → count ≡ v.count → MarkerMayFind (marker_side v) (count + count / 64) found → v.halted ≡ true
    → eqb found 1 ≡ true
stop_is_known v count found same is halted = eq-eqb found 1 (is.stop (ap stop_at same) halted)
