-- What each call does is a step of the machine.
use Rattle.std.proofs.Common.{Option, None, refl, ◌++◌, ◌||◌, ◌≡◌, ℕ, ◌+◌, ◌*◌, ◌/◌, ◌%◌, ◌^◌, ◌<◌, List, [], true, false, sym, ap, ◌∙◌, subst, Bool, eqb, bit_or, bit_and, ◌-◌}
use Rattle.std.proofs.lemmas.Bool.{cond_both, true≢false}
use Rattle.object_headers.specs.Layout.{bit_of, word_with_mark, word_with_traced}
use Rattle.marker_core.specs.declared.states.Body.{Body}
use Rattle.marker_core.specs.declared.states.Hand.{Hand}
use Rattle.marker_core.specs.declared.states.MutatorView.{MutatorView}
use Rattle.marker_core.specs.declared.states.Why.{Why}
use Rattle.marker_core.specs.declared.states.Why.TheVariants.{Read, Weak, Trace}
use Rattle.marker_core.specs.declared.steps.CoreStep.TheVariants.{Load, Fill, Store, Publish, Retract, Mark, Header, Stop}
use Rattle.marker_core.specs.Bodies.{IsInBody, IsPlace, holds}
use Rattle.marker_core.specs.Hands.{wants, wants_word, wants_key, each_hand, hand_looked, hand_read, noted_pair}
use Rattle.marker_core.specs.Layout.{bitmap_at, stop_at, has_mark}
use Rattle.marker_core.specs.SeatSteps.{seat_can_load, seat_loaded, seat_can_store, seat_stored, seat_filled, seat_published, seat_retracted, seat_marked, seat_claimed, seat_unmarked, seat_ended, seat_looked}
use Rattle.marker_core.specs.SeatLaws.{IsReadyToPublish, IsGreyHeader, exchanged, seat_ends, LoadsAreSteps, FillsAreSteps, StoresAreSteps, PublishesAreSteps, RetractsAreSteps, MarksAreSteps, ClaimsAreSteps, UnmarksAreSteps, BeginsAreSteps, StopsAreSteps}
use Rattle.page_words.specs.Roles.{kind_lists}
use Rattle.page_words.specs.Rule.{IsStepOf}
use Rattle.page_words.specs.Seat.{SeatView, IsView, IsUnnamed, MaySetStop, side, stop_set, begun, stopped}
use Rattle.page_words.proofs.Allowed.{fill_allowed, retract_allowed, mark_allowed, claim_allowed, unmark_allowed, begin_allowed, end_allowed}
use Rattle.page_words.proofs.Bits.{bit_at_place, mark_is_bit, bits_are_cleared}

pub fills : FillsAreSteps → (v : SeatView) (a w : ℕ) → a < v.count → (IsInBody v.bodies a → ⊥)
    → IsStepOf v a (λ _. w) (λ _. seat_filled (side v) a w)
fills law v a w below outside = record {
  step = Fill a w;
  makes = λ _. w;
  law = law (side v) a w (fill_allowed v a below outside);
  same = λ n small. refl;
  quiet = λ is n. is.none_noted;
}

pub stores : StoresAreSteps → (v : SeatView) (a w : ℕ) → seat_can_store (side v) a w ≡ true → IsStepOf v a (λ _. w) (λ _. seat_stored (side v) a w)
stores law v a w can = record {
  step = Store a w;
  makes = λ _. w;
  law = law (side v) a w can;
  same = λ n small. refl;
  quiet = λ is n. is.none_noted;
}

-- ---- a load

-- nothing in hand wants no word
no_hand_wants : (test : Hand → Bool) (hand : Option Hand) → hand ≡ None → wants test hand ≡ true → ⊥
no_hand_wants test hand none wanted = true≢false (sym (sym (ap (wants test) none) ∙ wanted))

-- to trace leaves whether marking goes on
traced_on : (v : SeatView) (a n : ℕ) → (seat_loaded (side v) a Trace n).on ≡ v.on
traced_on v a n =
    cond_both (wants (λ h. wants_key h.part a) v.hand)
    (record (seat_looked (side v) a n) { hand = each_hand (hand_looked (kind_lists v.types) n) v.hand; noted = v.noted ++ noted_pair n v.hand })
    (record (seat_looked (side v) a n) { hand = each_hand (hand_read (kind_lists v.types) n) v.hand })
    (λ (m : MutatorView). m.on ≡ v.on) (λ _. refl) (λ _. refl)

load_is_quiet : (v : SeatView) (a : ℕ) (why : Why) → seat_can_load (side v) a why ≡ true → IsView v → (n : ℕ) → (seat_loaded (side v) a why n).on ≡ false
    → (seat_loaded (side v) a why n).noted ≡ []
load_is_quiet v a Read can is n = is.none_noted
load_is_quiet v a Weak can is n = is.none_noted
load_is_quiet v a Trace can is n = λ off.
    absurd (no_hand_wants (λ h. wants_word h h.part a || wants_key h.part a) v.hand (is.at_rest (sym (traced_on v a n) ∙ off)).no_hand can)

pub loads : LoadsAreSteps → (v : SeatView) (a : ℕ) (why : Why) → seat_can_load (side v) a why ≡ true → IsStepOf v a (λ n. n) (seat_loaded (side v) a why)
loads law v a why can = record {
  step = Load a why;
  makes = λ n. n;
  law = law (side v) a why can;
  same = λ n small. refl;
  quiet = load_is_quiet v a why can;
}

-- ---- start bits

pub publishes : PublishesAreSteps → (v : SeatView) (b : Body) (count a : ℕ) → IsReadyToPublish (side v) b → b.place ≡ a → count ≡ v.count
    → IsStepOf v (count + a / 64) (λ n. bit_or n (1 * 2 ^ (a % 64) % 18446744073709551616)) (λ _. seat_published (side v) b)
publishes law v b count a ready place same =
    let at : bitmap_at v.count b.place ≡ count + a / 64 = ap (λ n. bitmap_at n b.place) (sym same) ∙ ap (bitmap_at count) place in
    subst (λ x. IsStepOf v x (λ n. bit_or n (1 * 2 ^ (a % 64) % 18446744073709551616)) (λ _. seat_published (side v) b)) at
    (record {
      step = Publish b.place;
      makes = λ n. bit_or n (2 ^ (b.place % 64));
      law = law (side v) b ready;
      same = λ n small. ap (λ p. bit_or n (2 ^ (p % 64))) place ∙ ap (bit_or n) (sym (bit_at_place a));
      quiet = λ is n. is.none_noted;
    })

pub retracts : RetractsAreSteps → (v : SeatView) (a : ℕ) → v.on ≡ false → holds v.dead a ≡ true → IsUnnamed v.types v.bodies v.dead a
    → IsStepOf v (bitmap_at v.count a) (λ n. bit_and n (18446744073709551615 - 2 ^ (a % 64))) (λ _. seat_retracted (side v) a)
retracts law v a off dead unnamed = record {
  step = Retract a;
  makes = λ n. bit_and n (18446744073709551615 - 2 ^ (a % 64));
  law = law (side v) a (retract_allowed v a off dead unnamed);
  same = λ n small. refl;
  quiet = λ is n. is.none_noted;
}

-- ---- marks

pub marks : MarksAreSteps → (v : SeatView) (a : ℕ) → v.on ≡ true → IsPlace v.bodies a → holds v.may a ≡ true
    → IsStepOf v a (λ n. bit_or n 2) (λ n. seat_marked (side v) a (has_mark n))
marks law v a on place may = record {
  step = Mark a;
  makes = word_with_mark true;
  law = law (side v) a (mark_allowed v a on place may);
  same = λ n small. mark_is_bit n;
  quiet = λ is n. is.none_noted;
}

pub claims : ClaimsAreSteps → (v : SeatView) (a header traced : ℕ) → v.on ≡ true → v.hand ≡ None → IsPlace v.bodies a → IsGreyHeader (side v) a header
    → traced ≡ word_with_traced true header → IsStepOf v a (exchanged header traced) (seat_claimed (side v) a)
claims law v a header traced on empty place form written = record {
  step = Header a true;
  makes = exchanged header (word_with_traced true header);
  law = law (side v) a header (claim_allowed v a on empty place) form;
  same = λ n small. ap (λ new. exchanged header new n) (sym written);
  quiet = λ is n. is.none_noted;
}

pub unmarks : UnmarksAreSteps → (v : SeatView) (a : ℕ) → v.on ≡ false → IsPlace v.bodies a
    → IsStepOf v a (λ n. bit_and n 18446744073709551609) (λ _. seat_unmarked (side v) a)
unmarks law v a off place = record {
  step = Header a false;
  makes = λ n. word_with_traced false (word_with_mark false n);
  law = law (side v) a (unmark_allowed v a off place);
  same = bits_are_cleared;
  quiet = λ is n. is.none_noted;
}

-- ---- the stop word

begins : BeginsAreSteps → (v : SeatView) (roots : List ℕ) → IsView v → MaySetStop v false
    → IsStepOf v (stop_at v.count) (λ _. 0) (λ _. (begun v roots).mutator)
begins law v roots is may = record {
  step = Stop false roots;
  makes = λ _. 0;
  law = law (side v) roots (begin_allowed v is (is.none_noted may.0.off) may.0 may.1);
  same = λ n small. refl;
  quiet = λ _ n off. absurd (true≢false off);
}

ends : StopsAreSteps → (v : SeatView) (roots : List ℕ) → MaySetStop v true → IsStepOf v (stop_at v.count) (λ _. 1) (λ _. (stopped v).mutator)
ends law v roots may = record {
  step = Stop true roots;
  makes = λ _. 1;
  law = law (side v) roots (end_allowed v may);
  same = λ n small. refl;
  quiet = λ is n.
      cond_both (seat_ends (side v)) (seat_ended (side v)) v.mutator (λ (m : MutatorView). m.on ≡ false → m.noted ≡ []) (λ _ _. refl)
      (λ _. is.none_noted);
}

pub stops : BeginsAreSteps → StopsAreSteps → (v : SeatView) (roots : List ℕ) (count w : ℕ) (on : Bool) → IsView v → MaySetStop v on → count ≡ v.count
    → w ≡ bit_of on → IsStepOf v (count + count / 64) (λ _. w) (λ _. (stop_set v roots (eqb w 1)).mutator)
stops begin stop v roots count w true is may same value =
    subst (λ n. IsStepOf v (n + n / 64) (λ _. w) (λ _. (stop_set v roots (eqb w 1)).mutator)) (sym same)
    (subst (λ n. IsStepOf v (stop_at v.count) (λ _. n) (λ _. (stop_set v roots (eqb n 1)).mutator)) (sym value) (ends stop v roots may))
stops begin stop v roots count w false is may same value =
    subst (λ n. IsStepOf v (n + n / 64) (λ _. w) (λ _. (stop_set v roots (eqb w 1)).mutator)) (sym same)
    (subst (λ n. IsStepOf v (stop_at v.count) (λ _. n) (λ _. (stop_set v roots (eqb n 1)).mutator)) (sym value) (begins begin v roots is may))
