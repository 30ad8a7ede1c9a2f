-- What a load to trace makes of the hand, and that it leaves the heap and its marks.
use Rattle.std.proofs.Common.{rules, ◌≡◌, ℕ, zero, suc, ◌+◌, ◌-◌, Bool, true, false, cond, eqb, List, [], ◌∷◌, ◌++◌, Option, Some, refl, sym, ap, ◌∙◌, arith}
use Rattle.std.proofs.lemmas.Bool.{true≢false, eq-eqb, cond-true, cond-false, false_from_ne_true}
use Rattle.gc_graph.specs.declared.kind.Kind.{Kind}
use Rattle.marker_core.specs.declared.states.Hand.{Hand}
use Rattle.marker_core.specs.declared.states.MutatorView.{MutatorView}
use Rattle.marker_core.specs.declared.states.Part.{Part}
use Rattle.marker_core.specs.declared.states.Part.TheVariants.{Read, Mark, Key, Value}
use Rattle.marker_core.specs.declared.states.Why.TheVariants.{Trace}
use Rattle.marker_core.specs.Hands.{hand_read, hand_looked, hand_moved, hand_after_mark, wants, wants_word, wants_key, part_found, role_at_hand, noted_pair, each_hand}
use Rattle.marker_core.specs.SeatSteps.{seat_looked}
use Rattle.page_words.specs.Roles.{kind_lists}
use Rattle.mark_worklist.specs.declared.marking.Marking.{Marking}
use Rattle.marker_core.specs.Bodies.{holds, is_place, IsPlace}
use Rattle.page_words.specs.PlaceTests.{place_of_test, test_of_place}
use Rattle.page_words.specs.Seat.{SeatView, IsView, side, loaded, with_mutator}
use Rattle.pair_notes.specs.Marking.{heap_and_marks}
use Rattle.pair_notes.specs.InHand.{IsAtTarget, moved_on}
use Rattle.ephemerons.specs.Fixpoint.{ListsMarks}
use Rattle.ephemerons.proofs.MarkSteps.{looks_list}

module _ (v : SeatView) (a w : ℕ) where
  -- the view's part of the machine, where the hand took the header of its key, and where it took a word
  abbrev looked : MutatorView
  looked = seat_looked (side v) a w

  abbrev with_key : MutatorView
  with_key = record looked { hand = each_hand (hand_looked (kind_lists v.types) w) v.hand; noted = v.noted ++ noted_pair w v.hand }

  abbrev with_target : MutatorView
  with_target = record looked { hand = each_hand (hand_read (kind_lists v.types) w) v.hand }

  abbrev is_key : Option Hand → Bool
  is_key hand = wants (λ h. wants_key h.part a) hand

  either_marks : (b : Bool) → heap_and_marks (with_mutator v (cond b with_key with_target)) ≡ heap_and_marks v
  either_marks true = refl
  either_marks false = refl

  either_pending : (b : Bool) → (cond b with_key with_target).pending ≡ v.pending
  either_pending true = refl
  either_pending false = refl

  either_looked : (b : Bool) → (cond b with_key with_target).looked ≡ looked.looked
  either_looked true = refl
  either_looked false = refl

  -- a header that was loaded is looked at, and no field word is
  pub load_looked : (loaded v a Trace w).looked ≡ cond (is_place v.bodies a) (v.looked ++ a ∷ []) v.looked
  load_looked = either_looked (is_key v.hand)

  pub load_marks : heap_and_marks (loaded v a Trace w) ≡ heap_and_marks v
  load_marks = either_marks (is_key v.hand)

  pub load_pending : (loaded v a Trace w).pending ≡ v.pending
  load_pending = either_pending (is_key v.hand)

  pub load_of_word : (h : Hand) → v.hand ≡ Some h → wants_key h.part a ≡ false → (loaded v a Trace w).hand ≡ hand_read (kind_lists v.types) w h
  load_of_word h is other =
      ap (λ b. (cond b with_key with_target).hand) (ap is_key is ∙ other) ∙ ap (each_hand (hand_read (kind_lists v.types) w)) is

  pub load_of_key : (h : Hand) → v.hand ≡ Some h → wants_key h.part a ≡ true → (loaded v a Trace w).hand ≡ hand_looked (kind_lists v.types) w h
  load_of_key h is key =
      ap (λ b. (cond b with_key with_target).hand) (ap is_key is ∙ key) ∙ ap (each_hand (hand_looked (kind_lists v.types) w)) is

  -- the pair of a key in hand is noted where that has no mark, and nothing else is
  pub noted_by_word : (h : Hand) → v.hand ≡ Some h → wants_key h.part a ≡ false → (loaded v a Trace w).noted ≡ v.noted
  noted_by_word h is other = ap (λ b. (cond b with_key with_target).noted) (ap is_key is ∙ other)

  pub noted_by_key : (h : Hand) → v.hand ≡ Some h → wants_key h.part a ≡ true → (loaded v a Trace w).noted ≡ v.noted ++ noted_pair w (Some h)
  noted_by_key h is key = ap (λ b. (cond b with_key with_target).noted) (ap is_key is ∙ key) ∙ ap (λ hand. v.noted ++ noted_pair w hand) is

-- a hand that wants a word wants no key
no_key : (h : Hand) (part : Part) (a : ℕ) → wants_word h part a ≡ true → wants_key part a ≡ false
no_key h Read a wanted = refl
no_key h (Mark t) a wanted = refl
no_key h (Key k) a wanted = absurd (true≢false (sym wanted))
no_key h Value a wanted = refl

-- ---- the view after such a load

module _ (v u : SeatView) (a w : ℕ) (is : u ≡ loaded v a Trace w) where
  pub read_marks : heap_and_marks u ≡ heap_and_marks v
  read_marks = ap heap_and_marks is ∙ load_marks v a w

  pub read_pending : u.pending ≡ v.pending
  read_pending = ap (λ (x : SeatView). x.pending) is ∙ load_pending v a w

  pub read_beside : (IsPlace v.bodies a → ⊥) → u.looked ≡ v.looked
  read_beside out =
      ap (λ (x : SeatView). x.looked) is ∙ load_looked v a w
      ∙ cond-false (is_place v.bodies a) (v.looked ++ a ∷ []) v.looked (false_from_ne_true (is_place v.bodies a) (λ told. out (place_of_test v.bodies a told)))

  pub read_header : IsPlace v.bodies a → u.looked ≡ v.looked ++ a ∷ []
  read_header at =
      ap (λ (x : SeatView). x.looked) is ∙ load_looked v a w
      ∙ cond-true (is_place v.bodies a) (v.looked ++ a ∷ []) v.looked (test_of_place v.bodies a at)

  pub read_lists : (h : Hand) → v.hand ≡ Some h → (m : Marking) → ListsMarks v m u m
  read_lists h held m = looks_list v u m read_marks read_pending (λ none. cc)

-- the word that the hand wanted named an object
pub word_named : (v : SeatView) (a w t : ℕ) (h : Hand) (part : Part) → v.hand ≡ Some h → wants_key h.part a ≡ false
    → part_found (role_at_hand (kind_lists v.types) h) h.part t ≡ part → w ≡ t + 1 → (loaded v a Trace w).hand ≡ Some (record h { part = part })
word_named v a w t h part is other finds names =
    let some : eqb w 0 ≡ false = search (rules, names) in
    let place : w - 1 ≡ t = omega (arith, names) in
    load_of_word v a w h is other
    ∙ cond-false (eqb w 0) (hand_moved (kind_lists v.types) h) (Some (record h { part = part_found (role_at_hand (kind_lists v.types) h) h.part (w - 1) })) some
    ∙ ap (λ p. Some (record h { part = p })) (ap (part_found (role_at_hand (kind_lists v.types) h) h.part) place ∙ finds)

-- ---- a word whose target is marked

-- it named nothing
pub target_null : (v : SeatView) (a : ℕ) → (at : IsAtTarget v a) → (loaded v a Trace 0).hand ≡ moved_on v
target_null v a at =
    load_of_word v a 0 at.hand at.is (no_key at.hand at.hand.part a at.wants) ∙ sym (ap (each_hand (hand_moved (kind_lists v.types))) at.is)

-- it named an object
pub target_named : (v : SeatView) (a w t : ℕ) (at : IsAtTarget v a) → w ≡ t + 1 → (loaded v a Trace w).hand ≡ Some (record at.hand { part = Mark t })
target_named v a w t at is = word_named v a w t at.hand (Mark t) at.is (no_key at.hand at.hand.part a at.wants) (at.target t) is

-- which was marked then
mark_moves : (types : List (List Kind)) (h : Hand) (t : ℕ) → hand_after_mark types t (record h { part = Mark t }) ≡ hand_moved types h
mark_moves types h t = cond-true (eqb t t) (hand_moved types h) (Some (record h { part = Mark t })) (eq-eqb t t refl)

pub target_moves : (v u n : SeatView) (a w : ℕ) → IsAtTarget v a → u ≡ loaded v a Trace w → (w ≡ 0 → n ≡ u)
    → ((t : ℕ) → w ≡ t + 1 → n.hand ≡ each_hand (hand_after_mark (kind_lists u.types) t) u.hand) → n.hand ≡ moved_on v
target_moves v u n a zero at is null marked = ap (λ (x : SeatView). x.hand) (null refl ∙ is) ∙ target_null v a at
target_moves v u n a (suc t) at is null marked =
    let more : suc t ≡ t + 1 = omega arith in
    let types : u.types ≡ v.types = ap (λ (x : SeatView). x.types) is in
    marked t more
    ∙ ap (λ ts. each_hand (hand_after_mark (kind_lists ts) t) u.hand) types
    ∙ ap (each_hand (hand_after_mark (kind_lists v.types) t)) (ap (λ (x : SeatView). x.hand) is ∙ target_named v a (suc t) t at more)
    ∙ mark_moves (kind_lists v.types) at.hand t
    ∙ sym (ap (each_hand (hand_moved (kind_lists v.types))) at.is)

-- no pair is noted
pub target_notes_none : (v u : SeatView) (a w : ℕ) → IsAtTarget v a → u ≡ loaded v a Trace w → u.noted ≡ v.noted
target_notes_none v u a w at is =
    ap (λ (x : SeatView). x.noted) is ∙ noted_by_word v a w at.hand at.is (no_key at.hand at.hand.part a at.wants)

-- and may be
pub target_may : (v u : SeatView) (a w t : ℕ) → IsView u → v.on ≡ true → IsAtTarget v a → u ≡ loaded v a Trace w → w ≡ t + 1 → holds u.may t ≡ true
target_may v u a w t view on at is names =
    let going : u.on ≡ true = ap (λ (x : SeatView). x.on) (read_marks v u a w is) ∙ on in
    (((view.marking going).hand (record at.hand { part = Mark t }) (ap (λ (x : SeatView). x.hand) is ∙ target_named v a w t at names)).target t refl).1
