-- Marks and the list.
use Rattle.std.proofs.Common.{◌≡◌, ℕ, ◌+◌, ◌-◌, ◌^◌, ◌<◌, ◌≤◌, true, false, None, refl, sym, ap, ◌∙◌, subst, inl, inr, arith}
use Rattle.std.specs.List.{Contains, range_with_len}
use Rattle.std.proofs.lemmas.Bool.{cases_eq}
use Rattle.mark_worklist.specs.declared.marking.Marking.{Marking}
use Rattle.marker_core.specs.Bodies.{IsPlace, holds}
use Rattle.marker_core.specs.Hands.{hand_after_mark, each_hand}
use Rattle.marker_core.specs.SeatSteps.{settled}
use Rattle.page_words.specs.Roles.{kind_lists}
use Rattle.page_words.specs.Seat.{SeatView, IsView, marked_at}
use Rattle.mark_worklist.specs.Refusals.{refusals_of}
use Rattle.mark_worklist.specs.Told.{told_same}
use Rattle.pair_notes.specs.Marking.{heap_and_marks, heap_alone}
use Rattle.pair_notes.specs.InHand.{IsTracing, MayMark}
use Rattle.ephemerons.specs.Fixpoint.{ListsMarks, IsListed, IsNewlyMarked, unmarked_count, weight_of}
use Rattle.ephemerons.proofs.Lists.{holds_push_old, holds_push_cases}
use Rattle.gc_graph.specs.Members.{to_range, pushed_is_held}
use Rattle.ephemerons.proofs.Weights.{one_fewer}
use Rattle.page_words.specs.BodyPlaces.{place_below}
use Rattle.page_words.specs.PlaceTests.{place_of_test}

-- what may be kept is an object
pub may_place : (v : SeatView) (p : ℕ) → IsView v → v.on ≡ true → holds v.may p ≡ true → IsPlace v.bodies p
may_place v p view on may = place_of_test v.bodies p ((view.marking on).are_places p may)

pub may_small : (v : SeatView) (w : ℕ) → IsView v → v.on ≡ true → MayMark v w → w < 2 ^ 32
may_small v w view on may = elim (cases_eq w 0) [
  | inl null ↦ omega (arith, null)
  | inr some ↦
      (let is : w ≡ w - 1 + 1 = omega arith in
      omega (arith, is, view.count, place_below v (w - 1) view (may_place v (w - 1) view on (may (w - 1) is))))
]

-- one object is marked that was not
fewer : (v : SeatView) (a : ℕ) → IsView v → IsPlace v.bodies a → holds v.marked a ≡ false → unmarked_count (marked_at v a false) + 1 ≤ unmarked_count v
fewer v a view place fresh = one_fewer (range_with_len 0 v.count) v.marked a (to_range 0 v.count a (omega arith) (omega (arith, place_below v a view place))) fresh

hand_stays : (v : SeatView) (a : ℕ) → v.hand ≡ None → each_hand (hand_after_mark (kind_lists v.types) a) v.hand ≡ None
hand_stays v a none = ap (each_hand (hand_after_mark (kind_lists v.types) a)) none

pub mark_lists : (v new : SeatView) (m n : Marking) (a : ℕ) → IsView v → IsPlace v.bodies a → new ≡ marked_at v a false → holds v.marked a ≡ false
    → IsListed m n a → ListsMarks v m new n × (weight_of new n < weight_of v m)
mark_lists v new m n a view place is fresh listed =
    subst (λ (w : SeatView). ListsMarks v m w n × (weight_of w n < weight_of v m)) (sym is) (
      record {
        view = refl;
        traced = refl;
        no_hand = hand_stays v a;
        no_pending = λ none. ap (λ t. settled t a) none;
        marked = λ p h. holds_push_old v.marked a p h;
        mode = listed.mode;
        overflow = listed.overflow;
        told = listed.told;
        kept = listed.kept;
        listed = λ p h. elim (listed.listed p h) [
          | inl before ↦ inl before
          | inr here ↦ inr (subst (IsNewlyMarked v (marked_at v a false)) here (record { place = place; unmarked = fresh; marked = pushed_is_held v.marked a }))
        ];
        fresh = λ fine p h. elim (holds_push_cases v.marked a p h) [
          | inl before ↦ inl before
          | inr here ↦ inr (subst (Contains n.list.items) here (listed.there fine))
        ];
        lighter = omega (arith, fewer v a view place fresh, listed.length);
      },
      omega (arith, fewer v a view place fresh, listed.length),
    )

-- objects were only looked at: nothing was marked, and nothing was listed
pub looks_list : (u v : SeatView) (m : Marking) → heap_and_marks v ≡ heap_and_marks u → v.pending ≡ u.pending → (u.hand ≡ None → v.hand ≡ None) → ListsMarks u m v m
looks_list u v m same pending hand = record {
  view = ap heap_alone same;
  traced = ap (λ (z : SeatView). z.traced) same;
  no_hand = hand;
  no_pending = λ none. pending ∙ none;
  marked = λ p h. subst (λ l. holds l p ≡ true) (sym (ap (λ (z : SeatView). z.marked) same)) h;
  mode = refl;
  overflow = λ fine. fine;
  told = told_same (refusals_of m);
  kept = λ p h. h;
  listed = λ p h. inl h;
  fresh = λ fine p h. inl (subst (λ l. holds l p ≡ true) (ap (λ (z : SeatView). z.marked) same) h);
  lighter = (let no_more : unmarked_count v ≡ unmarked_count u = ap unmarked_count same in omega arith);
}

-- what marking leaves as it is
pub same_bodies : (u v : SeatView) (l m : Marking) → ListsMarks u l v m → v.bodies ≡ u.bodies
same_bodies u v l m x = ap (λ (z : SeatView). z.bodies) x.view

pub same_heap : (u v : SeatView) (l m : Marking) → ListsMarks u l v m → v.heap ≡ u.heap
same_heap u v l m x = ap (λ (z : SeatView). z.heap) x.view

pub same_types : (u v : SeatView) (l m : Marking) → ListsMarks u l v m → v.types ≡ u.types
same_types u v l m x = ap (λ (z : SeatView). z.types) x.view

pub still_tracing : (u v : SeatView) (l m : Marking) → ListsMarks u l v m → IsTracing u → IsTracing v
still_tracing u v l m x tracing = record {
  on = ap (λ (z : SeatView). z.on) x.view ∙ tracing.on;
  no_pending = x.no_pending tracing.no_pending;
  none_lent = ap (λ (z : SeatView). z.lent) x.view ∙ tracing.none_lent;
}
