-- What was marked and listed in two goes was in one; whoever was still or alone is so yet; and looks mark and list nothing.
use Rattle.std.proofs.Common.{ℕ, refl, ap, ◌∙◌, sym, subst, inl, inr, arith}
use Rattle.std.proofs.lemmas.Bool.{true≢false, false_from_ne_true}
use Rattle.mark_worklist.specs.Refusals.{refusals_of}
use Rattle.mark_worklist.specs.Told.{told_same, told_then}
use Rattle.mark_worklist.specs.declared.marking.Marking.{Marking}
use Rattle.marker_core.specs.Bodies.{IsPlace, holds}
use Rattle.page_words.specs.Seat.{SeatView, IsAlone, IsStill, OnlyLooked}
use Rattle.ephemerons.specs.Fixpoint.{ListsMarks, IsNewlyMarked, weight_of}
use Rattle.pair_notes.specs.Marking.{heap_alone}

fresh_after : (u v w : SeatView) (m n : Marking) (p : ℕ) → ListsMarks v m w n → IsNewlyMarked u v p → IsNewlyMarked u w p
fresh_after u v w m n p y fresh = record { place = fresh.place; unmarked = fresh.unmarked; marked = y.marked p fresh.marked }

fresh_before : (u v w : SeatView) (l m : Marking) (p : ℕ) → ListsMarks u l v m → IsNewlyMarked v w p → IsNewlyMarked u w p
fresh_before u v w l m p x fresh = record {
  place = subst (λ bs. IsPlace bs p) (ap (λ (z : SeatView). z.bodies) x.view) fresh.place;
  unmarked = false_from_ne_true (holds u.marked p) (λ early. true≢false (sym (x.marked p early) ∙ fresh.unmarked));
  marked = fresh.marked;
}

-- what was marked and listed in two goes, one after the other, was in one
pub ListsMarks-then : (u v w : SeatView) (l m n : Marking) → ListsMarks u l v m → ListsMarks v m w n → ListsMarks u l w n
ListsMarks-then u v w l m n x y = record {
  view = y.view ∙ x.view;
  traced = y.traced ∙ x.traced;
  no_hand = λ none. y.no_hand (x.no_hand none);
  no_pending = λ none. y.no_pending (x.no_pending none);
  marked = λ p h. y.marked p (x.marked p h);
  mode = y.mode ∙ x.mode;
  overflow = λ h. x.overflow (y.overflow h);
  told = told_then (refusals_of l) (refusals_of m) (refusals_of n) x.told y.told;
  kept = λ p h. y.kept p (x.kept p h);
  listed = λ p h. elim (y.listed p h) [
    | inl before ↦ elim (x.listed p before) [ inl first ↦ inl first | inr fresh ↦ inr (fresh_after u v w m n p y fresh) ]
    | inr fresh ↦ inr (fresh_before u v w l m p x fresh)
  ];
  fresh = λ fine p h. elim (y.fresh fine p h) [
    | inl before ↦ elim (x.fresh (y.overflow fine) p before) [ inl first ↦ inl first | inr there ↦ inr (y.kept p there) ]
    | inr there ↦ inr there
  ];
  lighter = omega (arith, x.lighter, y.lighter);
}

pub still_yet : (u v : SeatView) (l m : Marking) → ListsMarks u l v m → IsStill u → IsStill v
still_yet u v l m x still = record { no_hand = x.no_hand still.no_hand; no_pending = x.no_pending still.no_pending }

pub alone_still : (u v : SeatView) (l m : Marking) → ListsMarks u l v m → IsAlone u → IsAlone v
alone_still u v l m x alone = record {
  no_hand = x.no_hand alone.no_hand;
  no_pending = x.no_pending alone.no_pending;
  none_lent = ap (λ (z : SeatView). z.lent) x.view ∙ alone.none_lent;
}

-- headers were looked at
pub lists_looked : (u v : SeatView) (l : Marking) → OnlyLooked u v → ListsMarks u l v l
lists_looked u v l same = record {
  view = ap heap_alone same;
  traced = ap (λ (x : SeatView). x.traced) same;
  no_hand = λ none. ap (λ (x : SeatView). x.hand) same ∙ none;
  no_pending = λ none. ap (λ (x : SeatView). x.pending) same ∙ none;
  marked = λ p h. ap (λ (x : SeatView). holds x.marked p) same ∙ h;
  mode = refl;
  overflow = λ h. h;
  told = told_same (refusals_of l);
  kept = λ p h. h;
  listed = λ p h. inl h;
  fresh = λ fine p h. inl (ap (λ (x : SeatView). holds x.marked p) (sym same) ∙ h);
  lighter = omega (arith, ap (λ (x : SeatView). weight_of x l) same);
}
