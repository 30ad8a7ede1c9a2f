-- Objects were marked and listed while more came to be kept.
use Rattle.std.proofs.Common.{◌≡◌, ℕ, List, refl, ap, ◌∙◌, inl, inr}
use Rattle.gc_graph.specs.State.{ObjectType}
use Rattle.mark_worklist.specs.declared.marking.Marking.{Marking}
use Rattle.page_words.specs.Seat.{SeatView}
use Rattle.ephemerons.specs.Notes.{NotesState}
use Rattle.ephemerons.specs.UnderWay.{IsReadyToEnd}
use Rattle.ephemerons.specs.Fixpoint.{ListsMarks, mode_of}
use Rattle.ephemerons.specs.ListedMarks.{ListsMarks-then, lists_looked}
use Rattle.ephemerons.specs.ReadyStays.{ready_marked}
use Rattle.atomic_pause.specs.Marking.{with_may}

-- what may be kept has no part in it
lists_whatever : (u v : SeatView) (l m : Marking) (before after : List ℕ) → ListsMarks (with_may u before) l v m
    → ListsMarks (with_may u after) l (with_may v after) m
lists_whatever u v l m before after x = record {
  view = ap (λ (z : SeatView). with_may z after) x.view;
  traced = x.traced;
  no_hand = x.no_hand;
  no_pending = x.no_pending;
  marked = x.marked;
  mode = x.mode;
  overflow = x.overflow;
  told = x.told;
  kept = x.kept;
  listed = λ p there. elim (x.listed p there) [
    | inl old ↦ inl old
    | inr fresh ↦ inr (record { place = fresh.place; unmarked = fresh.unmarked; marked = fresh.marked })
  ];
  fresh = x.fresh;
  lighter = x.lighter;
}

pub scans_then : (u v w : SeatView) (l m n : Marking) → ListsMarks (with_may u v.may) l v m → ListsMarks (with_may v w.may) m w n
    → ListsMarks (with_may u w.may) l w n
scans_then u v w l m n x y =
    ListsMarks-then (with_may u w.may) (with_may v w.may) w l m n (lists_whatever u v l m v.may w.may x) y

pub scans_none : (u : SeatView) (l : Marking) → ListsMarks (with_may u u.may) l u l
scans_none u l = lists_looked u u l refl

ready_whatever : (types : List ObjectType) (u : SeatView) (m : Marking) (groups : List NotesState) (may : List ℕ) → IsReadyToEnd types u m groups
    → IsReadyToEnd types (with_may u may) m groups
ready_whatever types u m groups may h = record {
  on = h.on;
  told = h.told;
  alone = record { no_hand = h.alone.no_hand; no_pending = h.alone.no_pending; none_lent = h.alone.none_lent };
  whole = h.whole;
  listed = h.listed;
  noted = h.noted;
  holders = h.holders;
  accounted = λ fine. (let known = h.accounted fine in record { grey = known.grey; pairs = known.pairs });
  own = h.own;
}

-- marking can be brought to its end yet where the roots of a pause are marked
pub roots_ready : (types : List ObjectType) (v u r w : SeatView) (l m o n : Marking) (groups : List NotesState) → ListsMarks v l u m
    → ListsMarks (with_may u r.may) m r o → ListsMarks (with_may r w.may) o w n → IsReadyToEnd types v l groups → IsReadyToEnd types w n groups
roots_ready types v u r w l m o n groups visit share scan h =
    ready_marked types (with_may u w.may) w m n groups (scans_then u r w m o n share scan)
    (ready_whatever types u m groups w.may (ready_marked types v u l m groups visit h))

-- and the list has as many shares as it had
pub roots_mode : (v u r w : SeatView) (l m o n : Marking) → ListsMarks v l u m → ListsMarks (with_may u r.may) m r o → ListsMarks (with_may r w.may) o w n
    → mode_of n ≡ mode_of l
roots_mode v u r w l m o n visit share scan = scan.mode ∙ share.mode ∙ visit.mode
