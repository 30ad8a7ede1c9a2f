-- Stages of which one follows on the other by marks that were listed.
use Rattle.std.proofs.Common.{◌≡◌, ℕ, ◌<◌, true, not, List, None, refl, sym, ap, ◌∙◌, subst, inl, inr, arith}
use Rattle.std.specs.List.{Contains, count_by, range_with_len}
use Rattle.gc_graph.specs.State.{ObjectType}
use Rattle.mark_worklist.specs.Told.{told_same}
use Rattle.mark_worklist.specs.declared.marking.Marking.{Marking}
use Rattle.marker_core.specs.Bodies.{IsPlace, holds}
use Rattle.marker_core.specs.declared.states.Body.{Body}
use Rattle.page_words.specs.Seat.{SeatView}
use Rattle.pair_notes.specs.BodyGraph.{AreReferences}
use Rattle.pair_notes.specs.Marking.{heap_and_marks, GrowsWithin, traced_count}
use Rattle.pair_notes.specs.Notes.{NotesState, group_at, refusals_in, IsNote}
use Rattle.ephemerons.specs.Fixpoint.{Mode, stage, weight, IsGround, Works, ListsMarks, without_looks, untraced_places, weight_of}
use Rattle.ephemerons.specs.ListedMarks.{alone_still}
use Rattle.ephemerons.specs.ReadyStays.{marks_accounted}

untraced_same : (v w : SeatView) (m n : Marking) → ListsMarks v m w n → untraced_places w ≡ untraced_places v
untraced_same v w m n x =
    ap (λ k. count_by (λ p. not (holds w.traced p)) (range_with_len 0 k)) (ap (λ (z : SeatView). z.count) x.view)
    ∙ ap (λ ts. count_by (λ p. not (holds ts p)) (range_with_len 0 v.count)) x.traced

count_same : (v w : SeatView) (m n : Marking) → ListsMarks v m w n → traced_count w ≡ traced_count v
count_same v w m n x =
    ap (λ bs. count_by (λ (b : Body). holds w.traced b.place) bs) (ap (λ (z : SeatView). z.bodies) x.view)
    ∙ ap (λ ts. count_by (λ (b : Body). holds ts b.place) v.bodies) x.traced

pub marks_work : (types : List ObjectType) (v w : SeatView) (m n : Marking) (groups : List NotesState) (t : ℕ) → ListsMarks v m w n → GrowsWithin types v w
    → Works types None (stage v m groups t) (stage w n groups t)
marks_work types v w m n groups t x within =
    record {
      kept = record {
        heap = ap (λ (z : SeatView). z.heap) x.view;
        types = ap (λ (z : SeatView). z.types) x.view;
        on = ap (λ (z : SeatView). z.on) x.view;
        bodies = ap (λ (z : SeatView). z.bodies) x.view;
        filled = ap (λ (z : SeatView). z.filled) x.view;
        dead = ap (λ (z : SeatView). z.dead) x.view;
        may = ap (λ (z : SeatView). z.may) x.view;
        lent = ap (λ (z : SeatView). z.lent) x.view;
        marked = x.marked;
        traced = λ p h. subst (λ l. holds l p ≡ true) (sym x.traced) h;
      };
      within = within;
      mode = x.mode;
      unrefused = λ fine. record { pushes = x.overflow fine.pushes; notes = fine.notes };
      told = x.told;
      notes_told = λ i. told_same (refusals_in (group_at groups i));
      many = refl;
      noted = λ note h. h;
      accounted = λ fine h. marks_accounted types v w m n groups x fine.pushes h;
      lighter = omega (arith, x.lighter, untraced_same v w m n x);
      fewer = omega (arith, untraced_same v w m n x);
      counted = λ differ. omega (arith, count_same v w m n x);
    }

pub marks_ground : (types : List ObjectType) (v w : SeatView) (m n : Marking) (groups : List NotesState) (t : ℕ) → ListsMarks v m w n
    → IsGround types (stage v m groups t) → IsGround types (stage w n groups t)
marks_ground types v w m n groups t x ground =
    let traced : w.traced ≡ v.traced = x.traced in
    let bodies : w.bodies ≡ v.bodies = ap (λ (z : SeatView). z.bodies) x.view in
    record {
      on = ap (λ (z : SeatView). z.on) x.view ∙ ground.on;
      told = ap (λ (o : Mode). o.on) x.mode ∙ ground.told;
      whole = ap (λ (o : Mode). o.whole) x.mode ∙ ground.whole;
      known = ap (λ (z : SeatView). z.types) x.view ∙ ground.known;
      alone = alone_still v w m n x ground.alone;
      references = subst (AreReferences types) (sym bodies) ground.references;
      traced_name_marked = λ p is b offset q there at strong names.
          x.marked q (ground.traced_name_marked p (subst (λ l. holds l p ≡ true) traced is) b offset q (subst (λ bs. Contains bs b) bodies there) at strong names);
      listed = λ p listed. subst (λ bs. IsPlace bs p) (sym bodies) (elim (x.listed p listed) [ inl before ↦ ground.listed p before | inr fresh ↦ fresh.place ]);
      noted = λ note h. subst (λ bs. IsNote types bs note) (sym bodies) (ground.noted note h);
      own = ground.own;
      few = omega (arith, ground.few, untraced_same v w m n x);
    }

pub marks_lighter : (v w : SeatView) (m n : Marking) (groups : List NotesState) (t : ℕ) → ListsMarks v m w n → weight_of w n < weight_of v m
    → weight (stage w n groups t) < weight (stage v m groups t)
marks_lighter v w m n groups t x less = omega (arith, less, untraced_same v w m n x)

pub marks_still : (v w : SeatView) (m n : Marking) (groups : List NotesState) (t : ℕ) → (heap_and_marks w ≡ heap_and_marks v) × (n ≡ m)
    → without_looks (stage w n groups t) ≡ without_looks (stage v m groups t)
marks_still v w m n groups t same =
    ap (λ (z : SeatView). stage z n groups t) same.0 ∙ ap (λ (k : Marking). stage (heap_and_marks v) k groups t) same.1
