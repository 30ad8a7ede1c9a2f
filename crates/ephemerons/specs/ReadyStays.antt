-- Marking can be brought to its end yet where objects were marked and listed.
use Rattle.std.proofs.Common.{◌≡◌, true, false, List, None, ap, ◌∙◌, sym, subst, inl, inr}
use Rattle.std.specs.List.{Contains}
use Rattle.gc_graph.specs.State.{ObjectType}
use Rattle.mark_worklist.specs.declared.marking.Marking.{Marking}
use Rattle.marker_core.specs.Bodies.{holds}
use Rattle.marker_core.specs.declared.states.Body.{Body}
use Rattle.page_words.specs.Seat.{SeatView}
use Rattle.pair_notes.specs.Notes.{NotesState, IsNote}
use Rattle.ephemerons.specs.UnderWay.{IsReadyToEnd}
use Rattle.ephemerons.specs.Fixpoint.{IsAccounted, ListsMarks, Mode}
use Rattle.ephemerons.specs.ListedMarks.{alone_still}

-- what was accounted for still is
pub marks_accounted : (types : List ObjectType) (v w : SeatView) (m n : Marking) (groups : List NotesState) → ListsMarks v m w n → n.overflow ≡ false
    → IsAccounted types None v m.list.items groups → IsAccounted types None w n.list.items groups
marks_accounted types v w m n groups x fine h = record {
  grey = λ p marked untraced. elim (x.fresh fine p marked) [
    | inl before ↦ elim (h.grey p before (subst (λ l. holds l p ≡ false) x.traced untraced)) [
      | inl last ↦ inl last
      | inr known ↦ inr (elim known [ inl listed ↦ inl (x.kept p listed) | inr noted ↦ inr noted ])
    ]
    | inr listed ↦ inr (inl listed)
  ];
  pairs = λ p is offset b k q there at pair key value.
      elim (h.pairs p (subst (λ l. holds l p ≡ true) x.traced is) offset b k q (subst (λ bs. Contains bs b) (ap (λ (z : SeatView). z.bodies) x.view) there)
      at pair key value) [
        | inl marked ↦ inl (x.marked q marked)
        | inr noted ↦ inr noted
      ];
}

-- marking that can be brought to its end still can be after objects were marked and listed
pub ready_marked : (types : List ObjectType) (v w : SeatView) (m n : Marking) (groups : List NotesState) → ListsMarks v m w n
    → IsReadyToEnd types v m groups → IsReadyToEnd types w n groups
ready_marked types v w m n groups x h = record {
  on = ap (λ (z : SeatView). z.on) x.view ∙ h.on;
  told = ap (λ (o : Mode). o.on) x.mode ∙ h.told;
  alone = alone_still v w m n x h.alone;
  whole = ap (λ (o : Mode). o.whole) x.mode ∙ h.whole;
  listed = λ p there. elim (x.listed p there) [ inl before ↦ x.marked p (h.listed p before) | inr fresh ↦ fresh.marked ];
  noted = λ note there. subst (λ (bs : List Body). IsNote types bs note) (sym (ap (λ (z : SeatView). z.bodies) x.view)) (h.noted note there);
  holders = λ note there. x.marked note.holder (h.holders note there);
  accounted = λ fine. marks_accounted types v w m n groups x fine.pushes (h.accounted (record { pushes = x.overflow fine.pushes; notes = fine.notes }));
  own = h.own;
}
