-- The crew stays where it is while the mutator goes on.
use Rattle.std.proofs.Common.{◌≡◌, ◌<◌, true, length, sym, ap, ap₂, ◌∙◌, subst, inl, inr, arith}
use Rattle.std.specs.List.{Contains}
use Rattle.std.proofs.lemmas.List.Elements.{All-weaker}
use Rattle.mark_worklist.specs.declared.marking.Marking.{Marking}
use Rattle.marker_core.specs.Bodies.{holds}
use Rattle.page_words.specs.Markers.{new_marker}
use Rattle.page_words.specs.Seat.{Heap, SeatView, unlooked}
use Rattle.mark_worklist.specs.Kept.{list-then}
use Rattle.heap_objects.specs.Marking.{GreyView}
use Rattle.heap_objects.specs.Marks.{CrewIsLent, IsNewMarker, IsOut}
use Rattle.heap_objects.specs.Crews.{PutsOn}
use Rattle.heap_objects.proofs.WayChanges.{Leaves}

pub same_marker : (v w : SeatView) → w.heap ≡ v.heap → w.types ≡ v.types → new_marker w ≡ new_marker v
same_marker v w heap types = ap₂ (λ h t. new_marker (record v { heap = h; types = t })) heap types

-- the shares of a list that has some out
pub has_shares : (v : SeatView) (g : GreyView) → IsOut v g → length g.marking.list.shares ≡ 1
has_shares v g out = out.family.as_many ∙ out.fresh.alone

module _ (v w : SeatView) (g : GreyView) (k : Marking) (leaves : Leaves v w) (puts : PutsOn g.marking.list k.list (λ p. holds w.marked p ≡ true)) where
  out_on : IsOut v g → IsOut w (record g { marking = k })
  out_on out =
      let one = has_shares v g out in
      let some : 0 < length g.marking.list.shares = omega (arith, one) in
      record {
        many = out.many;
        shared = puts.whole ∙ out.shared;
        first = out.first;
        fresh = out.fresh;
        family = list-then out.first g.marking.list.shares k.list.shares out.family (puts.family out.shared some);
        began = All-weaker (IsNewMarker v) (IsNewMarker w)
            (λ m new. record { seat = new.seat ∙ sym (same_marker v w leaves.heap leaves.types); notes = new.notes })
            g.running out.began;
        others = out.others;
        refused = puts.refused out.shared some out.refused;
        since = out.since;
        put = λ p there. elim (puts.item out.shared some p there) [ inl before ↦ puts.kept out.shared some p (out.put p before) | inr new ↦ new ];
        marked = λ p there. elim (puts.put out.shared some p there) [ inl before ↦ leaves.marked p (out.marked p before) | inr is ↦ is ];
        taken = λ none p there. elim (out.taken none p (subst (λ l. Contains l p) (puts.taken out.shared some) there)) [
          | inl traced ↦ inl (ap (λ l. holds l p) leaves.traced ∙ traced)
          | inr other ↦ inr other
        ];
        lone = λ note there itself. (let was = out.lone note there itself in (
          subst (λ l. Contains l note.holder) (sym (puts.taken out.shared some)) was.0,
          elim was.1 [
            | inl missed ↦ inl (subst (λ l. Contains l note.holder) (sym leaves.missed) missed)
            | inr far ↦ inr (omega (arith, far, ap (λ (h : Heap). h.count) leaves.heap))
          ],
        ));
      }

  pub crew_on : CrewIsLent v g → CrewIsLent w (record g { marking = k })
  crew_on h = record {
    lent = leaves.lent ∙ h.lent;
    home = λ none.
        let home = h.home none in
        record {
          whole = puts.whole ∙ home.whole;
          unshared = λ no_markers. puts.alone home.whole ∙ home.unshared no_markers;
          paired = home.paired;
          others = home.others;
          many = home.many;
        };
    out = λ some. out_on (h.out some);
  }

-- ---- whatever was looked at

out_is : (v : SeatView) (g : GreyView) → IsOut (unlooked v) g → IsOut v g
out_is v g x = record {
  many = x.many;
  shared = x.shared;
  first = x.first;
  fresh = x.fresh;
  family = x.family;
  began = All-weaker (IsNewMarker (unlooked v)) (IsNewMarker v) (λ m new. record { seat = new.seat; notes = new.notes }) g.running x.began;
  others = x.others;
  refused = x.refused;
  since = x.since;
  put = x.put;
  marked = x.marked;
  taken = x.taken;
  lone = x.lone;
}

out_told : (v : SeatView) (g : GreyView) → IsOut v g → IsOut (unlooked v) g
out_told v g x = record {
  many = x.many;
  shared = x.shared;
  first = x.first;
  fresh = x.fresh;
  family = x.family;
  began = All-weaker (IsNewMarker v) (IsNewMarker (unlooked v)) (λ m new. record { seat = new.seat; notes = new.notes }) g.running x.began;
  others = x.others;
  refused = x.refused;
  since = x.since;
  put = x.put;
  marked = x.marked;
  taken = x.taken;
  lone = x.lone;
}

pub crew_is : (v : SeatView) (g : GreyView) → CrewIsLent (unlooked v) g → CrewIsLent v g
crew_is v g x = record { lent = x.lent; home = x.home; out = λ some. out_is v g (x.out some) }

pub crew_told : (v : SeatView) (g : GreyView) → CrewIsLent v g → CrewIsLent (unlooked v) g
crew_told v g x = record { lent = x.lent; home = x.home; out = λ some. out_told v g (x.out some) }
