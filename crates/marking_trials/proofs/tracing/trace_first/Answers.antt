use Rattle.std.proofs.Common.{◌≡◌, true, List, length, refl, not, sym, ap, ◌∙◌, subst, inl, inr, arith, rules}
use Rattle.gc_graph.specs.State.{ObjectType}
use Rattle.mark_worklist.specs.Lists.{ListState}
use Rattle.pair_notes.specs.BodyGraph.{BodyHasPair}
use Rattle.ephemerons.specs.Fixpoint.{Mode}
use Rattle.pair_notes.specs.Notes.{NotesState}
use Rattle.marking_trials.specs.SmallHeap.{two_bodies}
use Rattle.marker_core.specs.Bodies.{IsPlace, is_place}
use Rattle.page_words.specs.Seat.{SeatView}
use Rattle.marking_trials.proofs.SmallHeap.{holder_there, pairs_whole, place_either, pair_either, small_traced}
use Rattle.marking_trials.proofs.tracing.trace_first.Goals as goal

pub set_stop-requires : goal.set_stop-requires
set_stop-requires c =
    (search rules, (c.write.ensures.small.quiet, pairs_whole c.write.new.seat c.args.key c.args.value c.args.strong c.write.ensures.small c.requires.pair))

pub mark-requires-clause-place : goal.mark-requires-clause-place
mark-requires-clause-place c =
    subst (λ bs. IsPlace bs 0) (sym (ap (λ (v : SeatView). v.bodies) c.set_stop.ensures.view ∙ c.write.ensures.small.bodies))
    (holder_there c.args.key c.args.value c.args.strong)

pub mark-requires-clause-may : goal.mark-requires-clause-may
mark-requires-clause-may c =
    (c.set_stop.ensures.may refl).roots_in 0 refl (subst (λ bs. is_place bs 0 ≡ true) (sym c.write.ensures.small.bodies) refl)

pub claim-requires-clause-place : goal.claim-requires-clause-place
claim-requires-clause-place c =
    subst (λ bs. IsPlace bs 0)
    (sym (ap (λ (v : SeatView). v.bodies) c.mark.ensures.view ∙ ap (λ (v : SeatView). v.bodies) c.set_stop.ensures.view ∙ c.write.ensures.small.bodies))
    (holder_there c.args.key c.args.value c.args.strong)

pub returns-clause-traced : goal.returns-clause-traced
returns-clause-traced c =
    small_traced c.write.new.seat c.set_stop.new.seat c.mark.new.seat c.claim.new.seat c.trace.new.seat (not c.mark.result) c.args.key c.args.value c.args.strong
    c.in_ok-claim.field-0 _ _ c.write.ensures.small (c.bodies_lie_apart.ensures.at_rest c.write.ensures.small.quiet.off).none_lent c.set_stop.ensures.view
    c.mark.ensures.view c.in_ok-claim.ensures.claimed c.trace.ensures.marks c.trace.ensures.hand
    ((c.set_stop.ensures.may refl).roots_in 0 refl (subst (λ bs. is_place bs 0 ≡ true) (sym c.write.ensures.small.bodies) refl))
    ((c.set_stop.ensures.may refl).roots_in 256 refl (subst (λ bs. is_place bs 256 ≡ true) (sym c.write.ensures.small.bodies) refl))

pub returns-clause-lists : goal.returns-clause-lists
returns-clause-lists c =
    let bodies =
    ap (λ (v : SeatView). v.bodies) c.in_ok-claim.ensures.claimed.marks ∙ ap (λ (v : SeatView). v.bodies) c.mark.ensures.view
    ∙ ap (λ (v : SeatView). v.bodies) c.set_stop.ensures.view ∙ c.write.ensures.small.bodies in
    record {
      told = ap (λ (o : Mode). o.on) c.trace.ensures.marks.mode ∙ c.requires.told;
      whole = ap (λ (o : Mode). o.whole) c.trace.ensures.marks.mode ∙ ap (λ (l : ListState). l.whole) c.requires.list;
      listed = λ p there. elim (c.trace.ensures.marks.listed p there) [
        | inl before ↦ absurd (omega (arith, before.1, ap (λ (l : ListState). length l.items) c.requires.list))
        | inr fresh ↦ place_either c.args.key c.args.value c.args.strong p (subst (λ bs. IsPlace bs p) bodies fresh.place)
      ];
      noted = λ note there. elim (c.trace.ensures.notes.pairs note there) [
        | inl before ↦ absurd (omega (arith, before.1, ap (λ (s : NotesState). length s.notes) c.requires.notes))
        | inr pair ↦ pair_either c.args.key c.args.value c.args.strong note
            (subst (λ (ts : List ObjectType). BodyHasPair ts (two_bodies c.args.key c.args.value c.args.strong) note.holder note.word)
            (c.deref.ensures ∙ c.requires.types) (subst (λ bs. BodyHasPair c.deref.result.now bs note.holder note.word) bodies pair))
      ];
    }
