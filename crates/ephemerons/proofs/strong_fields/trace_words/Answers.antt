use Rattle.std.proofs.Common.{◌<◌, ℕ, List, length, get_or, ap, ◌∙◌, sym, subst, inl, inr, arith}
use Rattle.std.specs.List.{Contains}
use Rattle.std.proofs.lemmas.List.{take_all, length-append}
use Rattle.std.proofs.lemmas.List.Elements.{Contains-get_or}
use Rattle.pair_notes.specs.Marking.{HasTargetMarked}
use Rattle.pair_notes.specs.InHand.{traced_in}
use Rattle.ephemerons.specs.Fixpoint.{ListsMarks}
use Rattle.gc_graph.specs.Members.{Contains-take_more_cases}
use Rattle.ephemerons.specs.ListedMarks.{ListsMarks-then}
use Rattle.pair_notes.specs.HandPath.{hand_at_next}
use Rattle.ephemerons.proofs.Holding.{fresh_listed}
use Rattle.ephemerons.proofs.MarkSteps.{same_bodies, same_types, same_heap, still_tracing}
use Rattle.ephemerons.proofs.StrongWords.{at_next_strong, target_stays, within_then}
use Rattle.ephemerons.proofs.strong_fields.trace_words.Goals as goal

pub trace_strong_word-fresh-requires-clause-heap : goal.trace_strong_word-fresh-requires-clause-heap
trace_strong_word-fresh-requires-clause-heap g c =
    same_heap c.args.seat.now c.loop-offset.seat c.args.marking.now c.loop-offset.marking c.loop-offset.invariant.marks ∙ c.requires.heap

pub trace_strong_word-fresh-requires-clause-tracing : goal.trace_strong_word-fresh-requires-clause-tracing
trace_strong_word-fresh-requires-clause-tracing g c =
    still_tracing c.args.seat.now c.loop-offset.seat c.args.marking.now c.loop-offset.marking c.loop-offset.invariant.marks c.requires.tracing

pub trace_strong_word-fresh-requires-clause-marked : goal.trace_strong_word-fresh-requires-clause-marked
trace_strong_word-fresh-requires-clause-marked g c = c.loop-offset.invariant.marks.marked c.args.place c.requires.marked

pub trace_strong_word-fresh-requires-clause-hand : goal.trace_strong_word-fresh-requires-clause-hand
trace_strong_word-fresh-requires-clause-hand g c =
    let i : ℕ = c.loop-offset.offset-index in
    at_next_strong c.args.seat.now c.loop-offset.seat
    (same_bodies c.args.seat.now c.loop-offset.seat c.args.marking.now c.loop-offset.marking c.loop-offset.invariant.marks)
    (same_types c.args.seat.now c.loop-offset.seat c.args.marking.now c.loop-offset.marking c.loop-offset.invariant.marks) c.args.place c.args.ty
    c.requires.body c.args.offsets.now i c.loop-offset-test.true c.requires.first
    (c.requires.strong (get_or c.args.offsets.now i 0) (Contains-get_or c.args.offsets.now i 0 c.loop-offset-test.true)) c.loop-offset.invariant.hand

pub loop-offset-preserved : goal.loop-offset-preserved
loop-offset-preserved g c =
    let u = c.args.seat.now in
    let v = c.loop-offset.seat in
    let w = c.trace_strong_word-fresh.new.seat in
    let types = same_types u v c.args.marking.now c.loop-offset.marking c.loop-offset.invariant.marks in
    let marks : ListsMarks v c.loop-offset.marking w c.list_held.new.marking =
    fresh_listed v w c.loop-offset.marking c.list_held.new.marking c.trace_strong_word-fresh.result c.trace_strong_word-fresh.ensures.marks
    c.list_held.ensures.listed in
    let within : c.loop-offset.offset-index < length (traced_in u.types c.args.ty) =
    omega (arith, ap length c.requires.first.1, length-append c.args.offsets.now c.requires.first.0) in
    record {
      marks = ListsMarks-then u v w c.args.marking.now c.loop-offset.marking c.list_held.new.marking c.loop-offset.invariant.marks marks;
      within = within_then u.types u v w c.args.marking.now c.loop-offset.marking types c.loop-offset.invariant.marks c.loop-offset.invariant.within
          c.trace_strong_word-fresh.ensures.within;
      named = λ o among. elim (Contains-take_more_cases c.args.offsets.now c.loop-offset.offset-index 0 o c.loop-offset-test.true among) [
        | inl earlier ↦ target_stays v w c.loop-offset.marking c.list_held.new.marking c.args.place o marks (c.loop-offset.invariant.named o earlier)
        | inr here ↦ subst (HasTargetMarked w c.args.place) here c.trace_strong_word-fresh.ensures.named
      ];
      noted = c.trace_strong_word-fresh.ensures.noted ∙ c.loop-offset.invariant.noted;
      looked = c.trace_strong_word-fresh.ensures.looked ∙ c.loop-offset.invariant.looked;
      hand = hand_at_next u.types v w c.args.place c.args.ty c.loop-offset.offset-index types within c.loop-offset.invariant.hand
          c.trace_strong_word-fresh.ensures.hand;
    }

pub returns-clause-named : goal.returns-clause-named
returns-clause-named g c o there =
    c.loop-offset.invariant.named o
    (subst (λ (l : List ℕ). Contains l o) (sym (take_all c.loop-offset.offset-index c.args.offsets.now (omega arith))) there)
