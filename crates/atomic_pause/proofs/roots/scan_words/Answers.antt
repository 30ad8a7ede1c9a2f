use Rattle.std.proofs.Common.{◌≡◌, ◌<◌, List, length, get_or, inl, inr, refl, sym, ap, ◌∙◌, subst, arith}
use Rattle.gc_graph.specs.Members.{Contains-take_more_cases, Contains-take_more_old, Contains-take_more_new}
use Rattle.marker_core.specs.declared.states.Body.{Body}
use Rattle.page_words.specs.Seat.{Heap, SeatView}
use Rattle.weak_clearing.specs.Space.{HoldsAddress, IsSpaceIn, extents_of_bodies}
use Rattle.ephemerons.specs.Fixpoint.{Mode}
use Rattle.atomic_pause.proofs.MayMarks.{scans_then, scans_none}
use Rattle.atomic_pause.proofs.roots.scan_words.Goals as goal

bodies : (c : goal.After-scan_word) → c.loop-i.seat.bodies ≡ c.args.seat.now.bodies
bodies c = ap (λ (v : SeatView). v.bodies) c.loop-i.invariant.marks.view

pub scan_word-requires-clause-space : goal.scan_word-requires-clause-space
scan_word-requires-clause-space c =
    subst (λ (h : Heap). IsSpaceIn c.args.space.now h (extents_of_bodies c.loop-i.seat.bodies)) (sym (ap (λ (v : SeatView). v.heap) c.loop-i.invariant.marks.view))
    (subst (λ (bs : List Body). IsSpaceIn c.args.space.now c.args.seat.now.heap (extents_of_bodies bs)) (sym (ap (λ (v : SeatView). v.bodies) c.loop-i.invariant.marks.view)) c.requires.space)

pub scan_word-requires-clause-on : goal.scan_word-requires-clause-on
scan_word-requires-clause-on c = ap (λ (v : SeatView). v.on) c.loop-i.invariant.marks.view ∙ c.requires.on

pub scan_word-requires-clause-alone : goal.scan_word-requires-clause-alone
scan_word-requires-clause-alone c = ap (λ (v : SeatView). v.lent) c.loop-i.invariant.marks.view ∙ c.requires.alone

pub scan_word-requires-clause-marking : goal.scan_word-requires-clause-marking
scan_word-requires-clause-marking c =
    ap (λ (o : Mode). o.on) c.loop-i.invariant.marks.mode ∙ c.requires.marking ∙ sym (ap (λ (v : SeatView). v.on) c.loop-i.invariant.marks.view)

pub loop-i-init : goal.loop-i-init
loop-i-init c = record {
  marks = scans_none c.args.seat.now c.args.marking.now;
  noted = refl;
  roots = λ p hit. absurd (omega (arith, hit.1.1));
  only = λ p marked. inl marked;
}

pub loop-i-preserved : goal.loop-i-preserved
loop-i-preserved c =
    let low : c.loop-i.i < length c.args.stack.now = omega arith in
    record {
      marks = scans_then c.args.seat.now c.loop-i.seat c.scan_word.new.seat c.args.marking.now c.loop-i.marking c.scan_word.new.marking c.loop-i.invariant.marks
          c.scan_word.ensures.marks;
      noted = c.scan_word.ensures.noted ∙ c.loop-i.invariant.noted;
      roots = λ p hit. elim (Contains-take_more_cases c.args.stack.now c.loop-i.i 0 hit.0 low hit.1) [
        | inl earlier ↦ c.scan_word.ensures.marks.marked p (c.loop-i.invariant.roots p (hit.0, earlier, hit.2))
        | inr here ↦ c.scan_word.ensures.root p
            (subst (λ bs. HoldsAddress bs (get_or c.args.stack.now c.loop-i.i 0) p) (sym (bodies c))
            (subst (λ a. HoldsAddress c.args.seat.now.bodies a p) (sym here) hit.2))
      ];
      only = λ p marked. elim (c.scan_word.ensures.only p marked) [
        | inl before ↦ elim (c.loop-i.invariant.only p before) [
          | inl first ↦ inl first
          | inr earlier ↦ inr (earlier.0, Contains-take_more_old c.args.stack.now c.loop-i.i 0 earlier.0 low earlier.1, earlier.2)
        ]
        | inr here ↦ inr (
          get_or c.args.stack.now c.loop-i.i 0,
          Contains-take_more_new c.args.stack.now c.loop-i.i 0 (get_or c.args.stack.now c.loop-i.i 0) low refl,
          subst (λ bs. HoldsAddress bs (get_or c.args.stack.now c.loop-i.i 0) p) (bodies c) here,
        )
      ];
    }
