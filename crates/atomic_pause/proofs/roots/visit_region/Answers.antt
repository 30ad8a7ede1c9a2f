use Rattle.std.proofs.Common.{◌≡◌, ℕ, true, Option, None, Some, inl, inr, refl, sym, ap, ◌∙◌, subst, arith}
use mathlib.Core.Logic.{◌⊎◌}
use Rattle.std.proofs.lemmas.Bool.{cases_lt}
use Rattle.marker_core.specs.Bodies.{holds}
use Rattle.page_words.specs.Seat.{SeatView}
use Rattle.ephemerons.specs.Fixpoint.{ListsMarks}
use Rattle.ephemerons.specs.LookedAt.{LooksOnlyAt}
use Rattle.ephemerons.specs.LookedPlaces.{looked_nowhere, looked_once, looked_then}
use Rattle.cross_thread_region.specs.Histories.{strong_place}
use Rattle.cross_thread_region.specs.PlacedNodes.{strong_place_below}
use Rattle.atomic_pause.specs.Marking.{IsSharedPlace, with_may}
use Rattle.atomic_pause.proofs.MayMarks.{scans_then, scans_none}
use Rattle.atomic_pause.proofs.roots.visit_region.Goals as goal
use Rattle.atomic_pause.proofs.roots.visit_region.Goals.{in-Some, in_default}

named : Option ℕ → ℕ
named None = 0
named (Some p) = p

pub loop-i-init : goal.loop-i-init
loop-i-init c = record {
  marks = scans_none c.args.seat.now c.args.marking.now;
  noted = refl;
  looked = looked_nowhere (IsSharedPlace c.args.held.now.history) c.args.seat.now c.args.seat.now refl;
  roots = λ x p low is. absurd (omega (arith, low));
  only = λ p marked. inl marked;
}

pub loop-i-preserved : goal.loop-i-preserved
unfolding named
loop-i-preserved c =
    let before : SeatView = c.loop-i.seat in
    let after : SeatView = c.match-strong.seat in
    let visited : ListsMarks (with_may before after.may) c.loop-i.marking after c.match-strong.marking = elim c.match-strong.branch [
      | in-Some w ↦ subst (λ s. ListsMarks (with_may before s.may) c.loop-i.marking s c.match-strong.marking) (sym w.seat-is)
          (subst (λ m. ListsMarks (with_may before w.keep.new.seat.may) c.loop-i.marking w.keep.new.seat m) (sym w.marking-is) w.keep.ensures.marks)
      | in_default w ↦ subst (λ s. ListsMarks (with_may before s.may) c.loop-i.marking s c.match-strong.marking) (sym w.seat-is)
          (subst (λ m. ListsMarks (with_may before before.may) c.loop-i.marking before m) (sym w.marking-is) (scans_none before c.loop-i.marking))
    ] in
    let same : after.noted ≡ before.noted = elim c.match-strong.branch [
      | in-Some w ↦ ap (λ (v : SeatView). v.noted) w.seat-is ∙ w.keep.ensures.noted
      | in_default w ↦ ap (λ (v : SeatView). v.noted) w.seat-is
    ] in
    let looks : LooksOnlyAt (IsSharedPlace c.args.held.now.history) before after = elim c.match-strong.branch [
      | in-Some w ↦ looked_once (IsSharedPlace c.args.held.now.history) before after w.in-Some.place
          (ap (λ (v : SeatView). v.looked) w.seat-is ∙ w.keep.ensures.looked) (c.loop-i.i, sym c.strong.ensures ∙ w.in-Some.is)
      | in_default w ↦ looked_nowhere (IsSharedPlace c.args.held.now.history) before after (ap (λ (v : SeatView). v.looked) w.seat-is)
    ] in
    let root : (p : ℕ) → strong_place c.args.held.now.history c.loop-i.i ≡ Some p → holds after.marked p ≡ true = λ p is. elim c.match-strong.branch [
      | in-Some w ↦ subst (λ s. holds s.marked p ≡ true) (sym w.seat-is)
          (subst (λ q. holds w.keep.new.seat.marked q ≡ true) (ap named (sym w.in-Some.is ∙ c.strong.ensures ∙ is)) w.keep.ensures.root)
      | in_default w ↦ absurd (w.in_default.not-Some p (c.strong.ensures ∙ is))
    ] in
    let only : (p : ℕ) → holds after.marked p ≡ true → (holds before.marked p ≡ true) ⊎ (strong_place c.args.held.now.history c.loop-i.i ≡ Some p) = λ p marked. elim c.match-strong.branch [
      | in-Some w ↦ elim (w.keep.ensures.only p (subst (λ s. holds s.marked p ≡ true) w.seat-is marked)) [
        | inl first ↦ inl first
        | inr here ↦ inr (sym c.strong.ensures ∙ w.in-Some.is ∙ ap Some here)
      ]
      | in_default w ↦ inl (subst (λ s. holds s.marked p ≡ true) w.seat-is marked)
    ] in
    record {
      marks = scans_then c.args.seat.now before after c.args.marking.now c.loop-i.marking c.match-strong.marking c.loop-i.invariant.marks visited;
      noted = same ∙ c.loop-i.invariant.noted;
      looked = looked_then (IsSharedPlace c.args.held.now.history) c.args.seat.now before after c.loop-i.invariant.looked looks;
      roots = λ x p low is. elim (cases_lt x c.loop-i.i) [
        | inl earlier ↦ visited.marked p (c.loop-i.invariant.roots x p earlier is)
        | inr late ↦
            (let here : x ≡ c.loop-i.i = omega (arith, low, late) in
            root p (subst (λ y. strong_place c.args.held.now.history y ≡ Some p) here is))
      ];
      only = λ p marked. elim (only p marked) [ inl first ↦ c.loop-i.invariant.only p first | inr here ↦ inr (c.loop-i.i, here) ];
    }

pub returns-clause-roots : goal.returns-clause-roots
returns-clause-roots c = λ x p is. c.loop-i.invariant.roots x p (omega (arith, strong_place_below c.args.held.now.history x p is, c.loop-i-test.false)) is
