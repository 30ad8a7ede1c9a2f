use Rattle.std.proofs.Common.{◌≡◌, ℕ, true, ◌<◌, length, Option, None, Some, inl, inr, refl, sym, ap, ◌∙◌, subst, arith, take}
use mathlib.Core.Logic.{◌⊎◌}
use Rattle.std.proofs.lemmas.List.{take_all}
use Rattle.std.specs.List.{Contains}
use Rattle.gc_graph.specs.Members.{Contains-take_more_cases, Contains-take_more_old, Contains-take_more_new}
use Rattle.marker_core.specs.Bodies.{holds}
use Rattle.page_words.specs.Seat.{SeatView}
use Rattle.ephemerons.specs.Fixpoint.{ListsMarks}
use Rattle.ephemerons.specs.ListedMarks.{ListsMarks-then, lists_looked}
use Rattle.atomic_pause.proofs.roots.visit_slots.Goals as goal
use Rattle.atomic_pause.proofs.roots.visit_slots.Goals.{in-Some, in_default}

named : Option ℕ → ℕ
named None = 0
named (Some p) = p

pub loop-i-preserved : goal.loop-i-preserved
unfolding named
loop-i-preserved c =
    let low : c.loop-i.i < length c.args.slots.now = omega arith in
    let visited : ListsMarks c.loop-i.seat c.loop-i.marking c.match-get.seat c.match-get.marking = elim c.match-get.branch [
      | in-Some w ↦ subst (λ s. ListsMarks c.loop-i.seat c.loop-i.marking s c.match-get.marking) (sym w.seat-is)
          (subst (λ m. ListsMarks c.loop-i.seat c.loop-i.marking w.mark.new.seat m) (sym w.marking-is) w.mark.ensures.marks)
      | in_default w ↦ subst (λ s. ListsMarks c.loop-i.seat c.loop-i.marking s c.match-get.marking) (sym w.seat-is)
          (subst (λ m. ListsMarks c.loop-i.seat c.loop-i.marking c.loop-i.seat m) (sym w.marking-is) (lists_looked c.loop-i.seat c.loop-i.seat c.loop-i.marking refl))
    ] in
    let same : c.match-get.seat.noted ≡ c.loop-i.seat.noted = elim c.match-get.branch [
      | in-Some w ↦ ap (λ (v : SeatView). v.noted) w.seat-is ∙ w.mark.ensures.noted
      | in_default w ↦ ap (λ (v : SeatView). v.noted) w.seat-is
    ] in
    let unlooked : c.match-get.seat.looked ≡ c.loop-i.seat.looked = elim c.match-get.branch [
      | in-Some w ↦ ap (λ (v : SeatView). v.looked) w.seat-is ∙ w.mark.ensures.looked
      | in_default w ↦ ap (λ (v : SeatView). v.looked) w.seat-is
    ] in
    let root : (p : ℕ) → c.get.result ≡ Some p → holds c.match-get.seat.marked p ≡ true = λ p is. elim c.match-get.branch [
      | in-Some w ↦ subst (λ s. holds s.marked p ≡ true) (sym w.seat-is)
          (subst (λ q. holds w.mark.new.seat.marked q ≡ true) (ap named (sym w.in-Some.is ∙ is)) w.mark.ensures.target)
      | in_default w ↦ absurd (w.in_default.not-Some p is)
    ] in
    let only : (p : ℕ) → holds c.match-get.seat.marked p ≡ true → (holds c.loop-i.seat.marked p ≡ true) ⊎ (c.get.result ≡ Some p) = λ p marked. elim c.match-get.branch [
      | in-Some w ↦ elim (w.mark.ensures.only p (subst (λ s. holds s.marked p ≡ true) w.seat-is marked)) [ inl before ↦ inl before | inr here ↦ inr (w.in-Some.is ∙ ap Some here) ]
      | in_default w ↦ inl (subst (λ s. holds s.marked p ≡ true) w.seat-is marked)
    ] in
    record {
      marks = ListsMarks-then c.args.seat.now c.loop-i.seat c.match-get.seat c.args.marking.now c.loop-i.marking c.match-get.marking c.loop-i.invariant.marks visited;
      noted = same ∙ c.loop-i.invariant.noted;
      looked = unlooked ∙ c.loop-i.invariant.looked;
      roots = λ p among. elim (Contains-take_more_cases c.args.slots.now c.loop-i.i None (Some p) low among) [
        | inl earlier ↦ visited.marked p (c.loop-i.invariant.roots p earlier)
        | inr here ↦ root p (c.get.ensures ∙ here)
      ];
      only = λ p marked. elim (only p marked) [
        | inl before ↦ elim (c.loop-i.invariant.only p before) [
          | inl first ↦ inl first
          | inr earlier ↦ inr (Contains-take_more_old c.args.slots.now c.loop-i.i None (Some p) low earlier)
        ]
        | inr here ↦ inr (Contains-take_more_new c.args.slots.now c.loop-i.i None (Some p) low (sym c.get.ensures ∙ here))
      ];
    }

pub returns-clause-roots : goal.returns-clause-roots
returns-clause-roots c =
    let all : take c.loop-i.i c.args.slots.now ≡ c.args.slots.now = take_all c.loop-i.i c.args.slots.now (omega (arith, c.loop-i-test.false)) in
    λ p among. c.loop-i.invariant.roots p (subst (λ ss. Contains ss (Some p)) (sym all) among)

pub returns-clause-only : goal.returns-clause-only
returns-clause-only c =
    let all : take c.loop-i.i c.args.slots.now ≡ c.args.slots.now = take_all c.loop-i.i c.args.slots.now (omega (arith, c.loop-i-test.false)) in
    λ p marked. subst (λ ss. (holds c.args.seat.now.marked p ≡ true) ⊎ Contains ss (Some p)) all (c.loop-i.invariant.only p marked)
