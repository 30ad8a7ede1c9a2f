use Rattle.std.proofs.Common.{◌≡◌, ℕ, true, ◌<◌, ◌+◌, ◌-◌, length, get_or, inl, inr, refl, sym, ap, ◌∙◌, subst, arith, take}
use mathlib.Core.Logic.{◌⊎◌}
use Rattle.std.proofs.lemmas.List.{take_all}
use Rattle.std.proofs.lemmas.List.Elements.{Contains-get_or}
use Rattle.std.specs.List.{Contains}
use Rattle.gc_graph.specs.Members.{Contains-take_more_cases, Contains-take_more_old, Contains-take_more_new}
use Rattle.marker_core.specs.Bodies.{IsPlace, holds}
use Rattle.page_words.specs.Seat.{SeatView}
use Rattle.ephemerons.specs.Fixpoint.{ListsMarks}
use Rattle.ephemerons.specs.ListedMarks.{ListsMarks-then, lists_looked}
use Rattle.atomic_pause.proofs.roots.visit_told.Goals as goal
use Rattle.atomic_pause.proofs.roots.visit_told.Goals.{then-told-i-ne0, else-told-i-ne0}

pub mark-requires-clause-place : goal.mark-requires-clause-place
mark-requires-clause-place c =
    let low : c.loop-i.i < length c.args.told.now = omega arith in
    let told : ℕ = get_or c.args.told.now c.loop-i.i 0 in
    let is : told ≡ told - 1 + 1 = omega (arith, c.if-told-i-ne0.true) in
    let there : Contains c.args.told.now (told - 1 + 1) = subst (Contains c.args.told.now) is (Contains-get_or c.args.told.now c.loop-i.i 0 low) in
    subst (λ bs. IsPlace bs (told - 1)) (sym (ap (λ (v : SeatView). v.bodies) c.loop-i.invariant.marks.view)) (c.requires.places (told - 1) there)

pub loop-i-preserved : goal.loop-i-preserved
loop-i-preserved c =
    let low : c.loop-i.i < length c.args.told.now = omega arith in
    let visited : ListsMarks c.loop-i.seat c.loop-i.marking c.if-told-i-ne0.seat c.if-told-i-ne0.marking = elim c.if-told-i-ne0.branch [
      | then-told-i-ne0 w ↦ subst (λ s. ListsMarks c.loop-i.seat c.loop-i.marking s c.if-told-i-ne0.marking) (sym w.seat-is)
          (subst (λ m. ListsMarks c.loop-i.seat c.loop-i.marking w.mark.new.seat m) (sym w.marking-is) w.mark.ensures.marks)
      | else-told-i-ne0 w ↦ subst (λ s. ListsMarks c.loop-i.seat c.loop-i.marking s c.if-told-i-ne0.marking) (sym w.seat-is)
          (subst (λ m. ListsMarks c.loop-i.seat c.loop-i.marking c.loop-i.seat m) (sym w.marking-is) (lists_looked c.loop-i.seat c.loop-i.seat c.loop-i.marking refl))
    ] in
    let same : c.if-told-i-ne0.seat.noted ≡ c.loop-i.seat.noted = elim c.if-told-i-ne0.branch [
      | then-told-i-ne0 w ↦ ap (λ (v : SeatView). v.noted) w.seat-is ∙ w.mark.ensures.noted
      | else-told-i-ne0 w ↦ ap (λ (v : SeatView). v.noted) w.seat-is
    ] in
    let unlooked : c.if-told-i-ne0.seat.looked ≡ c.loop-i.seat.looked = elim c.if-told-i-ne0.branch [
      | then-told-i-ne0 w ↦ ap (λ (v : SeatView). v.looked) w.seat-is ∙ w.mark.ensures.looked
      | else-told-i-ne0 w ↦ ap (λ (v : SeatView). v.looked) w.seat-is
    ] in
    let root : (p : ℕ) → get_or c.args.told.now c.loop-i.i 0 ≡ p + 1 → holds c.if-told-i-ne0.seat.marked p ≡ true = λ p is. elim c.if-told-i-ne0.branch [
      | then-told-i-ne0 w ↦
          (let place : get_or c.args.told.now c.loop-i.i 0 - 1 ≡ p = omega (arith, is) in
          subst (λ s. holds s.marked p ≡ true) (sym w.seat-is) (subst (λ q. holds w.mark.new.seat.marked q ≡ true) place w.mark.ensures.target))
      | else-told-i-ne0 w ↦ absurd (omega (arith, is, w.if-told-i-ne0.false))
    ] in
    let only : (p : ℕ) → holds c.if-told-i-ne0.seat.marked p ≡ true → (holds c.loop-i.seat.marked p ≡ true) ⊎ (get_or c.args.told.now c.loop-i.i 0 ≡ p + 1) = λ p marked.
    elim c.if-told-i-ne0.branch [
      | then-told-i-ne0 w ↦ elim (w.mark.ensures.only p (subst (λ s. holds s.marked p ≡ true) w.seat-is marked)) [
        | inl before ↦ inl before
        | inr here ↦ inr (omega (arith, here, w.if-told-i-ne0.true))
      ]
      | else-told-i-ne0 w ↦ inl (subst (λ s. holds s.marked p ≡ true) w.seat-is marked)
    ] in
    record {
      marks = ListsMarks-then c.args.seat.now c.loop-i.seat c.if-told-i-ne0.seat c.args.marking.now c.loop-i.marking c.if-told-i-ne0.marking c.loop-i.invariant.marks visited;
      noted = same ∙ c.loop-i.invariant.noted;
      looked = unlooked ∙ c.loop-i.invariant.looked;
      roots = λ p among. elim (Contains-take_more_cases c.args.told.now c.loop-i.i 0 (p + 1) low among) [
        | inl earlier ↦ visited.marked p (c.loop-i.invariant.roots p earlier)
        | inr here ↦ root p here
      ];
      only = λ p marked. elim (only p marked) [
        | inl before ↦ elim (c.loop-i.invariant.only p before) [
          | inl first ↦ inl first
          | inr earlier ↦ inr (Contains-take_more_old c.args.told.now c.loop-i.i 0 (p + 1) low earlier)
        ]
        | inr here ↦ inr (Contains-take_more_new c.args.told.now c.loop-i.i 0 (p + 1) low here)
      ];
    }

pub returns-clause-roots : goal.returns-clause-roots
returns-clause-roots c =
    let all : take c.loop-i.i c.args.told.now ≡ c.args.told.now = take_all c.loop-i.i c.args.told.now (omega (arith, c.loop-i-test.false)) in
    λ p among. c.loop-i.invariant.roots p (subst (λ ws. Contains ws (p + 1)) (sym all) among)

pub returns-clause-only : goal.returns-clause-only
returns-clause-only c =
    let all : take c.loop-i.i c.args.told.now ≡ c.args.told.now = take_all c.loop-i.i c.args.told.now (omega (arith, c.loop-i-test.false)) in
    λ p marked. subst (λ ws. (holds c.args.seat.now.marked p ≡ true) ⊎ Contains ws (p + 1)) all (c.loop-i.invariant.only p marked)
