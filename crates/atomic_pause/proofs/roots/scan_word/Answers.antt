use Rattle.std.proofs.Common.{◌≡◌, ℕ, true, sym, ap, ◌∙◌, subst, arith}
use Rattle.marker_core.specs.declared.states.Body.{Body}
use Rattle.marker_core.specs.Bodies.{holds}
use Rattle.page_words.specs.Seat.{SeatView, IsView}
use Rattle.weak_clearing.specs.Space.{HoldsAddress}
use Rattle.ephemerons.specs.Fixpoint.{ListsMarks}
use Rattle.ephemerons.specs.ListedMarks.{ListsMarks-then, lists_looked}
use Rattle.atomic_pause.specs.Marking.{with_may}
use Rattle.atomic_pause.proofs.roots.scan_word.Goals as goal

-- one body alone has the word
one_place : (v : SeatView) (address p q : ℕ) → IsView v → HoldsAddress v.bodies address p → HoldsAddress v.bodies address q → p ≡ q
one_place v address p q view (b, b_there, b_at, b_low, b_high) (d, d_there, d_at, d_low, d_high) =
    let same : b ≡ d = view.apart b d address b_there d_there (omega (arith, b_at, b_low)) b_high (omega (arith, d_at, d_low)) d_high in
    sym b_at ∙ ap (λ (x : Body). x.place) same ∙ d_at

pub returns-in-Some-clause-marks : goal.returns-in-Some-clause-marks
returns-in-Some-clause-marks c =
    let a : SeatView = c.args.seat.now in
    let s : SeatView = c.start_of.new.seat in
    let k : SeatView = c.keep.new.seat in
    ListsMarks-then (with_may a k.may) (with_may s k.may) k c.args.marking.now c.args.marking.now c.keep.new.marking
    (lists_looked (with_may a k.may) (with_may s k.may) c.args.marking.now (ap (λ (z : SeatView). with_may z k.may) c.start_of.ensures.view)) c.keep.ensures.marks

pub returns-in_default-clause-marks : goal.returns-in_default-clause-marks
returns-in_default-clause-marks c =
    let a : SeatView = c.args.seat.now in
    subst (λ ms. ListsMarks (with_may a ms) c.args.marking.now c.start_of.new.seat c.args.marking.now) (sym (ap (λ (z : SeatView). z.may) c.start_of.ensures.view))
    (lists_looked a c.start_of.new.seat c.args.marking.now c.start_of.ensures.view)

pub returns-in-Some-clause-root : goal.returns-in-Some-clause-root
returns-in-Some-clause-root c = λ p hit.
    subst (λ q. holds c.keep.new.seat.marked q ≡ true)
    (one_place c.args.seat.now c.args.word c.in-Some.place p c.bodies_lie_apart.ensures c.in-Some.ensures.found hit) c.keep.ensures.root

pub returns-in_default-clause-root : goal.returns-in_default-clause-root
returns-in_default-clause-root c = λ p hit. absurd (c.in_default.ensures.none p hit)
