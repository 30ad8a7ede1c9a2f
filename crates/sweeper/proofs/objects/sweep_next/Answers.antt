use Rattle.std.proofs.Common.{rules, ◌≡◌, ℕ, ◌+◌, ◌<◌, ◌≤◌, ◌^◌, List, not, length, vec_capacity, subst, sym, arith}
use Rattle.marker_core.specs.Bodies.{IsPlace, holds}
use Rattle.page_space.specs.Seat.{SeatView}
use Rattle.page_space.specs.Space.{HasNoStart}
use Rattle.sweeper.specs.Sweeping.{DeadAreUnnamed, Sweeps, dead_between}
use Rattle.sweeper.proofs.Sweeping.{nothing, sweeps_on, start_stays, part_dead}
use Rattle.sweeper.proofs.objects.sweep_next.Goals as goal

pub returns-then-a-until-clause-swept : goal.returns-then-a-until-clause-swept
returns-then-a-until-clause-swept c =
    let numbers : List ℕ = c.args.done.now.items in
    subst (λ (w : SeatView). Sweeps c.args.from c.args.until c.args.seat.now numbers w numbers) (sym c.start_from-a.ensures.view)
    (nothing c.args.from c.args.until c.args.seat.now numbers c.bodies_lie_apart.ensures (omega arith)
    (subst (HasNoStart c.args.seat.now.bodies c.args.from) c.if-a-until.true c.start_from-a.ensures.none))

pub sweep_object-size-requires-clause-judged : goal.sweep_object-size-requires-clause-judged
sweep_object-size-requires-clause-judged c =
    let start : IsPlace c.args.seat.now.bodies c.start_from-a.result = c.start_from-a.ensures.start (omega (arith, c.start_from-a.ensures.within)) in
    subst (λ (w : SeatView). holds w.dead c.start_from-a.result ≡ not (holds w.marked c.start_from-a.result)) (sym c.start_from-a.ensures.view)
    (subst (λ x. holds c.args.seat.now.dead x ≡ not (holds c.args.seat.now.marked x)) start.2
    (c.requires.judged start.0 start.1 (omega (arith, start.2, c.start_from-a.ensures.low))))

pub sweep_object-size-requires-clause-unnamed : goal.sweep_object-size-requires-clause-unnamed
sweep_object-size-requires-clause-unnamed c = subst DeadAreUnnamed (sym c.start_from-a.ensures.view) c.requires.unnamed

pub sweep_object-size-requires-clause-room : goal.sweep_object-size-requires-clause-room
sweep_object-size-requires-clause-room c =
    let a : ℕ = c.start_from-a.result in
    subst (λ (w : SeatView). length c.args.done.now.items + dead_between a (a + 1) w ≤ vec_capacity c.args.done.now)
    (sym c.start_from-a.ensures.view)
    (omega (
      arith,
      part_dead c.args.from a (a + 1) c.args.until c.args.seat.now c.start_from-a.ensures.low (omega (arith, c.start_from-a.ensures.within)),
      c.requires.room,
    ))

pub overflow_add-a : goal.overflow_add-a
overflow_add-a c =
    let low : c.start_from-a.result + c.sweep_object-size.result < 2 ^ 32 =
    omega (arith, c.sweep_object-size.ensures.inside, c.requires.space.seat, c.bodies_lie_apart.ensures.count) in
    search rules

pub returns-clause-swept : goal.returns-clause-swept
returns-clause-swept c =
    let v : SeatView = c.args.seat.now in
    let w : SeatView = c.sweep_object-size.new.seat in
    let a : ℕ = c.start_from-a.result in
    let numbers : List ℕ = c.args.done.now.items in
    let told : List ℕ = c.sweep_object-size.new.done.items in
    let size : ℕ = c.sweep_object-size.result in
    let object : Sweeps a (a + 1) v numbers w told =
    subst (λ (x : SeatView). Sweeps a (a + 1) x numbers w told) c.start_from-a.ensures.view c.sweep_object-size.ensures.swept in
    let further : a + 1 ≤ c.min.result = omega (arith, c.min.ensures, c.start_from-a.ensures.within, c.sweep_object-size.ensures.least) in
    let alone : HasNoStart v.bodies (a + 1) c.min.result =
    λ x first last start. c.sweep_object-size.ensures.alone x first (omega (arith, c.min.ensures))
    (subst (λ (y : SeatView). IsPlace y.bodies x) (sym c.start_from-a.ensures.view) start) in
    sweeps_on c.args.from a c.min.result v v w numbers numbers told c.start_from-a.ensures.low (omega arith)
    (nothing c.args.from a v numbers c.bodies_lie_apart.ensures c.start_from-a.ensures.low c.start_from-a.ensures.none)
    (sweeps_on a (a + 1) c.min.result v w w numbers told told (omega arith) further object
    (nothing (a + 1) c.min.result w told c.bodies_lie_apart-2.ensures further (start_stays a (a + 1) (a + 1) c.min.result v w object.view alone)))
