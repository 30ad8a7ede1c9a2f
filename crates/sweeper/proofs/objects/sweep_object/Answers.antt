use Rattle.std.proofs.Common.{◌≡◌, ◌+◌, ◌≤◌, true, not, arith, subst, sym, ap, ◌∙◌}
use Rattle.marker_core.specs.Bodies.{IsPlace, holds}
use Rattle.page_space.specs.Seat.{SeatView, IsUnnamed, OnlyLooked, unlooked, unmarked_at, retracted}
use Rattle.sweeper.specs.Sweeping.{Sweeps, dead_between}
use Rattle.sweeper.proofs.Sweeping.{one_kept, one_gone, alone, dead_here, sweeps_looked}
use Rattle.sweeper.proofs.objects.sweep_object.Goals as goal

pub returns-then-header-clause-swept : goal.returns-then-header-clause-swept
returns-then-header-clause-swept c =
    let start : IsPlace c.args.seat.now.bodies c.args.a = c.requires.start in
    let marked : c.header_at-header.result.mark ≡ holds c.args.seat.now.marked c.args.a =
    (c.header_at-header.ensures.header start.0 start.1 start.2).mark.alone (c.bodies_lie_apart.ensures.at_rest c.requires.off).none_lent
    ∙ ap (holds c.args.seat.now.marked) start.2 in
    let unmarked : OnlyLooked (unmarked_at c.args.seat.now c.args.a) c.unmark.new.seat =
    ap unlooked c.unmark.ensures ∙ ap (λ w. unmarked_at w c.args.a) c.header_at-header.ensures.view in
    sweeps_looked c.args.a (c.args.a + 1) c.args.seat.now (unmarked_at c.args.seat.now c.args.a) c.unmark.new.seat c.args.done.now.items c.args.done.now.items unmarked
    (one_kept c.args.a c.args.seat.now c.args.done.now.items c.bodies_lie_apart.ensures (sym marked ∙ c.if-header.true))

pub returns-then-header-clause-alone : goal.returns-then-header-clause-alone
returns-then-header-clause-alone c =
    let start : IsPlace c.args.seat.now.bodies c.args.a = c.requires.start in
    alone c.args.seat.now start.0 c.args.a c.header_at-header.result.size c.bodies_lie_apart.ensures start.1 start.2
    (c.header_at-header.ensures.header start.0 start.1 start.2).size

-- a dead object is one of those for which there is room
pub push_reserved-requires : goal.push_reserved-requires
push_reserved-requires c =
    let start : IsPlace c.args.seat.now.bodies c.args.a = c.requires.start in
    let marked : c.header_at-header.result.mark ≡ holds c.args.seat.now.marked c.args.a =
    (c.header_at-header.ensures.header start.0 start.1 start.2).mark.alone (c.bodies_lie_apart.ensures.at_rest c.requires.off).none_lent
    ∙ ap (holds c.args.seat.now.marked) start.2 in
    let dead : holds c.args.seat.now.dead c.args.a ≡ true = c.requires.judged ∙ ap not (sym marked ∙ c.if-header.false) in
    let one : 1 ≤ dead_between c.args.a (c.args.a + 1) c.args.seat.now = dead_here c.args.a c.args.seat.now start.0 start.1 start.2 dead in
    omega (arith, one, c.requires.room)

pub free-requires-clause-unnamed : goal.free-requires-clause-unnamed
free-requires-clause-unnamed c =
    let start : IsPlace c.args.seat.now.bodies c.args.a = c.requires.start in
    let marked : c.header_at-header.result.mark ≡ holds c.args.seat.now.marked c.args.a =
    (c.header_at-header.ensures.header start.0 start.1 start.2).mark.alone (c.bodies_lie_apart.ensures.at_rest c.requires.off).none_lent
    ∙ ap (holds c.args.seat.now.marked) start.2 in
    let dead : holds c.args.seat.now.dead c.args.a ≡ true = c.requires.judged ∙ ap not (sym marked ∙ c.if-header.false) in
    let same : OnlyLooked c.args.seat.now c.serial_at.new.seat = ap unlooked c.serial_at.ensures.view ∙ c.header_at-header.ensures.view in
    subst (λ (v : SeatView). IsUnnamed v.types v.bodies v.dead c.args.a) (sym same) (c.requires.unnamed c.args.a dead)

pub returns-else-header-clause-swept : goal.returns-else-header-clause-swept
returns-else-header-clause-swept c =
    let start : IsPlace c.args.seat.now.bodies c.args.a = c.requires.start in
    let marked : c.header_at-header.result.mark ≡ holds c.args.seat.now.marked c.args.a =
    (c.header_at-header.ensures.header start.0 start.1 start.2).mark.alone (c.bodies_lie_apart.ensures.at_rest c.requires.off).none_lent
    ∙ ap (holds c.args.seat.now.marked) start.2 in
    let serials = rw (ap (λ (v : SeatView). v.bodies) c.header_at-header.ensures.view) at c.serial_at.ensures.serial in
    let serial : c.serial_at.result ≡ start.0.serial = serials start.0 start.1 start.2 in
    let gone : OnlyLooked (retracted c.args.seat.now c.args.a) c.free.new.seat =
    c.free.ensures.freed ∙ ap (λ w. unlooked (retracted w c.args.a)) c.serial_at.ensures.view ∙ ap (λ w. retracted w c.args.a) c.header_at-header.ensures.view in
    sweeps_looked c.args.a (c.args.a + 1) c.args.seat.now (retracted c.args.seat.now c.args.a) c.free.new.seat c.args.done.now.items c.push_reserved.new.self.items gone
    (subst (Sweeps c.args.a (c.args.a + 1) c.args.seat.now c.args.done.now.items (retracted c.args.seat.now c.args.a)) (cc)
    (one_gone c.args.a c.args.seat.now start.0 c.args.done.now.items c.bodies_lie_apart.ensures c.requires.off start.1 start.2
    (c.requires.judged ∙ ap not (sym marked ∙ c.if-header.false))))

pub returns-else-header-clause-alone : goal.returns-else-header-clause-alone
returns-else-header-clause-alone c =
    let start : IsPlace c.args.seat.now.bodies c.args.a = c.requires.start in
    alone c.args.seat.now start.0 c.args.a c.header_at-header.result.size c.bodies_lie_apart.ensures start.1 start.2
    (c.header_at-header.ensures.header start.0 start.1 start.2).size
