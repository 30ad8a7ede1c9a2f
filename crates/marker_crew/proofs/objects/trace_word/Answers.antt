use Rattle.std.proofs.Common.{rules, ◌+◌, ◌<◌, ◌^◌, subst, arith}
use Rattle.marker_core.specs.declared.states.Hand.{Hand}
use Rattle.marker_core.specs.declared.states.Part.TheVariants.{Read}
use Rattle.marker_core.specs.declared.states.Role.TheVariants.{StrongWord}
use Rattle.marker_crew.specs.Hands.{MarkerIsAt, MarkerIsAtWord}
use Rattle.marker_crew.proofs.objects.trace_word.Goals as goal

pub overflow_add-place : goal.overflow_add-place
overflow_add-place c =
    let at : MarkerIsAt c.args.seat.now c.args.place c.in-StrongAt.offset StrongWord Read = subst (MarkerIsAtWord c.args.seat.now c.args.place) c.in-StrongAt.is c.requires.hand in
    let h : Hand = record { place = c.args.place; ty = at.ty; next = c.in-StrongAt.offset; part = Read } in
    let is = c.places_are_within.ensures.view.hand_is h at.is in
    let low : c.args.place + c.in-StrongAt.offset < 2 ^ 32 = omega (arith, is.inside, is.within, c.places_are_within.ensures.view.small) in
    search rules

pub returns-in-StrongAt-clause-works : goal.returns-in-StrongAt-clause-works
returns-in-StrongAt-clause-works c = c.trace_target.ensures.works c.args.notes.now
