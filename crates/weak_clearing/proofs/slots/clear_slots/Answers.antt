use Rattle.std.proofs.Common.{◌<◌, ℕ, Bool, not, None, get_or, length, set, ap, sym, ◌∙◌, subst, arith}
use Rattle.std.specs.Option.{ForSome}
use Rattle.gc_graph.specs.Pause.{clear_slot}
use Rattle.marker_core.specs.Bodies.{IsPlace, holds}
use Rattle.page_words.specs.Seat.{SeatView}
use Rattle.weak_clearing.proofs.InTurn.{first_many, next_same, next_cleared, all_cleared, place_in_slot}
use Rattle.page_words.specs.Looking.{looks_on}
use Rattle.weak_clearing.proofs.slots.clear_slots.Goals as goal

abbrev unmarked : SeatView → ℕ → Bool
unmarked v a = not (holds v.marked a)

pub clear_at-requires-clause-slot : goal.clear_at-requires-clause-slot
clear_at-requires-clause-slot c =
    omega (arith, c.loop-i-test.true, c.len-i-end.ensures, ap length c.loop-i.invariant.cleared, first_many (unmarked c.args.seat.now) c.loop-i.i c.args.weak.now)

pub clear_at-requires-clause-place : goal.clear_at-requires-clause-place
clear_at-requires-clause-place c =
    subst (λ (v : SeatView). ForSome (get_or c.loop-i.weak c.loop-i.i None) (IsPlace v.bodies)) (sym c.loop-i.invariant.view)
    (subst (λ slot. ForSome slot (IsPlace c.args.seat.now.bodies))
    (sym (ap (λ slots. get_or slots c.loop-i.i None) c.loop-i.invariant.cleared ∙ next_same (unmarked c.args.seat.now) c.loop-i.i c.args.weak.now))
    (place_in_slot (IsPlace c.args.seat.now.bodies) c.args.weak.now c.loop-i.i c.requires.places))

pub loop-i-preserved : goal.loop-i-preserved
loop-i-preserved c =
    let dead : ℕ → Bool = unmarked c.args.seat.now in
    let low : c.loop-i.i < length c.args.weak.now = omega (arith, c.loop-i-test.true, c.len-i-end.ensures) in
    record {
      cleared =
          c.clear_at.ensures.cleared
          ∙ ap (λ (v : SeatView). set c.loop-i.weak c.loop-i.i (clear_slot (unmarked v) (get_or c.loop-i.weak c.loop-i.i None))) c.loop-i.invariant.view
          ∙ ap (λ slots. set slots c.loop-i.i (clear_slot dead (get_or slots c.loop-i.i None))) c.loop-i.invariant.cleared
          ∙ next_cleared dead c.loop-i.i c.args.weak.now low;
      view = c.clear_at.ensures.view ∙ c.loop-i.invariant.view;
      looked = looks_on c.args.seat.now c.loop-i.seat c.clear_at.new.seat c.loop-i.invariant.looked c.clear_at.ensures.looked;
    }

pub returns-clause-cleared : goal.returns-clause-cleared
returns-clause-cleared c =
    c.loop-i.invariant.cleared
    ∙ all_cleared (unmarked c.args.seat.now) c.loop-i.i c.args.weak.now (omega (arith, c.loop-i-test.false, c.len-i-end.ensures))
