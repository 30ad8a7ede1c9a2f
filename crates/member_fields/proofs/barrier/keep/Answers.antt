use Rattle.std.proofs.Common.{Bool, not, sym, ap, ◌∙◌}
use Rattle.page_words.specs.Seat.{marked_at}
use Rattle.member_fields.proofs.Marked.{fresh_barrier}
use Rattle.member_fields.proofs.barrier.keep.Goals as goal

pub returns-then-mark : goal.returns-then-mark
returns-then-mark g c =
    let on = sym c.requires.on ∙ c.if-not-marking.false in
    fresh_barrier c.args.seat.now c.mark.new.seat c.args.marking.now c.push.new.self c.args.target c.in-Some.place on c.in-Some.ensures
    (c.mark.ensures.view ∙ ap (λ (b : Bool). marked_at c.args.seat.now c.in-Some.place (not b)) c.if-mark.true)
    (λ lent. sym c.if-mark.true ∙ c.mark.ensures.fresh lent) c.push.ensures.listed c.push.ensures.told
