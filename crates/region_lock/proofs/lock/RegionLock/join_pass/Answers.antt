use Rattle.std.proofs.Common.{Option, arith, sym, ap, subst, ◌∙◌}
use Rattle.atomic_table.specs.Table.{Me}
use Rattle.region_lock.specs.declared.views.LockView.{LockView}
use Rattle.region_lock.specs.Rule.{BeginsOther}
use Rattle.region_lock.specs.Passes.{PassState, carried_by}
use Rattle.region_lock.proofs.Sharing.{joins}
use Rattle.region_lock.proofs.Passing.{no_turn}
use Rattle.region_lock.proofs.lock.RegionLock.join_pass.Goals as goal

pub join_seat-requires : goal.join_seat-requires
join_seat-requires g c =
    let first = c.pass.inside.seat in
    let second = c.other.inside.seat in
    let free = no_turn second.me.0 (ap (λ (p : PassState g.row.V-Entry.Denot). p.turn) c.other.view_is ∙ c.requires.free) in (
      ap (λ (p : PassState g.row.V-Entry.Denot). p.lock) c.pass.view_is ∙ c.requires.lock ∙ sym c.self.view_is,
      ap (λ (p : PassState g.row.V-Entry.Denot). p.lock) c.other.view_is ∙ c.requires.same ∙ sym c.self.view_is,
      c.other.invariant.carries ∙ ap carried_by free,
      omega (arith, c.self.invariant.0),
      joins g.V.Chronicle.entries g.V.Chronicle.number first.id first.me.0 second.id second.me.0 c.pass.invariant.lives
          (ap (λ (p : PassState g.row.V-Entry.Denot). p.number) c.pass.view_is ∙ c.requires.first) c.other.invariant.lives
          (λ e. c.requires.later (sym (ap (λ (p : PassState g.row.V-Entry.Denot). p.number) c.other.view_is) ∙ e))
          (c.other.invariant.waits ∙ free) free,
    )

-- what the look after the join tells of the two passes
pub returns-clause-seen : goal.returns-clause-seen
returns-clause-seen g c =
    let names = g.V.Chronicle.number in
    let first = c.args.pass.now in
    let second = c.other.inside.seat.me.0 in
    subst (λ (q : PassState g.row.V-Entry.Denot). BeginsOther names q.number first.seen q.seen first.out) c.other.view_is
    (subst (λ (p : PassState g.row.V-Entry.Denot). BeginsOther names second.number p.seen second.seen p.out) c.pass.view_is
    (subst (λ (me : Me (Option g.row.V.Denot) (LockView g.row.V-Entry.Denot)). BeginsOther names me.0.back me.0.own me.0.others me.0.was_out)
    c.join_seat.ensures.2 c.look.ensures.counted.joined))
