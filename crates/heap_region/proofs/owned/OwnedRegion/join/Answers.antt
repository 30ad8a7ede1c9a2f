use Rattle.std.proofs.Common.{◌≡◌, ◌+◌, ◌-◌, ◌<◌, length, Option, None, sym, ap, ◌∙◌, subst, arith}
use Rattle.cross_thread_region.specs.Calls.{HeldView}
use Rattle.heap_region.specs.Calls.{HasJoined}
use Rattle.heap_region.specs.Handled.{IsHandled, LooksAgain}
use Rattle.heap_region.specs.Owned.{OwnedView}
use Rattle.heap_region.proofs.Fields.{owned_view}
use Rattle.heap_region.proofs.JoinEnds.{HasMet, ended_fields, joined_ended, joined_kept, kept_fields, looked_kept, may_look, turn_kept}
use Rattle.heap_region.proofs.OwnedOn.{not_held_yet}
use Rattle.heap_region.proofs.owned.OwnedRegion.join.Given as given
use Rattle.heap_region.proofs.owned.OwnedRegion.join.Goals as goal
use Rattle.heap_region.proofs.owned.OwnedRegion.join.Goals.{After-look-held, in-Some-1, in-None-1}

abbrev met : (g : given.Over) (c : After-look-held g) → HasMet c.self.inside c.join-count.new.self c.join-count.new.pass c.look-held.result c.look-held.new.pass
met g c = record {
  owned = c.self.invariant;
  opened = ap (λ (v : OwnedView). v.closed) c.self.view_is ∙ c.requires.opened;
  awaits = ap (λ (v : OwnedView). v.awaiting) c.self.view_is ∙ c.requires.awaited;
  mid_is = c.join-count.ensures.pass;
  replies = c.join-count.new.self.replies;
  returned = c.join-count.ensures.returned;
  told = c.join-count.ensures.told;
  fall = c.join-count.ensures.fall;
  legal = c.is_legal.ensures.legal;
  right = c.is_legal.ensures.right;
  left_is = c.join-count.ensures.joined;
  finds = c.look-held.ensures.found;
  looking_is = c.look-held.ensures.pass;
}

pub look_again-requires-clause-handled : goal.look_again-requires-clause-handled
look_again-requires-clause-handled g c k above below =
    may_look (met g ((goal.at.look_again-requires-clause-handled g c).After-look-held)) c.args.objects.now.nodes
    (subst (λ (v : OwnedView). IsHandled c.args.objects.now.nodes v.taken) (sym c.self.view_is) c.requires.handled) k above (omega (arith, below, c.len-taken.ensures.count))

pub invariant_of-self-then-lines-gt0-2 : goal.invariant_of-self-then-lines-gt0-2
invariant_of-self-then-lines-gt0-2 g c =
    turn_kept (met g ((goal.at.invariant_of-self-then-lines-gt0-2 g c).After-look-held)) c.len-taken.result c.len-taken.ensures.count
    (subst (λ n. 0 < n + (c.len-taken.result - c.self.inside.printed)) c.reply_count.ensures.count (omega (arith, c.if-lines-gt0.true)))

pub returns-then-lines-gt0-clause-joined : goal.returns-then-lines-gt0-clause-joined
returns-then-lines-gt0-clause-joined g c =
    let m = met g ((goal.at.returns-then-lines-gt0-clause-joined g c).After-look-held) in
    let new : OwnedView = owned_view (kept_fields m c.len-taken.result c.len-taken.ensures.count) in
    let joined : HasJoined c.args.self.now new c.join-count.result =
    subst (HasJoined c.args.self.now new) (sym c.join-count.ensures.count)
    (subst (λ (v : OwnedView). HasJoined v new (length c.self.inside.threads.running)) c.self.view_is (joined_kept m c.len-taken.result c.len-taken.ensures.count)) in
    elim c.match-self.branch [
      | in-Some-1 w ↦ subst (λ (v : OwnedView). HasJoined c.args.self.now v c.join-count.result) (sym w.self-is) joined
      | in-None-1 w ↦ subst (λ (v : OwnedView). HasJoined c.args.self.now v c.join-count.result) (sym w.self-is) joined
    ]

pub returns-then-lines-gt0-clause-looked : goal.returns-then-lines-gt0-clause-looked
returns-then-lines-gt0-clause-looked g c =
    let m = met g ((goal.at.returns-then-lines-gt0-clause-looked g c).After-look-held) in
    let new : OwnedView = owned_view (kept_fields m c.len-taken.result c.len-taken.ensures.count) in
    let looked : LooksAgain c.args.objects.now c.args.self.now new c.look_again.new.objects =
    subst (λ (v : OwnedView). LooksAgain c.args.objects.now v new c.look_again.new.objects) c.self.view_is
    (looked_kept m c.len-taken.result c.len-taken.ensures.count c.args.objects.now c.look_again.new.objects c.look_again.ensures) in
    elim c.match-self.branch [
      | in-Some-1 w ↦ subst (λ (v : OwnedView). LooksAgain c.args.objects.now c.args.self.now v c.look_again.new.objects) (sym w.self-is) looked
      | in-None-1 w ↦ subst (λ (v : OwnedView). LooksAgain c.args.objects.now c.args.self.now v c.look_again.new.objects) (sym w.self-is) looked
    ]

none_kept : (g : given.Over) (c : After-look-held g) → c.self.inside.held ≡ None
none_kept g c = not_held_yet c.self.inside c.self.invariant (ap (λ (v : OwnedView). v.awaiting) c.self.view_is ∙ c.requires.awaited)

pub returns-else-lines-gt0-clause-joined : goal.returns-else-lines-gt0-clause-joined
returns-else-lines-gt0-clause-joined g c =
    let at : After-look-held g = (goal.at.returns-else-lines-gt0-clause-joined g c).After-look-held in
    let r = c.self.inside in
    let ended = ended_fields (met g at) c.len-taken.result c.len-taken.ensures.count c.end_look.new.pass in
    let none : length c.join-count.new.self.replies + (c.len-taken.result - r.printed) ≡ 0 =
    ap (λ n. n + (c.len-taken.result - r.printed)) (sym c.reply_count.ensures.count) ∙ omega (arith, c.if-lines-gt0.false) in
    subst (λ (held : Option HeldView). HasJoined c.args.self.now (owned_view (record ended { held = held })) c.join-count.result) (sym (none_kept g at))
    (subst (HasJoined c.args.self.now (owned_view ended)) (sym c.join-count.ensures.count)
    (subst (λ (v : OwnedView). HasJoined v (owned_view ended) (length r.threads.running)) c.self.view_is
    (joined_ended (met g at) c.len-taken.result c.len-taken.ensures.count c.end_look.new.pass c.end_look.ensures none)))
