use Rattle.std.proofs.Common.{◌≡◌, take, false, None, ap, sym, ◌∙◌, subst}
use Rattle.gc_graph.specs.declared.region.Op.{Op}
use Rattle.gc_graph.specs.declared.region.Op.TheVariants as O
use Rattle.gc_graph.specs.declared.region.Reply.TheVariants as R
use Rattle.cross_thread_region.specs.Histories.{start_told}
use Rattle.cross_thread_region.specs.Calls.{RegionView, IsPassReady}
use Rattle.heap_region.specs.Calls.{HasEntered}
use Rattle.heap_region.specs.Handled.{IsHandled, LooksAgain}
use Rattle.heap_region.specs.Owned.{OwnedView}
use Rattle.heap_region.proofs.CallEnds.{HasLookedOn, HasMade, all_taken, few_taken, has_entered, has_made, looks_again, may_look, reply_made, stays_owned, still_ready}
use Rattle.heap_region.proofs.Fields.{called_fields, owned_view}
use Rattle.heap_region.proofs.OwnedOn.{not_held}
use Rattle.heap_region.proofs.Refused.{still_owned}
use Rattle.heap_region.proofs.owned.OwnedRegion.start.Given as given
use Rattle.heap_region.proofs.owned.OwnedRegion.start.Goals as goal
use Rattle.heap_region.proofs.owned.OwnedRegion.start.Goals.{In_default}

abbrev op : (g : given.Over) → In_default g → Op
op g c = O.Start

opened : (g : given.Over) (c : In_default g) → c.self.inside.closed ≡ false
opened g c = ap (λ (v : OwnedView). v.closed) c.self.view_is ∙ c.requires.opened

quiet : (g : given.Over) (c : In_default g) → c.self.inside.held ≡ None
quiet g c = not_held c.self.inside c.self.invariant (ap (λ (v : OwnedView). v.told) c.self.view_is ∙ c.requires.quiet)

made : (g : given.Over) (c : In_default g) → HasMade c.self.inside (op g c) 0 c.start_entry.new.pass
made g c = has_made c.self.inside (op g c) 0 c.start_entry.result c.start_entry.new.pass c.self.invariant (opened g c) (quiet g c) c.start_entry.ensures.call c.in_default.not-NoMemory

pub invariant_of-self : goal.invariant_of-self
invariant_of-self g c =
    still_owned c.self.inside c.self.invariant (not_held c.self.inside c.self.invariant (ap (λ (v : OwnedView). v.told) c.self.view_is ∙ c.requires.quiet))
    (ap (λ (v : OwnedView). v.closed) c.self.view_is ∙ c.requires.opened) (O.Start) (0) c.start_entry.result c.start_entry.new.pass c.start_entry.ensures.call c.in-NoMemory.is

pub look_at_seen-self-inside-requires : goal.look_at_seen-self-inside-requires
look_at_seen-self-inside-requires g c =
    let at : In_default g = (goal.at.look_at_seen-self-inside-requires g c).In_default in
    let is : HasMade c.self.inside (op g at) (0) c.start_entry.new.pass = made g at in
    record {
      ready = subst (λ (x : RegionView). IsPassReady x c.start_entry.new.pass) (sym c.deref-in_default.ensures) (still_ready is);
      few = few_taken is;
      valid = c.requires.valid;
      handled = may_look is c.args.objects.now.nodes (subst (λ (v : OwnedView). IsHandled c.args.objects.now.nodes v.taken) (sym c.self.view_is) c.requires.handled);
    }

pub invariant_of-self-in_default : goal.invariant_of-self-in_default
invariant_of-self-in_default g c =
    let at : In_default g = (goal.at.invariant_of-self-in_default g c).In_default in
    let on : HasLookedOn c.start_entry.new.pass c.look_at_seen-self-inside.new.pass =
    record { found = c.look_at_seen-self-inside.ensures.found; pass = c.look_at_seen-self-inside.ensures.pass } in
    stays_owned (made g at) on c.look_at_seen-self-inside.result c.look_at_seen-self-inside.ensures.count

pub returns-in_default : goal.returns-in_default
returns-in_default g c =
    let at : In_default g = (goal.at.returns-in_default g c).In_default in
    let on : HasLookedOn c.start_entry.new.pass c.look_at_seen-self-inside.new.pass =
    record { found = c.look_at_seen-self-inside.ensures.found; pass = c.look_at_seen-self-inside.ensures.pass } in
    let r = c.self.inside in
    let new : OwnedView = owned_view (called_fields r c.look_at_seen-self-inside.new.pass c.look_at_seen-self-inside.result) in
    let taken : new.taken ≡ c.start_entry.new.pass.seen =
    ap (λ n. take n c.look_at_seen-self-inside.new.pass.seen) c.look_at_seen-self-inside.ensures.count ∙ all_taken (made g at) on in
    let reply : c.start_entry.result ≡ R.Done =
    reply_made r.pass (op g at) 0 c.start_entry.result c.start_entry.new.pass c.start_entry.ensures.call c.in_default.not-NoMemory in
    let r_slots : c.deref.result.now.slots ≡ 32 = ap (λ (x : RegionView). x.slots) c.deref.ensures ∙ c.self.invariant.owner.slots in
    record {
      entered = subst (λ (v : OwnedView). HasEntered (op g at) (0) v new) c.self.view_is
          (has_entered (made g at) on c.look_at_seen-self-inside.result c.look_at_seen-self-inside.ensures.count);
      looked = subst (λ (v : OwnedView). LooksAgain c.args.objects.now v new c.look_at_seen-self-inside.new.objects) c.self.view_is
          (looks_again (made g at) on c.look_at_seen-self-inside.result c.look_at_seen-self-inside.ensures.count c.args.objects.now
          c.look_at_seen-self-inside.new.objects c.look_at_seen-self-inside.ensures.looked);
      same = tt;
      objects = tt;
      told = c.start_entry.ensures.strong reply ∙ ap (start_told c.start_entry.new.pass.seen) r_slots ∙ ap (λ h. start_told h 32) (sym taken);
    }
