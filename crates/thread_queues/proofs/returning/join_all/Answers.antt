use Rattle.std.proofs.Common.{rules, ◌≡◌, [], refl, ap, ◌∙◌}
use Rattle.cross_thread_region.specs.Calls.{PassView}
use Rattle.thread_queues.proofs.Joining.{met_none, met_next, met_all, seen_alone}
use Rattle.thread_queues.proofs.Passes.{last_ready, last_other, out_joined, none_left}
use Rattle.thread_queues.proofs.returning.join_all.Goals as goal

pub loop-own-init : goal.loop-own-init
loop-own-init c = record {
  first = c.requires.first;
  out = c.requires.out;
  met = met_none _ _;
  pass = refl;
  room = refl;
}

pub loop-own-preserved : goal.loop-own-preserved
loop-own-preserved c = record {
  first = record {
    ready = record {
      lock = ap (λ (p : PassView). p.lock) c.join_pass.ensures.joined ∙ c.loop-own.invariant.first.ready.lock;
      free = ap (λ (p : PassView). p.turn) c.join_pass.ensures.joined ∙ c.loop-own.invariant.first.ready.free;
    };
    first = ap (λ (p : PassView). p.number) c.join_pass.ensures.joined ∙ c.loop-own.invariant.first.first;
    slots = c.loop-own.invariant.first.slots;
  };
  out = out_joined _ _ c.in-Some.own _ c.pop.new.self.items c.in-Some.ensures.items c.loop-own.invariant.out _ c.join_pass.ensures.joined;
  met = met_next c.args.passes.now.items _ c.pop.new.self.items c.args.pass.now c.loop-own.pass c.in-Some.own c.join_pass.new.pass c.in-Some.ensures.items c.loop-own.invariant.met c.join_pass.ensures.joined c.join_pass.ensures.seen;
  pass = seen_alone c.args.pass.now c.loop-own.pass c.join_pass.new.pass c.in-Some.own c.loop-own.invariant.pass c.join_pass.ensures.joined;
  room = search rules;
}

pub join_pass-requires-clause-ready : goal.join_pass-requires-clause-ready
join_pass-requires-clause-ready c = last_ready _ _ c.in-Some.own _ c.pop.new.self.items c.in-Some.ensures.items c.loop-own.invariant.out

pub join_pass-requires-clause-later : goal.join_pass-requires-clause-later
join_pass-requires-clause-later c = last_other _ _ c.in-Some.own _ c.pop.new.self.items c.in-Some.ensures.items c.loop-own.invariant.out

pub returns-clause-pass : goal.returns-clause-pass
returns-clause-pass c =
    let none : c.loop-own.passes.items ≡ [] = search rules in
    c.loop-own.invariant.pass
    ∙ ap (λ o. record c.args.pass.now { seen = c.loop-own.pass.seen; out = o }) (none_left _ _ _ c.loop-own.invariant.out none)

pub returns-clause-met : goal.returns-clause-met
returns-clause-met c = met_all _ c.loop-own.passes.items _ _ c.loop-own.invariant.met (search rules)
