use Rattle.std.proofs.Common.{rules, ◌<◌, length, get_or, ap}
use Rattle.callback_table.specs.WeakRegistry.{weak_registration_of}
use Rattle.callback_table.proofs.FirstToLast.{callbacks_more, made_on, registered_of, weakly_registered_now}
use Rattle.callback_table.proofs.weak_running.run_masked.Goals as goal

pub run-requires-clause-registered : goal.run-requires-clause-registered
run-requires-clause-registered g c =
    let within : c.loop-callback.callback-index < length c.args.entry.now.callbacks.items = search rules in
    registered_of _ _ (weak_registration_of c.args.entry.now) _ _ within (ap (λ callbacks. get_or callbacks c.loop-callback.callback-index 0) c.deref-callback-items.ensures.value)
    (weakly_registered_now _ _ _ _ _ _ _ _ c.loop-callback.invariant.made c.requires.registered)

pub loop-callback-preserved : goal.loop-callback-preserved
loop-callback-preserved g c =
    let within : c.loop-callback.callback-index < length c.args.entry.now.callbacks.items = search rules in
    record {
      made =
          made_on _ _ _ _ _ _ _ _ _ _ c.loop-callback.invariant.made c.run.ensures.nodes c.push_reserved.ensures.items
          (callbacks_more _ _ _ _ _ within (ap (λ callbacks. get_or callbacks c.loop-callback.callback-index 0) c.deref-callback-items.ensures.value));
      room = search rules;
      ready = search rules;
      rest = g.met.B.Bodies.keeps_on _ _ _ c.loop-callback.invariant.rest c.run.ensures.rest;
    }
