use Rattle.std.proofs.Common.{rules, ◌≡◌, ◌<◌, ◌∙◌, All, length, get_or, sym, ap, subst}
use Rattle.callback_table.specs.Table.{callback_kinds}
use Rattle.callback_table.specs.WeakRegistry.{WeakRegistryView, weak_registration_of, IsWeaklyRegistered}
use Rattle.callback_table.proofs.FirstToLast.{one_more_run, fewer_run, registered_at, weakly_registered_now}
use Rattle.callback_table.proofs.weak_registry.WeakRegistry.run.Goals as goal

pub run_masked-requires-clause-registered : goal.run_masked-requires-clause-registered
run_masked-requires-clause-registered g c =
    let within : c.loop-i.i < length c.self.inside.entries.items = search rules in
    let read : c.index.result.now ≡ get_or c.self.inside.entries.items c.loop-i.i c.index.result.now =
    c.index.ensures ∙ ap (λ entries. get_or entries.items c.loop-i.i c.index.result.now) c.loop-i.invariant.entries in
    weakly_registered_now _ _ _ _ _ _ _ (weak_registration_of c.index.result.now) c.loop-i.invariant.made
    (registered_at (IsWeaklyRegistered (g.B.Bodies.nodes c.args.bodies.now) (length (callback_kinds c.args.table.now))) _ _ _ within read
    (subst (λ (view : WeakRegistryView). All (IsWeaklyRegistered (g.B.Bodies.nodes c.args.bodies.now) (length (callback_kinds c.args.table.now))) view.entries)
    (sym c.self.view_is) c.requires.registered))

pub loop-i-preserved : goal.loop-i-preserved
loop-i-preserved g c =
    let within : c.loop-i.i < length c.self.inside.entries.items = search rules in
    let read : c.index.result.now ≡ get_or c.self.inside.entries.items c.loop-i.i c.index.result.now =
    c.index.ensures ∙ ap (λ entries. get_or entries.items c.loop-i.i c.index.result.now) c.loop-i.invariant.entries in
    record {
      made = one_more_run _ _ _ _ _ _ _ _ _ within read c.loop-i.invariant.made c.run_masked.ensures.nodes c.run_masked.ensures.ran;
      entries = c.loop-i.invariant.entries;
      calls = c.loop-i.invariant.calls;
      room = search rules;
      fewer = fewer_run _ _ _ _ _ within read c.loop-i.invariant.fewer c.run_masked.ensures.ran;
      ready = search rules;
      rest = g.met.B.Bodies.keeps_on _ _ _ c.loop-i.invariant.rest c.run_masked.ensures.rest;
    }
