use Rattle.std.proofs.Common.{rules, ◌≡◌, ◌+◌, ◌-◌, ◌<◌, ◌∙◌, All, length, sym, ap, subst, arith}
use Rattle.callback_table.specs.Registry.{RegistryView, IsRegistered, entries_left}
use Rattle.callback_table.specs.Table.{callback_kinds}
use Rattle.callback_table.proofs.LastToFirst.{registered_now, one_run, one_kept, left_at_end}
use Rattle.callback_table.proofs.registry.Registry.run_dead.Goals as goal

pub run_if_dead-requires-clause-registered : goal.run_if_dead-requires-clause-registered
run_if_dead-requires-clause-registered g c =
    let up : c.loop-i.i ≡ c.loop-i.i - 1 + 1 = omega arith in
    let within : c.loop-i.i - 1 < length c.self.inside.entries.items = search rules in
    registered_now _ _ _ _ _ _ _ _ _ _ up c.loop-i.invariant.run within c.index-entry.ensures _
    (subst (λ (view : RegistryView). All (IsRegistered (g.B.Bodies.nodes c.args.bodies.now) (length (callback_kinds c.args.table.now))) view.entries) (sym c.self.view_is) c.requires.registered)

pub loop-i-preserved-then-run_if_dead : goal.loop-i-preserved-then-run_if_dead
loop-i-preserved-then-run_if_dead g c =
    let up : c.loop-i.i ≡ c.loop-i.i - 1 + 1 = omega arith in
    let within : c.loop-i.i - 1 < length c.self.inside.entries.items = search rules in
    record {
      run = one_run _ _ _ _ _ _ _ _ _ _ up c.loop-i.invariant.run within c.index-entry.ensures c.run_if_dead.result _ _ c.if-run_if_dead.true c.run_if_dead.ensures.answer
          c.run_if_dead.ensures.nodes c.push_reserved.ensures.items;
      ready = search rules;
      rest = g.met.B.Bodies.keeps_on _ _ _ c.loop-i.invariant.rest c.run_if_dead.ensures.rest;
      room = search rules;
    }

pub loop-i-preserved : goal.loop-i-preserved
loop-i-preserved g c =
    let up : c.loop-i.i ≡ c.loop-i.i - 1 + 1 = omega arith in
    let within : c.loop-i.i - 1 < length c.self.inside.entries.items = search rules in
    record {
      run = one_kept _ _ _ _ _ _ _ _ _ _ up c.loop-i.invariant.run within c.index-entry.ensures c.run_if_dead.result _ c.if-run_if_dead.false c.run_if_dead.ensures.answer
          c.run_if_dead.ensures.nodes;
      ready = search rules;
      rest = g.met.B.Bodies.keeps_on _ _ _ c.loop-i.invariant.rest c.run_if_dead.ensures.rest;
      room = search rules;
    }

pub returns-clause-left : goal.returns-clause-left
returns-clause-left g c =
    let none : c.loop-i.i ≡ 0 = omega arith in
    c.drop-drain.ensures.items ∙ c.drain.ensures.kept ∙ left_at_end _ _ _ _ _ _ _ _ none c.loop-i.invariant.run
    ∙ ap (λ (view : RegistryView). entries_left (g.B.Bodies.nodes c.args.bodies.now) view.entries) c.self.view_is
