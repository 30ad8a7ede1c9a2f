use Rattle.std.proofs.Common.{◌≡◌, map, take, vec_capacity}
use Rattle.gc_graph.specs.WeakCalls.{weak_call}
use Rattle.callback_table.specs.Table.{callback_kinds}
use Rattle.callback_table.proofs.FirstToLast.{AreMade}
use Rattle.callback_table.proofs.weak_running.run_masked.Given as goal

abbrev pub invariant-loop-callback : goal.invariant-loop-callback
invariant-loop-callback g l = record {
  made : AreMade (callback_kinds l.table) (g.B.Bodies.nodes l.initial.bodies) l.initial.ran.items
      (map (weak_call l.entry.node l.entry.mask) (take l.callback-index l.entry.callbacks.items)) (g.B.Bodies.nodes l.bodies) l.ran.items;
  room : vec_capacity l.ran ≡ vec_capacity l.initial.ran;
  ready : g.B.Bodies.is_ready l.bodies;
  rest : g.B.Bodies.keeps l.initial.bodies l.bodies;
}
