use Rattle.std.proofs.Common.{◌≤◌, length, vec_capacity}
use Rattle.callback_table.specs.Table.{callback_kinds}
use Rattle.callback_table.proofs.LastToFirst.{IsRun}
use Rattle.callback_table.proofs.registry.Registry.run_dead.Given as goal

abbrev pub invariant-loop-i : goal.invariant-loop-i
invariant-loop-i g l = record {
  run : IsRun (callback_kinds l.table) (g.B.Bodies.nodes l.initial.bodies) l.initial.self-inside.entries.items l.i (g.B.Bodies.nodes l.bodies)
      l.self-inside.ran.items l.self-inside.entries.items l.kept;
  ready : g.B.Bodies.is_ready l.bodies;
  rest : g.B.Bodies.keeps l.initial.bodies l.bodies;
  room : length l.self-inside.entries.items ≤ vec_capacity l.self-inside.ran;
}
