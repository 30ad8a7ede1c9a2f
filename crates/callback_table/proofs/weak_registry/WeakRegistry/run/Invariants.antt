use Rattle.std.proofs.Common.{◌≡◌, ◌≤◌, [], length, take, vec_capacity}
use Rattle.std.specs.List.{sum_by}
use Rattle.callback_table.specs.Table.{callback_kinds}
use Rattle.callback_table.specs.WeakRegistry.{weak_registrations_of, calls_in_order}
use Rattle.callback_table.proofs.Asked.{callback_count}
use Rattle.callback_table.proofs.FirstToLast.{AreMade}
use Rattle.callback_table.proofs.weak_registry.WeakRegistry.run.Given as goal

abbrev pub invariant-loop-i : goal.invariant-loop-i
invariant-loop-i g l = record {
  made : AreMade (callback_kinds l.table) (g.B.Bodies.nodes l.initial.bodies) []
      (calls_in_order (weak_registrations_of (take l.i l.initial.self-inside.entries.items))) (g.B.Bodies.nodes l.bodies) l.self-inside.ran.items;
  entries : l.self-inside.entries ≡ l.initial.self-inside.entries;
  calls : l.self-inside.calls ≡ l.initial.self-inside.calls;
  room : vec_capacity l.self-inside.ran ≡ vec_capacity l.initial.self-inside.ran;
  fewer : length l.self-inside.ran.items ≤ sum_by callback_count (take l.i l.initial.self-inside.entries.items);
  ready : g.B.Bodies.is_ready l.bodies;
  rest : g.B.Bodies.keeps l.initial.bodies l.bodies;
}
