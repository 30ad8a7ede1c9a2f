use Rattle.std.proofs.Common.{◌≡◌, ◌+◌, ◌≤◌, ◌++◌, length, map, take, vec_len, vec_capacity}
use Rattle.callback_table.specs.Registry.{registered}
use Rattle.callback_table.proofs.registry.append.Given as goal

abbrev pub invariant-loop-callback : goal.invariant-loop-callback
invariant-loop-callback l = record {
  items : l.entries.items ≡ l.initial.entries.items ++ map (registered l.node l.place) (take l.callback-index l.callbacks);
  len : vec_len l.entries ≡ length l.initial.entries.items + l.callback-index;
  room : length l.initial.entries.items + length l.callbacks ≤ vec_capacity l.entries;
}
