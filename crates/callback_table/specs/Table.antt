-- The kinds of stored callbacks.
use Rattle.std.specs.Prelude.{List, map}
use Rattle.gc_graph.specs.declared.action.ActionKind.{ActionKind}
use Rattle.callback_table.specs.declared.table.CallbackTable.{CallbackTable}

-- the kinds of the callbacks, by number
abbrev pub callback_kinds : {f : _} {p : _} {g : _} → CallbackTable f p g → List ActionKind
callback_kinds table = map (λ callback. callback.kind) table.list.items
