use Rattle.std.proofs.Common.{◌≡◌, ◌++◌, take, drop}
use Rattle.gc_graph.specs.WeakCalls.{shown_under}
use Rattle.callback_table.proofs.masked.show_under.Given as goal

abbrev pub invariant-loop-word : goal.invariant-loop-word
invariant-loop-word l = shown_under l.mask l.initial.shown ≡ take l.word-index l.shown ++ shown_under l.rest (drop l.word-index l.shown)
