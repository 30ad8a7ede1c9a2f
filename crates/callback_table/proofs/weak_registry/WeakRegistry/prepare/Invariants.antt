use Rattle.std.proofs.Common.{◌≡◌, drop}
use Rattle.callback_table.specs.Asking.{AsksInTurn}
use Rattle.callback_table.specs.WeakRegistry.{places_of, weak_registrations_of}
use Rattle.callback_table.proofs.Asked.{AreAskedTo}
use Rattle.callback_table.proofs.weak_registry.WeakRegistry.prepare.Given as goal

abbrev pub invariant-loop-i : goal.invariant-loop-i
invariant-loop-i g l = record {
  asks : AsksInTurn (goal.F-pre g) (goal.F-step g) l.mask (places_of (weak_registrations_of (drop l.i l.initial.self-inside.entries.items)));
  asked : AreAskedTo (goal.F-step g) l.initial.mask l.initial.self-inside.entries.items l.mask l.self-inside.entries.items l.i l.kept l.calls;
  ran : l.self-inside.ran ≡ l.initial.self-inside.ran;
}
