use Rattle.std.proofs.Common.{◌≡◌, ◌<◌, ◌++◌}
use Rattle.script_generator.specs.Generated.{number_after, first_commands, turns}
use Rattle.script_generator.proofs.scripts.commands.Given as goal

abbrev pub invariant-loop-before : goal.invariant-loop-before
invariant-loop-before l = record {
  number : l.number ≡ number_after l.seed l.before;
  low : l.number < 65537;
  commands : l.commands.items ≡ first_commands ++ turns l.seed l.before;
}
