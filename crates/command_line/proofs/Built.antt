-- What `clap` builds of the six options, and how its walk stands between words.
use Rattle.std.proofs.Common.{true, false, List, [], ◌∷◌, Option, Some, None, codes}
use Rattle.clap.specs.Walk.{Held, Row, Rule, Text, Walk, idle, option}
use Rattle.clap.specs.Simple.{Shape}
use Rattle.clap.specs.declared.builder.value_parser.ValueParser.TheVariants as vp
use Rattle.command_line.specs.ClapRules.{option_rule, summary_rule, options_app}

-- an option as it is built
abbrev pub filled_option : Text → Rule
filled_option name = record (option_rule name) {
  parser = Some vp.String;
  range = Some (record { start_inclusive = 1; end_inclusive = 1 });
}

-- `--summary` as it is built
abbrev pub filled_summary : Rule
filled_summary = record summary_rule {
  parser = Some vp.Bool;
  defaults = codes "false" ∷ [];
  missing = codes "true" ∷ [];
  range = Some (record { start_inclusive = 0; end_inclusive = 0 });
}

-- all of them
abbrev pub rules : List Rule
rules = filled_option (codes "pages") ∷ filled_option (codes "page-words") ∷ filled_option (codes "markers")
    ∷ filled_summary ∷ filled_option (codes "generate") ∷ filled_option (codes "count") ∷ []

-- the command as it is built
abbrev pub shape : Shape
shape = record (options_app.top) {
  rules = rules;
  disable_help_subcommand = true;
  is_built = true;
}

-- what is held between words
abbrev pub held : List Row → Option (Text × List Text) → Held
held rows pending = record { rows = rows; pending = pending; skip = 0 }

-- no option waits for its value
abbrev pub idle_at : Held → Walk
idle_at h = record { held = h; waiting = idle; position = 1; is_trailing = false; stopped = None }

-- the option of this name waits for its value
abbrev pub wait_at : Text → Held → Walk
wait_at name h = record { held = h; waiting = option name; position = 1; is_trailing = false; stopped = None }
