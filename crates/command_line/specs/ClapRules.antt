-- What `clap` is told of the options.
use Rattle.std.specs.Prelude.{Bool, true, Some, [], ◌∷◌, codes}
use Rattle.gc_graph.specs.Words.{is_text}
use Rattle.clap.specs.Walk.{Rule, Text}
use Rattle.clap.specs.Simple.{App, Shape, new_rule, new_shape}
use Rattle.clap.specs.declared.builder.action.ArgAction.TheVariants.{Set, SetTrue}

-- an option with a value
abbrev pub option_rule : Text → Rule
option_rule name = record (new_rule name) { long = Some name; action = Some Set }

-- the option that has none
abbrev pub summary_rule : Rule
summary_rule = record (new_rule (codes "summary")) {
  long = Some (codes "summary");
  action = Some SetTrue;
}

-- the six options, of a command without help whose first word is one of theirs
abbrev pub options_shape : Shape
options_shape = record (new_shape (codes "cppgc_main")) {
  rules = option_rule (codes "pages") ∷ option_rule (codes "page-words") ∷ option_rule (codes "markers")
      ∷ summary_rule ∷ option_rule (codes "generate") ∷ option_rule (codes "count") ∷ [];
  no_binary_name = true;
  disable_help_flag = true;
}

-- the command, which has no subcommands
abbrev pub options_app : App
options_app = record { top = options_shape; subs = [] }

-- two dashes alone: to `clap` they say that no option follows
abbrev pub is_lone : Text → Bool
is_lone word = is_text word (codes "--")
