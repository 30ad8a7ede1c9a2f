-- What the words of the command line ask for.
use Rattle.std.specs.Prelude.{ℕ, ◌≤◌, IfSome, ◌&&◌, not, Bool, true, false, List, [], ◌∷◌, fold, Option, Some, None, option_map, option_and_then, unwrap_or, if◌then◌else◌}
use Rattle.std.specs.List.{list_any}
use Rattle.gc_graph.specs.State.{Shape}
use Rattle.gc_graph.specs.Shapes.{IsShape}
use Rattle.command_line.specs.declared.asked.Asked.{Asked}
use Rattle.command_line.specs.declared.options.Generated.{Generated}
use Rattle.command_line.specs.declared.options.Options.{Options}
use Rattle.command_line.specs.Settings.{Setting, most_markers, settings_of}
use Rattle.command_line.specs.Settings.Setting.{Pages, PageWords, Markers, Summary, Seed, Count}

-- two settings are of the same option
abbrev pub same_option : Setting → Setting → Bool
same_option (Pages n) (Pages m) = true
same_option (PageWords n) (PageWords m) = true
same_option (Markers n) (Markers m) = true
same_option Summary Summary = true
same_option (Seed n) (Seed m) = true
same_option (Count n) (Count m) = true
same_option first second = false

-- no option is set twice
abbrev pub each_once : List Setting → Bool
each_once [] = true
each_once (setting ∷ others) = not (list_any (same_option setting) others) && each_once others

-- nothing is asked of any option
abbrev pub nothing_asked : Asked
nothing_asked = record {
  pages = None;
  page_words = None;
  markers = None;
  summary = false;
  seed = None;
  count = None;
}

-- one option is set
abbrev pub with_setting : Asked → Setting → Asked
with_setting asked (Pages n) = record asked { pages = Some n }
with_setting asked (PageWords n) = record asked { page_words = Some n }
with_setting asked (Markers n) = record asked { markers = Some n }
with_setting asked Summary = record asked { summary = true }
with_setting asked (Seed n) = record asked { seed = Some n }
with_setting asked (Count n) = record asked { count = Some n }

-- the defaults but for what was asked, with this to generate
abbrev pub options_with : Asked → Option Generated → Options
options_with asked generated = record {
  pages = unwrap_or asked.pages 64;
  page_words = unwrap_or asked.page_words 16384;
  markers = unwrap_or asked.markers 0;
  summary = asked.summary;
  generated = generated;
}

-- a seed and a count ask for a generated script, and neither without the other
abbrev pub generated_from : Option ℕ → Option ℕ → Option (Option Generated)
generated_from None None = Some None
generated_from (Some seed) (Some count) = Some (Some (record { seed = seed; count = count }))
generated_from (Some seed) None = None
generated_from None (Some count) = None

-- the options that were asked for
abbrev pub options_from : Asked → Option Options
options_from asked = option_map (options_with asked) (generated_from asked.seed asked.count)

-- the options that settings make, where no option is set twice
abbrev pub options_set : List Setting → Option Options
options_set settings =
    if each_once settings then options_from (fold with_setting nothing_asked settings) else None

-- the options that words ask for
abbrev pub options_asked : List (List ℕ) → Option Options
options_asked words = option_and_then options_set (settings_of words)

-- the shape of the heap that the options ask for
abbrev pub shape_asked : Options → Shape
shape_asked options = record { pages = options.pages; page_words = options.page_words }

-- a heap can have the shape, and each number is one that its option may have
pub record AreInRanges (options : Options) : Type 0 where
  pub shape : IsShape (shape_asked options)
  pub markers : options.markers ≤ most_markers
  pub generated : IfSome options.generated (λ script. (1 ≤ script.count) × (script.count ≤ 50000))
