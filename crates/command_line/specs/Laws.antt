-- Laws of what words ask for.
use Rattle.std.specs.Prelude.{◌≡◌, ℕ, false, List, ◌∷◌, ◌++◌, codes}
use Rattle.std.specs.List.{list_any}
use Rattle.gc_graph.specs.Words.{is_text}
use Rattle.command_line.specs.Settings.{Setting, is_equals, settings_of}
use Rattle.command_line.specs.Options.{options_set}

-- a name that isn't `--summary` makes with `=` and a value in one word what it makes with the value as the next word
abbrev pub EqualsSignJoins : Type 0
EqualsSignJoins = (name value : List ℕ) (more : List (List ℕ)) → list_any is_equals name ≡ false
    → is_text name (codes "--summary") ≡ false
    → settings_of ((name ++ 61 ∷ value) ∷ more) ≡ settings_of (name ∷ value ∷ more)

-- two settings that change places make the same options
abbrev pub OrderMeansNothing : Type 0
OrderMeansNothing = (earlier : List Setting) (first second : Setting) (later : List Setting)
    → options_set (earlier ++ first ∷ second ∷ later) ≡ options_set (earlier ++ second ∷ first ∷ later)
