-- The line of a command.
use Rattle.std.specs.Prelude.{◌≡◌, ℕ, Bool, false, List, ◌∷◌, Some, None, IfOk, IfErr, codes}
use Rattle.gc_graph.specs.Reasons.{Reason, number_of, Bounds, first_is, is_half, reason_of_command, command_of_words}
use Rattle.command_text.specs.declared.row_lines.CommandLine.{CommandLine}
use Rattle.line_words.specs.Cursor.{IsLineEnd}

-- the words after `pair` are those of a pair of which one alone is null
abbrev pub is_half_after : List (List ℕ) → Bool
is_half_after (p ∷ f ∷ k ∷ v ∷ more) = is_half k v
is_half_after words = false

-- the words say this command, and the line ends there; or this is the number of the lowest reason that they give
pub record IsCommandLine (bounds : Bounds) (words : List (List ℕ)) (bytes : List ℕ) (from : ℕ) (line : CommandLine) : Type 0 where
  pub said : IfOk line.said (λ command. (reason_of_command bounds words ≡ None) × (command_of_words words ≡ Some command))
  pub end : IfOk line.said (λ command. IsLineEnd bytes from line.end)
  pub fault : IfErr line.said (λ rank. (why : Reason) × (rank ≡ number_of why) × (reason_of_command bounds words ≡ Some why))
  pub type_free : first_is (codes "type") words ≡ false
