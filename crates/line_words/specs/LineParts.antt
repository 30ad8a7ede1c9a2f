-- Lines as the parts of bytes that ends of lines part.
use Rattle.std.proofs.Common.{◌≡◌, ℕ, ◌==◌, true, List, [], ◌∷◌, length, drop, refl, ap, ◌∙◌, arith}
use Rattle.std.specs.List.{slice_split}
use Rattle.std.proofs.lemmas.List.Splits.{slice_split-cons_yes}
use Rattle.std.proofs.lemmas.Bool.{cond-false, ne_eqb}
use Rattle.gc_graph.specs.Words.{lines_of, lines_of_parts}
use Rattle.line_words.specs.Cursor.{lines_after}

-- the lines after the first are those of the other parts
pub after_parts : (parts : List (List ℕ)) → drop 1 (lines_of_parts parts) ≡ lines_of_parts (drop 1 parts)
after_parts [] = refl
after_parts ([] ∷ []) = refl
after_parts ((b ∷ last) ∷ []) =
    ap (λ (lines : List (List ℕ)). drop 1 lines)
    (cond-false (length (b ∷ last) == 0) [] ((b ∷ last) ∷ []) (ne_eqb (length (b ∷ last)) 0 (λ e. omega (arith, e))))
after_parts (line ∷ next ∷ more) = refl

-- after a line that has nothing but its end
pub line_end_after : (b : ℕ) (bytes : List ℕ) → (b == 10) ≡ true → lines_after (b ∷ bytes) ≡ lines_of bytes
line_end_after b bytes e =
    after_parts (slice_split (λ x. x == 10) (b ∷ bytes))
    ∙ ap (λ (parts : List (List ℕ)). lines_of_parts (drop 1 parts)) (slice_split-cons_yes (λ x. x == 10) b bytes e)
