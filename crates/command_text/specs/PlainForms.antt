-- The form of a line whose first word is none of `type`, `gc` and `at`.
use Rattle.std.proofs.Common.{◌≡◌, ℕ, false, cond, List, ◌∷◌, length, ◌∙◌, codes}
use Rattle.std.proofs.lemmas.Bool.{cond-false}
use Rattle.gc_graph.specs.Words.{is_text}
use Rattle.gc_graph.specs.Forms.{Form, form_of, form_after_gc, form_after_at, plain_form, row_named, rows}

-- it is that of the row which the word chooses
pub form_of_plain : (first : List ℕ) (rest : List (List ℕ)) → is_text first (codes "gc") ≡ false
    → is_text first (codes "at") ≡ false → form_of (first ∷ rest) ≡ plain_form (length rest) (row_named first rows)
form_of_plain first rest gc at =
    let plain : Form = plain_form (length rest) (row_named first rows) in
    let after_at : Form = cond (is_text first (codes "at")) (form_after_at rest) plain in
    let after_gc : Form = cond (is_text first (codes "gc")) (form_after_gc rest) after_at in
    cond-false (is_text first (codes "gc")) (form_after_gc rest) after_at gc
    ∙ cond-false (is_text first (codes "at")) (form_after_at rest) plain at
