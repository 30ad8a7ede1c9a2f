-- Lines one after the other.
use Rattle.std.proofs.Common.{◌≡◌, ℕ, ◌+◌, ◌<◌, ◌==◌, true, Some, List, [], ◌∷◌, length, get_or, drop, refl, sym, ap, ◌∙◌, subst, inl, inr, arith}
use Rattle.std.specs.List.{slice_split, onto_first, slice_get}
use Rattle.std.proofs.lemmas.List.{drop_more, nil_from_length}
use Rattle.std.proofs.lemmas.List.Splits.{slice_split-cons_yes, slice_split-cons_no, length-slice_split}
use Rattle.std.proofs.lemmas.Bool.{cond-false, ne_eqb, eqb-true, eq-eqb, cases_Bool}
use Rattle.std.proofs.lemmas.Option.{get_or_from_slice_get, slice_get_within}
use Rattle.gc_graph.specs.Words.{lines_of, lines_of_parts, words_of, is_blank}
use Rattle.line_words.specs.Cursor.{first_line, lines_after, IsLineEnd}
use Rattle.line_words.specs.LineParts.{line_end_after}

first_and_rest : (lines : List (List ℕ)) → 0 < length lines → lines ≡ get_or lines 0 [] ∷ drop 1 lines
first_and_rest [] some = absurd (omega arith)
first_and_rest (line ∷ lines) some = refl

-- parts of which the first isn't empty, or isn't the last, are lines
lines_of_onto : (b : ℕ) (parts : List (List ℕ)) → 0 < length (lines_of_parts (onto_first b parts))
lines_of_onto b [] = omega arith
lines_of_onto b (part ∷ []) =
    omega (arith, ap length (cond-false (length (b ∷ part) == 0) [] ((b ∷ part) ∷ []) (ne_eqb (length (b ∷ part)) 0 (λ e. omega (arith, e)))))
lines_of_onto b (part ∷ next ∷ parts) = omega arith

lines_of_mark : (parts : List (List ℕ)) → 0 < length parts → 0 < length (lines_of_parts ([] ∷ parts))
lines_of_mark [] some = absurd (omega arith)
lines_of_mark (next ∷ parts) some = omega arith

some_lines : (b : ℕ) (bytes : List ℕ) → lines_of (b ∷ bytes) ≡ first_line (b ∷ bytes) ∷ lines_after (b ∷ bytes)
some_lines b bytes =
    let split : List (List ℕ) = slice_split (λ x. x == 10) bytes in
    first_and_rest (lines_of (b ∷ bytes)) (elim (cases_Bool (b == 10)) [
      | inl e ↦ subst (λ (parts : List (List ℕ)). 0 < length (lines_of_parts parts)) (sym (slice_split-cons_yes (λ x. x == 10) b bytes e))
          (lines_of_mark split (omega (arith, length-slice_split (λ x. x == 10) bytes)))
      | inr e ↦ subst (λ (parts : List (List ℕ)). 0 < length (lines_of_parts parts)) (sym (slice_split-cons_no (λ x. x == 10) b bytes e))
          (lines_of_onto b split)
    ])

-- where bytes are left, the line stands before the lines after it
pub lines_left : (bytes : List ℕ) (from : ℕ) → from < length bytes
    → lines_of (drop from bytes) ≡ first_line (drop from bytes) ∷ lines_after (drop from bytes)
lines_left bytes from low =
    ap lines_of (drop_more bytes from 0 low)
    ∙ some_lines (get_or bytes from 0) (drop (from + 1) bytes)
    ∙ sym (ap (λ (rest : List ℕ). first_line rest ∷ lines_after rest) (drop_more bytes from 0 low))

-- after a line's end the other lines follow
pub lines_next : (bytes : List ℕ) (from end : ℕ) → IsLineEnd bytes from end → slice_get bytes end ≡ Some 10
    → lines_of (drop (end + 1) bytes) ≡ lines_after (drop from bytes)
lines_next bytes from end ends at =
    let low : end < length bytes = slice_get_within bytes end 10 at in
    sym (line_end_after (get_or bytes end 0) (drop (end + 1) bytes) (eq-eqb _ _ (get_or_from_slice_get bytes end 10 0 at)))
    ∙ sym (ap lines_after (drop_more bytes end 0 low))
    ∙ sym ends.same

pub none_of_blank : (line : List ℕ) → is_blank line ≡ true → words_of line ≡ []
none_of_blank line blank = nil_from_length (words_of line) (eqb-true (length (words_of line)) 0 blank)
