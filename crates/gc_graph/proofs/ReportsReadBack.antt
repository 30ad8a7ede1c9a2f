-- Whole texts are read back, line by line.
use Rattle.std.proofs.Common.{◌≡◌, ℕ, ◌<◌, ◌==◌, Bool, true, false, true≢false, List, [], ◌∷◌, ◌++◌, length, map, All, Option, Some, None, refl, sym, ap, ◌∙◌, subst, arith, append_assoc, eq-eqb, eqb-true, if◌then◌else◌}
use Rattle.std.specs.List.{list_all, slice_split, flat_map}
use Rattle.std.proofs.lemmas.Bool.{and_parts, and_from, cond-true}
use Rattle.std.proofs.lemmas.List.{append-nil}
use Rattle.std.proofs.lemmas.List.Elements.{All-head, All-tail, All-nil, All-cons, All-append}
use Rattle.std.proofs.lemmas.List.Splits.{slice_split_at, length-slice_split}
use Rattle.std.proofs.lemmas.Grind.{flat_map-append}
use Rattle.gc_graph.specs.declared.line.Line.{Line}
use Rattle.gc_graph.specs.Words.{lines_of, lines_of_parts, words_of, is_text}
use Rattle.gc_graph.specs.Report.{line_text, line_bytes, lines_bytes, outcomes_bytes, type_lines, report_of}
use Rattle.gc_graph.specs.ReadBack.{names_in, numbers_in, line_named, candidate, candidates, read_report, with_line, if_its_text, IsOf64Bits, LinesReadBack, ReportReadsBack}
use Rattle.gc_graph.specs.WordBytes.{is_word_byte}
use Rattle.gc_graph.proofs.LineParts.{Part, word_of, IsPart, joined, names_of, words_of_joined, names_found, counts_found, word_bytes, is_no_end}
use Rattle.gc_graph.proofs.ReadingBack.{parts_of, first_part, rest_parts, text_of, are_parts, told}

-- ---- one line

read_back : (line : Line) → IsOf64Bits line → candidate (line_text line) ≡ Some line
read_back line h =
    let sound : All IsPart (parts_of line) = are_parts line h in
    let words : words_of (line_text line) ≡ map word_of (parts_of line) =
    ap words_of (text_of line) ∙ words_of_joined (first_part line) (rest_parts line) sound in
    ap (λ ws. line_named (names_in ws) (numbers_in ws)) words
    ∙ ap (λ ns. line_named ns (numbers_in (map word_of (parts_of line)))) (names_found (parts_of line) sound)
    ∙ ap (line_named (names_of (parts_of line))) (counts_found (parts_of line) sound)
    ∙ told line

-- ---- no line has an end in it

ends_nowhere : (bytes : List ℕ) → list_all is_word_byte bytes ≡ true → All (λ b. (b == 10) ≡ false) bytes
ends_nowhere [] h = All-nil (λ b. (b == 10) ≡ false)
ends_nowhere (b ∷ bytes) h =
    let both = and_parts (is_word_byte b) (list_all is_word_byte bytes) h in
    All-cons (λ x. (x == 10) ≡ false) b bytes (is_no_end b both.0) (ends_nowhere bytes both.1)

joined_ends_nowhere : (part : Part) (parts : List Part) → All IsPart (part ∷ parts) → All (λ b. (b == 10) ≡ false) (joined (part ∷ parts))
joined_ends_nowhere part [] h = ends_nowhere (word_of part) (word_bytes part (All-head IsPart part [] h))
joined_ends_nowhere part (next ∷ parts) h =
    All-append (λ b. (b == 10) ≡ false) (word_of part) (32 ∷ joined (next ∷ parts))
    (ends_nowhere (word_of part) (word_bytes part (All-head IsPart part (next ∷ parts) h)))
    (All-cons (λ b. (b == 10) ≡ false) 32 (joined (next ∷ parts)) refl (joined_ends_nowhere next parts (All-tail IsPart part (next ∷ parts) h)))

line_ends_nowhere : (line : Line) → IsOf64Bits line → All (λ b. (b == 10) ≡ false) (line_text line)
line_ends_nowhere line h =
    subst (λ text. All (λ b. (b == 10) ≡ false) text) (sym (text_of line)) (joined_ends_nowhere (first_part line) (rest_parts line) (are_parts line h))

-- ---- all lines

more_lines : (line : List ℕ) (parts : List (List ℕ)) → 0 < length parts → lines_of_parts (line ∷ parts) ≡ line ∷ lines_of_parts parts
more_lines line [] some = absurd (omega arith)
more_lines line (next ∷ more) some = refl

split_lines : (lines : List Line) → All IsOf64Bits lines → lines_of (lines_bytes lines) ≡ map line_text lines
split_lines [] h = refl
split_lines (line ∷ lines) h =
    let rest : List ℕ = lines_bytes lines in
    let cut : slice_split (λ b. b == 10) ((line_text line ++ 10 ∷ []) ++ rest) ≡ line_text line ∷ slice_split (λ b. b == 10) rest =
    ap (slice_split (λ b. b == 10)) (append_assoc (line_text line) (10 ∷ []) rest)
    ∙ slice_split_at (λ b. b == 10) (line_text line) 10 rest (line_ends_nowhere line (All-head IsOf64Bits line lines h)) refl in
    ap lines_of_parts cut
    ∙ more_lines (line_text line) (slice_split (λ b. b == 10) rest) (omega (arith, length-slice_split (λ b. b == 10) rest))
    ∙ ap (λ texts. line_text line ∷ texts) (split_lines lines (All-tail IsOf64Bits line lines h))

read_each : (lines : List Line) → All IsOf64Bits lines → candidates (map line_text lines) ≡ Some lines
read_each [] h = refl
read_each (line ∷ lines) h =
    ap (λ o. with_line o (candidates (map line_text lines))) (read_back line (All-head IsOf64Bits line lines h))
    ∙ ap (with_line (Some line)) (read_each lines (All-tail IsOf64Bits line lines h))

same_text : (text : List ℕ) → is_text text text ≡ true
same_text [] = refl
same_text (b ∷ text) = and_from (b == b) (is_text text text) (eq-eqb b b refl) (same_text text)

same_from_text : (word text : List ℕ) → is_text word text ≡ true → word ≡ text
same_from_text [] [] e = refl
same_from_text [] (b ∷ text) e = absurd (true≢false (sym e))
same_from_text (a ∷ word) [] e = absurd (true≢false (sym e))
same_from_text (a ∷ word) (b ∷ text) e =
    let both = and_parts (a == b) (is_text word text) e in
    ap (λ c. c ∷ word) (eqb-true a b both.0) ∙ ap (λ rest. b ∷ rest) (same_from_text word text both.1)

text_read_back : (lines : List Line) → All IsOf64Bits lines → read_report (lines_bytes lines) ≡ Some lines
text_read_back lines h =
    ap (if_its_text (lines_bytes lines)) (ap candidates (split_lines lines h) ∙ read_each lines h)
    ∙ cond-true (is_text (lines_bytes lines) (lines_bytes lines)) (Some lines) None (same_text (lines_bytes lines))

-- what was read has this text
taken : (b : Bool) (text : List ℕ) (found lines : List Line) → is_text (lines_bytes found) text ≡ b
    → (if b then Some found else None) ≡ Some lines → text ≡ lines_bytes lines
taken true text found lines is e =
    let same : found ≡ lines = cc in
    sym (same_from_text (lines_bytes found) text is) ∙ ap lines_bytes same
taken false text found lines is e = cc

its_text : (text : List ℕ) (found : Option (List Line)) (lines : List Line) → if_its_text text found ≡ Some lines → text ≡ lines_bytes lines
its_text text None lines e = cc
its_text text (Some found) lines e = taken (is_text (lines_bytes found) text) text found lines refl e

pub lines_read_back : LinesReadBack
lines_read_back text lines = record {
  only = its_text text (candidates (lines_of text)) lines;
  always = λ h e. ap read_report e ∙ text_read_back lines h;
}

-- ---- reports

outcome_lines : (outcomes : List (List Line)) → outcomes_bytes outcomes ≡ lines_bytes (flat_map (λ lines. lines) outcomes)
outcome_lines [] = refl
outcome_lines (lines ∷ outcomes) =
    ap (λ text. lines_bytes lines ++ text) (outcome_lines outcomes)
    ∙ sym (flat_map-append line_bytes lines (flat_map (λ ls. ls) outcomes))

pub report_reads_back : (T : Type 0) → ReportReadsBack T
report_reads_back T types outcomes end small_types small_outcomes small_end =
    let first : List Line = type_lines 0 types in
    let middle : List Line = flat_map (λ lines. lines) outcomes in
    let whole : report_of types outcomes end ≡ lines_bytes (first ++ middle ++ end ∷ []) =
    ap (λ text. lines_bytes first ++ text ++ line_bytes end) (outcome_lines outcomes)
    ∙ sym (flat_map-append line_bytes (first ++ middle) (end ∷ [])
    ∙ ap (λ text. lines_bytes (first ++ middle) ++ text) (append-nil (line_bytes end))
    ∙ ap (λ text. text ++ line_bytes end) (flat_map-append line_bytes first middle)) in
    ap read_report whole
    ∙ text_read_back (first ++ middle ++ end ∷ [])
    (All-append IsOf64Bits (first ++ middle) (end ∷ []) (All-append IsOf64Bits first middle small_types small_outcomes)
    (All-cons IsOf64Bits end [] small_end (All-nil IsOf64Bits)))
