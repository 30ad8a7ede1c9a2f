-- The reason of a line, judged as if others with words follow it, and what follows at the end.
use Rattle.std.proofs.Common.{◌≡◌, ℕ, suc, ◌+◌, ◌-◌, ◌<◌, ◌&&◌, ◌||◌, Bool, true, false, not, cond, Option, Some, None, List, [], ◌∷◌, length, get_or, take, drop, refl, sym, ap, ◌∙◌, inl, inr, arith}
use Rattle.std.specs.Prelude.{codes, is_some}
use Rattle.std.specs.List.{list_all, list_any}
use Rattle.std.proofs.lemmas.Bool.{true≢false, cases_Bool, cond-true, cond-false, and_from}
use Rattle.std.proofs.lemmas.List.{length-drop, get_or-drop}
use Rattle.std.proofs.lemmas.List.Folds.{list_all_at}
use Rattle.gc_graph.specs.Words.{words_of, is_blank}
use Rattle.gc_graph.specs.Reasons.{Reason, first_is, reason_of_words}
use Rattle.gc_graph.specs.Reasons.Reason.{Order, Section}
use Rattle.gc_graph.specs.Script.{is_command, is_order, is_go, is_join, are_going, are_waiting, are_at_rest, threads_of, threads_after, reason_by_order, version_of, bounds_after, reason_of, reason_at}

-- the reason by itself, and before others with words
abbrev words_reason : ℕ → ℕ → List (List ℕ) → List ℕ → Option Reason
words_reason version callbacks before line = reason_of_words version (bounds_after callbacks before) (words_of line)

abbrev pub judged : ℕ → ℕ → List (List ℕ) → List ℕ → Option Reason
judged version callbacks before line =
    cond (is_blank line) None (reason_by_order before (words_of line) false (words_reason version callbacks before line))

-- ---- sections

abbrev rests : List (List ℕ) → List (List ℕ) → Bool
rests before words = are_at_rest (threads_after (threads_of before) words)

abbrev section_or : Bool → Bool → Bool → Bool → Bool → Bool
section_or order go join last rest = order || (go || (join || (last && not rest)))

abbrev section_of : List (List ℕ) → List (List ℕ) → Bool → Bool
section_of before words last =
    section_or (is_order words && are_going (threads_of before)) (is_go words && not (are_waiting (threads_of before)))
    (is_join words && not (are_going (threads_of before))) last (rests before words)

section_stays : (order go join last rest : Bool) → section_or order go join false rest ≡ true → section_or order go join last rest ≡ true
section_stays true go join last rest e = refl
section_stays false true join last rest e = refl
section_stays false false true last rest e = refl
section_stays false false false last rest e = absurd (true≢false (sym e))

section_rests : (order go join last rest : Bool) → section_or order go join false rest ≡ false → rest ≡ true → section_or order go join last rest ≡ false
section_rests true go join last rest e r = absurd (true≢false e)
section_rests false true join last rest e r = absurd (true≢false e)
section_rests false false true last rest e r = absurd (true≢false e)
section_rests false false false true rest e r = ap not r
section_rests false false false false rest e r = refl

section_last : (order go join rest : Bool) → rest ≡ false → section_or order go join true rest ≡ true
section_last true go join rest r = refl
section_last false true join rest r = refl
section_last false false true rest r = refl
section_last false false false rest r = ap not r

-- ---- the order

abbrev is_late : List (List ℕ) → List (List ℕ) → Bool
is_late before words = first_is (codes "type") words && list_any is_command before

abbrev by_order : Bool → Bool → Option Reason
by_order late section = cond late (Some Order) (cond section (Some Section) None)

order_found : (late order go join last rest : Bool) (reason : Reason) → by_order late (section_or order go join false rest) ≡ Some reason
    → by_order late (section_or order go join last rest) ≡ Some reason
order_found true order go join last rest reason e = e
order_found false order go join last rest reason e =
    let before : Bool = section_or order go join false rest in
    elim (cases_Bool before) [
      | inl so ↦ cond-true (section_or order go join last rest) (Some Section) None (section_stays order go join last rest so)
          ∙ sym (cond-true before (Some Section) None so) ∙ e
      | inr off ↦ absurd (true≢false (ap is_some (sym e ∙ cond-false before (Some Section) None off)))
    ]

no_order : (late section : Bool) → by_order late section ≡ None → (late ≡ false) × (section ≡ false)
no_order true section e = absurd (true≢false (ap is_some e))
no_order false true e = absurd (true≢false (ap is_some e))
no_order false false e = (refl, refl)

-- a reason that is found before others with words is one at the end too
found_by : (before words : List (List ℕ)) (last : Bool) (own : Option Reason) (reason : Reason) → reason_by_order before words false own ≡ Some reason
    → reason_by_order before words last own ≡ Some reason
found_by before words last (Some own) reason e = e
found_by before words last None reason e =
    order_found (is_late before words) (is_order words && are_going (threads_of before)) (is_go words && not (are_waiting (threads_of before)))
    (is_join words && not (are_going (threads_of before))) last (rests before words) reason e

fine_by : (before words : List (List ℕ)) (last : Bool) (own : Option Reason) → reason_by_order before words false own ≡ None
    → rests before words ≡ true → reason_by_order before words last own ≡ None
fine_by before words last (Some own) e r = absurd (true≢false (ap is_some e))
fine_by before words last None e r =
    let none = no_order (is_late before words) (section_of before words false) e in
    ap (λ b. by_order b (section_of before words last)) none.0
    ∙ cond-false (section_of before words last) (Some Section) None
    (section_rests (is_order words && are_going (threads_of before)) (is_go words && not (are_waiting (threads_of before)))
    (is_join words && not (are_going (threads_of before))) last (rests before words) none.1 r)

last_by : (before words : List (List ℕ)) (own : Option Reason) → reason_by_order before words false own ≡ None
    → rests before words ≡ false → reason_by_order before words true own ≡ Some Section
last_by before words (Some own) e r = absurd (true≢false (ap is_some e))
last_by before words None e r =
    let none = no_order (is_late before words) (section_of before words false) e in
    ap (λ b. by_order b (section_of before words true)) none.0
    ∙ cond-true (section_of before words true) (Some Section) None
    (section_last (is_order words && are_going (threads_of before)) (is_go words && not (are_waiting (threads_of before)))
    (is_join words && not (are_going (threads_of before))) (rests before words) r)

-- ---- one line among the others

pub blank_fine : (callbacks : ℕ) (header line : List ℕ) (before after : List (List ℕ)) → is_blank line ≡ true
    → reason_of callbacks (header ∷ before) line after ≡ None
blank_fine callbacks header line before after blank =
    cond-true (is_blank line) None (reason_by_order before (words_of line) (list_all is_blank after) (words_reason (version_of header) callbacks before line)) blank

pub as_judged : (callbacks : ℕ) (header line : List ℕ) (before after : List (List ℕ)) → list_all is_blank after ≡ false
    → reason_of callbacks (header ∷ before) line after ≡ judged (version_of header) callbacks before line
as_judged callbacks header line before after more =
    ap (λ b. cond (is_blank line) None (reason_by_order before (words_of line) b (words_reason (version_of header) callbacks before line))) more

-- the reason by order, where the line isn't blank
of_words : (callbacks : ℕ) (header line : List ℕ) (before after : List (List ℕ)) → is_blank line ≡ false
    → reason_of callbacks (header ∷ before) line after
    ≡ reason_by_order before (words_of line) (list_all is_blank after) (words_reason (version_of header) callbacks before line)
of_words callbacks header line before after some =
    cond-false (is_blank line) None (reason_by_order before (words_of line) (list_all is_blank after) (words_reason (version_of header) callbacks before line)) some

pub judged_words : (version callbacks : ℕ) (line : List ℕ) (before : List (List ℕ)) → is_blank line ≡ false
    → judged version callbacks before line ≡ reason_by_order before (words_of line) false (words_reason version callbacks before line)
judged_words version callbacks line before some =
    cond-false (is_blank line) None (reason_by_order before (words_of line) false (words_reason version callbacks before line)) some

pub found_fault : (callbacks : ℕ) (header line : List ℕ) (before after : List (List ℕ)) (reason : Reason) → is_blank line ≡ false
    → judged (version_of header) callbacks before line ≡ Some reason → reason_of callbacks (header ∷ before) line after ≡ Some reason
found_fault callbacks header line before after reason some e =
    of_words callbacks header line before after some
    ∙ found_by before (words_of line) (list_all is_blank after) (words_reason (version_of header) callbacks before line) reason (sym (judged_words (version_of header) callbacks line before some) ∙ e)

pub at_rest_fine : (callbacks : ℕ) (header line : List ℕ) (before after : List (List ℕ)) → is_blank line ≡ false
    → judged (version_of header) callbacks before line ≡ None → rests before (words_of line) ≡ true → reason_of callbacks (header ∷ before) line after ≡ None
at_rest_fine callbacks header line before after some e r =
    of_words callbacks header line before after some
    ∙ fine_by before (words_of line) (list_all is_blank after) (words_reason (version_of header) callbacks before line) (sym (judged_words (version_of header) callbacks line before some) ∙ e) r

pub last_fault : (callbacks : ℕ) (header line : List ℕ) (before after : List (List ℕ)) → is_blank line ≡ false
    → judged (version_of header) callbacks before line ≡ None → rests before (words_of line) ≡ false → list_all is_blank after ≡ true
    → reason_of callbacks (header ∷ before) line after ≡ Some Section
last_fault callbacks header line before after some e r blank =
    of_words callbacks header line before after some
    ∙ ap (λ b. reason_by_order before (words_of line) b (words_reason (version_of header) callbacks before line)) blank
    ∙ last_by before (words_of line) (words_reason (version_of header) callbacks before line) (sym (judged_words (version_of header) callbacks line before some) ∙ e) r

-- ---- blank lines

pub all_blank : (lines : List (List ℕ)) → ((j : ℕ) → j < length lines → is_blank (get_or lines j []) ≡ true) → list_all is_blank lines ≡ true
all_blank [] blank = refl
all_blank (line ∷ lines) blank =
    and_from (is_blank line) (list_all is_blank lines) (blank 0 (omega arith)) (all_blank lines (λ j l. blank (suc j) (omega arith)))

-- a line with words after it
pub words_follow : (lines : List (List ℕ)) (j k : ℕ) → j < k → k < length lines → is_blank (get_or lines k []) ≡ false
    → list_all is_blank (drop (j + 1) lines) ≡ false
words_follow lines j k order low some =
    let at : get_or (drop (j + 1) lines) (k - (j + 1)) [] ≡ get_or lines k [] =
    get_or-drop (j + 1) lines (k - (j + 1)) [] ∙ ap (λ n. get_or lines n []) (omega arith) in
    list_all_at is_blank (drop (j + 1) lines) (k - (j + 1)) [] (omega (arith, length-drop (j + 1) lines)) (ap is_blank at ∙ some)

-- ---- by the number of the line

pub at_line : (callbacks : ℕ) (header : List ℕ) (lines : List (List ℕ)) (j : ℕ)
    → reason_at callbacks (header ∷ lines) (suc j) ≡ reason_of callbacks (header ∷ take j lines) (get_or lines j []) (drop (j + 1) lines)
at_line callbacks header lines j =
    let n : suc j + 1 ≡ suc (j + 1) = omega arith in
    ap (λ m. reason_of callbacks (header ∷ take j lines) (get_or lines j []) (drop m (header ∷ lines))) n
