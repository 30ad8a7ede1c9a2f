-- In a script orders and starts stand where no join is awaited, joins where one is, and none is awaited at the end.
use Rattle.std.proofs.Common.{◌≡◌, ℕ, suc, ◌+◌, ◌<◌, ◌&&◌, Bool, true, false, true≢false, cond, List, [], ◌∷◌, length, take, drop, get_or, Option, Some, None, refl, sym, ap, ◌∙◌, subst, inl, inr, arith}
use mathlib.Core.Logic.{◌⊎◌}
use Rattle.std.specs.Prelude.{codes, not, ◌==◌, ⊤}
use Rattle.std.specs.List.{fold, list_all, list_any, filter_map}
use Rattle.std.proofs.lemmas.Bool.{or_parts, not-false, eqb-true}
use Rattle.std.proofs.lemmas.Option.{none-some}
use Rattle.gc_graph.specs.declared.command.Command.{Command}
use Rattle.gc_graph.specs.declared.command.Command.TheVariants as C
use Rattle.gc_graph.specs.Words.{words_of, is_blank}
use Rattle.gc_graph.specs.Reasons.{Reason, first_is, reason_of_words, command_of_words}
use Rattle.gc_graph.specs.Reasons.Reason.{Order, Section}
use Rattle.gc_graph.specs.Script.{is_command, is_order, is_go, is_join, Threads, are_at_rest, are_waiting, are_going, threads_after, threads_of, breaks_section, version_of, bounds_after, reason_by_order, reason_at}
use Rattle.gc_graph.specs.Script.Threads.{AtRest, Waiting, Going}
use Rattle.gc_graph.specs.Sections.{awaiting_after, IsInSection, AreInSections}
use Rattle.gc_graph.specs.ThreadLaw.{is_of_threads}
use Rattle.gc_graph.proofs.SaidWords.{faultless}
use Rattle.gc_graph.proofs.SaidThreads.{SaysOrder, IsLine, line_of_words}

-- ---- one command

-- what is said stands in its section, and leaves a join awaited or not
abbrev Crosses : Bool → Bool → Option Command → Type 0
Crosses before after None = after ≡ before
Crosses before after (Some command) = IsInSection before command × (awaiting_after before command ≡ after)

own_crosses : (before : Bool) (command : Command) → is_of_threads command ≡ false → IsInSection before command × (awaiting_after before command ≡ before)
own_crosses before (C.At j order) own = absurd (true≢false own)
own_crosses before C.ThreadsGo own = absurd (true≢false own)
own_crosses before C.ThreadsJoin own = absurd (true≢false own)
own_crosses before command own = (tt, refl)

-- the command of a line that neither orders nor starts nor joins
own_said : (before : Bool) (said : Option Command) → ((c : Command) → said ≡ Some c → is_of_threads c ≡ false) → Crosses before before said
own_said before None says = refl
own_said before (Some command) says = own_crosses before command (says command refl)

waiting_is_not_going : (t : Threads) → are_waiting t ≡ true → are_going t ≡ false
waiting_is_not_going AtRest e = absurd (true≢false (sym e))
waiting_is_not_going Waiting e = refl
waiting_is_not_going Going e = absurd (true≢false (sym e))

rest_is_not_going : (t : Threads) → are_at_rest t ≡ true → are_going t ≡ false
rest_is_not_going AtRest e = refl
rest_is_not_going Waiting e = absurd (true≢false (sym e))
rest_is_not_going Going e = absurd (true≢false (sym e))

-- the threads after a line, from what it is
abbrev after_tests : Threads → Bool → Bool → Bool → Threads
after_tests t order go join = cond order Waiting (cond go Going (cond join AtRest t))

-- the part of a broken section that a test stands before is no fault where the test holds
holds : (test other : Bool) → test ≡ true → (test && other) ≡ false → other ≡ false
holds test other is none = sym (ap (λ b. b && other) is) ∙ none

order_says : (said : Option Command) (t : Threads) → are_going t ≡ false → SaysOrder said → Crosses (are_going t) false said
order_says None t still says = sym still
order_says (Some (C.At j order)) t still says = (still, still)
order_says (Some command) t still says = absurd says

line_crosses : (t : Threads) (words : List (List ℕ)) (last : Bool) (said : Option Command) → breaks_section t words last ≡ false
    → IsLine words said → Crosses (are_going t) (are_going (threads_after t words)) said
line_crosses t words last said whole line =
    let first = or_parts (is_order words && are_going t) _ whole in
    let second = or_parts (is_go words && not (are_waiting t)) _ first.1 in
    let third = or_parts (is_join words && not (are_going t)) _ second.1 in
    elim line [
      | inl o ↦
          subst (λ b. Crosses (are_going t) b said) (sym (ap (λ b. are_going (after_tests t b (is_go words) (is_join words))) o.is))
          (order_says said t (holds _ _ o.is first.0) o.says)
      | inr (inl g) ↦
          (let waits : are_waiting t ≡ true = not-false _ (holds _ _ g.is second.0) in
          let next : are_going (threads_after t words) ≡ true =
          ap (λ b. are_going (after_tests t b (is_go words) (is_join words))) g.no_order
          ∙ ap (λ b. are_going (after_tests t false b (is_join words))) g.is in
          subst (λ o. Crosses (are_going t) (are_going (threads_after t words)) o) (sym g.says) (waiting_is_not_going t waits, sym next))
      | inr (inr (inl j)) ↦
          (let runs : are_going t ≡ true = not-false _ (holds _ _ j.is third.0) in
          let next : are_going (threads_after t words) ≡ false =
          ap (λ b. are_going (after_tests t b (is_go words) (is_join words))) j.no_order
          ∙ ap (λ b. are_going (after_tests t false b (is_join words))) j.no_go
          ∙ ap (λ b. are_going (after_tests t false false b)) j.is in
          subst (λ o. Crosses (are_going t) (are_going (threads_after t words)) o) (sym j.says) (runs, sym next))
      | inr (inr (inr own)) ↦
          (let same : threads_after t words ≡ t =
          ap (λ b. after_tests t b (is_go words) (is_join words)) own.no_order
          ∙ ap (λ b. after_tests t false b (is_join words)) own.no_go
          ∙ ap (λ b. after_tests t false false b) own.no_join in
          subst (λ u. Crosses (are_going t) (are_going u) said) (sym same) (own_said (are_going t) said own.says))
    ]

-- ---- lines, one after another

-- the line has no words, or keeps to its section
record Keeps (t : Threads) (words : List (List ℕ)) (last : Bool) : Type 0 where
  whole : breaks_section t words last ≡ false
  line : IsLine words (command_of_words words)

abbrev IsKept : Threads → List ℕ → List (List ℕ) → Type 0
IsKept t line after = (is_blank line ≡ true) ⊎ Keeps t (words_of line) (list_all is_blank after)

abbrev AreKept : Threads → List (List ℕ) → Type 0
AreKept t [] = ⊤
AreKept t (line ∷ lines) = IsKept t line lines × AreKept (threads_after t (words_of line)) lines

abbrev commands_in : List (List ℕ) → List Command
commands_in lines = filter_map (λ line. command_of_words (words_of line)) lines

crossed : (before after : Bool) (line : List ℕ) (lines : List (List ℕ)) (said : Option Command) → command_of_words (words_of line) ≡ said
    → Crosses before after said → AreInSections after (commands_in lines) → AreInSections before (commands_in (line ∷ lines))
crossed before after line lines None e c rest =
    rw e (subst (λ b. AreInSections b (commands_in lines)) c rest)
crossed before after line lines (Some command) e c rest =
    rw e (c.0, subst (λ b. AreInSections b (commands_in lines)) (sym c.1) rest)

no_words : (words : List (List ℕ)) → (length words == 0) ≡ true → words ≡ []
no_words [] e = refl
no_words (word ∷ words) e = absurd (let n : length (word ∷ words) ≡ 0 = eqb-true _ _ e in omega (arith, n))

in_sections : (t : Threads) (lines : List (List ℕ)) → AreKept t lines → (list_all is_blank lines ≡ true → are_at_rest t ≡ true)
    → AreInSections (are_going t) (commands_in lines)
in_sections t [] kept ends = rest_is_not_going t (ends refl)
in_sections t (line ∷ lines) kept ends = elim kept.0 [
  | inl blank ↦
      (let none : words_of line ≡ [] = no_words (words_of line) blank in
      let same : threads_after t (words_of line) ≡ t = ap (threads_after t) none in
      crossed (are_going t) (are_going t) line lines None (ap command_of_words none) refl
      (in_sections t lines (subst (λ u. AreKept u lines) same kept.1) (λ all. ends (ap (λ b. b && list_all is_blank lines) blank ∙ all))))
  | inr k ↦
      crossed (are_going t) (are_going (threads_after t (words_of line))) line lines (command_of_words (words_of line)) refl
      (line_crosses t (words_of line) (list_all is_blank lines) _ k.whole k.line)
      (in_sections (threads_after t (words_of line)) lines kept.1
      (λ all. not-false _ (holds _ _ all
      (or_parts (is_join (words_of line) && not (are_going t)) _ (or_parts (is_go (words_of line) && not (are_waiting t)) _
      (or_parts (is_order (words_of line) && are_going t) _ k.whole).1).1).1)))
]

-- ---- from the reasons that the lines don't have

no_break : (before words : List (List ℕ)) (last : Bool) (reason : Option Reason) → reason_by_order before words last reason ≡ None
    → breaks_section (threads_of before) words last ≡ false
no_break before words last (Some reason) e = absurd (none-some reason (sym e))
no_break before words last None e =
    by_tests (first_is (codes "type") words && list_any is_command before) (breaks_section (threads_of before) words last) e where
      by_tests : (order broken : Bool) → cond order (Some Order) (cond broken (Some Section) None) ≡ None → broken ≡ false
      by_tests true broken e = absurd (none-some Order (sym e))
      by_tests false true e = absurd (none-some Section (sym e))
      by_tests false false e = refl

no_fault : (before words : List (List ℕ)) (last : Bool) (reason : Option Reason) → reason_by_order before words last reason ≡ None → reason ≡ None
no_fault before words last None e = refl
no_fault before words last (Some reason) e = absurd (none-some reason (sym e))

line_is_kept : (version callbacks : ℕ) (before : List (List ℕ)) (line : List ℕ) (after : List (List ℕ)) (blank : Bool) → is_blank line ≡ blank
    → cond blank None (reason_by_order before (words_of line) (list_all is_blank after) (reason_of_words version (bounds_after callbacks before) (words_of line))) ≡ None
    → IsKept (threads_of before) line after
line_is_kept version callbacks before line after true is e = inl is
line_is_kept version callbacks before line after false is e =
    inr (record {
      whole = no_break before (words_of line) (list_all is_blank after) _ e;
      line = line_of_words version (bounds_after callbacks before) (words_of line)
          (faultless version (bounds_after callbacks before) (words_of line) (no_fault before (words_of line) (list_all is_blank after) _ e));
    })

abbrev threads_from : Threads → List (List ℕ) → Threads
threads_from t lines = fold (λ threads line. threads_after threads (words_of line)) t lines

all_kept : (t : Threads) (lines : List (List ℕ))
    → ((i : ℕ) → i < length lines → IsKept (threads_from t (take i lines)) (get_or lines i []) (drop (i + 1) lines)) → AreKept t lines
all_kept t [] each = tt
all_kept t (line ∷ lines) each = (
  each 0 (omega arith),
  all_kept (threads_after t (words_of line)) lines (λ i low.
      (let next : suc i + 1 ≡ suc (i + 1) = omega arith in
      subst (λ n. IsKept (threads_from t (take (suc i) (line ∷ lines))) (get_or lines i []) (drop n (line ∷ lines))) next (each (suc i) (omega arith)))),
)

-- the lines after a header
pub lines_in_sections : (callbacks : ℕ) (header : List ℕ) (rest : List (List ℕ))
    → ((i : ℕ) → i < length (header ∷ rest) → reason_at callbacks (header ∷ rest) i ≡ None)
    → AreInSections false (filter_map (λ line. command_of_words (words_of line)) rest)
lines_in_sections callbacks header rest none =
    in_sections AtRest rest
    (all_kept AtRest rest (λ i low.
    (let next : suc i + 1 ≡ suc (i + 1) = omega arith in
    subst (λ n. IsKept (threads_of (take i rest)) (get_or rest i []) (drop n (header ∷ rest))) next
    (line_is_kept (version_of header) callbacks (take i rest) (get_or rest i []) (drop (suc i + 1) (header ∷ rest)) (is_blank (get_or rest i [])) refl (none (suc i) (omega arith))))))
    (λ all. refl)
