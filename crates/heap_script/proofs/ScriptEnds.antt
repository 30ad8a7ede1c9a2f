-- What a script is, or why it isn't one, once its lines were read.
use Rattle.std.proofs.Common.{◌≡◌, ℕ, zero, suc, ◌+◌, ◌<◌, ◌≤◌, ◌==◌, ◌&&◌, Bool, true, false, not, Option, Some, None, List, [], ◌∷◌, length, get_or, take, drop, refl, sym, ap, ◌∙◌, subst, inl, inr, arith}
use Rattle.std.specs.Prelude.{codes, nat_lt}
use Rattle.std.specs.List.{list_all, cons_option}
use Rattle.std.specs.Cmp.Lexicographic.{pointwise, bytes_decides}
use Rattle.std.proofs.lemmas.Bool.{true≢false, cases_lt, cases_order, cond-true, cond-false, and_parts, or_cases, and_left, and_right, and_from, lt-ltb, le-ltb, not_from_true, not_from_false, eq-eqb, ne_eqb}
use Rattle.std.proofs.lemmas.List.{take_all, length-drop, get_or-drop}
use Rattle.gc_graph.specs.declared.command.Command.{Command}
use Rattle.gc_graph.specs.State.{ObjectType}
use Rattle.gc_graph.specs.Words.{lines_of, words_of, is_text, is_blank}
use Rattle.gc_graph.specs.Reasons.{Reason, number_of, command_of_words, type_of_words}
use Rattle.gc_graph.specs.Reasons.Reason.{Header, UnknownWord, BadNumber, Count, Range, Order, Section, TooLong}
use Rattle.gc_graph.specs.Script.{IsInLimits, IsFirstFault, names_version, is_header, version_of, are_at_rest, threads_of, threads_after, reason_at}
use Rattle.heap_script.specs.declared.script.ScriptFault.{ScriptFault}
use Rattle.heap_script.specs.Scripts.{IsFaultOf}
use Rattle.heap_script.specs.declared.past.Past.{Past}
use Rattle.heap_script.specs.Past.{threads_of_stage, IsReasonOf, reason_after}
use Rattle.heap_script.specs.declared.script_lines.Kept.{Kept}
use Rattle.heap_script.specs.Reading.{IsWholeScript, fault_with}
use Rattle.heap_script.proofs.LinesJudged.{judged, blank_fine, as_judged, found_fault, at_rest_fine, last_fault, all_blank, words_follow, at_line}
use Rattle.heap_script.proofs.PastLines.{types_of, commands_of, judged_is}
use Rattle.heap_script.proofs.ReadSoFar.{IsReadTo, next_there, next_is}

-- ---- the header

header_words : (version : List ℕ) (words : List (List ℕ)) → pointwise is_text words (codes "oilpan" ∷ version ∷ []) ≡ true
    → words ≡ codes "oilpan" ∷ version ∷ []
header_words version [] e = absurd (true≢false (sym e))
header_words version (x ∷ []) e = absurd (true≢false (sym e ∙ and_right (is_text x (codes "oilpan")) false refl))
header_words version (x ∷ y ∷ []) e =
    let parts = and_parts (is_text x (codes "oilpan")) (is_text y version && true) e in
    let more = and_parts (is_text y version) true parts.1 in
    ap (λ w. w ∷ y ∷ []) ((bytes_decides x (codes "oilpan")).0 parts.0)
    ∙ ap (λ w. codes "oilpan" ∷ w ∷ []) ((bytes_decides y version).0 more.0)
header_words version (x ∷ y ∷ z ∷ words) e =
    absurd (true≢false (sym e
    ∙ and_right (is_text x (codes "oilpan")) (is_text y version && false) (and_right (is_text y version) false refl)))

-- the header's words are `oilpan` and another
header_named : (header : List ℕ) → is_header header ≡ true → (version : List ℕ) × (words_of header ≡ codes "oilpan" ∷ version ∷ [])
header_named header head = elim (or_cases (names_version (codes "1") header) (names_version (codes "2") header) head) [
  | inl one ↦ (codes "1", header_words (codes "1") (words_of header) one)
  | inr two ↦ (codes "2", header_words (codes "2") (words_of header) two)
]

-- what holds of 0 and of those after the numbers below n
at_all : (P : ℕ → Type 0) (n : ℕ) → P 0 → ((j : ℕ) → j < n → P (suc j)) → (j : ℕ) → j < n + 1 → P j
at_all P n first more zero low = first
at_all P n first more (suc j) low = more j (omega arith)

header_fine : (callbacks : ℕ) (header : List ℕ) (lines : List (List ℕ)) → is_header header ≡ true → reason_at callbacks (header ∷ lines) 0 ≡ None
header_fine callbacks header lines head = cond-true (is_header header) None (Some Header) head

-- the header says nothing
no_header_command : (header : List ℕ) → is_header header ≡ true → command_of_words (words_of header) ≡ None
no_header_command header head = ap command_of_words (header_named header head).1

no_header_type : (header : List ℕ) → is_header header ≡ true → type_of_words (words_of header) ≡ None
no_header_type header head = ap type_of_words (header_named header head).1

-- ---- lines without a fault

-- before a line with words
fine_before : (callbacks : ℕ) (header : List ℕ) (lines : List (List ℕ)) (n k : ℕ) → is_header header ≡ true
    → ((j : ℕ) → j < n → judged (version_of header) callbacks (take j lines) (get_or lines j []) ≡ None) → k ≤ n → k < length lines
    → is_blank (get_or lines k []) ≡ false → (j : ℕ) → j < k + 1 → reason_at callbacks (header ∷ lines) j ≡ None
fine_before callbacks header lines n k head fine within low some =
    at_all (λ j. reason_at callbacks (header ∷ lines) j ≡ None) k (header_fine callbacks header lines head)
    (λ j l. at_line callbacks header lines j
    ∙ as_judged callbacks header (get_or lines j []) (take j lines) (drop (j + 1) lines) (words_follow lines j k l low some)
    ∙ fine j (omega arith))

module _ (callbacks : ℕ) (header : List ℕ) (lines : List (List ℕ)) (n : ℕ) (past : Past) (types : List ObjectType) (commands : List Command)
    (head : is_header header ≡ true) (read : IsReadTo (version_of header) callbacks lines n past types commands) (end : length lines ≤ n) where
  -- a blank line at the end
  fine_blank : (j : ℕ) → j < length lines → past.last ≤ j + 1 → reason_at callbacks (header ∷ lines) (suc j) ≡ None
  fine_blank j low late =
      at_line callbacks header lines j
      ∙ blank_fine callbacks header (get_or lines j []) (take j lines) (drop (j + 1) lines) (read.last.blank j (omega arith) late)

  -- the last line with words, and those around it
  fine_around : are_at_rest (threads_of_stage past.stage) ≡ true → (k : ℕ) → past.last ≡ k + 2 → k < n → is_blank (get_or lines k []) ≡ false
      → threads_after (threads_of (take k lines)) (words_of (get_or lines k [])) ≡ threads_of_stage past.stage
      → (j : ℕ) → j < length lines → reason_at callbacks (header ∷ lines) (suc j) ≡ None
  fine_around rest k last low some after j within = elim (cases_order j k) [
    | inl same ↦ subst (λ m. reason_at callbacks (header ∷ lines) (suc m) ≡ None) (sym same)
        (at_line callbacks header lines k
        ∙ at_rest_fine callbacks header (get_or lines k []) (take k lines) (drop (k + 1) lines) some (read.fine k low) (ap are_at_rest after ∙ rest))
    | inr (inl before) ↦ fine_before callbacks header lines n k head read.fine (omega arith) (omega (arith, read.within)) some (suc j) (omega arith)
    | inr (inr later) ↦ fine_blank j within (omega (arith, last))
  ]

  fine_line : are_at_rest (threads_of_stage past.stage) ≡ true → (j : ℕ) → j < length lines → reason_at callbacks (header ∷ lines) (suc j) ≡ None
  fine_line rest j within = elim read.last.ended [
    | inl none ↦ fine_blank j within (omega (arith, none.0))
    | inr found ↦ fine_around rest found.0 found.1 found.2 found.3 found.4 j within
  ]

-- ---- limits

in_limits : (bytes : List ℕ) → length bytes ≤ 16777216 → length (lines_of bytes) ≤ 1000000 → IsInLimits bytes
in_limits bytes few low (inl big) = absurd (omega (arith, big, few))
in_limits bytes few low (inr many) = absurd (omega (arith, many, low))

pub too_many : (callbacks : ℕ) (bytes : List ℕ) → 1000000 < length (lines_of bytes)
    → IsFaultOf callbacks bytes (record { line = 0; reason = 8 })
too_many callbacks bytes many = inr (inl (inr many, refl, refl))

number_some : (why : Reason) → 0 < number_of why
number_some Header = omega arith
number_some UnknownWord = omega arith
number_some BadNumber = omega arith
number_some Count = omega arith
number_some Range = omega arith
number_some Order = omega arith
number_some Section = omega arith
number_some TooLong = omega arith

-- ---- a fault that was found

abbrev fault_on : ℕ → ℕ → ScriptFault
fault_on lines reason = record { line = lines + 1; reason = reason }

abbrev fault_long : ScriptFault
fault_long = record { line = 0; reason = 8 }

-- the fault tells the first line that has one, and the lowest reason that it has
record IsFaultyLine (callbacks : ℕ) (bytes : List ℕ) (fault : ScriptFault) : Type 0 where
  limits : IsInLimits bytes
  place : ℕ
  why : Reason
  line : fault.line ≡ place + 1
  reason : fault.reason ≡ number_of why
  first : IsFirstFault callbacks bytes place why

told : (callbacks : ℕ) (bytes : List ℕ) (fault : ScriptFault) → IsFaultyLine callbacks bytes fault → IsFaultOf callbacks bytes fault
told callbacks bytes fault h = inr (inr (h.limits, (h.place, h.why, h.line, h.reason, h.first)))

abbrev is_long : ℕ → ℕ → Bool
is_long total reason = not (reason == 0) && nat_lt 1000000 total

-- the lines are counted before a reason is told
stopped_by : (callbacks : ℕ) (bytes : List ℕ) (fault : ScriptFault) (lines reason : ℕ) (why : Reason)
    → fault ≡ fault_with (length (lines_of bytes)) lines reason → reason ≡ number_of why
    → (length (lines_of bytes) ≤ 1000000 → IsFaultyLine callbacks bytes (fault_on lines reason)) → IsFaultOf callbacks bytes fault
stopped_by callbacks bytes fault lines reason why is number faulty =
    let total : ℕ = length (lines_of bytes) in
    let some : not (reason == 0) ≡ true = not_from_false (reason == 0) (ne_eqb reason 0 (λ e. omega (arith, number_some why, number, e))) in
    elim (cases_lt 1000000 total) [
      | inl many ↦ subst (IsFaultOf callbacks bytes) (sym (is
          ∙ cond-true (is_long total reason) fault_long (fault_on lines reason)
          (and_from (not (reason == 0)) (nat_lt 1000000 total) some (lt-ltb 1000000 total many))))
          (too_many callbacks bytes many)
      | inr few ↦ subst (IsFaultOf callbacks bytes) (sym (is
          ∙ cond-false (is_long total reason) fault_long (fault_on lines reason)
          (and_right (not (reason == 0)) (nat_lt 1000000 total) (le-ltb 1000000 total few))))
          (told callbacks bytes (fault_on lines reason) (faulty few))
    ]

no_memory : (callbacks : ℕ) (bytes : List ℕ) (fault : ScriptFault) (total lines reason : ℕ) → fault ≡ fault_with total lines reason
    → reason ≡ 0 → IsFaultOf callbacks bytes fault
no_memory callbacks bytes fault total lines reason is none =
    inl (ap (λ (s : ScriptFault). s.reason) (is ∙ cond-false (is_long total reason) fault_long (fault_on lines reason)
    (and_left (not (reason == 0)) (nat_lt 1000000 total) (not_from_true (reason == 0) (eq-eqb reason 0 none)))) ∙ none)

-- the header is missing
pub header_stop : (callbacks : ℕ) (bytes : List ℕ) (fault : ScriptFault) → length bytes ≤ 16777216
    → is_header (get_or (lines_of bytes) 0 []) ≡ false → fault ≡ fault_with (0 + length (lines_of bytes)) 0 1 → IsFaultOf callbacks bytes fault
header_stop callbacks bytes fault few wrong is =
    let total : 0 + length (lines_of bytes) ≡ length (lines_of bytes) = omega arith in
    stopped_by callbacks bytes fault 0 1 Header (is ∙ ap (λ n. fault_with n 0 1) total) refl (λ low. record {
      limits = in_limits bytes few low;
      place = 0;
      why = Header;
      line = refl;
      reason = refl;
      first = record {
        faulty = cond-false (is_header (get_or (lines_of bytes) 0 [])) None (Some Header) wrong;
        before = λ j l. absurd (omega arith);
      };
    })

module _ (callbacks : ℕ) (bytes header : List ℕ) (lines : List (List ℕ)) (are : lines_of bytes ≡ header ∷ lines) (head : is_header header ≡ true)
    (small : length bytes ≤ 16777216) where
  -- a line with a reason
  faulty_line : (more : List (List ℕ)) (n : ℕ) (line : List ℕ) (past : Past) (types : List ObjectType) (commands : List Command)
      (words : List (List ℕ)) (why : Reason) (reason : ℕ) → IsReadTo (version_of header) callbacks lines n past types commands → drop n lines ≡ line ∷ more
      → words_of line ≡ words → is_blank line ≡ false → reason_after callbacks past words ≡ Some why → reason ≡ number_of why
      → length (lines_of bytes) ≤ 1000000 → IsFaultyLine callbacks bytes (fault_on past.lines reason)
  faulty_line more n line past types commands words why reason read e ws some told number few =
      let low : n < length lines = next_there lines more n line e in
      let at : get_or lines n [] ≡ line = next_is lines more n line e in
      let blank : is_blank (get_or lines n []) ≡ false = ap is_blank at ∙ some in
      let here : judged (version_of header) callbacks (take n lines) (get_or lines n []) ≡ Some why =
      judged_is (version_of header) callbacks (take n lines) words (get_or lines n []) past types commands read.version_is read.say blank (ap words_of at ∙ ws) ∙ told in
      record {
        limits = in_limits bytes small few;
        place = suc n;
        why = why;
        line = omega (arith, read.count);
        reason = number;
        first = record {
          faulty = ap (λ ls. reason_at callbacks ls (suc n)) are
              ∙ at_line callbacks header lines n
              ∙ found_fault callbacks header (get_or lines n []) (take n lines) (drop (n + 1) lines) why blank here;
          before = λ j l. ap (λ ls. reason_at callbacks ls j) are
              ∙ fine_before callbacks header lines n n head read.fine (omega arith) low blank j (omega arith);
        };
      }

  pub line_stop : (more : List (List ℕ)) (n : ℕ) (line : List ℕ) (past : Past) (types : List ObjectType) (commands : List Command)
      (words : List (List ℕ)) (reason total : ℕ) (fault : ScriptFault) → IsReadTo (version_of header) callbacks lines n past types commands → drop n lines ≡ line ∷ more
      → words_of line ≡ words → is_blank line ≡ false → IsReasonOf (reason_after callbacks past words) reason
      → total ≡ past.lines + length (line ∷ more) → fault ≡ fault_with total past.lines reason → IsFaultOf callbacks bytes fault
  line_stop more n line past types commands words reason total fault read e ws some (inl none) counted is =
      no_memory callbacks bytes fault total past.lines reason is none
  line_stop more n line past types commands words reason total fault read e ws some (inr (why, number, told)) counted is =
      let whole : total ≡ length (lines_of bytes) =
      omega (arith, counted, read.count, read.within, ap length are, ap length e, length-drop n lines) in
      stopped_by callbacks bytes fault past.lines reason why
      (subst (λ m. fault ≡ fault_with m past.lines reason) whole is) number
      (faulty_line more n line past types commands words why reason read e ws some told number)

  -- the threads aren't at rest after the last line with words
  section_line : (n : ℕ) (past : Past) (types : List ObjectType) (commands : List Command) → IsReadTo (version_of header) callbacks lines n past types commands
      → length lines ≤ n → length (lines_of bytes) ≤ 1000000 → are_at_rest (threads_of_stage past.stage) ≡ false
      → (k : ℕ) → past.last ≡ k + 2 → k < n → is_blank (get_or lines k []) ≡ false
      → threads_after (threads_of (take k lines)) (words_of (get_or lines k [])) ≡ threads_of_stage past.stage
      → IsFaultyLine callbacks bytes (record { line = past.last; reason = 7 })
  section_line n past types commands read end few busy k last low some after =
      let blanks : list_all is_blank (drop (k + 1) lines) ≡ true =
      all_blank (drop (k + 1) lines) (λ j l. ap is_blank (get_or-drop (k + 1) lines j [])
      ∙ read.last.blank (k + 1 + j) (omega (arith, l, length-drop (k + 1) lines, end)) (omega (arith, last))) in
      record {
        limits = in_limits bytes small few;
        place = suc k;
        why = Section;
        line = omega (arith, last);
        reason = refl;
        first = record {
          faulty = ap (λ ls. reason_at callbacks ls (suc k)) are
              ∙ at_line callbacks header lines k
              ∙ last_fault callbacks header (get_or lines k []) (take k lines) (drop (k + 1) lines) some (read.fine k low) (ap are_at_rest after ∙ busy) blanks;
          before = λ j l. ap (λ ls. reason_at callbacks ls j) are
              ∙ fine_before callbacks header lines n k head read.fine (omega arith) (omega (arith, read.within, low)) some j (omega arith);
        };
      }

  pub section_stop : (n : ℕ) (past : Past) (types : List ObjectType) (commands : List Command) → IsReadTo (version_of header) callbacks lines n past types commands
      → drop n lines ≡ [] → past.lines ≤ 1000000 → are_at_rest (threads_of_stage past.stage) ≡ false
      → IsFaultOf callbacks bytes (record { line = past.last; reason = 7 })
  section_stop n past types commands read none few busy =
      let end : length lines ≤ n = omega (arith, length-drop n lines, ap length none) in
      let low : length (lines_of bytes) ≤ 1000000 = omega (arith, ap length are, few, read.count, end) in
      elim read.last.ended [
        | inl rest ↦ absurd (true≢false (sym (ap are_at_rest rest.1) ∙ busy))
        | inr found ↦ told callbacks bytes (record { line = past.last; reason = 7 }) (section_line n past types commands read end low busy found.0 found.1 found.2 found.3 found.4)
      ]

  pub all_read : (n : ℕ) (kept : Kept) → IsReadTo (version_of header) callbacks lines n kept.past kept.types.items kept.commands.items
      → drop n lines ≡ [] → kept.past.lines ≤ 1000000 → are_at_rest (threads_of_stage kept.past.stage) ≡ true → IsWholeScript callbacks bytes kept
  all_read n kept read none few rest =
      let end : length lines ≤ n = omega (arith, length-drop n lines, ap length none) in
      let low : length (lines_of bytes) ≤ 1000000 = omega (arith, ap length are, few, read.count, end) in
      record {
        limits = in_limits bytes small low;
        header = ap (λ ls. reason_at callbacks ls 0) are ∙ header_fine callbacks header lines head;
        faultless = λ i l. ap (λ ls. reason_at callbacks ls i) are
            ∙ at_all (λ j. reason_at callbacks (header ∷ lines) j ≡ None) (length lines) (header_fine callbacks header lines head)
            (fine_line callbacks header lines n kept.past kept.types.items kept.commands.items head read end rest) i (omega (arith, ap length are, l));
        types = read.say.types_are
            ∙ ap types_of (take_all n lines end)
            ∙ sym (ap (λ (o : Option ObjectType). cons_option o (types_of lines)) (no_header_type header head))
            ∙ sym (ap types_of are);
        commands = read.say.commands_are
            ∙ ap commands_of (take_all n lines end)
            ∙ sym (ap (λ (o : Option Command). cons_option o (commands_of lines)) (no_header_command header head))
            ∙ sym (ap commands_of are);
      }
