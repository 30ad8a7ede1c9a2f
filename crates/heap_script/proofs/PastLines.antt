-- What the lines before say, with one more.
use Rattle.std.proofs.Common.{◌≡◌, ℕ, ◌+◌, ◌<◌, ◌&&◌, ◌||◌, Bool, true, false, not, cond, Option, Some, None, List, [], ◌∷◌, ◌++◌, length, get_or, take, refl, sym, ap, ◌∙◌, subst}
use Rattle.std.specs.Prelude.{codes, count_by}
use Rattle.std.specs.List.{list_any, filter_map}
use Rattle.std.proofs.lemmas.Bool.{true≢false, cond-false, and_from, and_right, or_right, not_from_true, not_from_false}
use Rattle.std.proofs.lemmas.List.{take_more, append-nil}
use Rattle.std.proofs.lemmas.List.Elements.{filter_map-append}
use Rattle.std.proofs.lemmas.List.Folds.{list_any_more}
use Rattle.std.proofs.lemmas.List.Sums.{fold_more, count_by_more_yes, count_by_more_no}
use Rattle.gc_graph.specs.declared.command.Command.{Command}
use Rattle.gc_graph.specs.State.{ObjectType}
use Rattle.std.specs.Cmp.Lexicographic.{bytes_decides}
use Rattle.gc_graph.specs.Words.{words_of, is_text, is_blank}
use Rattle.gc_graph.specs.Reasons.{Reason, first_is, reason_of_words, command_of_words, type_of_words}
use Rattle.gc_graph.specs.Reasons.Reason.{Order, Section}
use Rattle.gc_graph.specs.Script.{Threads, is_type, is_command, threads_of, threads_after, breaks_section, reason_by_order, bounds_after}
use Rattle.gc_graph.specs.Script.Threads.{AtRest}
use Rattle.heap_script.specs.declared.past.Past.{Past}
use Rattle.heap_script.specs.declared.script_lines.Kept.{Kept}
use Rattle.heap_script.specs.Past.{threads_of_stage, past_header, with_blank, bounds_in, reason_with, reason_after, IsTypeKept, IsCommandKept}
use Rattle.heap_script.proofs.LineReasons.{threads_after_line}
use Rattle.heap_script.proofs.LinesJudged.{judged, judged_words}
use Rattle.heap_script.proofs.LinesInTurn.{none_of_blank}

-- the types that the lines declare
abbrev pub types_of : List (List ℕ) → List ObjectType
types_of lines = filter_map (λ line. type_of_words (words_of line)) lines

-- the commands that the lines say
abbrev pub commands_of : List (List ℕ) → List Command
commands_of lines = filter_map (λ line. command_of_words (words_of line)) lines

-- what the lines after the header say
pub record IsPast (before : List (List ℕ)) (past : Past) (types : List ObjectType) (commands : List Command) : Type 0 where
  pub counted : count_by is_type before ≡ past.types
  pub bare : list_any is_command before ≡ not past.bare
  pub threads : threads_of before ≡ threads_of_stage past.stage
  pub types_are : types ≡ types_of before
  pub commands_are : commands ≡ commands_of before

pub nothing_read : (version : ℕ) → IsPast [] (past_header version) [] []
nothing_read version = record { counted = refl; bare = refl; threads = refl; types_are = refl; commands_are = refl }

-- ---- one line more

abbrev with_option : {X : Type 0} → List X → Option X → List X
with_option xs None = xs
with_option xs (Some x) = xs ++ x ∷ []

one_of : {X : Type 0} (f : List ℕ → Option X) (line : List ℕ) (xs : List X) (o : Option X) → f line ≡ o
    → xs ++ filter_map f (line ∷ []) ≡ with_option xs o
one_of {X = X} f line xs None e = ap (λ o. xs ++ filter_map (λ (p : Option X). p) (o ∷ [])) e ∙ append-nil xs
one_of {X = X} f line xs (Some x) e = ap (λ o. xs ++ filter_map (λ (p : Option X). p) (o ∷ [])) e

more_of : {X : Type 0} (f : List ℕ → Option X) (lines : List (List ℕ)) (n : ℕ) (o : Option X) → n < length lines → f (get_or lines n []) ≡ o
    → filter_map f (take (n + 1) lines) ≡ with_option (filter_map f (take n lines)) o
more_of f lines n o low e =
    ap (filter_map f) (take_more lines n [] low)
    ∙ filter_map-append f (take n lines) (get_or lines n [] ∷ [])
    ∙ one_of f (get_or lines n []) (filter_map f (take n lines)) o e

or_false : (b : Bool) → (b || false) ≡ b
or_false true = refl
or_false false = refl

-- a line with these words
module _ (lines : List (List ℕ)) (n : ℕ) (words : List (List ℕ)) (low : n < length lines) (are : words_of (get_or lines n []) ≡ words) where
  pub type_more : (type : Option ObjectType) → type_of_words words ≡ type → types_of (take (n + 1) lines) ≡ with_option (types_of (take n lines)) type
  type_more type e = more_of (λ line. type_of_words (words_of line)) lines n type low (ap type_of_words are ∙ e)

  pub command_more : (command : Option Command) → command_of_words words ≡ command
      → commands_of (take (n + 1) lines) ≡ with_option (commands_of (take n lines)) command
  command_more command e = more_of (λ line. command_of_words (words_of line)) lines n command low (ap command_of_words are ∙ e)

  pub threads_more : threads_of (take (n + 1) lines) ≡ threads_after (threads_of (take n lines)) words
  threads_more =
      fold_more (λ threads line. threads_after threads (words_of line)) AtRest lines n [] low
      ∙ ap (threads_after (threads_of (take n lines))) are

  pub more_types : first_is (codes "type") words ≡ true → count_by is_type (take (n + 1) lines) ≡ count_by is_type (take n lines) + 1
  more_types e = count_by_more_yes is_type lines n [] low (ap (first_is (codes "type")) are ∙ e)

  pub same_types : first_is (codes "type") words ≡ false → count_by is_type (take (n + 1) lines) ≡ count_by is_type (take n lines)
  same_types e = count_by_more_no is_type lines n [] low (ap (first_is (codes "type")) are ∙ e)

  pub commands_then : (is : Bool) → is_command (get_or lines n []) ≡ is
      → list_any is_command (take (n + 1) lines) ≡ (list_any is_command (take n lines) || is)
  commands_then is e = list_any_more is_command lines n [] low ∙ ap (λ b. list_any is_command (take n lines) || b) e

-- ---- what a line is by its words

-- a line whose first word is `type`
type_first : (words : List (List ℕ)) → first_is (codes "type") words ≡ true → (rest : List (List ℕ)) × (words ≡ codes "type" ∷ rest)
type_first [] e = absurd (true≢false (sym e))
type_first (first ∷ rest) e = (rest, ap (λ w. w ∷ rest) ((bytes_decides first (codes "type")).0 e))

pub no_command : (words : List (List ℕ)) → first_is (codes "type") words ≡ true → command_of_words words ≡ None
no_command words e = ap command_of_words (type_first words e).1

type_threads : (threads : Threads) (words : List (List ℕ)) → first_is (codes "type") words ≡ true → threads_after threads words ≡ threads
type_threads threads words e = ap (threads_after threads) (type_first words e).1

pub no_type : (words : List (List ℕ)) → first_is (codes "type") words ≡ false → type_of_words words ≡ None
no_type [] e = refl
no_type (first ∷ []) e = refl
no_type (first ∷ letters ∷ more) e = cond-false (is_text first (codes "type")) _ None e

-- ---- the state with one more line

pub past_blank : (lines : List (List ℕ)) (n : ℕ) (past : Past) (types : List ObjectType) (commands : List Command) → n < length lines
    → IsPast (take n lines) past types commands → is_blank (get_or lines n []) ≡ true
    → IsPast (take (n + 1) lines) (with_blank past) types commands
past_blank lines n past types commands low read blank =
    let are : words_of (get_or lines n []) ≡ [] = none_of_blank (get_or lines n []) blank in
    record {
      counted = same_types lines n [] low are refl ∙ read.counted;
      bare = commands_then lines n [] low are false (ap (λ (b : Bool). not b && not (is_type (get_or lines n []))) blank)
          ∙ or_false (list_any is_command (take n lines)) ∙ read.bare;
      threads = threads_more lines n [] low are ∙ read.threads;
      types_are = read.types_are ∙ sym (type_more lines n [] low are None refl);
      commands_are = read.commands_are ∙ sym (command_more lines n [] low are None refl);
    }

pub past_type : (lines : List (List ℕ)) (n : ℕ) (old new : Kept) (words : List (List ℕ)) → n < length lines
    → IsPast (take n lines) old.past old.types.items old.commands.items → words_of (get_or lines n []) ≡ words → IsTypeKept words old new
    → IsPast (take (n + 1) lines) new.past new.types.items new.commands.items
past_type lines n old new words low read are kept =
    subst (λ (p : Past). IsPast (take (n + 1) lines) p new.types.items new.commands.items) (sym kept.past) (record {
      counted = more_types lines n words low are kept.plain ∙ ap (λ k. k + 1) read.counted;
      bare = commands_then lines n words low are false
          (and_right (not (is_blank (get_or lines n []))) (not (is_type (get_or lines n [])))
          (not_from_true (is_type (get_or lines n [])) (ap (first_is (codes "type")) are ∙ kept.plain)))
          ∙ or_false (list_any is_command (take n lines)) ∙ read.bare;
      threads = threads_more lines n words low are ∙ type_threads (threads_of (take n lines)) words kept.plain ∙ read.threads;
      types_are = kept.types ∙ ap (λ (ts : List ObjectType). ts ++ kept.type ∷ []) read.types_are ∙ sym (type_more lines n words low are (Some kept.type) kept.says);
      commands_are = kept.commands ∙ read.commands_are ∙ sym (command_more lines n words low are None (no_command words kept.plain));
    })

pub past_command : (callbacks : ℕ) (lines : List (List ℕ)) (n : ℕ) (old new : Kept) (words : List (List ℕ)) → n < length lines
    → IsPast (take n lines) old.past old.types.items old.commands.items → words_of (get_or lines n []) ≡ words
    → is_blank (get_or lines n []) ≡ false → reason_after callbacks old.past words ≡ None → IsCommandKept words old new
    → IsPast (take (n + 1) lines) new.past new.types.items new.commands.items
past_command callbacks lines n old new words low read are some fine kept =
    subst (λ (p : Past). IsPast (take (n + 1) lines) p new.types.items new.commands.items) (sym kept.past) (record {
      counted = same_types lines n words low are kept.plain ∙ read.counted;
      bare = commands_then lines n words low are true
          (and_from (not (is_blank (get_or lines n []))) (not (is_type (get_or lines n [])))
          (not_from_false (is_blank (get_or lines n [])) some)
          (not_from_false (is_type (get_or lines n [])) (ap (first_is (codes "type")) are ∙ kept.plain)))
          ∙ or_right (list_any is_command (take n lines)) true refl;
      threads = threads_more lines n words low are
          ∙ ap (λ threads. threads_after threads words) read.threads
          ∙ threads_after_line callbacks old.past words kept.command kept.says kept.plain fine;
      types_are = kept.types ∙ read.types_are ∙ sym (type_more lines n words low are None (no_type words kept.plain));
      commands_are = kept.commands ∙ ap (λ (cs : List Command). cs ++ kept.command ∷ []) read.commands_are
          ∙ sym (command_more lines n words low are (Some kept.command) kept.says);
    })

-- ---- the reason of the next line

by_past : (before words : List (List ℕ)) (past : Past) (own : Option Reason) → list_any is_command before ≡ not past.bare
    → threads_of before ≡ threads_of_stage past.stage → reason_by_order before words false own ≡ reason_with past words own
by_past before words past (Some own) bare threads = refl
by_past before words past None bare threads =
    ap (λ b. cond (first_is (codes "type") words && b) (Some Order) (cond (breaks_section (threads_of before) words false) (Some Section) None)) bare
    ∙ ap (λ t. cond (first_is (codes "type") words && not past.bare) (Some Order) (cond (breaks_section t words false) (Some Section) None)) threads

pub judged_is : (version callbacks : ℕ) (before words : List (List ℕ)) (line : List ℕ) (past : Past) (types : List ObjectType) (commands : List Command)
    → past.version ≡ version → IsPast before past types commands → is_blank line ≡ false → words_of line ≡ words
    → judged version callbacks before line ≡ reason_after callbacks past words
judged_is version callbacks before words line past types commands named read some are =
    judged_words version callbacks line before some
    ∙ ap (λ (ws : List (List ℕ)). reason_by_order before ws false (reason_of_words version (bounds_after callbacks before) ws)) are
    ∙ ap (λ n. reason_by_order before words false (reason_of_words version (record { types = n; callbacks = callbacks }) words)) read.counted
    ∙ ap (λ v. reason_by_order before words false (reason_of_words v (bounds_in callbacks past) words)) (sym named)
    ∙ by_past before words past (reason_of_words past.version (bounds_in callbacks past) words) read.bare read.threads
