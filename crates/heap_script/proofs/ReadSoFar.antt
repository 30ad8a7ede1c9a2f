-- The lines that were read so far, with one more.
use Rattle.std.proofs.Common.{◌≡◌, ℕ, ◌+◌, ◌<◌, ◌≤◌, ◌==◌, true, false, None, List, [], ◌∷◌, length, get_or, take, drop, refl, sym, ap, ◌∙◌, subst, inl, inr, ◌⊎◌, arith, below_more}
use Rattle.std.proofs.lemmas.Bool.{cond-true}
use Rattle.std.proofs.lemmas.List.{drop_more, length-drop}
use Rattle.gc_graph.specs.declared.command.Command.{Command}
use Rattle.gc_graph.specs.State.{ObjectType}
use Rattle.gc_graph.specs.Words.{words_of, is_blank}
use Rattle.gc_graph.specs.Script.{threads_of, threads_after}
use Rattle.gc_graph.specs.Script.Threads.{AtRest}
use Rattle.heap_script.specs.declared.past.Past.{Past}
use Rattle.heap_script.specs.declared.script_lines.Kept.{Kept}
use Rattle.heap_script.specs.Past.{threads_of_stage, past_header, with_blank, reason_after, IsLineKept, IsLineRead}
use Rattle.heap_script.proofs.LinesJudged.{judged}
use Rattle.heap_script.proofs.PastLines.{IsPast, nothing_read, past_blank, past_type, past_command, threads_more, judged_is}

-- the last line with words, and the threads after it
pub record IsLast (lines : List (List ℕ)) (n : ℕ) (past : Past) : Type 0 where
  pub first : 1 ≤ past.last
  pub within : past.last ≤ n + 1
  pub blank : (j : ℕ) → j < n → past.last ≤ j + 1 → is_blank (get_or lines j []) ≡ true
  pub ended :
      ((past.last ≡ 1) × (threads_of_stage past.stage ≡ AtRest))
      ⊎ ((k : ℕ)
      × (past.last ≡ k + 2) × (k < n) × (is_blank (get_or lines k []) ≡ false)
      × (threads_after (threads_of (take k lines)) (words_of (get_or lines k [])) ≡ threads_of_stage past.stage))

-- n lines after the header were read, and say this
pub record IsReadTo (version callbacks : ℕ) (lines : List (List ℕ)) (n : ℕ) (past : Past) (types : List ObjectType) (commands : List Command) : Type 0 where
  pub count : past.lines ≡ n + 1
  pub within : n ≤ length lines
  pub version_is : past.version ≡ version
  pub say : IsPast (take n lines) past types commands
  pub fine : (j : ℕ) → j < n → judged version callbacks (take j lines) (get_or lines j []) ≡ None
  pub last : IsLast lines n past

pub begun : (version callbacks : ℕ) (lines : List (List ℕ)) → IsReadTo version callbacks lines 0 (past_header version) [] []
begun version callbacks lines = record {
  count = refl;
  within = omega arith;
  version_is = refl;
  say = nothing_read version;
  fine = λ j l. absurd (omega arith);
  last = record {
    first = omega arith;
    within = omega arith;
    blank = λ j l. absurd (omega arith);
    ended = inl (refl, refl);
  };
}

-- ---- the next line

pub next_there : (lines more : List (List ℕ)) (n : ℕ) (line : List ℕ) → drop n lines ≡ line ∷ more → n < length lines
next_there lines more n line e = omega (arith, length-drop n lines, ap length e)

pub next_is : (lines more : List (List ℕ)) (n : ℕ) (line : List ℕ) → drop n lines ≡ line ∷ more → get_or lines n [] ≡ line
next_is lines more n line e =
    ap (λ (xs : List (List ℕ)). get_or xs 0 []) (sym (drop_more lines n [] (next_there lines more n line e)) ∙ e)

pub rest_is : (lines more : List (List ℕ)) (n : ℕ) (line : List ℕ) → drop n lines ≡ line ∷ more → drop (n + 1) lines ≡ more
rest_is lines more n line e =
    ap (λ (xs : List (List ℕ)). drop 1 xs) (sym (drop_more lines n [] (next_there lines more n line e)) ∙ e)

-- ---- one line more

blank_more : (version callbacks : ℕ) (lines more : List (List ℕ)) (n : ℕ) (line : List ℕ) (past : Past) (types : List ObjectType) (commands : List Command)
    → IsReadTo version callbacks lines n past types commands → drop n lines ≡ line ∷ more → words_of line ≡ []
    → IsReadTo version callbacks lines (n + 1) (with_blank past) types commands
blank_more version callbacks lines more n line past types commands read e none =
    let low : n < length lines = next_there lines more n line e in
    let are : words_of (get_or lines n []) ≡ [] = ap words_of (next_is lines more n line e) ∙ none in
    let blank : is_blank (get_or lines n []) ≡ true = ap (λ (words : List (List ℕ)). length words == 0) are in
    record {
      count = omega (arith, read.count);
      within = omega arith;
      version_is = read.version_is;
      say = past_blank lines n past types commands low read.say blank;
      fine = below_more (λ j. judged version callbacks (take j lines) (get_or lines j []) ≡ None) n read.fine (cond-true (is_blank (get_or lines n [])) None _ blank);
      last = record {
        first = read.last.first;
        within = omega (arith, read.last.within);
        blank = below_more (λ j. past.last ≤ j + 1 → is_blank (get_or lines j []) ≡ true) n read.last.blank (λ _. blank);
        ended = elim read.last.ended [
          | inl none ↦ inl none
          | inr found ↦ inr (found.0, found.1, omega (arith, found.2), found.3, found.4)
        ];
      };
    }

-- a line with words
words_more : (version callbacks : ℕ) (lines more : List (List ℕ)) (n : ℕ) (line : List ℕ) (past next : Past) (types new_types : List ObjectType)
    (commands new_commands : List Command) (words : List (List ℕ)) → IsReadTo version callbacks lines n past types commands
    → drop n lines ≡ line ∷ more → words_of line ≡ words → is_blank line ≡ false → reason_after callbacks past words ≡ None
    → next.version ≡ past.version → IsPast (take (n + 1) lines) next new_types new_commands → next.lines ≡ past.lines + 1 → next.last ≡ past.lines + 1
    → IsReadTo version callbacks lines (n + 1) next new_types new_commands
words_more version callbacks lines more n line past next types new_types commands new_commands words read e are some fine same say count last =
    let low : n < length lines = next_there lines more n line e in
    let at : get_or lines n [] ≡ line = next_is lines more n line e in
    let blank : is_blank (get_or lines n []) ≡ false = ap is_blank at ∙ some in
    let ws : words_of (get_or lines n []) ≡ words = ap words_of at ∙ are in
    let here : judged version callbacks (take n lines) (get_or lines n []) ≡ None =
    judged_is version callbacks (take n lines) words (get_or lines n []) past types commands read.version_is read.say blank ws ∙ fine in
    let threads : threads_after (threads_of (take n lines)) (words_of (get_or lines n [])) ≡ threads_of_stage next.stage =
    ap (threads_after (threads_of (take n lines))) ws ∙ sym (threads_more lines n words low ws) ∙ say.threads in
    record {
      count = omega (arith, read.count, count);
      within = omega arith;
      version_is = same ∙ read.version_is;
      say = say;
      fine = below_more (λ j. judged version callbacks (take j lines) (get_or lines j []) ≡ None) n read.fine here;
      last = record {
        first = omega (arith, last);
        within = omega (arith, last, read.count);
        blank = λ j l h. absurd (omega (arith, last, read.count, h, l));
        ended = inr (n, omega (arith, last, read.count), omega arith, blank, threads);
      };
    }

line_more : (version callbacks : ℕ) (lines more : List (List ℕ)) (n : ℕ) (line : List ℕ) (old new : Kept) (words : List (List ℕ))
    → IsReadTo version callbacks lines n old.past old.types.items old.commands.items → drop n lines ≡ line ∷ more → words_of line ≡ words
    → is_blank line ≡ false → reason_after callbacks old.past words ≡ None → IsLineKept words old new
    → IsReadTo version callbacks lines (n + 1) new.past new.types.items new.commands.items
line_more version callbacks lines more n line old new words read e are some fine (inl kept) =
    let low : n < length lines = next_there lines more n line e in
    let ws : words_of (get_or lines n []) ≡ words = ap words_of (next_is lines more n line e) ∙ are in
    words_more version callbacks lines more n line old.past new.past old.types.items new.types.items old.commands.items new.commands.items words
    read e are some fine (ap (λ (p : Past). p.version) kept.past) (past_type lines n old new words low read.say ws kept)
    (ap (λ (p : Past). p.lines) kept.past) (ap (λ (p : Past). p.last) kept.past)
line_more version callbacks lines more n line old new words read e are some fine (inr kept) =
    let low : n < length lines = next_there lines more n line e in
    let at : get_or lines n [] ≡ line = next_is lines more n line e in
    let ws : words_of (get_or lines n []) ≡ words = ap words_of at ∙ are in
    words_more version callbacks lines more n line old.past new.past old.types.items new.types.items old.commands.items new.commands.items words
    read e are some fine (ap (λ (p : Past). p.version) kept.past)
    (past_command callbacks lines n old new words low read.say ws (ap is_blank at ∙ some) fine kept)
    (ap (λ (p : Past). p.lines) kept.past) (ap (λ (p : Past). p.last) kept.past)

kept_lines : (words : List (List ℕ)) (old new : Kept) → IsLineKept words old new → new.past.lines ≡ old.past.lines + 1
kept_lines words old new (inl kept) = ap (λ (p : Past). p.lines) kept.past
kept_lines words old new (inr kept) = ap (λ (p : Past). p.lines) kept.past

-- ---- one line more, with words or without

pub read_more : (version callbacks : ℕ) (lines more : List (List ℕ)) (n : ℕ) (line : List ℕ) (old new : Kept) (words : List (List ℕ))
    → IsReadTo version callbacks lines n old.past old.types.items old.commands.items → drop n lines ≡ line ∷ more → words_of line ≡ words
    → IsLineRead callbacks words old new
    → IsReadTo version callbacks lines (n + 1) new.past new.types.items new.commands.items
read_more version callbacks lines more n line old new words read e are (inl blank) =
    subst (λ past. IsReadTo version callbacks lines (n + 1) past new.types.items new.commands.items) (sym blank.past)
    (subst (λ types. IsReadTo version callbacks lines (n + 1) (with_blank old.past) types new.commands.items) (sym blank.types)
    (subst (IsReadTo version callbacks lines (n + 1) (with_blank old.past) old.types.items) (sym blank.commands)
    (blank_more version callbacks lines more n line old.past old.types.items old.commands.items read e (are ∙ blank.none))))
read_more version callbacks lines more n line old new words read e are (inr kept) =
    line_more version callbacks lines more n line old new words read e are (ap (λ (ws : List (List ℕ)). length ws == 0) are ∙ kept.some) kept.fine kept.kept

pub read_lines : (callbacks : ℕ) (words : List (List ℕ)) (old new : Kept) → IsLineRead callbacks words old new
    → new.past.lines ≡ old.past.lines + 1
read_lines callbacks words old new (inl blank) = ap (λ (p : Past). p.lines) blank.past
read_lines callbacks words old new (inr kept) = kept_lines words old new kept.kept
