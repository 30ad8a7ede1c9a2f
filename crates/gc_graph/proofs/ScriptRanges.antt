-- What a script says is within the ranges that a heap wants.
use Rattle.std.proofs.Common.{◌≡◌, ◌⊎◌, ℕ, zero, suc, ◌+◌, ◌<◌, ◌≤◌, ◌&&◌, Bool, true, false, cond, List, [], ◌∷◌, length, take, drop, get_or, All, Option, Some, None, refl, sym, ap, ◌∙◌, subst, inl, inr, arith}
use Rattle.std.specs.Prelude.{codes, count_by, is_some, ◌==◌}
use Rattle.std.specs.List.{list_all, filter_map}
use Rattle.std.specs.Cmp.Lexicographic.{bytes_decides, pointwise}
use Rattle.std.proofs.lemmas.Bool.{and_parts, and_right, or_cases, true≢false, eqb-true, cases_lt}
use Rattle.std.proofs.lemmas.Option.{none-some}
use Rattle.std.proofs.lemmas.List.{take_all}
use Rattle.std.proofs.lemmas.List.Elements.{All-nil, All-cons}
use Rattle.std.proofs.lemmas.List.Sums.{sum_by-cons, sum_by-take-le, count_by_more_yes, count_by_more_no}
use Rattle.gc_graph.specs.declared.command.Command.{Command}
use Rattle.gc_graph.specs.State.{ObjectType}
use Rattle.gc_graph.specs.Lawful.{IsAllowed}
use Rattle.gc_graph.specs.Words.{lines_of, words_of, is_text, is_blank}
use Rattle.gc_graph.specs.Reasons.{Reason, first_is, reason_of_words, command_of_words, type_of_words}
use Rattle.gc_graph.specs.Reasons.Reason.{Header}
use Rattle.gc_graph.specs.Script.{names_version, is_header, version_of, is_type, bounds_after, reason_by_order, reason_at, Script}
use Rattle.gc_graph.specs.Sections.{AreInSections}
use Rattle.gc_graph.specs.ScriptLaw.{IsInRanges, ScriptsAreInRanges, WeakCallbacksAreOfVersionTwo}
use Rattle.gc_graph.proofs.SaidWords.{AreFaultless, faultless, command_allowed, IsGoodType, type_is_good, type_lines_say, room_for_type}
use Rattle.gc_graph.proofs.ScriptSections.{lines_in_sections}

-- ---- lists

cons_length : {T : Type 0} (h : List ℕ → Option T) (x : List ℕ) (xs : List (List ℕ)) (o : Option T) (p : Bool) (n : ℕ) → h x ≡ o → p ≡ is_some o
    → length (filter_map h xs) ≡ n → length (filter_map h (x ∷ xs)) ≡ cond p 1 0 + n
cons_length h x xs None p n at is same = rw (at, is) (omega (arith, same))
cons_length h x xs (Some y) p n at is same = rw (at, is) (omega (arith, same))

-- as many are kept as pass
kept_count : {T : Type 0} (p : List ℕ → Bool) (h : List ℕ → Option T) (xs : List (List ℕ))
    → ((i : ℕ) → i < length xs → p (get_or xs i []) ≡ is_some (h (get_or xs i []))) → length (filter_map h xs) ≡ count_by p xs
kept_count p h [] same = refl
kept_count p h (x ∷ xs) same =
    cons_length h x xs (h x) (p x) (count_by p xs) refl (same 0 (omega arith)) (kept_count p h xs (λ i low. same (suc i) (omega arith)))
    ∙ sym (sum_by-cons (λ y. cond (p y) 1 0) x xs)

kept_few : {T : Type 0} (h : List ℕ → Option T) (xs : List (List ℕ)) → length (filter_map h xs) ≤ length xs
kept_few h [] = omega arith
kept_few h (x ∷ xs) = one_more (h x) refl (kept_few h xs) where
  one_more : (o : Option _) → h x ≡ o → length (filter_map h xs) ≤ length xs → length (filter_map h (x ∷ xs)) ≤ suc (length xs)
  one_more None at low = rw at (omega (arith, low))
  one_more (Some y) at low = rw at (omega (arith, low))

kept_all : {T : Type 0} (P : T → Type 0) (h : List ℕ → Option T) (xs : List (List ℕ))
    → ((i : ℕ) → i < length xs → (y : T) → h (get_or xs i []) ≡ Some y → P y) → All P (filter_map h xs)
kept_all P h [] each = All-nil P
kept_all P h (x ∷ xs) each = one_more (h x) refl (each 0 (omega arith)) (kept_all P h xs (λ i low. each (suc i) (omega arith))) where
  one_more : (o : Option _) → h x ≡ o → ((y : _) → h x ≡ Some y → P y) → All P (filter_map h xs) → All P (filter_map h (x ∷ xs))
  one_more None at here all = rw at all
  one_more (Some y) at here all = rw at (All-cons P y (filter_map h xs) (here y at) all)

-- ---- the header

pair_words : (first second : List ℕ) (words : List (List ℕ)) → pointwise is_text words (first ∷ second ∷ []) ≡ true → words ≡ first ∷ second ∷ []
pair_words first second [] e = absurd (true≢false (sym e))
pair_words first second (x ∷ []) e = absurd (true≢false (sym e ∙ and_right (is_text x first) false refl))
pair_words first second (x ∷ y ∷ []) e =
    let parts = and_parts (is_text x first) (is_text y second && true) e in
    let more = and_parts (is_text y second) true parts.1 in
    ap (λ w. w ∷ y ∷ []) ((bytes_decides x first).0 parts.0) ∙ ap (λ w. first ∷ w ∷ []) ((bytes_decides y second).0 more.0)
pair_words first second (x ∷ y ∷ z ∷ words) e =
    absurd (true≢false (sym e ∙ and_right (is_text x first) (is_text y second && false) (and_right (is_text y second) false refl)))

version_says_nothing : (version line : List ℕ) → names_version version line ≡ true
    → (command_of_words (words_of line) ≡ None) × (type_of_words (words_of line) ≡ None)
version_says_nothing version line e =
    let words : words_of line ≡ codes "oilpan" ∷ version ∷ [] = pair_words (codes "oilpan") version (words_of line) e in
    (ap command_of_words words, ap type_of_words words)

header_says_nothing : (line : List ℕ) → is_header line ≡ true → (command_of_words (words_of line) ≡ None) × (type_of_words (words_of line) ≡ None)
header_says_nothing line e = elim (or_cases (names_version (codes "1") line) (names_version (codes "2") line) e) [
  | inl one ↦ version_says_nothing (codes "1") line one
  | inr two ↦ version_says_nothing (codes "2") line two
]

header_stands : (b : Bool) → cond b None (Some Header) ≡ None → b ≡ true
header_stands true e = refl
header_stands false e = absurd (none-some Header (sym e))

-- ---- the lines after the header

-- a line without words, or one whose words have no fault by themselves
abbrev IsFine : ℕ → ℕ → List (List ℕ) → List ℕ → Type 0
IsFine version callbacks before line = (is_blank line ≡ true) ⊎ AreFaultless version (bounds_after callbacks before) (words_of line)

abbrev AreFine : ℕ → ℕ → List (List ℕ) → Type 0
AreFine version callbacks lines = (i : ℕ) → i < length lines → IsFine version callbacks (take i lines) (get_or lines i [])

no_reason : (before words : List (List ℕ)) (last : Bool) (reason : Option Reason) → reason_by_order before words last reason ≡ None → reason ≡ None
no_reason before words last None e = refl
no_reason before words last (Some reason) e = absurd (none-some reason (sym e))

line_is_fine : (version callbacks : ℕ) (before : List (List ℕ)) (line : List ℕ) (last blank : Bool) → is_blank line ≡ blank
    → cond blank None (reason_by_order before (words_of line) last (reason_of_words version (bounds_after callbacks before) (words_of line))) ≡ None
    → IsFine version callbacks before line
line_is_fine version callbacks before line last true is e = inl is
line_is_fine version callbacks before line last false is e =
    inr (faultless version (bounds_after callbacks before) (words_of line) (no_reason before (words_of line) last _ e))

-- a line without words says nothing
blank_words : (words : List (List ℕ)) → (length words == 0) ≡ true → words ≡ []
blank_words [] e = refl
blank_words (word ∷ words) e = absurd (let n : length (word ∷ words) ≡ 0 = eqb-true _ _ e in omega (arith, n))

type_line_says : (version callbacks : ℕ) (before : List (List ℕ)) (line : List ℕ) → IsFine version callbacks before line → is_type line ≡ is_some (type_of_words (words_of line))
type_line_says version callbacks before line (inl blank) = rw (blank_words (words_of line) blank) refl
type_line_says version callbacks before line (inr f) = type_lines_say version (bounds_after callbacks before) (words_of line) f

command_is_allowed : (version callbacks types : ℕ) (before : List (List ℕ)) (line : List ℕ) (c : Command) → IsFine version callbacks before line
    → command_of_words (words_of line) ≡ Some c → count_by is_type before ≤ types → IsAllowed types c
command_is_allowed version callbacks types before line c (inl blank) e low =
    absurd (none-some c (sym (ap command_of_words (blank_words (words_of line) blank)) ∙ e))
command_is_allowed version callbacks types before line c (inr f) e low =
    command_allowed version (bounds_after callbacks before) types (words_of line) c low f e

type_is_fine : (version callbacks : ℕ) (before : List (List ℕ)) (line : List ℕ) (type : ObjectType) → IsFine version callbacks before line
    → type_of_words (words_of line) ≡ Some type → IsGoodType version callbacks type
type_is_fine version callbacks before line type (inl blank) e =
    absurd (none-some type (sym (ap type_of_words (blank_words (words_of line) blank)) ∙ e))
type_is_fine version callbacks before line type (inr f) e = type_is_good version (bounds_after callbacks before) (words_of line) type f e

room_before : (version callbacks : ℕ) (before : List (List ℕ)) (line : List ℕ) → IsFine version callbacks before line → is_type line ≡ true → count_by is_type before < 16383
room_before version callbacks before line (inl blank) e = absurd (true≢false (sym e ∙ ap (λ (ws : List (List ℕ)). first_is (codes "type") ws) (blank_words (words_of line) blank)))
room_before version callbacks before line (inr f) e = room_for_type version (bounds_after callbacks before) (words_of line) f e

few_types : (version callbacks : ℕ) (lines : List (List ℕ)) → AreFine version callbacks lines → (k : ℕ) → k ≤ length lines → count_by is_type (take k lines) ≤ 16383
few_types version callbacks lines fine zero low = omega arith
few_types version callbacks lines fine (suc k) low =
    let next : k + 1 ≡ suc k = omega arith in
    subst (λ (n : ℕ). count_by is_type (take n lines) ≤ 16383) next
    (one_line_on (is_type (get_or lines k [])) refl (few_types version callbacks lines fine k (omega arith))) where
      one_line_on : (is : Bool) → is_type (get_or lines k []) ≡ is → count_by is_type (take k lines) ≤ 16383 → count_by is_type (take (k + 1) lines) ≤ 16383
      one_line_on true is before =
          let room = room_before version callbacks (take k lines) (get_or lines k []) (fine k (omega arith)) is in
          omega (arith, room, count_by_more_yes is_type lines k [] (omega arith) is)
      one_line_on false is before = omega (arith, before, count_by_more_no is_type lines k [] (omega arith) is)

-- ---- a script

-- its types, its lines being the header and others
good_types : (version callbacks : ℕ) (header : List ℕ) (rest : List (List ℕ)) (script : Script) → is_header header ≡ true → AreFine version callbacks rest
    → script.types ≡ filter_map (λ line. type_of_words (words_of line)) (header ∷ rest) → All (IsGoodType version callbacks) script.types
good_types version callbacks header rest script head fine types =
    let types_are : script.types ≡ filter_map (λ line. type_of_words (words_of line)) rest = rw (header_says_nothing header head).1 at types in
    subst (All (IsGoodType version callbacks)) (sym types_are)
    (kept_all (IsGoodType version callbacks) (λ line. type_of_words (words_of line)) rest
    (λ i low type is. type_is_fine version callbacks (take i rest) (get_or rest i []) type (fine i low) is))

-- all that it says
said : (version callbacks : ℕ) (header : List ℕ) (rest : List (List ℕ)) (script : Script) → is_header header ≡ true → AreFine version callbacks rest → AreInSections false (filter_map (λ line. command_of_words (words_of line)) rest)
    → length (header ∷ rest) ≤ 1000000 → script.types ≡ filter_map (λ line. type_of_words (words_of line)) (header ∷ rest)
    → script.commands ≡ filter_map (λ line. command_of_words (words_of line)) (header ∷ rest) → IsInRanges callbacks script
said version callbacks header rest script head fine sections short types commands =
    let none = header_says_nothing header head in
    let types_are : script.types ≡ filter_map (λ line. type_of_words (words_of line)) rest = rw none.1 at types in
    let commands_are : script.commands ≡ filter_map (λ line. command_of_words (words_of line)) rest = rw none.0 at commands in
    let counted : length script.types ≡ count_by is_type rest =
    ap length types_are
    ∙ kept_count is_type (λ line. type_of_words (words_of line)) rest (λ i low. type_line_says version callbacks (take i rest) (get_or rest i []) (fine i low)) in
    let each : All (IsGoodType version callbacks) script.types = good_types version callbacks header rest script head fine types in
    let whole : count_by is_type (take (length rest) rest) ≡ count_by is_type rest = ap (λ (ls : List (List ℕ)). count_by is_type ls) (take_all (length rest) rest (omega arith)) in
    record {
      sorts = omega (arith, few_types version callbacks rest fine (length rest) (omega arith), whole, counted);
      narrow = λ i d low. (each i d low).narrow;
      modest = λ i d low. (each i d low).few;
      known = λ i d low. (each i d low).known;
      weak_modest = λ i d low. (each i d low).few_weak;
      weak_known = λ i d low. (each i d low).known_weak;
      shown = λ i d low. (each i d low).shown;
      allowed = subst (All (IsAllowed (length script.types))) (sym commands_are)
          (kept_all (IsAllowed (length script.types)) (λ line. command_of_words (words_of line)) rest
          (λ i low c is. command_is_allowed version callbacks (length script.types) (take i rest) (get_or rest i []) c (fine i low) is
          (omega (arith, counted, sum_by-take-le (λ line. cond (is_type line) 1 0) rest i))));
      few = omega (arith, short, ap length commands_are, kept_few (λ line. command_of_words (words_of line)) rest);
      sections = subst (AreInSections false) (sym commands_are) sections;
    }

-- the lines after the header
lines_are_fine : (callbacks : ℕ) (header : List ℕ) (rest : List (List ℕ))
    → ((i : ℕ) → i < length (header ∷ rest) → reason_at callbacks (header ∷ rest) i ≡ None) → AreFine (version_of header) callbacks rest
lines_are_fine callbacks header rest each i low =
    line_is_fine (version_of header) callbacks (take i rest) (get_or rest i []) (list_all is_blank (drop (suc i + 1) (header ∷ rest)))
    (is_blank (get_or rest i [])) refl (each (suc i) (omega arith))

by_lines : (callbacks : ℕ) (lines : List (List ℕ)) (script : Script) → reason_at callbacks lines 0 ≡ None
    → ((i : ℕ) → i < length lines → reason_at callbacks lines i ≡ None) → length lines ≤ 1000000
    → script.types ≡ filter_map (λ line. type_of_words (words_of line)) lines
    → script.commands ≡ filter_map (λ line. command_of_words (words_of line)) lines → IsInRanges callbacks script
by_lines callbacks [] script header each short types commands = absurd (none-some Header (sym header))
by_lines callbacks (line ∷ rest) script header each short types commands =
    said (version_of line) callbacks line rest script (header_stands (is_header line) header) (lines_are_fine callbacks line rest each)
    (lines_in_sections callbacks line rest each) short types commands

pub scripts_are_in_ranges : ScriptsAreInRanges
scripts_are_in_ranges callbacks bytes script is =
    by_lines callbacks (lines_of bytes) script is.header is.faultless short is.types is.commands where
      short : length (lines_of bytes) ≤ 1000000
      short = elim (cases_lt 1000000 (length (lines_of bytes))) [ inl over ↦ absurd (is.limits (inr over)) | inr few ↦ few ]

-- ---- version 1

first_version : (line : List ℕ) → names_version (codes "1") line ≡ true → version_of line ≡ 1
first_version line e =
    ap (λ ws. cond (pointwise is_text ws (codes "oilpan" ∷ codes "2" ∷ [])) 2 1) (pair_words (codes "oilpan") (codes "1") (words_of line) e)

none_weak : (callbacks : ℕ) (lines : List (List ℕ)) (script : Script) → reason_at callbacks lines 0 ≡ None
    → ((i : ℕ) → i < length lines → reason_at callbacks lines i ≡ None)
    → script.types ≡ filter_map (λ line. type_of_words (words_of line)) lines → names_version (codes "1") (get_or lines 0 []) ≡ true
    → All (λ type. type.weak_callbacks ≡ []) script.types
none_weak callbacks [] script header each types one = absurd (none-some Header (sym header))
none_weak callbacks (line ∷ rest) script header each types one = λ i d low.
    (good_types (version_of line) callbacks line rest script (header_stands (is_header line) header) (lines_are_fine callbacks line rest each) types i d low).none_before
    (first_version line one)

pub weak_callbacks_are_of_version_two : WeakCallbacksAreOfVersionTwo
weak_callbacks_are_of_version_two callbacks bytes script is one =
    none_weak callbacks (lines_of bytes) script is.header is.faultless is.types one
