-- The grammar of a script: its lines in their order, what they say, and which line is the first faulty one.
use Rattle.std.specs.Prelude.{◌≡◌, ◌⊎◌, ℕ, ◌+◌, ◌<◌, ◌&&◌, ◌||◌, not, Bool, true, false, List, [], ◌∷◌, length, take, drop, fold, count_by, Option, Some, None, if◌then◌else◌, codes, slice_index_or}
use Rattle.std.specs.List.{list_all, list_any, filter_map}
use Rattle.std.specs.Cmp.Lexicographic.{pointwise}
use Rattle.gc_graph.specs.declared.command.Command.{Command}
use Rattle.gc_graph.specs.State.{ObjectType}
use Rattle.gc_graph.specs.Words.{lines_of, words_of, is_text, is_blank}
use Rattle.gc_graph.specs.Reasons.{Reason, number_of, Bounds, first_is, rest_of, reason_of_words, command_of_words, type_of_words}
use Rattle.gc_graph.specs.Reasons.Reason.{Header, Order, Section, TooLong}

-- ---- limits

-- over 16,777,216 bytes or over 1,000,000 lines
abbrev pub IsTooLong : List ℕ → Type 0
IsTooLong bytes = (16777216 < length bytes) ⊎ (1000000 < length (lines_of bytes))

-- neither too many bytes nor too many lines
abbrev pub IsInLimits : List ℕ → Type 0
IsInLimits bytes = IsTooLong bytes → ⊥

-- ---- kinds of lines

-- the words of a line are `oilpan` and the name of a version
abbrev pub names_version : List ℕ → List ℕ → Bool
names_version version line = pointwise is_text (words_of line) (codes "oilpan" ∷ version ∷ [])

-- the first line names version 1 or version 2
abbrev pub is_header : List ℕ → Bool
is_header line = names_version (codes "1") line || names_version (codes "2") line

-- the version that the first line names
abbrev pub version_of : List ℕ → ℕ
version_of header = if names_version (codes "2") header then 2 else 1

-- a type line
abbrev pub is_type : List ℕ → Bool
is_type line = first_is (codes "type") (words_of line)

-- a line with words that isn't of a type
abbrev pub is_command : List ℕ → Bool
is_command line = not (is_blank line) && not (is_type line)

-- a line that gives a thread an order
abbrev pub is_order : List (List ℕ) → Bool
is_order words = first_is (codes "at") words

-- a line that tells the threads to go
abbrev pub is_go : List (List ℕ) → Bool
is_go words = first_is (codes "threads") words && first_is (codes "go") (rest_of words)

-- a line that joins the threads
abbrev pub is_join : List (List ℕ) → Bool
is_join words = first_is (codes "threads") words && first_is (codes "join") (rest_of words)

-- ---- sections

-- of the threads of the script: no order waits and none runs, orders wait, or they run
pub data Threads : Type 0 where
  AtRest : Threads
  Waiting : Threads
  Going : Threads

-- no order waits and no thread runs
abbrev pub are_at_rest : Threads → Bool
are_at_rest AtRest = true
are_at_rest Waiting = false
are_at_rest Going = false

-- orders wait
abbrev pub are_waiting : Threads → Bool
are_waiting AtRest = false
are_waiting Waiting = true
are_waiting Going = false

-- the threads run
abbrev pub are_going : Threads → Bool
are_going AtRest = false
are_going Waiting = false
are_going Going = true

-- the threads after a line with these words
abbrev pub threads_after : Threads → List (List ℕ) → Threads
threads_after threads words =
    if is_order words then Waiting
    else if is_go words then Going
    else if is_join words then AtRest
    else threads

-- the threads after these lines
abbrev pub threads_of : List (List ℕ) → Threads
threads_of lines = fold (λ threads line. threads_after threads (words_of line)) AtRest lines

-- an order while they run; `threads go` where no order waits; `threads join` where none run; and the last line with words,
-- where the threads aren't at rest after it
abbrev pub breaks_section : Threads → List (List ℕ) → Bool → Bool
breaks_section threads words last =
    (is_order words && are_going threads)
    || ((is_go words && not (are_waiting threads))
    || ((is_join words && not (are_going threads))
    || (last && not (are_at_rest (threads_after threads words)))))

-- ---- the reason of a line

-- the lowest reason of a line after the header, from the lines before, its words, and whether it is the last with words
abbrev pub reason_by_order : List (List ℕ) → List (List ℕ) → Bool → Option Reason → Option Reason
reason_by_order before words last (Some reason) = Some reason
reason_by_order before words last None =
    if first_is (codes "type") words && list_any is_command before then Some Order
    else if breaks_section (threads_of before) words last then Some Section
    else None

-- how many types and callbacks a line may name, after these lines
abbrev pub bounds_after : ℕ → List (List ℕ) → Bounds
bounds_after callbacks before = record { types = count_by is_type before; callbacks = callbacks }

-- the lowest reason that a line has, from the lines before it and after it
abbrev pub reason_of : ℕ → List (List ℕ) → List ℕ → List (List ℕ) → Option Reason
reason_of callbacks [] line after = if is_header line then None else Some Header
reason_of callbacks (header ∷ before) line after =
    if is_blank line then None
    else reason_by_order before (words_of line) (list_all is_blank after)
    (reason_of_words (version_of header) (bounds_after callbacks before) (words_of line))

-- line i + 1; a missing first line counts as one
abbrev pub reason_at : ℕ → List (List ℕ) → ℕ → Option Reason
reason_at callbacks lines i = reason_of callbacks (take i lines) (slice_index_or lines i []) (drop (i + 1) lines)

-- ---- scripts

-- what a script says
pub record Script : Type 0 where
  pub types : List ObjectType
  pub commands : List Command

-- the bytes are a script that can use so many callbacks, and it says this
pub record IsScript (callbacks : ℕ) (bytes : List ℕ) (script : Script) : Type 0 where
  pub limits : IsInLimits bytes
  pub header : reason_at callbacks (lines_of bytes) 0 ≡ None
  pub faultless : (i : ℕ) → i < length (lines_of bytes) → reason_at callbacks (lines_of bytes) i ≡ None
  pub types : script.types ≡ filter_map (λ line. type_of_words (words_of line)) (lines_of bytes)
  pub commands : script.commands ≡ filter_map (λ line. command_of_words (words_of line)) (lines_of bytes)

-- line i + 1 is the first that has a reason, and this is the lowest that it has
pub record IsFirstFault (callbacks : ℕ) (bytes : List ℕ) (i : ℕ) (reason : Reason) : Type 0 where
  pub faulty : reason_at callbacks (lines_of bytes) i ≡ Some reason
  pub before : (j : ℕ) → j < i → reason_at callbacks (lines_of bytes) j ≡ None

-- the line and the number of the reason why the bytes are no script; over the limits it is line 0 and reason 8
abbrev pub IsFault : ℕ → List ℕ → ℕ → ℕ → Type 0
IsFault callbacks bytes line reason =
    (IsTooLong bytes × (line ≡ 0) × (reason ≡ number_of TooLong))
    ⊎ (IsInLimits bytes
    × ((i : ℕ) × (why : Reason) × (line ≡ i + 1) × (reason ≡ number_of why) × IsFirstFault callbacks bytes i why))
