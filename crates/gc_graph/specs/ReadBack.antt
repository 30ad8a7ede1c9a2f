-- Reading a report back into its lines. A search by the names and numbers of each line gives candidates, and nothing is
-- claimed of it: lines are read where the text is just theirs.
use Rattle.std.specs.Prelude.{◌≡◌, ℕ, ◌^◌, ◌<◌, ◌==◌, ◌&&◌, not, Bool, true, false, List, [], ◌∷◌, ◌++◌, filter, Option, Some, None, if◌then◌else◌, codes, All}
use Rattle.std.specs.List.{filter_map, flat_map}
use Rattle.gc_graph.specs.declared.line.Line.{Line}
use Rattle.gc_graph.specs.declared.line.Line.TheVariants as L
use Rattle.gc_graph.specs.declared.line.Refusal.TheVariants as R
use Rattle.gc_graph.specs.declared.region.Op.{Op}
use Rattle.gc_graph.specs.declared.region.Op.TheVariants as O
use Rattle.gc_graph.specs.declared.region.Reply.{Reply}
use Rattle.gc_graph.specs.declared.region.Reply.TheVariants as A
use Rattle.gc_graph.specs.Words.{lines_of, words_of, is_text, is_number, number_below}
use Rattle.gc_graph.specs.Report.{lines_bytes, type_lines, report_of}

-- ---- the words of a line are names and numbers

-- the words that are no numbers
abbrev pub names_in : List (List ℕ) → List (List ℕ)
names_in words = filter (λ word. not (is_number word)) words

-- the numbers among the words
abbrev pub numbers_in : List (List ℕ) → List ℕ
numbers_in words = filter_map (number_below (2 ^ 64)) words

-- the words are these texts, one by one
abbrev pub are_names : List (List ℕ) → List (List ℕ) → Bool
are_names [] [] = true
are_names (word ∷ words) (text ∷ texts) = is_text word text && are_names words texts
are_names [] (text ∷ texts) = false
are_names (word ∷ words) [] = false

-- ---- from numbers to what they say

-- the value, where there are no numbers
abbrev pub from_none : {T : Type 0} → T → List ℕ → Option T
from_none value [] = Some value
from_none value (n ∷ numbers) = None

-- what one number says, where there is one
abbrev pub from_one : {T : Type 0} → (ℕ → T) → List ℕ → Option T
from_one make (a ∷ []) = Some (make a)
from_one make numbers = None

-- what two numbers say, where there are two
abbrev pub from_two : {T : Type 0} → (ℕ → ℕ → T) → List ℕ → Option T
from_two make (a ∷ b ∷ []) = Some (make a b)
from_two make numbers = None

-- what three numbers say, where there are three
abbrev pub from_three : {T : Type 0} → (ℕ → ℕ → ℕ → T) → List ℕ → Option T
from_three make (a ∷ b ∷ c ∷ []) = Some (make a b c)
from_three make numbers = None

-- what five numbers say, where there are five
abbrev pub from_five : {T : Type 0} → (ℕ → ℕ → ℕ → ℕ → ℕ → T) → List ℕ → Option T
from_five make (a ∷ b ∷ c ∷ d ∷ e ∷ []) = Some (make a b c d e)
from_five make numbers = None

-- what six numbers say, where there are six
abbrev pub from_six : {T : Type 0} → (ℕ → ℕ → ℕ → ℕ → ℕ → ℕ → T) → List ℕ → Option T
from_six make (a ∷ b ∷ c ∷ d ∷ e ∷ f ∷ []) = Some (make a b c d e f)
from_six make numbers = None

-- ---- entries of the region's history

-- how an entry ends: with what was replied
abbrev pub reply_named : List ℕ → List ℕ → Option Reply
reply_named name numbers =
    if is_text name (codes "done") then from_none A.Done numbers
    else if is_text name (codes "null") then from_none A.Null numbers
    else if is_text name (codes "memory") then from_none A.NoMemory numbers
    else if is_text name (codes "node") then from_one (λ k. A.Node k) numbers
    else None

-- the line of an entry, where there is a reply
abbrev pub entry_with : ℕ → Op → Option Reply → Option Line
entry_with j op None = None
entry_with j op (Some reply) = Some (L.Entry (record { thread = j; op = op; reply = reply }))

-- the first number is the thread's, and those of the operation follow
abbrev pub entry_of_none : Op → List ℕ → List ℕ → Option Line
entry_of_none op name (j ∷ numbers) = entry_with j op (reply_named name numbers)
entry_of_none op name [] = None

-- the thread, and then one number of the operation
abbrev pub entry_of_one : (ℕ → Op) → List ℕ → List ℕ → Option Line
entry_of_one make name (j ∷ x ∷ numbers) = entry_with j (make x) (reply_named name numbers)
entry_of_one make name numbers = None

-- the thread, and then two numbers of the operation
abbrev pub entry_of_two : (ℕ → ℕ → Op) → List ℕ → List ℕ → Option Line
entry_of_two make name (j ∷ x ∷ y ∷ numbers) = entry_with j (make x y) (reply_named name numbers)
entry_of_two make name numbers = None

-- the operation by its name
abbrev pub entry_named : List ℕ → List ℕ → List ℕ → Option Line
entry_named op name numbers =
    if is_text op (codes "export") then entry_of_two (λ x k. O.Export x k) name numbers
    else if is_text op (codes "import") then entry_of_one (λ x. O.Import x) name numbers
    else if is_text op (codes "start") then entry_of_none O.Start name numbers
    else if is_text op (codes "pause") then entry_of_one (λ m. O.Pause m) name numbers
    else if is_text op (codes "copy") then entry_of_two (λ x y. O.Copy x y) name numbers
    else if is_text op (codes "clear") then entry_of_one (λ x. O.Clear x) name numbers
    else if is_text op (codes "weaken") then entry_of_one (λ x. O.Weaken x) name numbers
    else if is_text op (codes "upgrade") then entry_of_two (λ x y. O.Upgrade x y) name numbers
    else None

-- ---- lines, by how many names they have

-- a refusal by its name
abbrev pub refusal_named : List ℕ → List ℕ → Option Line
refusal_named name numbers =
    if is_text name (codes "phase") then from_none (L.Refused R.Phase) numbers
    else if is_text name (codes "null") then from_none (L.Refused R.Null) numbers
    else if is_text name (codes "field") then from_none (L.Refused R.Field) numbers
    else if is_text name (codes "kind") then from_none (L.Refused R.Kind) numbers
    else if is_text name (codes "stack") then from_none (L.Refused R.Stack) numbers
    else if is_text name (codes "empty") then from_none (L.Refused R.Empty) numbers
    else None

-- the lines that have one name
abbrev pub line_of_one : List ℕ → List ℕ → Option Line
line_of_one name numbers =
    if is_text name (codes "type") then from_one (λ t. L.TypeLine t) numbers
    else if is_text name (codes "full") then from_none L.Full numbers
    else if is_text name (codes "memory") then from_none L.Memory numbers
    else if is_text name (codes "ok") then from_none L.Fine numbers
    else if is_text name (codes "node") then from_one (λ k. L.Node k) numbers
    else if is_text name (codes "null") then from_none L.Null numbers
    else if is_text name (codes "word") then from_one (λ n. L.Word n) numbers
    else if is_text name (codes "started") then from_none L.Started numbers
    else if is_text name (codes "weakcall") then from_two (λ k d. L.WeakCall k d) numbers
    else if is_text name (codes "prefinalise") then from_two (λ k c. L.Prefinalise k c) numbers
    else if is_text name (codes "finalise") then from_one (λ k. L.Finalise k) numbers
    else if is_text name (codes "queued") then from_none L.Queued numbers
    else if is_text name (codes "going") then from_one (λ m. L.Going m) numbers
    else if is_text name (codes "joined") then from_one (λ m. L.Joined m) numbers
    else None

-- the first number is the thread's
abbrev pub reply_line : List ℕ → List ℕ → Option Line
reply_line name numbers =
    if is_text name (codes "done") then from_one (λ j. L.Reply j A.Done) numbers
    else if is_text name (codes "null") then from_one (λ j. L.Reply j A.Null) numbers
    else if is_text name (codes "memory") then from_one (λ j. L.Reply j A.NoMemory) numbers
    else if is_text name (codes "node") then from_two (λ j k. L.Reply j (A.Node k)) numbers
    else if is_text name (codes "totals") then from_five (λ j o n u f. L.ReplyTotals j o n u f) numbers
    else None

-- the lines that have two names
abbrev pub line_of_two : List ℕ → List ℕ → List ℕ → Option Line
line_of_two first second numbers =
    if is_text first (codes "refused") then refusal_named second numbers
    else if is_text first (codes "node") && is_text second (codes "at") then from_two (λ k a. L.Placed k a) numbers
    else if is_text first (codes "swept") && is_text second (codes "to") then from_one (λ c. L.Swept c) numbers
    else if is_text first (codes "reply") then reply_line second numbers
    else None

-- the lines that have three names
abbrev pub line_of_three : List ℕ → List ℕ → List ℕ → List ℕ → Option Line
line_of_three first second third numbers =
    if are_names (first ∷ second ∷ third ∷ []) (codes "step" ∷ codes "traced" ∷ codes "done" ∷ []) then from_one (λ t. L.Step t true) numbers
    else if are_names (first ∷ second ∷ third ∷ []) (codes "step" ∷ codes "traced" ∷ codes "more" ∷ []) then from_one (λ t. L.Step t false) numbers
    else if are_names (first ∷ second ∷ third ∷ []) (codes "objects" ∷ codes "used" ∷ codes "pages" ∷ []) then from_three (λ n u g. L.Objects n u g) numbers
    else if is_text first (codes "entry") then entry_named second third numbers
    else None

-- the lines that have four names or more
abbrev pub line_of_more : List (List ℕ) → List ℕ → Option Line
line_of_more names numbers =
    if are_names names (codes "end" ∷ codes "objects" ∷ codes "used" ∷ codes "pages" ∷ []) then from_three (λ n u g. L.End n u g) numbers
    else if are_names names (codes "pause" ∷ codes "kept" ∷ codes "dead" ∷ codes "crew" ∷ codes "traced" ∷ codes "walked" ∷ [])
    then from_five (λ kept dead crew traced walked. L.Pause kept dead crew traced (walked == 1)) numbers
    else if are_names names (codes "summary" ∷ codes "commands" ∷ codes "cycles" ∷ codes "objects" ∷ codes "used" ∷ codes "finalised" ∷ codes "full" ∷ [])
    then from_six (λ c y n u f full. L.Summary c y n u f full) numbers
    else None

-- the line that has these names and numbers
abbrev pub line_named : List (List ℕ) → List ℕ → Option Line
line_named [] numbers = None
line_named (first ∷ []) numbers = line_of_one first numbers
line_named (first ∷ second ∷ []) numbers = line_of_two first second numbers
line_named (first ∷ second ∷ third ∷ []) numbers = line_of_three first second third numbers
line_named (first ∷ second ∷ third ∷ fourth ∷ more) numbers = line_of_more (first ∷ second ∷ third ∷ fourth ∷ more) numbers

-- ---- whole texts

-- the only line that may have this text
abbrev pub candidate : List ℕ → Option Line
candidate text = line_named (names_in (words_of text)) (numbers_in (words_of text))

-- the first line before the others, where both were found
abbrev pub with_line : Option Line → Option (List Line) → Option (List Line)
with_line (Some first) (Some lines) = Some (first ∷ lines)
with_line None lines = None
with_line (Some first) None = None

-- a candidate for each text, where all have one
abbrev pub candidates : List (List ℕ) → Option (List Line)
candidates [] = Some []
candidates (text ∷ texts) = with_line (candidate text) (candidates texts)

-- the candidates are taken where the text is just theirs
abbrev pub if_its_text : List ℕ → Option (List Line) → Option (List Line)
if_its_text text None = None
if_its_text text (Some lines) = if is_text (lines_bytes lines) text then Some lines else None

-- the lines whose text this is, with the end of each
abbrev pub read_report : List ℕ → Option (List Line)
read_report text = if_its_text text (candidates (lines_of text))

-- ---- the numbers of a line

-- the numbers in a reply
abbrev pub numbers_of_reply : Reply → List ℕ
numbers_of_reply A.Done = []
numbers_of_reply (A.Node k) = k ∷ []
numbers_of_reply A.Null = []
numbers_of_reply A.NoMemory = []

-- the numbers in an operation
abbrev pub numbers_of_op : Op → List ℕ
numbers_of_op (O.Export x k) = x ∷ k ∷ []
numbers_of_op (O.Import x) = x ∷ []
numbers_of_op O.Start = []
numbers_of_op (O.Pause cleared) = cleared ∷ []
numbers_of_op (O.Copy x y) = x ∷ y ∷ []
numbers_of_op (O.Clear x) = x ∷ []
numbers_of_op (O.Weaken x) = x ∷ []
numbers_of_op (O.Upgrade x y) = x ∷ y ∷ []

-- the numbers in a line
abbrev pub numbers_of : Line → List ℕ
numbers_of (L.TypeLine t) = t ∷ []
numbers_of (L.Placed k a) = k ∷ a ∷ []
numbers_of L.Full = []
numbers_of L.Memory = []
numbers_of (L.Refused why) = []
numbers_of L.Fine = []
numbers_of (L.Node k) = k ∷ []
numbers_of L.Null = []
numbers_of (L.Word n) = n ∷ []
numbers_of L.Started = []
numbers_of (L.Step t done) = t ∷ []
numbers_of (L.Pause kept dead crew traced walked) = kept ∷ dead ∷ crew ∷ traced ∷ []
numbers_of (L.WeakCall k d) = k ∷ d ∷ []
numbers_of (L.Prefinalise k c) = k ∷ c ∷ []
numbers_of (L.Finalise k) = k ∷ []
numbers_of (L.Swept c) = c ∷ []
numbers_of (L.Objects n u g) = n ∷ u ∷ g ∷ []
numbers_of L.Queued = []
numbers_of (L.Going m) = m ∷ []
numbers_of (L.Reply j reply) = j ∷ numbers_of_reply reply
numbers_of (L.ReplyTotals j o n u f) = j ∷ o ∷ n ∷ u ∷ f ∷ []
numbers_of (L.Entry entry) = entry.thread ∷ numbers_of_op entry.op ++ numbers_of_reply entry.reply
numbers_of (L.Joined m) = m ∷ []
numbers_of (L.End n u g) = n ∷ u ∷ g ∷ []
numbers_of (L.Summary c y n u f full) = c ∷ y ∷ n ∷ u ∷ f ∷ full ∷ []

-- the numbers have 64 bits, as those of a program's lines do
abbrev pub IsOf64Bits : Line → Type 0
IsOf64Bits line = All (λ n. n < 2 ^ 64) (numbers_of line)

-- ---- the laws

-- a text is read into lines only where it is the text of these lines, with the end of each, and always where it is that
-- and their numbers have 64 bits
pub record ReadsAsText (text : List ℕ) (lines : List Line) : Type 0 where
  pub only : read_report text ≡ Some lines → text ≡ lines_bytes lines
  pub always : All IsOf64Bits lines → text ≡ lines_bytes lines → read_report text ≡ Some lines

-- so is each text
abbrev pub LinesReadBack : Type 0
LinesReadBack = (text : List ℕ) (lines : List Line) → ReadsAsText text lines

-- a report over any list of types is read back into the type lines, the lines of the outcomes in order, and the end line
abbrev pub ReportReadsBack : Type 0 → Type 0
ReportReadsBack T =
    (types : List T) (outcomes : List (List Line)) (end : Line) → All IsOf64Bits (type_lines 0 types)
    → All IsOf64Bits (flat_map (λ lines. lines) outcomes) → IsOf64Bits end
    → read_report (report_of types outcomes end) ≡ Some (type_lines 0 types ++ flat_map (λ lines. lines) outcomes ++ end ∷ [])
