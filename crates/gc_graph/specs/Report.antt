-- The text of a report.
use Rattle.std.specs.Prelude.{ℕ, ◌+◌, Bool, true, false, List, [], ◌∷◌, ◌++◌, codes, decimal}
use Rattle.std.specs.List.{flat_map}
use Rattle.gc_graph.specs.declared.line.Line.{Line}
use Rattle.gc_graph.specs.declared.line.Line.TheVariants as L
use Rattle.gc_graph.specs.declared.line.Refusal.{Refusal}
use Rattle.gc_graph.specs.declared.line.Refusal.TheVariants as R
use Rattle.gc_graph.specs.declared.region.Entry.{Entry}
use Rattle.gc_graph.specs.declared.region.Op.{Op}
use Rattle.gc_graph.specs.declared.region.Op.TheVariants as O
use Rattle.gc_graph.specs.declared.region.Reply.{Reply}
use Rattle.gc_graph.specs.declared.region.Reply.TheVariants as A

-- a line ends with the byte 10
abbrev pub newline : List ℕ
newline = 10 ∷ []

-- ---- the words that a line may end with

-- why a command was refused
abbrev pub refusal_text : Refusal → List ℕ
refusal_text R.Phase = codes "phase"
refusal_text R.Null = codes "null"
refusal_text R.Field = codes "field"
refusal_text R.Kind = codes "kind"
refusal_text R.Stack = codes "stack"
refusal_text R.Empty = codes "empty"

-- 1 for yes, 0 for no
abbrev pub digit_of : Bool → List ℕ
digit_of true = codes "1"
digit_of false = codes "0"

-- whether a step found nothing more to trace
abbrev pub done_text : Bool → List ℕ
done_text true = codes "done"
done_text false = codes "more"

-- how many objects are there, how many words they use, and on how many pages
abbrev pub totals_text : ℕ → ℕ → ℕ → List ℕ
totals_text n u g = codes "objects " ++ decimal n ++ codes " used " ++ decimal u ++ codes " pages " ++ decimal g

-- ---- the region

-- what a call on the region answered
abbrev pub reply_text : Reply → List ℕ
reply_text A.Done = codes "done"
reply_text (A.Node k) = codes "node " ++ decimal k
reply_text A.Null = codes "null"
reply_text A.NoMemory = codes "memory"

-- what was done to the region's slots
abbrev pub op_text : Op → List ℕ
op_text (O.Export x k) = codes "export " ++ decimal x ++ codes " " ++ decimal k
op_text (O.Import x) = codes "import " ++ decimal x
op_text O.Start = codes "start"
op_text (O.Pause cleared) = codes "pause " ++ decimal cleared
op_text (O.Copy x y) = codes "copy " ++ decimal x ++ codes " " ++ decimal y
op_text (O.Clear x) = codes "clear " ++ decimal x
op_text (O.Weaken x) = codes "weaken " ++ decimal x
op_text (O.Upgrade x y) = codes "upgrade " ++ decimal x ++ codes " " ++ decimal y

-- an entry of the region's history
abbrev pub entry_text : Entry → List ℕ
entry_text entry = codes "entry " ++ decimal entry.thread ++ codes " " ++ op_text entry.op ++ codes " " ++ reply_text entry.reply

-- the totals that a thread has seen: ordinal, objects, used words and finalisations
abbrev pub seen_text : ℕ → ℕ → ℕ → ℕ → List ℕ
seen_text o n u f = decimal o ++ codes " " ++ decimal n ++ codes " " ++ decimal u ++ codes " " ++ decimal f

-- ---- lines

-- what a pause found
abbrev pub pause_text : ℕ → ℕ → ℕ → ℕ → Bool → List ℕ
pause_text kept dead crew traced walked =
    codes "pause kept " ++ decimal kept ++ codes " dead " ++ decimal dead ++ codes " crew " ++ decimal crew
    ++ codes " traced " ++ decimal traced ++ codes " walked " ++ digit_of walked

-- a whole run in one line
abbrev pub summary_text : ℕ → ℕ → ℕ → ℕ → ℕ → ℕ → List ℕ
summary_text c y n u f full =
    codes "summary commands " ++ decimal c ++ codes " cycles " ++ decimal y ++ codes " objects " ++ decimal n
    ++ codes " used " ++ decimal u ++ codes " finalised " ++ decimal f ++ codes " full " ++ decimal full

-- the text of a line, without its end
abbrev pub line_text : Line → List ℕ
line_text (L.TypeLine t) = codes "type " ++ decimal t
line_text (L.Placed k a) = codes "node " ++ decimal k ++ codes " at " ++ decimal a
line_text L.Full = codes "full"
line_text L.Memory = codes "memory"
line_text (L.Refused why) = codes "refused " ++ refusal_text why
line_text L.Fine = codes "ok"
line_text (L.Node k) = codes "node " ++ decimal k
line_text L.Null = codes "null"
line_text (L.Word n) = codes "word " ++ decimal n
line_text L.Started = codes "started"
line_text (L.Step t done) = codes "step traced " ++ decimal t ++ codes " " ++ done_text done
line_text (L.Pause kept dead crew traced walked) = pause_text kept dead crew traced walked
line_text (L.WeakCall k d) = codes "weakcall " ++ decimal k ++ codes " " ++ decimal d
line_text (L.Prefinalise k c) = codes "prefinalise " ++ decimal k ++ codes " " ++ decimal c
line_text (L.Finalise k) = codes "finalise " ++ decimal k
line_text (L.Swept c) = codes "swept to " ++ decimal c
line_text (L.Objects n u g) = totals_text n u g
line_text L.Queued = codes "queued"
line_text (L.Going m) = codes "going " ++ decimal m
line_text (L.Reply j reply) = codes "reply " ++ decimal j ++ codes " " ++ reply_text reply
line_text (L.ReplyTotals j o n u f) = codes "reply " ++ decimal j ++ codes " totals " ++ seen_text o n u f
line_text (L.Entry entry) = entry_text entry
line_text (L.Joined m) = codes "joined " ++ decimal m
line_text (L.End n u g) = codes "end " ++ totals_text n u g
line_text (L.Summary c y n u f full) = summary_text c y n u f full

-- the text of a line, with its end
abbrev pub line_bytes : Line → List ℕ
line_bytes line = line_text line ++ newline

-- the text of lines, one after the other
abbrev pub lines_bytes : List Line → List ℕ
lines_bytes lines = flat_map line_bytes lines

-- the text of outcomes, in their order
abbrev pub outcomes_bytes : List (List Line) → List ℕ
outcomes_bytes outcomes = flat_map lines_bytes outcomes

-- a line for each type line of the script
abbrev pub type_lines : {T : Type 0} → ℕ → List T → List Line
type_lines t [] = []
type_lines t (type ∷ types) = L.TypeLine t ∷ type_lines (t + 1) types

-- the report of a run: the type lines, the outcomes in order, and the end line
abbrev pub report_of : {T : Type 0} → List T → List (List Line) → Line → List ℕ
report_of types outcomes end = lines_bytes (type_lines 0 types) ++ outcomes_bytes outcomes ++ line_bytes end
