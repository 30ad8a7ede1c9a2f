-- A report is read back into its lines.
use Rattle.std.proofs.Common.{◌≡◌, ℕ, ◌^◌, ◌<◌, ◌&&◌, Bool, true, false, List, [], ◌∷◌, ◌++◌, All, Some, refl, sym, ap, ◌∙◌, subst, arith, append_assoc, codes}
use Rattle.std.specs.Fmt.{decimal}
use Rattle.std.proofs.lemmas.Bool.{and_parts}
use Rattle.std.proofs.lemmas.List.Elements.{All-head, All-tail, All-nil, All-cons, All-append}
use Rattle.std.proofs.lemmas.Fmt.{decimal_digit}
use Rattle.gc_graph.specs.declared.line.Line.{Line}
use Rattle.gc_graph.specs.declared.line.Line.TheVariants as L
use Rattle.gc_graph.specs.declared.line.Refusal.{Refusal}
use Rattle.gc_graph.specs.declared.line.Refusal.TheVariants as R
use Rattle.gc_graph.specs.declared.region.Op.{Op}
use Rattle.gc_graph.specs.declared.region.Op.TheVariants as O
use Rattle.gc_graph.specs.declared.region.Reply.{Reply}
use Rattle.gc_graph.specs.declared.region.Reply.TheVariants as A
use Rattle.gc_graph.specs.Report.{line_text, op_text, reply_text, seen_text}
use Rattle.gc_graph.specs.ReadBack.{line_named, numbers_of_op, numbers_of_reply, IsOf64Bits}
use Rattle.gc_graph.proofs.LineParts.{Part, is_name, IsPart, joined, names_of, counts_of}
use Rattle.gc_graph.proofs.LineParts.Part.{Name, Count}

-- ---- the words of each line

abbrev parts_of_reply : Reply → List Part
parts_of_reply A.Done = Name (codes "done") ∷ []
parts_of_reply (A.Node k) = Name (codes "node") ∷ Count k ∷ []
parts_of_reply A.Null = Name (codes "null") ∷ []
parts_of_reply A.NoMemory = Name (codes "memory") ∷ []

-- an operation, and then a reply
abbrev parts_of_entry : Op → List Part → List Part
parts_of_entry (O.Export x k) reply = Name (codes "export") ∷ Count x ∷ Count k ∷ reply
parts_of_entry (O.Import x) reply = Name (codes "import") ∷ Count x ∷ reply
parts_of_entry O.Start reply = Name (codes "start") ∷ reply
parts_of_entry (O.Pause cleared) reply = Name (codes "pause") ∷ Count cleared ∷ reply
parts_of_entry (O.Copy x y) reply = Name (codes "copy") ∷ Count x ∷ Count y ∷ reply
parts_of_entry (O.Clear x) reply = Name (codes "clear") ∷ Count x ∷ reply
parts_of_entry (O.Weaken x) reply = Name (codes "weaken") ∷ Count x ∷ reply
parts_of_entry (O.Upgrade x y) reply = Name (codes "upgrade") ∷ Count x ∷ Count y ∷ reply

abbrev name_of_refusal : Refusal → Part
name_of_refusal R.Phase = Name (codes "phase")
name_of_refusal R.Null = Name (codes "null")
name_of_refusal R.Field = Name (codes "field")
name_of_refusal R.Kind = Name (codes "kind")
name_of_refusal R.Stack = Name (codes "stack")
name_of_refusal R.Empty = Name (codes "empty")

abbrev bit : Bool → ℕ
bit true = 1
bit false = 0

abbrev name_of_step : Bool → Part
name_of_step true = Name (codes "done")
name_of_step false = Name (codes "more")

abbrev pub first_part : Line → Part
first_part (L.TypeLine t) = Name (codes "type")
first_part (L.Placed k a) = Name (codes "node")
first_part L.Full = Name (codes "full")
first_part L.Memory = Name (codes "memory")
first_part (L.Refused why) = Name (codes "refused")
first_part L.Fine = Name (codes "ok")
first_part (L.Node k) = Name (codes "node")
first_part L.Null = Name (codes "null")
first_part (L.Word n) = Name (codes "word")
first_part L.Started = Name (codes "started")
first_part (L.Step t done) = Name (codes "step")
first_part (L.Pause kept dead crew traced walked) = Name (codes "pause")
first_part (L.WeakCall k d) = Name (codes "weakcall")
first_part (L.Prefinalise k c) = Name (codes "prefinalise")
first_part (L.Finalise k) = Name (codes "finalise")
first_part (L.Swept c) = Name (codes "swept")
first_part (L.Objects n u g) = Name (codes "objects")
first_part L.Queued = Name (codes "queued")
first_part (L.Going m) = Name (codes "going")
first_part (L.Reply j reply) = Name (codes "reply")
first_part (L.ReplyTotals j o n u f) = Name (codes "reply")
first_part (L.Entry entry) = Name (codes "entry")
first_part (L.Joined m) = Name (codes "joined")
first_part (L.End n u g) = Name (codes "end")
first_part (L.Summary c y n u f full) = Name (codes "summary")

abbrev pub rest_parts : Line → List Part
rest_parts (L.TypeLine t) = Count t ∷ []
rest_parts (L.Placed k a) = Count k ∷ Name (codes "at") ∷ Count a ∷ []
rest_parts L.Full = []
rest_parts L.Memory = []
rest_parts (L.Refused why) = name_of_refusal why ∷ []
rest_parts L.Fine = []
rest_parts (L.Node k) = Count k ∷ []
rest_parts L.Null = []
rest_parts (L.Word n) = Count n ∷ []
rest_parts L.Started = []
rest_parts (L.Step t done) = Name (codes "traced") ∷ Count t ∷ name_of_step done ∷ []
rest_parts (L.Pause kept dead crew traced walked) =
    Name (codes "kept") ∷ Count kept ∷ Name (codes "dead") ∷ Count dead ∷ Name (codes "crew") ∷ Count crew
    ∷ Name (codes "traced") ∷ Count traced ∷ Name (codes "walked") ∷ Count (bit walked) ∷ []
rest_parts (L.WeakCall k d) = Count k ∷ Count d ∷ []
rest_parts (L.Prefinalise k c) = Count k ∷ Count c ∷ []
rest_parts (L.Finalise k) = Count k ∷ []
rest_parts (L.Swept c) = Name (codes "to") ∷ Count c ∷ []
rest_parts (L.Objects n u g) = Count n ∷ Name (codes "used") ∷ Count u ∷ Name (codes "pages") ∷ Count g ∷ []
rest_parts L.Queued = []
rest_parts (L.Going m) = Count m ∷ []
rest_parts (L.Reply j reply) = Count j ∷ parts_of_reply reply
rest_parts (L.ReplyTotals j o n u f) = Count j ∷ Name (codes "totals") ∷ Count o ∷ Count n ∷ Count u ∷ Count f ∷ []
rest_parts (L.Entry entry) = Count entry.thread ∷ parts_of_entry entry.op (parts_of_reply entry.reply)
rest_parts (L.Joined m) = Count m ∷ []
rest_parts (L.End n u g) = Name (codes "objects") ∷ Count n ∷ Name (codes "used") ∷ Count u ∷ Name (codes "pages") ∷ Count g ∷ []
rest_parts (L.Summary c y n u f full) =
    Name (codes "commands") ∷ Count c ∷ Name (codes "cycles") ∷ Count y ∷ Name (codes "objects") ∷ Count n
    ∷ Name (codes "used") ∷ Count u ∷ Name (codes "finalised") ∷ Count f ∷ Name (codes "full") ∷ Count full ∷ []

abbrev pub parts_of : Line → List Part
parts_of line = first_part line ∷ rest_parts line

-- ---- their text

-- from the left to the right
right_four : (a b c d : List ℕ) → a ++ b ++ c ++ d ≡ a ++ (b ++ (c ++ d))
right_four a b c d = simp append_assoc

right_five : (a b c d e : List ℕ) → (a ++ b ++ c ++ d) ++ e ≡ a ++ (b ++ (c ++ (d ++ e)))
right_five a b c d e = simp append_assoc

right_six : (a b c d e f : List ℕ) → a ++ b ++ c ++ d ++ e ++ f ≡ a ++ (b ++ (c ++ (d ++ (e ++ f))))
right_six a b c d e f = simp append_assoc

right_seven : (a b c d e f g : List ℕ) → a ++ b ++ c ++ d ++ e ++ f ++ g ≡ a ++ (b ++ (c ++ (d ++ (e ++ (f ++ g)))))
right_seven a b c d e f g = simp append_assoc

op_before : (op : Op) (first : Part) (rest : List Part) → op_text op ++ (codes " " ++ joined (first ∷ rest)) ≡ joined (parts_of_entry op (first ∷ rest))
op_before (O.Export x k) first rest = right_five (codes "export ") (decimal x) (codes " ") (decimal k) (codes " " ++ joined (first ∷ rest))
op_before (O.Import x) first rest = append_assoc (codes "import ") (decimal x) (codes " " ++ joined (first ∷ rest))
op_before O.Start first rest = refl
op_before (O.Pause cleared) first rest = append_assoc (codes "pause ") (decimal cleared) (codes " " ++ joined (first ∷ rest))
op_before (O.Copy x y) first rest = right_five (codes "copy ") (decimal x) (codes " ") (decimal y) (codes " " ++ joined (first ∷ rest))
op_before (O.Clear x) first rest = append_assoc (codes "clear ") (decimal x) (codes " " ++ joined (first ∷ rest))
op_before (O.Weaken x) first rest = append_assoc (codes "weaken ") (decimal x) (codes " " ++ joined (first ∷ rest))
op_before (O.Upgrade x y) first rest = right_five (codes "upgrade ") (decimal x) (codes " ") (decimal y) (codes " " ++ joined (first ∷ rest))

entry_joined : (j : ℕ) (op : Op) (first : Part) (rest : List Part)
    → codes "entry " ++ (decimal j ++ (codes " " ++ joined (parts_of_entry op (first ∷ rest))))
    ≡ joined (Name (codes "entry") ∷ Count j ∷ parts_of_entry op (first ∷ rest))
entry_joined j (O.Export x k) first rest = refl
entry_joined j (O.Import x) first rest = refl
entry_joined j O.Start first rest = refl
entry_joined j (O.Pause cleared) first rest = refl
entry_joined j (O.Copy x y) first rest = refl
entry_joined j (O.Clear x) first rest = refl
entry_joined j (O.Weaken x) first rest = refl
entry_joined j (O.Upgrade x y) first rest = refl

entry_before : (j : ℕ) (op : Op) (first : Part) (rest : List Part)
    → codes "entry " ++ decimal j ++ codes " " ++ op_text op ++ codes " " ++ joined (first ∷ rest)
    ≡ joined (Name (codes "entry") ∷ Count j ∷ parts_of_entry op (first ∷ rest))
entry_before j op first rest =
    right_six (codes "entry ") (decimal j) (codes " ") (op_text op) (codes " ") (joined (first ∷ rest))
    ∙ ap (λ t. codes "entry " ++ (decimal j ++ (codes " " ++ t))) (op_before op first rest)
    ∙ entry_joined j op first rest

text_of_entry : (j : ℕ) (op : Op) (reply : Reply)
    → codes "entry " ++ decimal j ++ codes " " ++ op_text op ++ codes " " ++ reply_text reply
    ≡ joined (Name (codes "entry") ∷ Count j ∷ parts_of_entry op (parts_of_reply reply))
text_of_entry j op A.Done = entry_before j op (Name (codes "done")) []
text_of_entry j op (A.Node k) = entry_before j op (Name (codes "node")) (Count k ∷ [])
text_of_entry j op A.Null = entry_before j op (Name (codes "null")) []
text_of_entry j op A.NoMemory = entry_before j op (Name (codes "memory")) []

pub text_of : (line : Line) → line_text line ≡ joined (parts_of line)
text_of (L.TypeLine t) = refl
text_of (L.Placed k a) = simp append_assoc
text_of L.Full = refl
text_of L.Memory = refl
text_of (L.Refused R.Phase) = refl
text_of (L.Refused R.Null) = refl
text_of (L.Refused R.Field) = refl
text_of (L.Refused R.Kind) = refl
text_of (L.Refused R.Stack) = refl
text_of (L.Refused R.Empty) = refl
text_of L.Fine = refl
text_of (L.Node k) = refl
text_of L.Null = refl
text_of (L.Word n) = refl
text_of L.Started = refl
text_of (L.Step t true) = simp append_assoc
text_of (L.Step t false) = simp append_assoc
text_of (L.Pause kept dead crew traced true) = simp (append_assoc, decimal_digit 1 (omega arith))
text_of (L.Pause kept dead crew traced false) = simp (append_assoc, decimal_digit 0 (omega arith))
text_of (L.WeakCall k d) = simp append_assoc
text_of (L.Prefinalise k c) = simp append_assoc
text_of (L.Finalise k) = refl
text_of (L.Swept c) = refl
text_of (L.Objects n u g) = simp append_assoc
text_of L.Queued = refl
text_of (L.Going m) = refl
text_of (L.Reply j A.Done) = simp append_assoc
text_of (L.Reply j (A.Node k)) = simp append_assoc
text_of (L.Reply j A.Null) = simp append_assoc
text_of (L.Reply j A.NoMemory) = simp append_assoc
text_of (L.ReplyTotals j o n u f) =
    right_four (codes "reply ") (decimal j) (codes " totals ") (seen_text o n u f)
    ∙ ap (λ t. codes "reply " ++ (decimal j ++ (codes " totals " ++ t)))
    (right_seven (decimal o) (codes " ") (decimal n) (codes " ") (decimal u) (codes " ") (decimal f))
text_of (L.Entry entry) = text_of_entry entry.thread entry.op entry.reply
text_of (L.Joined m) = refl
text_of (L.End n u g) = simp append_assoc
text_of (L.Summary c y n u f full) = simp append_assoc

-- ---- what they are

abbrev names_ok : List Part → Bool
names_ok [] = true
names_ok (Name text ∷ parts) = is_name text && names_ok parts
names_ok (Count n ∷ parts) = names_ok parts

parts_from : (parts : List Part) → names_ok parts ≡ true → All (λ n. n < 2 ^ 64) (counts_of parts) → All IsPart parts
parts_from [] e h = All-nil IsPart
parts_from (Name text ∷ parts) e h =
    let both = and_parts (is_name text) (names_ok parts) e in
    All-cons IsPart (Name text) parts both.0 (parts_from parts both.1 h)
parts_from (Count n ∷ parts) e h =
    All-cons IsPart (Count n) parts (All-head (λ k. k < 2 ^ 64) n (counts_of parts) h) (parts_from parts e (All-tail (λ k. k < 2 ^ 64) n (counts_of parts) h))

reply_names : (reply : Reply) → names_ok (parts_of_reply reply) ≡ true
reply_names A.Done = refl
reply_names (A.Node k) = refl
reply_names A.Null = refl
reply_names A.NoMemory = refl

entry_names : (op : Op) (parts : List Part) → names_ok (parts_of_entry op parts) ≡ names_ok parts
entry_names (O.Export x k) parts = refl
entry_names (O.Import x) parts = refl
entry_names O.Start parts = refl
entry_names (O.Pause cleared) parts = refl
entry_names (O.Copy x y) parts = refl
entry_names (O.Clear x) parts = refl
entry_names (O.Weaken x) parts = refl
entry_names (O.Upgrade x y) parts = refl

refusal_names : (why : Refusal) → names_ok (name_of_refusal why ∷ []) ≡ true
refusal_names R.Phase = refl
refusal_names R.Null = refl
refusal_names R.Field = refl
refusal_names R.Kind = refl
refusal_names R.Stack = refl
refusal_names R.Empty = refl

all_names : (line : Line) → names_ok (parts_of line) ≡ true
all_names (L.TypeLine t) = refl
all_names (L.Placed k a) = refl
all_names L.Full = refl
all_names L.Memory = refl
all_names (L.Refused why) = refusal_names why
all_names L.Fine = refl
all_names (L.Node k) = refl
all_names L.Null = refl
all_names (L.Word n) = refl
all_names L.Started = refl
all_names (L.Step t true) = refl
all_names (L.Step t false) = refl
all_names (L.Pause kept dead crew traced walked) = refl
all_names (L.WeakCall k d) = refl
all_names (L.Prefinalise k c) = refl
all_names (L.Finalise k) = refl
all_names (L.Swept c) = refl
all_names (L.Objects n u g) = refl
all_names L.Queued = refl
all_names (L.Going m) = refl
all_names (L.Reply j reply) = reply_names reply
all_names (L.ReplyTotals j o n u f) = refl
all_names (L.Entry entry) = entry_names entry.op (parts_of_reply entry.reply) ∙ reply_names entry.reply
all_names (L.Joined m) = refl
all_names (L.End n u g) = refl
all_names (L.Summary c y n u f full) = refl

abbrev AreSmall : List ℕ → Type 0
AreSmall numbers = All (λ n. n < 2 ^ 64) numbers

reply_counts : (reply : Reply) → counts_of (parts_of_reply reply) ≡ numbers_of_reply reply
reply_counts A.Done = refl
reply_counts (A.Node k) = refl
reply_counts A.Null = refl
reply_counts A.NoMemory = refl

entry_counts : (op : Op) (reply : Reply) → counts_of (parts_of_entry op (parts_of_reply reply)) ≡ numbers_of_op op ++ numbers_of_reply reply
entry_counts (O.Export x k) reply = ap (λ ns. x ∷ k ∷ ns) (reply_counts reply)
entry_counts (O.Import x) reply = ap (λ ns. x ∷ ns) (reply_counts reply)
entry_counts O.Start reply = reply_counts reply
entry_counts (O.Pause cleared) reply = ap (λ ns. cleared ∷ ns) (reply_counts reply)
entry_counts (O.Copy x y) reply = ap (λ ns. x ∷ y ∷ ns) (reply_counts reply)
entry_counts (O.Clear x) reply = ap (λ ns. x ∷ ns) (reply_counts reply)
entry_counts (O.Weaken x) reply = ap (λ ns. x ∷ ns) (reply_counts reply)
entry_counts (O.Upgrade x y) reply = ap (λ ns. x ∷ y ∷ ns) (reply_counts reply)

bit_small : (b : Bool) → bit b < 2 ^ 64
bit_small true = omega arith
bit_small false = omega arith

step_counts : (t : ℕ) (done : Bool) → counts_of (parts_of (L.Step t done)) ≡ t ∷ []
step_counts t true = refl
step_counts t false = refl

refusal_counts : (why : Refusal) → counts_of (parts_of (L.Refused why)) ≡ []
refusal_counts R.Phase = refl
refusal_counts R.Null = refl
refusal_counts R.Field = refl
refusal_counts R.Kind = refl
refusal_counts R.Stack = refl
refusal_counts R.Empty = refl

all_counts : (line : Line) → IsOf64Bits line → AreSmall (counts_of (parts_of line))
all_counts (L.TypeLine t) h = h
all_counts (L.Placed k a) h = h
all_counts L.Full h = h
all_counts L.Memory h = h
all_counts (L.Refused why) h = subst AreSmall (sym (refusal_counts why)) h
all_counts L.Fine h = h
all_counts (L.Node k) h = h
all_counts L.Null h = h
all_counts (L.Word n) h = h
all_counts L.Started h = h
all_counts (L.Step t done) h = subst AreSmall (sym (step_counts t done)) h
all_counts (L.Pause kept dead crew traced walked) h =
    All-append (λ n. n < 2 ^ 64) (kept ∷ dead ∷ crew ∷ traced ∷ []) (bit walked ∷ []) h
    (All-cons (λ n. n < 2 ^ 64) (bit walked) [] (bit_small walked) (All-nil (λ n. n < 2 ^ 64)))
all_counts (L.WeakCall k d) h = h
all_counts (L.Prefinalise k c) h = h
all_counts (L.Finalise k) h = h
all_counts (L.Swept c) h = h
all_counts (L.Objects n u g) h = h
all_counts L.Queued h = h
all_counts (L.Going m) h = h
all_counts (L.Reply j reply) h = subst (λ ns. AreSmall (j ∷ ns)) (sym (reply_counts reply)) h
all_counts (L.ReplyTotals j o n u f) h = h
all_counts (L.Entry entry) h = subst (λ ns. AreSmall (entry.thread ∷ ns)) (sym (entry_counts entry.op entry.reply)) h
all_counts (L.Joined m) h = h
all_counts (L.End n u g) h = h
all_counts (L.Summary c y n u f full) h = h

pub are_parts : (line : Line) → IsOf64Bits line → All IsPart (parts_of line)
are_parts line h = parts_from (parts_of line) (all_names line) (all_counts line h)

-- ---- their names and numbers tell the line

entry_told : (j : ℕ) (op : Op) (reply : Reply)
    → line_named (names_of (Name (codes "entry") ∷ Count j ∷ parts_of_entry op (parts_of_reply reply)))
    (counts_of (Name (codes "entry") ∷ Count j ∷ parts_of_entry op (parts_of_reply reply)))
    ≡ Some (L.Entry (record { thread = j; op = op; reply = reply }))
entry_told j (O.Export x y) A.Done = refl
entry_told j (O.Export x y) (A.Node k) = refl
entry_told j (O.Export x y) A.Null = refl
entry_told j (O.Export x y) A.NoMemory = refl
entry_told j (O.Import x) A.Done = refl
entry_told j (O.Import x) (A.Node k) = refl
entry_told j (O.Import x) A.Null = refl
entry_told j (O.Import x) A.NoMemory = refl
entry_told j O.Start A.Done = refl
entry_told j O.Start (A.Node k) = refl
entry_told j O.Start A.Null = refl
entry_told j O.Start A.NoMemory = refl
entry_told j (O.Pause x) A.Done = refl
entry_told j (O.Pause x) (A.Node k) = refl
entry_told j (O.Pause x) A.Null = refl
entry_told j (O.Pause x) A.NoMemory = refl
entry_told j (O.Copy x y) A.Done = refl
entry_told j (O.Copy x y) (A.Node k) = refl
entry_told j (O.Copy x y) A.Null = refl
entry_told j (O.Copy x y) A.NoMemory = refl
entry_told j (O.Clear x) A.Done = refl
entry_told j (O.Clear x) (A.Node k) = refl
entry_told j (O.Clear x) A.Null = refl
entry_told j (O.Clear x) A.NoMemory = refl
entry_told j (O.Weaken x) A.Done = refl
entry_told j (O.Weaken x) (A.Node k) = refl
entry_told j (O.Weaken x) A.Null = refl
entry_told j (O.Weaken x) A.NoMemory = refl
entry_told j (O.Upgrade x y) A.Done = refl
entry_told j (O.Upgrade x y) (A.Node k) = refl
entry_told j (O.Upgrade x y) A.Null = refl
entry_told j (O.Upgrade x y) A.NoMemory = refl

reply_told : (j : ℕ) (reply : Reply)
    → line_named (names_of (parts_of (L.Reply j reply))) (counts_of (parts_of (L.Reply j reply))) ≡ Some (L.Reply j reply)
reply_told j A.Done = refl
reply_told j (A.Node k) = refl
reply_told j A.Null = refl
reply_told j A.NoMemory = refl

pub told : (line : Line) → line_named (names_of (parts_of line)) (counts_of (parts_of line)) ≡ Some line
told (L.TypeLine t) = refl
told (L.Placed k a) = refl
told L.Full = refl
told L.Memory = refl
told (L.Refused R.Phase) = refl
told (L.Refused R.Null) = refl
told (L.Refused R.Field) = refl
told (L.Refused R.Kind) = refl
told (L.Refused R.Stack) = refl
told (L.Refused R.Empty) = refl
told L.Fine = refl
told (L.Node k) = refl
told L.Null = refl
told (L.Word n) = refl
told L.Started = refl
told (L.Step t true) = refl
told (L.Step t false) = refl
told (L.Pause kept dead crew traced true) = refl
told (L.Pause kept dead crew traced false) = refl
told (L.WeakCall k d) = refl
told (L.Prefinalise k c) = refl
told (L.Finalise k) = refl
told (L.Swept c) = refl
told (L.Objects n u g) = refl
told L.Queued = refl
told (L.Going m) = refl
told (L.Reply j reply) = reply_told j reply
told (L.ReplyTotals j o n u f) = refl
told (L.Entry entry) = entry_told entry.thread entry.op entry.reply
told (L.Joined m) = refl
told (L.End n u g) = refl
told (L.Summary c y n u f full) = refl
