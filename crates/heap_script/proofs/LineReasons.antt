-- The reason of a line with words, from that of its words and from what the lines before say.
use Rattle.std.proofs.Common.{◌≡◌, ℕ, ◌&&◌, ◌||◌, Bool, true, false, not, cond, Option, Some, None, List, [], ◌∷◌, refl, sym, ap, ◌∙◌, inl, inr}
use Rattle.std.specs.Prelude.{codes, is_some}
use Rattle.std.proofs.lemmas.Bool.{true≢false, cond-true, cond-false, not_from_true, not_from_false, and_left}
use Rattle.gc_graph.specs.declared.command.Command.{Command}
use Rattle.gc_graph.specs.declared.command.Command.TheVariants as C
use Rattle.gc_graph.specs.Reasons.{Reason, Bounds, number_of, first_is, reason_by_form, reason_of_words, reason_of_command, command_of_words}
use Rattle.gc_graph.specs.Forms.{form_of, type_places}
use Rattle.gc_graph.specs.Forms.Form.{Known}
use Rattle.gc_graph.specs.Words.{is_text}
use Rattle.gc_graph.specs.Reasons.Reason.{Order, Section}
use Rattle.gc_graph.specs.Script.{Threads, is_go, is_join, are_waiting, are_going, threads_after, breaks_section}
use Rattle.gc_graph.specs.Script.Threads.{AtRest, Waiting, Going}
use Rattle.heap_script.specs.declared.past.Past.{Past}
use Rattle.heap_script.specs.declared.past.Stage.{Stage}
use Rattle.heap_script.specs.declared.past.Stage.TheVariants as S
use Rattle.heap_script.specs.Past.{threads_of_stage, stage_after, breaks, bounds_in, reason_with, reason_after, IsReasonOf}
use Rattle.heap_script.specs.TypeLines.{reason_of_type}
use Rattle.heap_script.proofs.Sections.{is_at, is_threads_go, is_threads_join, HasPlace, has_place}
use Rattle.heap_script.proofs.TypeReasons.{type_reason}

-- ---- type lines

pub type_faulty : (callbacks : ℕ) (past : Past) (more : List (List ℕ)) (reason : ℕ) → IsReasonOf (reason_of_type past.version (bounds_in callbacks past) more) reason
    → IsReasonOf (reason_after callbacks past (codes "type" ∷ more)) reason
type_faulty callbacks past more reason (inl none) = inl none
type_faulty callbacks past more reason (inr (why, number, e)) =
    inr (why, number, ap (reason_with past (codes "type" ∷ more)) (type_reason past.version (bounds_in callbacks past) more ∙ e))

-- an order that is wrong in a type line
with_order : (callbacks : ℕ) (past : Past) (more : List (List ℕ)) → reason_of_type past.version (bounds_in callbacks past) more ≡ None
    → reason_after callbacks past (codes "type" ∷ more) ≡ cond (not past.bare) (Some Order) None
with_order callbacks past more fine = ap (reason_with past (codes "type" ∷ more)) (type_reason past.version (bounds_in callbacks past) more ∙ fine)

pub type_late : (callbacks : ℕ) (past : Past) (more : List (List ℕ)) → reason_of_type past.version (bounds_in callbacks past) more ≡ None
    → past.bare ≡ false → IsReasonOf (reason_after callbacks past (codes "type" ∷ more)) 6
type_late callbacks past more fine late =
    inr (Order, refl, with_order callbacks past more fine ∙ cond-true (not past.bare) (Some Order) None (not_from_false past.bare late))

pub type_fine : (callbacks : ℕ) (past : Past) (more : List (List ℕ)) → reason_of_type past.version (bounds_in callbacks past) more ≡ None
    → past.bare ≡ true → reason_after callbacks past (codes "type" ∷ more) ≡ None
type_fine callbacks past more fine bare =
    with_order callbacks past more fine ∙ cond-false (not past.bare) (Some Order) None (not_from_true past.bare bare)

-- ---- commands

-- the words of a command have their reason in every version
in_version : (version : ℕ) (bounds : Bounds) (words : List (List ℕ)) → first_is (codes "type") words ≡ false
    → reason_of_words version bounds words ≡ reason_of_command bounds words
in_version version bounds [] plain = refl
in_version version bounds (first ∷ rest) plain =
    ap (λ form. reason_by_form bounds form (first ∷ rest))
    (cond-false (is_text first (codes "type")) (Known (type_places version rest) (λ numbers. None)) (form_of (first ∷ rest)) plain)

abbrev section_by : Bool → Bool → Bool → Stage → Bool
section_by order go join stage =
    (order && are_going (threads_of_stage stage))
    || ((go && not (are_waiting (threads_of_stage stage))) || ((join && not (are_going (threads_of_stage stage))) || false))

breaks_by : (stage : Stage) (command : Command) → section_by (is_at command) (is_threads_go command) (is_threads_join command) stage ≡ breaks stage command
breaks_by S.AtRest (C.At j order) = refl
breaks_by S.Waiting (C.At j order) = refl
breaks_by S.Going (C.At j order) = refl
breaks_by S.AtRest C.ThreadsGo = refl
breaks_by S.Waiting C.ThreadsGo = refl
breaks_by S.Going C.ThreadsGo = refl
breaks_by S.AtRest C.ThreadsJoin = refl
breaks_by S.Waiting C.ThreadsJoin = refl
breaks_by S.Going C.ThreadsJoin = refl
breaks_by stage command = refl

breaks_is : (stage : Stage) (words : List (List ℕ)) (command : Command) → HasPlace words command
    → breaks_section (threads_of_stage stage) words false ≡ breaks stage command
breaks_is stage words command place =
    ap (λ b. section_by b (is_go words) (is_join words) stage) place.order
    ∙ ap (λ b. section_by (is_at command) b (is_join words) stage) place.go
    ∙ ap (λ b. section_by (is_at command) (is_threads_go command) b stage) place.join
    ∙ breaks_by stage command

abbrev threads_by : Bool → Bool → Bool → Threads → Threads
threads_by order go join threads = cond order Waiting (cond go Going (cond join AtRest threads))

threads_with : (stage : Stage) (command : Command)
    → threads_by (is_at command) (is_threads_go command) (is_threads_join command) (threads_of_stage stage) ≡ threads_of_stage (stage_after stage command)
threads_with stage (C.At j order) = refl
threads_with stage C.ThreadsGo = refl
threads_with stage C.ThreadsJoin = refl
threads_with stage command = refl

threads_is : (stage : Stage) (words : List (List ℕ)) (command : Command) → HasPlace words command
    → threads_after (threads_of_stage stage) words ≡ threads_of_stage (stage_after stage command)
threads_is stage words command place =
    ap (λ b. threads_by b (is_go words) (is_join words) (threads_of_stage stage)) place.order
    ∙ ap (λ b. threads_by (is_at command) b (is_join words) (threads_of_stage stage)) place.go
    ∙ ap (λ b. threads_by (is_at command) (is_threads_go command) b (threads_of_stage stage)) place.join
    ∙ threads_with stage command

-- the reason of a command whose words have none
with_section : (callbacks : ℕ) (past : Past) (words : List (List ℕ)) (command : Command) → command_of_words words ≡ Some command
    → reason_of_command (bounds_in callbacks past) words ≡ None → first_is (codes "type") words ≡ false
    → reason_after callbacks past words ≡ cond (breaks past.stage command) (Some Section) None
with_section callbacks past words command says fine plain =
    ap (reason_with past words) (in_version past.version (bounds_in callbacks past) words plain ∙ fine)
    ∙ cond-false (first_is (codes "type") words && not past.bare) (Some Order) (cond (breaks_section (threads_of_stage past.stage) words false) (Some Section) None)
    (and_left (first_is (codes "type") words) (not past.bare) plain)
    ∙ ap (λ b. cond b (Some Section) None) (breaks_is past.stage words command (has_place (bounds_in callbacks past) words command plain fine says))

pub command_late : (callbacks : ℕ) (past : Past) (words : List (List ℕ)) (command : Command) → command_of_words words ≡ Some command
    → reason_of_command (bounds_in callbacks past) words ≡ None → first_is (codes "type") words ≡ false
    → breaks past.stage command ≡ true → IsReasonOf (reason_after callbacks past words) 7
command_late callbacks past words command says fine plain late =
    inr (Section, refl, with_section callbacks past words command says fine plain ∙ cond-true (breaks past.stage command) (Some Section) None late)

pub command_fine : (callbacks : ℕ) (past : Past) (words : List (List ℕ)) (command : Command) → command_of_words words ≡ Some command
    → reason_of_command (bounds_in callbacks past) words ≡ None → first_is (codes "type") words ≡ false
    → breaks past.stage command ≡ false → reason_after callbacks past words ≡ None
command_fine callbacks past words command says fine plain timely =
    with_section callbacks past words command says fine plain ∙ cond-false (breaks past.stage command) (Some Section) None timely

pub words_faulty : (callbacks : ℕ) (past : Past) (words : List (List ℕ)) (reason : ℕ) → first_is (codes "type") words ≡ false
    → (why : Reason) × (reason ≡ number_of why) × (reason_of_command (bounds_in callbacks past) words ≡ Some why)
    → IsReasonOf (reason_after callbacks past words) reason
words_faulty callbacks past words reason plain (why, number, e) =
    inr (why, number, ap (reason_with past words) (in_version past.version (bounds_in callbacks past) words plain ∙ e))

-- a line without a reason has words without one
own_fine : (past : Past) (words : List (List ℕ)) (own : Option Reason) → reason_with past words own ≡ None → own ≡ None
own_fine past words (Some own) e = absurd (true≢false (ap is_some e))
own_fine past words None e = refl

pub threads_after_line : (callbacks : ℕ) (past : Past) (words : List (List ℕ)) (command : Command) → command_of_words words ≡ Some command
    → first_is (codes "type") words ≡ false → reason_after callbacks past words ≡ None
    → threads_after (threads_of_stage past.stage) words ≡ threads_of_stage (stage_after past.stage command)
threads_after_line callbacks past words command says plain fine =
    threads_is past.stage words command (has_place (bounds_in callbacks past) words command plain
    (sym (in_version past.version (bounds_in callbacks past) words plain)
    ∙ own_fine past words (reason_of_words past.version (bounds_in callbacks past) words) fine) says)
