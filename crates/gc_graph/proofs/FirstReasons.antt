-- When each command is refused: for the first reason that it has.
use Rattle.std.proofs.Common.{◌≡◌, ◌≢◌, ℕ, zero, suc, ◌+◌, ◌<◌, ◌≤◌, nat_lt, Bool, true, false, true≢false, List, [], ◌∷◌, ◌++◌, length, Option, Some, None, refl, sym, ap, ◌∙◌, subst, inl, inr, arith}
use Rattle.std.specs.List.{slice_get}
use Rattle.std.proofs.lemmas.Bool.{lt-ltb, ltb-true, ltb-false}
use Rattle.std.proofs.lemmas.Option.{slice_get_within}
use Rattle.gc_graph.specs.declared.command.Command.{Command}
use Rattle.gc_graph.specs.declared.command.Command.TheVariants as C
use Rattle.gc_graph.specs.declared.command.Want.{Want}
use Rattle.gc_graph.specs.declared.command.Want.TheVariants.{Precise, Conservative}
use Rattle.gc_graph.specs.declared.kind.Value.{Value}
use Rattle.gc_graph.specs.declared.kind.Value.TheVariants.{Null, Ref, Word}
use Rattle.gc_graph.specs.declared.line.Line.{Line}
use Rattle.gc_graph.specs.declared.line.Line.TheVariants as L
use Rattle.gc_graph.specs.declared.line.Refusal.{Refusal}
use Rattle.gc_graph.specs.declared.line.Refusal.TheVariants as R
use Rattle.gc_graph.specs.declared.phase.Phase.{Phase}
use Rattle.gc_graph.specs.declared.phase.Phase.TheVariants.{Idle, Marking, Sweeping}
use Rattle.gc_graph.specs.declared.region.Entry.{Entry}
use Rattle.gc_graph.specs.State.{Setup, State, StackWord, node_at, size_of}
use Rattle.gc_graph.specs.State.StackWord.{Pointer, Number}
use Rattle.gc_graph.specs.Fields.{kind_of_field, value_at, content_of, is_reference, is_weak, is_pair, is_plain}
use Rattle.gc_graph.specs.History.{node_of, region_slot}
use Rattle.gc_graph.specs.Outcomes.{finalise_lines, took, slot_at, weak_slot_at}
use Rattle.gc_graph.specs.ObjectSteps.{first_word, StepNew, IsNumber, IsRead}
use Rattle.gc_graph.specs.HandleSteps.{IsPeeked, StepPush, StepPushPlain, StepPop, StepPeek}
use Rattle.gc_graph.specs.CycleSteps.{is_marking, is_sweeping, is_stack_refused, StepGcStart, StepGcStep, StepGcFinish, StepGcNow, HasSwept, StepSweepTo}
use Rattle.gc_graph.specs.RegionSteps.{line_of_content, StepExport}
use Rattle.gc_graph.specs.Step.{Step}
use Rattle.gc_graph.specs.RefusalsExactLaw.{RefusedForTheFirstReason}
use Rattle.gc_graph.specs.Commands.{IsOutOfPhase, SpeaksOf, PeeksNumber, IsStopped, LacksWord, HasReason}
use Rattle.gc_graph.proofs.StepCases.{match_option}
use Rattle.gc_graph.proofs.ValidCases.{bool_is}
use Rattle.gc_graph.proofs.Verdicts.{either_way, other_line, after_lines, Verdict, exactly, first_of_all, done}
use Rattle.gc_graph.proofs.RefusalsExact.{field_verdict, set_asks, set_null_asks, get_asks, pair_asks, pair_null_asks, key_asks, val_asks, put_asks, word_asks}

-- ---- lines of reads

read_told : (weak : Bool) (old new : State) (value : Value) (q : ℕ) (lines : List Line) → IsRead weak old value q lines new → (why : Refusal)
    → lines ≡ L.Refused why ∷ [] → ⊥
read_told weak old new Null q lines h = other_line lines L.Null refl h.0
read_told weak old new (Ref n) q lines h = other_line lines (L.Node n) refl h.0
read_told weak old new (Word w) q lines h = absurd h

number_told : (old new : State) (value : Value) (lines : List Line) → IsNumber old value lines new → (why : Refusal) → lines ≡ L.Refused why ∷ [] → ⊥
number_told old new Null lines h = absurd h
number_told old new (Ref n) lines h = absurd h
number_told old new (Word w) lines h = other_line lines (L.Word w) refl h.0

content_told : (content : Option ℕ) (lines : List Line) → lines ≡ line_of_content content ∷ [] → (why : Refusal) → lines ≡ L.Refused why ∷ [] → ⊥
content_told None lines e = other_line lines L.Null refl e
content_told (Some n) lines e = other_line lines (L.Node n) refl e

-- ---- commands that speak of no object

module _ (old : State) (command : Command) (lines : List Line) (silent : (content : Option ℕ) → SpeaksOf old command content → ⊥) where
  no_null : HasReason old command R.Null → ⊥
  no_null = silent None

  no_field : HasReason old command R.Field → ⊥
  no_field x = silent (Some x.0) x.1

  no_kind : (PeeksNumber old.stack command → ⊥) → HasReason old command R.Kind → ⊥
  no_kind blind x = elim x [ inl o ↦ silent (Some o.0) o.1 | inr w ↦ blind w ]

  phase_first : lines ≡ L.Refused R.Phase ∷ [] → IsOutOfPhase old.phase command → Verdict old command lines
  phase_first told out =
      first_of_all old command lines R.Phase told out (λ l x. omega (arith, l)) (λ l x. omega (arith, l)) (λ l x. omega (arith, l))
      (λ l x. omega (arith, l)) (λ l x. omega (arith, l))

  stack_first : lines ≡ L.Refused R.Stack ∷ [] → (IsOutOfPhase old.phase command → ⊥) → (PeeksNumber old.stack command → ⊥)
      → IsStopped old.stack command → Verdict old command lines
  stack_first told in_phase blind stopped =
      first_of_all old command lines R.Stack told stopped (λ l. in_phase) (λ l. no_null) (λ l. no_field) (λ l. no_kind blind) (λ l x. omega (arith, l))

  empty_first : lines ≡ L.Refused R.Empty ∷ [] → (IsOutOfPhase old.phase command → ⊥) → (PeeksNumber old.stack command → ⊥)
      → (IsStopped old.stack command → ⊥) → LacksWord old.stack command → Verdict old command lines
  empty_first told in_phase blind goes lacks =
      first_of_all old command lines R.Empty told lacks (λ l. in_phase) (λ l. no_null) (λ l. no_field) (λ l. no_kind blind) (λ l. goes)

  done_so : ((why : Refusal) → lines ≡ L.Refused why ∷ [] → ⊥) → (IsOutOfPhase old.phase command → ⊥) → (PeeksNumber old.stack command → ⊥)
      → (IsStopped old.stack command → ⊥) → (LacksWord old.stack command → ⊥) → Verdict old command lines
  done_so told in_phase blind goes full = done old command lines told in_phase no_null no_field (no_kind blind) goes full

-- ---- phases and the stack

marks : (phase : Phase) → is_marking phase ≡ true → phase ≡ Marking
marks Idle e = absurd (true≢false (sym e))
marks Marking e = refl
marks Sweeping e = absurd (true≢false (sym e))

marks_not : (phase : Phase) → is_marking phase ≡ false → phase ≢ Marking
marks_not Idle e = λ q. cc
marks_not Marking e = absurd (true≢false e)
marks_not Sweeping e = λ q. cc

sweeps : (phase : Phase) → is_sweeping phase ≡ true → phase ≡ Sweeping
sweeps Idle e = absurd (true≢false (sym e))
sweeps Marking e = absurd (true≢false (sym e))
sweeps Sweeping e = refl

sweeps_not : (phase : Phase) → is_sweeping phase ≡ false → phase ≢ Sweeping
sweeps_not Idle e = λ q. cc
sweeps_not Marking e = λ q. cc
sweeps_not Sweeping e = absurd (true≢false e)

is_empty : (stack : List StackWord) → nat_lt 0 (length stack) ≡ false → stack ≡ []
is_empty [] e = refl
is_empty (word ∷ stack) e = absurd (true≢false (sym (lt-ltb 0 (length (word ∷ stack)) (omega arith)) ∙ e))

is_filled : (stack : List StackWord) → nat_lt 0 (length stack) ≡ true → stack ≢ []
is_filled stack e none =
    (let some : 0 < length stack = ltb-true 0 (length stack) e in let long : length stack ≡ 0 = ap length none in omega (arith, some, long))

finish_stopped : (want : Want) (stack : List StackWord) → is_stack_refused want stack ≡ true → IsStopped stack (C.GcFinish want)
finish_stopped Precise stack e = is_filled stack e
finish_stopped Conservative stack e = absurd (true≢false (sym e))

finish_goes : (want : Want) (stack : List StackWord) → is_stack_refused want stack ≡ false → IsStopped stack (C.GcFinish want) → ⊥
finish_goes Precise stack e x = x (is_empty stack e)
finish_goes Conservative stack e x = x

now_stopped : (want : Want) (stack : List StackWord) → is_stack_refused want stack ≡ true → IsStopped stack (C.GcNow want)
now_stopped Precise stack e = is_filled stack e
now_stopped Conservative stack e = absurd (true≢false (sym e))

now_goes : (want : Want) (stack : List StackWord) → is_stack_refused want stack ≡ false → IsStopped stack (C.GcNow want) → ⊥
now_goes Precise stack e x = x (is_empty stack e)
now_goes Conservative stack e x = x

-- ---- the commands

push_verdict : (old new : State) (p o : ℕ) (lines : List Line) → StepPush old p o lines new → Verdict old (C.Push p o) lines
push_verdict old new p o lines h =
    either_way (slot_at old p) _ _ (Verdict old (C.Push p o) lines)
    (λ none r. first_of_all old (C.Push p o) lines R.Null r.0 none (λ l x. x) (λ l x. omega (arith, l)) (λ l x. omega (arith, l))
    (λ l x. omega (arith, l)) (λ l x. omega (arith, l)))
    (λ n slot rest.
    let some : slot_at old p ≡ None → ⊥ = (λ x. (let e : Some n ≡ None = sym slot ∙ x in absurd cc)) in
    let same : (m : ℕ) → slot_at old p ≡ Some m → m ≡ n = (λ m x. (let e : Some m ≡ Some n = sym x ∙ slot in cc)) in
    bool_is (nat_lt o (size_of (node_at old.nodes n))) _ _ (Verdict old (C.Push p o) lines)
    (λ low more.
    let there : o < size_of (node_at old.nodes n) = ltb-true o (size_of (node_at old.nodes n)) low in
    let found : HasReason old (C.Push p o) R.Field → ⊥ =
    (λ x. (let past : size_of (node_at old.nodes n) ≤ o = subst (λ m. size_of (node_at old.nodes m) ≤ o) (same x.0 x.1) x.2 in omega (arith, there, past))) in
    bool_is (nat_lt (length old.stack) 1024) _ _ (Verdict old (C.Push p o) lines)
    (λ room d.
    done old (C.Push p o) lines (other_line lines L.Fine refl d.0) (λ x. x) some found (λ x. elim x [ inl k ↦ k.2 | inr w ↦ w ])
    (λ x. (let less = ltb-true (length old.stack) 1024 room in omega (arith, less, x))) (λ x. x))
    (λ full r.
    first_of_all old (C.Push p o) lines R.Stack r.0 (ltb-false (length old.stack) 1024 full) (λ l x. x) (λ l. some) (λ l. found)
    (λ l x. elim x [ inl k ↦ k.2 | inr w ↦ w ]) (λ l x. omega (arith, l))) more)
    (λ high r.
    first_of_all old (C.Push p o) lines R.Field r.0 (n, slot, ltb-false o (size_of (node_at old.nodes n)) high) (λ l x. x) (λ l. some)
    (λ l x. omega (arith, l)) (λ l x. omega (arith, l)) (λ l x. omega (arith, l))) rest) h

push_plain_verdict : (old new : State) (w : ℕ) (lines : List Line) → StepPushPlain old w lines new → Verdict old (C.PushPlain w) lines
push_plain_verdict old new w lines h =
    bool_is (nat_lt (length old.stack) 1024) _ _ (Verdict old (C.PushPlain w) lines)
    (λ room d.
    done_so old (C.PushPlain w) lines (λ c x. x) (other_line lines L.Fine refl d.0) (λ x. x) (λ x. x)
    (λ x. (let less = ltb-true (length old.stack) 1024 room in omega (arith, less, x))) (λ x. x))
    (λ full r. stack_first old (C.PushPlain w) lines (λ c x. x) r.0 (λ x. x) (λ x. x) (ltb-false (length old.stack) 1024 full)) h

pop_verdict : (old new : State) (lines : List Line) → StepPop old lines new → Verdict old C.Pop lines
pop_verdict old new lines h =
    bool_is (nat_lt 0 (length old.stack)) _ _ (Verdict old C.Pop lines)
    (λ some d. done_so old C.Pop lines (λ c x. x) (other_line lines L.Fine refl d.0) (λ x. x) (λ x. x) (λ x. x) (is_filled old.stack some))
    (λ none r. empty_first old C.Pop lines (λ c x. x) r.0 (λ x. x) (λ x. x) (λ x. x) (is_empty old.stack none)) h

past_last : (stack : List StackWord) (i : ℕ) → slice_get stack i ≡ None → length stack ≤ i
past_last [] i e = omega arith
past_last (word ∷ stack) zero e = absurd cc
past_last (word ∷ stack) (suc i) e = (let less = past_last stack i e in omega (arith, less))

peeked_verdict : (old new : State) (i q : ℕ) (word : StackWord) (lines : List Line) → slice_get old.stack i ≡ Some word
    → IsPeeked old word q lines new → Verdict old (C.Peek i q) lines
peeked_verdict old new i q (Pointer n o) lines there d =
    done_so old (C.Peek i q) lines (λ c x. x) (other_line lines (L.Node n) refl d.0) (λ x. x)
    (λ x. (let e : Some (Pointer n o) ≡ Some (Number x.0) = sym there ∙ x.1 in absurd cc)) (λ x. x)
    (λ x. (let low = slice_get_within old.stack i (Pointer n o) there in omega (arith, low, x)))
peeked_verdict old new i q (Number w) lines there r =
    first_of_all old (C.Peek i q) lines R.Kind r.0 (inr (w, there)) (λ l x. x) (λ l x. x) (λ l x. x.1) (λ l x. omega (arith, l)) (λ l x. x)

peek_verdict : (old new : State) (i q : ℕ) (lines : List Line) → StepPeek old i q lines new → Verdict old (C.Peek i q) lines
peek_verdict old new i q lines h =
    either_way (slice_get old.stack i) _ _ (Verdict old (C.Peek i q) lines)
    (λ none r.
    empty_first old (C.Peek i q) lines (λ c x. x) r.0 (λ x. x) (λ x. (let e : None ≡ Some (Number x.0) = sym none ∙ x.1 in absurd cc)) (λ x. x)
    (past_last old.stack i none))
    (λ word there d. peeked_verdict old new i q word lines there d) h

start_verdict : (setup : Setup) (old new : State) (piece : List Entry) (lines : List Line) → StepGcStart setup old piece lines new → Verdict old C.GcStart lines
start_verdict setup old new piece lines h =
    bool_is (is_marking old.phase) _ _ (Verdict old C.GcStart lines)
    (λ on r. phase_first old C.GcStart lines (λ c x. x) r.1.0 (marks old.phase on))
    (λ off rest.
    let goes : ((why : Refusal) → lines ≡ L.Refused why ∷ [] → ⊥) → Verdict old C.GcStart lines =
    (λ told. done_so old C.GcStart lines (λ c x. x) told (marks_not old.phase off) (λ x. x) (λ x. x) (λ x. x)) in
    elim rest [
      | inl m ↦ goes (other_line lines L.Memory refl m.1.0)
      | inr b ↦ goes (after_lines lines (finalise_lines b.numbers) L.Started [] refl b.lines_are)
    ]) h

step_verdict : (old new : State) (n : ℕ) (lines : List Line) → StepGcStep old n lines new → Verdict old (C.GcStep n) lines
step_verdict old new n lines h =
    bool_is (is_marking old.phase) _ _ (Verdict old (C.GcStep n) lines)
    (λ on t.
    done_so old (C.GcStep n) lines (λ c x. x) (other_line lines _ refl t.lines_are) (λ x. x (marks old.phase on)) (λ x. x) (λ x. x) (λ x. x))
    (λ off r. phase_first old (C.GcStep n) lines (λ c x. x) r.0 (marks_not old.phase off)) h

finish_verdict : (setup : Setup) (want : Want) (old new : State) (piece : List Entry) (lines : List Line) → StepGcFinish setup want old piece lines new
    → Verdict old (C.GcFinish want) lines
finish_verdict setup want old new piece lines h =
    bool_is (is_marking old.phase) _ _ (Verdict old (C.GcFinish want) lines)
    (λ on rest.
    bool_is (is_stack_refused want old.stack) _ _ (Verdict old (C.GcFinish want) lines)
    (λ filled r.
    stack_first old (C.GcFinish want) lines (λ c x. x) r.1.0 (λ x. x (marks old.phase on)) (λ x. x) (finish_stopped want old.stack filled))
    (λ free f.
    done_so old (C.GcFinish want) lines (λ c x. x) (after_lines lines [] _ _ refl f.1.done.lines_are) (λ x. x (marks old.phase on)) (λ x. x)
    (finish_goes want old.stack free) (λ x. x)) rest)
    (λ off r. phase_first old (C.GcFinish want) lines (λ c x. x) r.1.0 (marks_not old.phase off)) h

now_verdict : (setup : Setup) (want : Want) (old new : State) (piece : List Entry) (lines : List Line) → StepGcNow setup want old piece lines new
    → Verdict old (C.GcNow want) lines
now_verdict setup want old new piece lines h =
    bool_is (is_marking old.phase) _ _ (Verdict old (C.GcNow want) lines)
    (λ on r. phase_first old (C.GcNow want) lines (λ c x. x) r.1.0 (marks old.phase on))
    (λ off rest.
    bool_is (is_stack_refused want old.stack) _ _ (Verdict old (C.GcNow want) lines)
    (λ filled r. stack_first old (C.GcNow want) lines (λ c x. x) r.1.0 (marks_not old.phase off) (λ x. x) (now_stopped want old.stack filled))
    (λ free more.
    let goes : ((why : Refusal) → lines ≡ L.Refused why ∷ [] → ⊥) → Verdict old (C.GcNow want) lines =
    (λ told. done_so old (C.GcNow want) lines (λ c x. x) told (marks_not old.phase off) (λ x. x) (now_goes want old.stack free) (λ x. x)) in
    elim more [
      | inl m ↦ goes (other_line lines L.Memory refl m.1.0)
      | inr c ↦
          goes (after_lines lines (finalise_lines c.numbers) _ _ refl
          (c.lines_are ∙ ap (λ ls. finalise_lines c.numbers ++ ls) c.pause.done.lines_are))
    ]) rest) h

sweep_told : (setup : Setup) (old new : State) (pages : ℕ) (lines : List Line) → HasSwept setup old pages lines new → (why : Refusal)
    → lines ≡ L.Refused why ∷ [] → ⊥
sweep_told setup old new pages lines s = after_lines lines (finalise_lines s.numbers) (L.Swept pages) [] refl s.lines_are

sweep_verdict : (setup : Setup) (old new : State) (n pages : ℕ) (lines : List Line) → StepSweepTo setup old pages lines new → Verdict old (C.Sweep n) lines
sweep_verdict setup old new n pages lines h =
    bool_is (is_sweeping old.phase) _ _ (Verdict old (C.Sweep n) lines)
    (λ on s.
    done_so old (C.Sweep n) lines (λ c x. x) (sweep_told setup old new pages lines s) (λ x. x (sweeps old.phase on)) (λ x. x) (λ x. x) (λ x. x))
    (λ off r. phase_first old (C.Sweep n) lines (λ c x. x) r.0 (sweeps_not old.phase off)) h

sweep_all_verdict : (setup : Setup) (old new : State) (pages : ℕ) (lines : List Line) → StepSweepTo setup old pages lines new → Verdict old C.SweepAll lines
sweep_all_verdict setup old new pages lines h =
    bool_is (is_sweeping old.phase) _ _ (Verdict old C.SweepAll lines)
    (λ on s.
    done_so old C.SweepAll lines (λ c x. x) (sweep_told setup old new pages lines s) (λ x. x (sweeps old.phase on)) (λ x. x) (λ x. x) (λ x. x))
    (λ off r. phase_first old C.SweepAll lines (λ c x. x) r.0 (sweeps_not old.phase off)) h

export_verdict : (old new : State) (p x : ℕ) (piece : List Entry) (lines : List Line) → StepExport old p x piece lines new → Verdict old (C.Export p x) lines
export_verdict old new p x piece lines h =
    either_way (slot_at old p) _ _ (Verdict old (C.Export p x) lines)
    (λ none r.
    first_of_all old (C.Export p x) lines R.Null r.1.0 none (λ l x. x) (λ l x. omega (arith, l)) (λ l x. omega (arith, l)) (λ l x. omega (arith, l))
    (λ l x. omega (arith, l)))
    (λ n slot rest.
    let goes : ((why : Refusal) → lines ≡ L.Refused why ∷ [] → ⊥) → Verdict old (C.Export p x) lines =
    (λ told.
    done old (C.Export p x) lines told (λ x. x) (λ x. (let e : Some n ≡ None = sym slot ∙ x in absurd cc)) (λ x. x.2)
    (λ x. elim x [ inl k ↦ k.2 | inr w ↦ w ]) (λ x. x) (λ x. x)) in
    elim rest [
      | inl m ↦ goes (other_line lines L.Memory refl m.1.0)
      | inr e ↦ goes (other_line lines L.Fine refl e.lines_are)
    ]) h

new_told : (setup : Setup) (old new : State) (p t e : ℕ) (lines : List Line) → StepNew setup old p t e lines new → (why : Refusal)
    → lines ≡ L.Refused why ∷ [] → ⊥
new_told setup old new p t e lines h = elim h [
  | inl m ↦ other_line lines L.Memory refl m.1.0
  | inr made ↦
      match_option made.place _ _ _ (λ full. after_lines lines (finalise_lines made.numbers) L.Full [] refl full.lines_are)
      (λ a d. after_lines lines (finalise_lines made.numbers) (L.Placed (length made.mid.nodes) a) [] refl d.lines_are) made.done
]

-- ---- every command

module _ (setup : Setup) (old new : State) (piece : List Entry) (lines : List Line) where
  -- a command that is never refused
  never : (command : Command) → ((why : Refusal) → lines ≡ L.Refused why ∷ [] → ⊥) → ((content : Option ℕ) → SpeaksOf old command content → ⊥)
      → (IsOutOfPhase old.phase command → ⊥) → (PeeksNumber old.stack command → ⊥) → (IsStopped old.stack command → ⊥)
      → (LacksWord old.stack command → ⊥) → Verdict old command lines
  never command told a b c d e = done_so old command lines a told b c d e

  verdict : (command : Command) → Step setup old command piece lines new → Verdict old command lines
  verdict (C.New p t e) h = never (C.New p t e) (new_told setup old new p t e lines h.1) (λ c x. x) (λ x. x) (λ x. x) (λ x. x) (λ x. x)
  verdict (C.Set p f q) h = field_verdict old new lines (C.Set p f q) is_reference p f (set_asks p f q) _ (λ n d. other_line lines L.Fine refl d.0) h.1
  verdict (C.SetNull p f) h = field_verdict old new lines (C.SetNull p f) is_reference p f (set_null_asks p f) _ (λ n d. other_line lines L.Fine refl d.0) h.1
  verdict (C.Pair p f k v) h = field_verdict old new lines (C.Pair p f k v) is_pair p f (pair_asks p f k v) _ (λ n d. other_line lines L.Fine refl d.0) h.1
  verdict (C.PairNull p f) h = field_verdict old new lines (C.PairNull p f) is_pair p f (pair_null_asks p f) _ (λ n d. other_line lines L.Fine refl d.0) h.1
  verdict (C.Put p f w) h = field_verdict old new lines (C.Put p f w) is_plain p f (put_asks p f w) _ (λ n d. other_line lines L.Fine refl d.0) h.1
  verdict (C.Word p f) h =
      field_verdict old new lines (C.Word p f) is_plain p f (word_asks p f) (λ n. IsNumber old (value_at (node_at old.nodes n) (first_word old n f)) lines new)
      (λ n d. number_told old new (value_at (node_at old.nodes n) (first_word old n f)) lines d) h.1
  verdict (C.Get p f q) h =
      field_verdict old new lines (C.Get p f q) is_reference p f (get_asks p f q)
      (λ n. IsRead (is_weak (kind_of_field (node_at old.nodes n).object f)) old (value_at (node_at old.nodes n) (first_word old n f)) q lines new)
      (λ n d. read_told (is_weak (kind_of_field (node_at old.nodes n).object f)) old new (value_at (node_at old.nodes n) (first_word old n f)) q lines d) h.1
  verdict (C.Key p f q) h =
      field_verdict old new lines (C.Key p f q) is_pair p f (key_asks p f q)
      (λ n. IsRead true old (value_at (node_at old.nodes n) (first_word old n f)) q lines new)
      (λ n d. read_told true old new (value_at (node_at old.nodes n) (first_word old n f)) q lines d) h.1
  verdict (C.Val p f q) h =
      field_verdict old new lines (C.Val p f q) is_pair p f (val_asks p f q)
      (λ n. IsRead true old (value_at (node_at old.nodes n) (first_word old n f + 1)) q lines new)
      (λ n d. read_told true old new (value_at (node_at old.nodes n) (first_word old n f + 1)) q lines d) h.1
  verdict (C.Copy p q) h = never (C.Copy p q) (other_line lines L.Fine refl h.1.0) (λ c x. x) (λ x. x) (λ x. x) (λ x. x) (λ x. x)
  verdict (C.Drop p) h = never (C.Drop p) (other_line lines L.Fine refl h.1.0) (λ c x. x) (λ x. x) (λ x. x) (λ x. x) (λ x. x)
  verdict (C.Weak w p) h = never (C.Weak w p) (other_line lines L.Fine refl h.1.0) (λ c x. x) (λ x. x) (λ x. x) (λ x. x) (λ x. x)
  verdict (C.Read w p) h =
      never (C.Read w p) (read_told true old new (content_of (weak_slot_at old w)) p lines h.1) (λ c x. x) (λ x. x) (λ x. x) (λ x. x) (λ x. x)
  verdict (C.Push p o) h = push_verdict old new p o lines h.1
  verdict (C.PushPlain n) h = push_plain_verdict old new n lines h.1
  verdict C.Pop h = pop_verdict old new lines h.1
  verdict (C.Peek i q) h = peek_verdict old new i q lines h.1
  verdict C.GcStart h = start_verdict setup old new piece lines h
  verdict (C.GcStep n) h = step_verdict old new n lines h.1
  verdict (C.GcFinish want) h = finish_verdict setup want old new piece lines h
  verdict (C.GcNow want) h = now_verdict setup want old new piece lines h
  verdict (C.Sweep n) h = sweep_verdict setup old new n _ lines h.1
  verdict C.SweepAll h = sweep_all_verdict setup old new _ lines h.1
  verdict C.Stat h = never C.Stat (other_line lines _ refl h.1.2) (λ c x. x) (λ x. x) (λ x. x) (λ x. x) (λ x. x)
  verdict (C.Export p x) h = export_verdict old new p x piece lines h
  verdict (C.Import x p) h = elim h [
    | inl m ↦ never (C.Import x p) (other_line lines L.Memory refl m.1.0) (λ c x. x) (λ x. x) (λ x. x) (λ x. x) (λ x. x)
    | inr i ↦
        never (C.Import x p) (content_told (node_of (region_slot (took old i.before).region x)) lines i.lines_are) (λ c x. x) (λ x. x) (λ x. x)
        (λ x. x) (λ x. x)
  ]
  verdict (C.At j order) h = elim h.1 [
    | inl m ↦ never (C.At j order) (other_line lines L.Memory refl m.0) (λ c x. x) (λ x. x) (λ x. x) (λ x. x) (λ x. x)
    | inr d ↦ never (C.At j order) (other_line lines L.Queued refl d.0) (λ c x. x) (λ x. x) (λ x. x) (λ x. x) (λ x. x)
  ]
  verdict C.ThreadsGo h = elim h.1 [
    | inl d ↦ never C.ThreadsGo (other_line lines L.Memory refl d.0) (λ c x. x) (λ x. x) (λ x. x) (λ x. x) (λ x. x)
    | inr d ↦ never C.ThreadsGo (other_line lines _ refl d.0) (λ c x. x) (λ x. x) (λ x. x) (λ x. x) (λ x. x)
  ]
  verdict C.ThreadsJoin h =
      never C.ThreadsJoin (after_lines lines _ (L.Joined (length old.running)) [] refl h.lines_are) (λ c x. x) (λ x. x) (λ x. x) (λ x. x) (λ x. x)

pub refused_for_the_first_reason : RefusedForTheFirstReason
refused_for_the_first_reason setup old new command piece lines why h = exactly old command lines (verdict setup old new piece lines command h) why
