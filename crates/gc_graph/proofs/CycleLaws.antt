-- The laws of a collection's commands, from the cases of each command.
use Rattle.std.proofs.Common.{◌≡◌, ◌≢◌, ℕ, ◌+◌, ◌<◌, ◌≤◌, ◌==◌, nat_lt, Bool, true, false, true≢false, List, [], ◌∷◌, ◌++◌, length, filter, reverse, refl, sym, ap, ◌∙◌, subst, inl, inr, arith, Contains, All, MatchBool, if◌then◌else◌}
use Rattle.std.specs.List.{list_any, range_with_len}
use Rattle.std.proofs.lemmas.Bool.{ltb-true, lt-ltb, eq-eqb}
use Rattle.std.proofs.lemmas.List.{reverse-append}
use Rattle.std.proofs.lemmas.List.Elements.{All-nil, All-cons, All-contains, filter-append, Contains-append_cases}
use Rattle.std.proofs.lemmas.List.Folds.{list_any_at}
use Rattle.gc_graph.specs.declared.command.Want.{Want}
use Rattle.gc_graph.specs.declared.command.Want.TheVariants.{Precise, Conservative}
use Rattle.gc_graph.specs.declared.line.Line.{Line}
use Rattle.gc_graph.specs.declared.line.Line.TheVariants as L
use Rattle.gc_graph.specs.declared.line.Refusal.TheVariants as R
use Rattle.gc_graph.specs.declared.phase.Phase.{Phase}
use Rattle.gc_graph.specs.declared.phase.Phase.TheVariants.{Idle, Marking, Sweeping}
use Rattle.gc_graph.specs.declared.region.Entry.{Entry}
use Rattle.gc_graph.specs.State.{Setup, State, StackWord, Node, Life, node_at, is_live, roots_of}
use Rattle.gc_graph.specs.State.Life.{Live, Dead, Gone}
use Rattle.gc_graph.specs.May.{is_hit, hits_for}
use Rattle.gc_graph.specs.Outcomes.{finalise_lines, took, with_entry}
use Rattle.gc_graph.specs.Pause.{dies, is_dead_at, with_cleared, clear_node}
use Rattle.gc_graph.specs.CycleSteps.{is_marking, is_stack_refused, IsStart, IsPause, IsFinished, StepGcFinish, IsCollection, StepGcNow}
use Rattle.gc_graph.specs.CycleLaw.{CyclesGoInOrder, IsStepTold, StepsTellWhatIsLeft, FinishCountsOnce, NowCountsOnce, HitsAreKept, ClearsLiveHolders, LastRegisteredRunsFirst}
use Rattle.gc_graph.specs.Valid.{IsValid}
use Rattle.gc_graph.specs.Members.{to_range, stays_in, Contains-cons_cases}
use Rattle.gc_graph.proofs.Called.{each_callback_line}
use Rattle.gc_graph.proofs.StepCases.{match_bool}
use Rattle.gc_graph.proofs.ValidCases.{bool_is}
use Rattle.gc_graph.proofs.Sound.{sound_from, valid_from}
use Rattle.gc_graph.proofs.ValidRegion.{others_sound, took_nodes, took_phase}
use Rattle.gc_graph.proofs.MayBounds.{of_second, least_law}
use Rattle.gc_graph.proofs.Condemned.{map_at}

-- ---- phases

at_mark : (phase : Phase) → phase ≡ Marking → is_marking phase ≡ true
at_mark Idle e = cc
at_mark Marking e = refl
at_mark Sweeping e = cc

not_at_mark : (phase : Phase) → phase ≢ Marking → is_marking phase ≡ false
not_at_mark Idle out = refl
not_at_mark Marking out = absurd (out refl)
not_at_mark Sweeping out = refl

when : (test : Bool) (A B : Type 0) → test ≡ true → MatchBool test A B → A
when true A B e h = h
when false A B e h = absurd (true≢false (sym e))

unless : (test : Bool) (A B : Type 0) → test ≡ false → MatchBool test A B → B
unless true A B e h = absurd (true≢false e)
unless false A B e h = h

stack_stands : (stack : List StackWord) → stack ≢ [] → is_stack_refused Precise stack ≡ true
stack_stands [] some = absurd (some refl)
stack_stands (word ∷ stack) some = lt-ltb 0 (length (word ∷ stack)) (omega arith)

pub cycles_go_in_order : CyclesGoInOrder
cycles_go_in_order setup old new piece lines = record {
  starts = λ on h. (when (is_marking old.phase) _ _ (at_mark old.phase on) h).1;
  collects = λ want on h. (when (is_marking old.phase) _ _ (at_mark old.phase on) h).1;
  steps = λ n off h. unless (is_marking old.phase) _ _ (not_at_mark old.phase off) h.1;
  finishes = λ want off h. (unless (is_marking old.phase) _ _ (not_at_mark old.phase off) h).1;
  stands = λ on some h.
      (when (is_stack_refused Precise old.stack) _ _ (stack_stands old.stack some) (when (is_marking old.phase) _ _ (at_mark old.phase on) h)).1;
}

-- ---- a step's line

abbrev told_count : List Line → ℕ
told_count (L.Step count done ∷ []) = count
told_count lines = 0

abbrev told_done : List Line → Bool
told_done (L.Step count done ∷ []) = done
told_done lines = false

abbrev is_step : List Line → Bool
is_step (L.Step count done ∷ []) = true
is_step lines = false

pub steps_tell_what_is_left : StepsTellWhatIsLeft
steps_tell_what_is_left setup old new n piece lines count done h e =
    match_bool (is_marking old.phase) _ _ (IsStepTold old n count done new)
    (λ t.
    let same : t.count ≡ count = ap told_count (sym t.lines_are ∙ e) in
    let flag : nat_lt t.count n ≡ done = ap told_done (sym t.lines_are ∙ e) in
    record {
      most = subst (λ c. c ≤ n) same t.most;
      done_is = (
        (λ d. subst (λ c. c < n) same (ltb-true t.count n (flag ∙ d))),
        (λ l. sym flag ∙ lt-ltb t.count n (subst (λ c. c < n) (sym same) l)),
      );
      counted = ap (λ (s : State). s.traced) t.after ∙ ap (λ c. old.traced + c) same;
    })
    (λ r. absurd (true≢false (sym (sym (ap is_step r.0) ∙ ap is_step e)))) h.1

-- ---- the counts of a pause

abbrev pub is_pause : Line → Bool
is_pause (L.Pause live dead crew traced walked) = true
is_pause other = false

abbrev told_live : Line → ℕ
told_live (L.Pause live dead crew traced walked) = live
told_live other = 0

abbrev told_crew : Line → ℕ
told_crew (L.Pause live dead crew traced walked) = crew
told_crew other = 0

abbrev told_traced : Line → ℕ
told_traced (L.Pause live dead crew traced walked) = traced
told_traced other = 0

abbrev pub IsOther : Line → Type 0
IsOther line = is_pause line ≡ false

pub others_finalised : (numbers : List ℕ) → All IsOther (finalise_lines numbers)
others_finalised [] = All-nil IsOther
others_finalised (n ∷ numbers) = All-cons IsOther (L.Finalise n) (finalise_lines numbers) refl (others_finalised numbers)

-- of lines of which one tells a pause, what tells a pause is that one
pub the_one : (before after : List Line) (line told : Line) → All IsOther before → All IsOther after → is_pause told ≡ true
    → Contains (before ++ line ∷ after) told → line ≡ told
the_one before after line told b a is there = elim (Contains-append_cases before (line ∷ after) told there) [
  | inl early ↦ absurd (true≢false (sym is ∙ All-contains IsOther before told b early))
  | inr late ↦ elim (Contains-cons_cases line after told late) [
    | inl here ↦ here
    | inr later ↦ absurd (true≢false (sym is ∙ All-contains IsOther after told a later))
  ]
]

took_traced : (s : State) (xs : List Entry) → (took s xs).traced ≡ s.traced
took_traced s [] = refl
took_traced s (x ∷ xs) = took_traced (with_entry s x) xs

took_stack : (s : State) (xs : List Entry) → (took s xs).stack ≡ s.stack
took_stack s [] = refl
took_stack s (x ∷ xs) = took_stack (with_entry s x) xs

-- what the line of a pause tells, in lines that end with those of the pause
counts : (setup : Setup) (markers : ℕ) (want : Want) (old new : State) (piece : List Entry) (numbers : List ℕ) (lines whole : List Line)
    (live dead crew traced : ℕ) (walked : Bool) → IsPause setup markers want old piece lines new → whole ≡ finalise_lines numbers ++ lines
    → Contains whole (L.Pause live dead crew traced walked) → (old.traced + crew + traced ≡ live) × (markers ≡ 0 → crew ≡ 0)
counts setup markers want old new piece numbers lines whole live dead crew traced walked p is there =
    let told : Line = L.Pause live dead crew traced walked in
    let same =
    the_one (finalise_lines numbers) _ _ told (others_finalised numbers) (each_callback_line IsOther (λ n d. refl) (λ n c. refl) _ _) refl
    (subst (λ ls. Contains ls told) (is ∙ ap (λ ls. finalise_lines numbers ++ ls) p.done.lines_are) there) in
    let lives = ap told_live same in
    let crews : p.done.crew ≡ crew = ap told_crew same in
    let traces : p.done.traced ≡ traced = ap told_traced same in (
      omega (arith, lives, crews, traces, p.done.counted, took_traced old p.before),
      λ none. sym crews ∙ p.done.crew_is none,
    )

-- one line that tells no pause
pub no_pause : (lines : List Line) (line told : Line) → is_pause line ≡ false → is_pause told ≡ true → lines ≡ line ∷ [] → Contains lines told → ⊥
no_pause lines line told other is e there =
    true≢false (sym is ∙ All-contains IsOther (line ∷ []) told (All-cons IsOther line [] other (All-nil IsOther)) (subst (λ ls. Contains ls told) e there))

-- where a line tells a pause, `gc finish` was carried out
pub finish_told : (setup : Setup) (want : Want) (old new : State) (piece : List Entry) (lines : List Line) (told : Line) (Q : Type 0) → is_pause told ≡ true
    → Contains lines told → (is_marking old.phase ≡ true → IsFinished setup want old piece lines new → Q) → StepGcFinish setup want old piece lines new → Q
finish_told setup want old new piece lines told Q is there finished h =
    bool_is (is_marking old.phase) _ _ Q
    (λ on rest. bool_is (is_stack_refused want old.stack) _ _ Q (λ e r. absurd (no_pause lines (L.Refused R.Stack) told refl is r.1.0 there))
    (λ e f. finished on f) rest)
    (λ e r. absurd (no_pause lines (L.Refused R.Phase) told refl is r.1.0 there)) h

-- and so was `gc now`
pub now_told : (setup : Setup) (want : Want) (old new : State) (piece : List Entry) (lines : List Line) (told : Line) (Q : Type 0) → is_pause told ≡ true
    → Contains lines told → (is_marking old.phase ≡ false → IsCollection setup want old piece lines new → Q) → StepGcNow setup want old piece lines new → Q
now_told setup want old new piece lines told Q is there collected h =
    bool_is (is_marking old.phase) _ _ Q (λ e r. absurd (no_pause lines (L.Refused R.Phase) told refl is r.1.0 there))
    (λ off rest. bool_is (is_stack_refused want old.stack) _ _ Q (λ e r. absurd (no_pause lines (L.Refused R.Stack) told refl is r.1.0 there))
    (λ e more. elim more [
      | inl m ↦ absurd (no_pause lines L.Memory told refl is m.1.0 there)
      | inr c ↦ collected off c
    ]) rest) h

pub finish_counts_once : FinishCountsOnce
finish_counts_once setup old new want piece lines live dead crew traced walked h there =
    finish_told setup want old new piece lines (L.Pause live dead crew traced walked) ((old.traced + crew + traced ≡ live) × (setup.markers ≡ 0 → crew ≡ 0)) refl there
    (λ on f. counts setup setup.markers want old f.0 piece [] lines lines live dead crew traced walked f.1 refl there) h

-- a collection that has just started has traced nothing
none_traced : (setup : Setup) (swept new : State) (piece : List Entry) → IsStart setup swept piece new → new.traced ≡ 0
none_traced setup swept new piece h = ap (λ (s : State). s.traced) h.after

pub now_counts_once : NowCountsOnce
now_counts_once setup old new want piece lines live dead crew traced walked h there =
    now_told setup want old new piece lines (L.Pause live dead crew traced walked) ((traced ≡ live) × (crew ≡ 0)) refl there
    (λ off c. (let both = counts setup 0 want c.started c.paused c.second c.numbers c.pause_lines lines live dead crew traced walked c.pause c.lines_are there in
    let none : crew ≡ 0 = both.1 refl in
    let first = none_traced setup c.swept c.started c.first c.start in
    (omega (arith, both.0, none, first), none))) h

-- ---- the hits of the stack

hit_listed : (s : State) (n : ℕ) → n < length s.nodes → is_hit s.nodes s.stack n ≡ true → list_any (λ r. r == n) (hits_for Conservative s) ≡ true
hit_listed s n low hit =
    let there = stays_in (is_hit s.nodes s.stack) (range_with_len 0 (length s.nodes)) n (to_range 0 (length s.nodes) n (omega arith) (omega (arith, low))) hit in
    list_any_at (λ r. r == n) (hits_for Conservative s) there.0 n there.1 (eq-eqb _ n there.2)

pub hits_are_kept : HitsAreKept
hits_are_kept setup markers old new piece lines valid on pause n low hit =
    let mid : State = took old pause.before in
    let nodes : mid.nodes ≡ old.nodes = took_nodes old pause.before in
    let after : IsValid setup mid = valid_from setup mid (others_sound setup old pause.before pause.others (sound_from setup old valid)) in
    let there : list_any (λ r. r == n) (hits_for Conservative mid) ≡ true =
    hit_listed mid n (subst (λ ns. n < length ns) (sym nodes) low)
    (ap (λ ns. is_hit ns mid.stack n) nodes ∙ ap (λ stack. is_hit old.nodes stack n) (took_stack old pause.before) ∙ hit) in
    pause.done.keeps.reached n
    ((least_law setup mid Conservative after (took_phase old pause.before ∙ on)).roots_in n (of_second (roots_of mid) (hits_for Conservative mid) n there))

-- ---- weak clearing

not_live : (life : Life) → (life ≡ Live → ⊥) → is_live life ≡ false
not_live Live out = absurd (out refl)
not_live Dead out = refl
not_live Gone out = refl

left_alone : (dead : ℕ → Bool) (node : Node) → is_live node.life ≡ false → clear_node dead node ≡ node
left_alone dead node e = ap (λ b. if b then with_cleared dead node else node) e

pub clears_live_holders : ClearsLiveHolders
clears_live_holders s nodes n out =
    map_at (clear_node (is_dead_at nodes)) nodes n refl
    ∙ left_alone (is_dead_at nodes) (node_at nodes n) (not_live (node_at nodes n).life out)

-- ---- the order of prefinalizers

pub last_registered_runs_first : LastRegisteredRunsFirst
last_registered_runs_first nodes = record {
  parts = λ first second.
      ap reverse (filter-append (dies nodes) first second) ∙ reverse-append (filter (dies nodes) first) (filter (dies nodes) second);
  runs = λ r e. ap (λ b. reverse (if b then r ∷ [] else [])) e;
  rests = λ r e. ap (λ b. reverse (if b then r ∷ [] else [])) e;
}
