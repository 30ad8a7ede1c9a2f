-- Lawful runs: of no command, of one command more, and of a heap that is closed.
use Rattle.std.proofs.Common.{◌≡◌, ℕ, ◌+◌, ◌<◌, ◌≤◌, List, [], ◌∷◌, ◌++◌, length, take, get_or, Some, refl, sym, ap, ◌∙◌, subst, inl, inr, arith, length-append}
use Rattle.std.specs.Prelude.{Contains, slice_get}
use Rattle.std.proofs.lemmas.List.{take_more}
use Rattle.std.proofs.lemmas.List.Elements.{Contains-push_cases}
use Rattle.std.proofs.lemmas.Option.{slice_get_within}
use Rattle.gc_graph.specs.declared.command.Command.{Command}
use Rattle.gc_graph.specs.declared.command.Command.TheVariants as C
use Rattle.gc_graph.specs.declared.line.Line.{Line}
use Rattle.gc_graph.specs.declared.line.Line.TheVariants as L
use Rattle.gc_graph.specs.declared.region.Entry.{Entry}
use Rattle.gc_graph.specs.State.{Setup, State, empty_state}
use Rattle.gc_graph.specs.RegionSteps.{HasDoneFirst}
use Rattle.gc_graph.specs.HistoryLaw.{RunsAreReplayed}
use Rattle.gc_graph.specs.History.{IsLegal}
use Rattle.gc_graph.specs.Lawful.{Outcome, Run, IsLawful, AreJoined, TotalsWerePublished, TotalsNeverFall, TellsTotals, history_of, last_state}
use Rattle.heap_engine.specs.Acted.{IsActed}
use Rattle.heap_engine.specs.Going.{TellOneOf, since_after}
use Rattle.heap_engine.specs.View.{View}
use Rattle.script_run.specs.Printed.{IsBeforeOneSince, IsLastGo, HasRun}
use Rattle.script_run.proofs.OneMore.{StepTo, get_front, get_last, get_more, found_in, run_more, run_length, last_more, history_more, state_stays, state_at_last}

-- what came of the last command
abbrev pub outcome_of : View → Outcome
outcome_of heap = record { lines = heap.lines; piece = heap.piece; state = heap.state }

-- ---- the states since threads were last told to go

since_stays : (command : Command) (before : State) (since : List State) → ¬ (command ≡ C.ThreadsGo) → since_after command before since ≡ since ++ before ∷ []
since_stays C.ThreadsGo before since other = absurd (other refl)
since_stays _ before since other = refl

-- among the first commands the last start of threads was that of all, where the last command is no start
go_before : (commands : List Command) (command : Command) (g : ℕ) → IsLastGo (commands ++ command ∷ []) g → g < length commands → IsLastGo commands g
go_before commands command g is low = record {
  go = sym (get_front commands command g low) ∙ is.go;
  last = λ k later at. is.last k later (get_more commands command k C.ThreadsGo at);
}

-- the states of the first commands stay among them
since_more : (commands : List Command) (outcomes : List Outcome) (command : Command) (outcome : Outcome) (g : ℕ) (s : State) → length commands ≡ length outcomes
    → IsBeforeOneSince commands outcomes g s → IsBeforeOneSince (commands ++ command ∷ []) (outcomes ++ outcome ∷ []) g s
since_more commands outcomes command outcome g s many was =
    (was.0, was.1, omega (arith, was.2, length-append commands (command ∷ [])), was.3 ∙ state_stays outcomes outcome was.0 (omega (arith, was.2)))

-- the state before the last command is one of them
since_last : (commands : List Command) (outcomes : List Outcome) (command : Command) (outcome : Outcome) (g : ℕ) (s : State) → length commands ≡ length outcomes
    → g ≤ length commands → s ≡ last_state empty_state outcomes → IsBeforeOneSince (commands ++ command ∷ []) (outcomes ++ outcome ∷ []) g s
since_last commands outcomes command outcome g s many low is =
    (length commands, low, omega (arith, length-append commands (command ∷ [])), is ∙ state_at_last outcomes outcome (length commands) many)

-- so the heap knows them after one command more
knows_more : (setup : Setup) (commands : List Command) (outcomes : List Outcome) (command : Command) (mid heap : View) (lines : ℕ)
    → HasRun setup commands outcomes mid → IsActed mid heap command lines → (g : ℕ) → IsLastGo (commands ++ command ∷ []) g
    → (s : State) → Contains heap.since s → IsBeforeOneSince (commands ++ command ∷ []) (outcomes ++ outcome_of heap ∷ []) g s
knows_more setup commands outcomes command mid heap lines ran acted g is s there =
    let many : length commands ≡ length outcomes = run_length setup empty_state commands outcomes ran.unclosed.run in
    elim (found_in commands command g C.ThreadsGo is.go) [
      | inl front ↦
          let low : g < length commands = slice_get_within commands g C.ThreadsGo front in
          let other : ¬ (command ≡ C.ThreadsGo) = λ same. is.last (length commands) low (get_last commands command (length commands) refl ∙ ap Some same) in
          let all : heap.since ≡ mid.since ++ mid.state ∷ [] = acted.since ∙ since_stays command mid.state mid.since other in
          elim (Contains-push_cases mid.since mid.state s (subst (λ (states : List State). Contains states s) all there)) [
            | inl old ↦ since_more commands outcomes command (outcome_of heap) g s many (ran.since g (go_before commands command g is low) s old)
            | inr now ↦ since_last commands outcomes command (outcome_of heap) g s many (omega arith) (sym now ∙ ran.last)
          ]
      | inr at ↦
          let all : heap.since ≡ mid.state ∷ [] = acted.since ∙ ap (λ (k : Command). since_after k mid.state mid.since) at.1 in
          elim (Contains-push_cases [] mid.state s (subst (λ (states : List State). Contains states s) all there)) [
            | inl old ↦ absurd (omega (arith, old.1))
            | inr now ↦ since_last commands outcomes command (outcome_of heap) g s many (omega (arith, at.0)) (sym now ∙ ran.last)
          ]
    ]

-- ---- totals

published_stays : (outcomes : List Outcome) (outcome : Outcome) (g i : ℕ) (lines : List Line) → i ≤ length outcomes
    → TotalsWerePublished outcomes g i lines → TotalsWerePublished (outcomes ++ outcome ∷ []) g i lines
published_stays outcomes outcome g i lines low were j o n u f there =
    let was = were j o n u f there in
    (was.0, was.1, was.2, subst (λ (s : State). TellsTotals s j (L.ReplyTotals j o n u f)) (state_stays outcomes outcome was.0 (omega (arith, was.2))) was.3)

joined_before : (commands : List Command) (command : Command) (g i : ℕ) → i < length commands → AreJoined (commands ++ command ∷ []) g i → AreJoined commands g i
joined_before commands command g i low are = record {
  go = sym (get_front commands command g (omega (arith, are.before))) ∙ are.go;
  join = sym (get_front commands command i low) ∙ are.join;
  before = are.before;
  last = λ k later sooner at. are.last k later sooner (get_more commands command k C.ThreadsGo at);
}

-- threads that the last command joins went last by the command that told them to go
joined_at_last : (commands : List Command) (command : Command) (g i : ℕ) → i ≡ length commands → AreJoined (commands ++ command ∷ []) g i
    → IsLastGo (commands ++ command ∷ []) g
joined_at_last commands command g i is are = record {
  go = are.go;
  last = λ k later at. elim (found_in commands command k C.ThreadsGo at) [
    | inl front ↦ are.last k later (omega (arith, slice_get_within commands k C.ThreadsGo front)) at
    | inr last ↦ let never : ⊥ = cc (are.join, get_last commands command i is, last.1) in never
  ];
}

-- ---- what a command did

-- after these commands, with these outcomes
pub record DidNext (setup : Setup) (commands : List Command) (outcomes : List Outcome) (command : Command) (mid heap : View) : Type 0 where
  pub law : RunsAreReplayed
  pub ran : HasRun setup commands outcomes mid
  pub same : mid.setup ≡ setup
  pub acted : IsActed mid heap command (length heap.lines)

module _ (setup : Setup) (commands : List Command) (outcomes : List Outcome) (command : Command) (mid heap : View) (did : DidNext setup commands outcomes command mid heap) where
  many : length commands ≡ length outcomes
  many = run_length setup empty_state commands outcomes did.ran.unclosed.run

  runs : Run setup empty_state (commands ++ command ∷ []) (outcomes ++ outcome_of heap ∷ [])
  runs =
      let acted = subst (λ (s : Setup). StepTo s mid.state command (outcome_of heap)) did.same did.acted.step in
      run_more setup empty_state commands outcomes command (outcome_of heap) did.ran.unclosed.run
      (subst (λ (s : State). StepTo setup s command (outcome_of heap)) did.ran.last acted)

  pieces : heap.history ≡ history_of (outcomes ++ outcome_of heap ∷ [])
  pieces = did.acted.history ∙ ap (λ (h : List Entry). h ++ heap.piece) did.ran.unclosed.pieces ∙ sym (history_more outcomes (outcome_of heap))

  -- what an earlier join told
  told_before : (g i : ℕ) (outcome : Outcome) → AreJoined (commands ++ command ∷ []) g i → slice_get outcomes i ≡ Some outcome
      → TotalsWerePublished (outcomes ++ outcome_of heap ∷ []) g i outcome.lines × TotalsNeverFall outcome.lines
  told_before g i outcome are at =
      let low : i < length outcomes = slice_get_within outcomes i outcome at in
      let was = did.ran.unclosed.published g i outcome (joined_before commands command g i (omega (arith, many)) are) at in
      (published_stays outcomes (outcome_of heap) g i outcome.lines (omega arith) was.0, was.1)

  -- totals of these states had been published before the join
  told_since : (g i : ℕ) → i ≡ length commands
      → ((s : State) → Contains heap.since s → IsBeforeOneSince (commands ++ command ∷ []) (outcomes ++ outcome_of heap ∷ []) g s)
      → TellOneOf heap.since heap.lines → TotalsWerePublished (outcomes ++ outcome_of heap ∷ []) g i heap.lines
  told_since g i here knows tell j o n u f there =
      let told = tell j o n u f there in
      let was = knows told.0 told.1 in
      (was.0, was.1, omega (arith, was.2, length-append commands (command ∷ [])), subst (λ (s : State). TellsTotals s j (L.ReplyTotals j o n u f)) was.3 told.2)

  -- what the last command told, where it is a join
  told_now : (g i : ℕ) → AreJoined (commands ++ command ∷ []) g i → i ≡ length outcomes
      → TotalsWerePublished (outcomes ++ outcome_of heap ∷ []) g i heap.lines × TotalsNeverFall heap.lines
  told_now g i are at =
      let here : i ≡ length commands = omega (arith, many) in
      let found : Some command ≡ Some C.ThreadsJoin = sym (get_last commands command i here) ∙ are.join in
      let join : command ≡ C.ThreadsJoin = cc in
      let knows = knows_more setup commands outcomes command mid heap (length heap.lines) did.ran did.acted g (joined_at_last commands command g i here are) in
      (told_since g i here knows (did.acted.totals join), did.acted.fall join)

  published : (g i : ℕ) (outcome : Outcome) → AreJoined (commands ++ command ∷ []) g i → slice_get (outcomes ++ outcome_of heap ∷ []) i ≡ Some outcome
      → TotalsWerePublished (outcomes ++ outcome_of heap ∷ []) g i outcome.lines × TotalsNeverFall outcome.lines
  published g i outcome are at =
      elim (found_in outcomes (outcome_of heap) i outcome at) [
        | inl front ↦ told_before g i outcome are front
        | inr last ↦ subst (λ (o : Outcome). TotalsWerePublished (outcomes ++ outcome_of heap ∷ []) g i o.lines × TotalsNeverFall o.lines) last.1 (told_now g i are last.0)
      ]

  pub has_run_more : HasRun setup (commands ++ command ∷ []) (outcomes ++ outcome_of heap ∷ []) heap
  has_run_more = record {
    unclosed = record {
      run = runs;
      pieces = pieces;
      legal = subst IsLegal (sym pieces) (did.law setup (commands ++ command ∷ []) (outcomes ++ outcome_of heap ∷ []) runs).legal;
      published = published;
    };
    last = sym (last_more empty_state outcomes (outcome_of heap));
    since = knows_more setup commands outcomes command mid heap (length heap.lines) did.ran did.acted;
  }

-- the next of all commands; d stands for what a read past the end would give
pub has_run_next : (setup : Setup) (commands : List Command) (i : ℕ) (d : Command) (outcomes : List Outcome) (mid heap : View) → i < length commands
    → DidNext setup (take i commands) outcomes (get_or commands i d) mid heap → HasRun setup (take (i + 1) commands) (outcomes ++ outcome_of heap ∷ []) heap
has_run_next setup commands i d outcomes mid heap low did =
    subst (λ (ks : List Command). HasRun setup ks (outcomes ++ outcome_of heap ∷ []) heap) (sym (take_more commands i d low))
    (has_run_more setup (take i commands) outcomes (get_or commands i d) mid heap did)

-- ---- no command

take_none : {X : Type 0} (xs : List X) → take 0 xs ≡ []
take_none [] = refl
take_none (x ∷ xs) = refl

pub has_run_none : (setup : Setup) (commands : List Command) (heap : View) → heap.state ≡ empty_state → heap.history ≡ [] → HasRun setup (take 0 commands) [] heap
has_run_none setup commands heap is fresh = subst (λ (ks : List Command). HasRun setup ks [] heap) (sym (take_none commands)) (record {
  unclosed = record {
    run = tt;
    pieces = fresh;
    legal = subst IsLegal (sym fresh) tt;
    published = λ g i outcome are at. absurd (none i (slice_get_within {A = Outcome} [] i outcome at));
  };
  last = is;
  since = λ g last s there. absurd (none g (slice_get_within {A = Command} [] g C.ThreadsGo last.go));
}) where
  none : (i : ℕ) → i < 0 → ⊥
  none i low = omega arith

-- ---- a heap that is closed

-- what was taken of a thread's entries are those of the first of its orders
abbrev pub HaveBegun : State → Type 0
HaveBegun s = (j : ℕ) → Contains s.running j → HasDoneFirst s s.unprinted j

-- so closing shows that the run is lawful
pub is_lawful : (setup : Setup) (commands : List Command) (outcomes : List Outcome) (heap : View) → HasRun setup commands outcomes heap → HaveBegun heap.state
    → IsLawful setup commands outcomes heap.history
is_lawful setup commands outcomes heap ran begun = record {
  run = ran.unclosed.run;
  pieces = ran.unclosed.pieces;
  legal = ran.unclosed.legal;
  unjoined = subst HaveBegun ran.last begun;
  published = ran.unclosed.published;
}
