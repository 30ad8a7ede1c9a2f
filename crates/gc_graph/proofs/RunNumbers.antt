-- The numbers of the lines of whole runs.
use Rattle.std.proofs.Common.{◌≡◌, ℕ, zero, suc, ◌+◌, ◌<◌, ◌≤◌, Bool, true, false, true≢false, List, [], ◌∷◌, length, get_or, take, All, Some, refl, sym, ap, ◌∙◌, subst, inl, inr, arith}
use mathlib.Core.Logic.{◌⊎◌}
use Rattle.std.specs.Prelude.{min}
use Rattle.std.specs.List.{Contains, slice_get}
use Rattle.std.proofs.lemmas.Bool.{cases_lt, cases_Bool}
use Rattle.std.proofs.lemmas.List.{take_all}
use Rattle.std.proofs.lemmas.List.Elements.{All-nil, All-cons, All-head, All-tail, All-map, Contains-get_or}
use Rattle.std.proofs.lemmas.List.Sums.{count_by-le-length}
use Rattle.gc_graph.specs.declared.command.Command.{Command}
use Rattle.gc_graph.specs.declared.command.Command.TheVariants as C
use Rattle.gc_graph.specs.declared.line.Line.{Line}
use Rattle.gc_graph.specs.declared.line.Line.TheVariants as L
use Rattle.gc_graph.specs.declared.region.Entry.{Entry}
use Rattle.gc_graph.specs.State.{Setup, State, Node, is_there, empty_state, objects_of, used_of}
use Rattle.gc_graph.specs.Valid.{IsValid}
use Rattle.gc_graph.specs.ValidLaw.{StepKeepsValid}
use Rattle.gc_graph.specs.Step.{Step}
use Rattle.gc_graph.specs.Lawful.{Outcome, Run, last_state, state_after, AreJoined, TellsTotals, IsAllowed}
use Rattle.gc_graph.specs.Report.{type_lines}
use Rattle.gc_graph.specs.ReadBack.{IsOf64Bits}
use Rattle.gc_graph.specs.NumbersLaw.{IsWithinLimits, IsReported, lines_of_outcomes, HaveNumbers, LinesHaveNumbers, RunReadsBack}
use Rattle.gc_graph.proofs.Sound.{IsSound, sound_from}
use Rattle.gc_graph.proofs.ValidSteps.{empty_is_valid}
use Rattle.gc_graph.proofs.Few.{Small, small_one, small_four, empty_few}
use Rattle.gc_graph.proofs.StepNumbers.{IsCounted, TellsTotalsTo, RunsOn, IsGood, used_within, totals_small, effect_good, new_good}
use Rattle.gc_graph.proofs.PlainSteps.{plain_step}
use Rattle.gc_graph.proofs.CycleNumbers.{start_good, step_good, finish_good, now_good, sweep_good, stat_good, export_good, import_good}
use Rattle.gc_graph.proofs.ThreadNumbers.{all_flat, at_good, go_good, join_good}
use Rattle.gc_graph.proofs.ReportsReadBack.{report_reads_back}

-- ---- one step

module _ (setup : Setup) (limits : IsWithinLimits setup) (k : ℕ) (low : k < 1000000) (old new : State) (piece : List Entry) (lines : List Line)
    (h : IsCounted k old) (g : IsSound setup old) where
  pub step_numbers : (command : Command) → IsAllowed (length setup.types) command → Step setup old command piece lines new → IsGood k command old lines new
  step_numbers (C.New p t e) a s = new_good setup limits k low old new (C.New p t e) lines h g p t e a.1 s.1
  step_numbers C.GcStart a s = start_good setup limits k low old new C.GcStart piece lines h g s
  step_numbers (C.GcStep n) a s = step_good setup limits k low old new (C.GcStep n) piece lines h g n a.1 s.1
  step_numbers (C.GcFinish want) a s = finish_good setup limits k low old new (C.GcFinish want) piece lines h g want s
  step_numbers (C.GcNow want) a s = now_good setup limits k low old new (C.GcNow want) piece lines h g want s
  step_numbers (C.Sweep n) a s = sweep_good setup limits k low old new (C.Sweep n) piece lines h g (min (old.cursor + n) setup.shape.pages) (omega arith) s.1
  step_numbers C.SweepAll a s = sweep_good setup limits k low old new C.SweepAll piece lines h g setup.shape.pages (omega arith) s.1
  step_numbers C.Stat a s = stat_good setup limits k low old new C.Stat piece lines h g s.1
  step_numbers (C.Export p x) a s = export_good setup limits k low old new (C.Export p x) piece lines h g p x a.1 s
  step_numbers (C.Import x p) a s = import_good setup limits k low old new (C.Import x p) piece lines h g x p a.0 s
  step_numbers (C.At j order) a s = at_good setup limits k low old new (C.At j order) piece lines h g j order a.2 s.1
  step_numbers C.ThreadsGo a s = go_good setup limits k low old new C.ThreadsGo piece lines h g refl s.1
  step_numbers C.ThreadsJoin a s = join_good setup limits k low old new C.ThreadsJoin piece lines h g refl s
  step_numbers command a s =
      let c = plain_step setup old new command piece lines refl s in
      effect_good setup limits k low old new command lines h g (length setup.types) a c.effect c.fits c.lines_are c.after

-- ---- the steps of a run, by their positions

-- what comes of the command at a position
record IsStepAt (setup : Setup) (first : State) (commands : List Command) (outcomes : List Outcome) (i : ℕ) (outcome : Outcome) : Type 0 where
  command : Command
  given : slice_get commands i ≡ Some command
  step : Step setup (last_state first (take i outcomes)) command outcome.piece outcome.lines outcome.state
  next : last_state first (take (suc i) outcomes) ≡ outcome.state

step_at : (setup : Setup) (first : State) (commands : List Command) (outcomes : List Outcome) → Run setup first commands outcomes
    → (i : ℕ) (outcome : Outcome) → slice_get outcomes i ≡ Some outcome → IsStepAt setup first commands outcomes i outcome
step_at setup first [] [] run i outcome e = absurd (cc)
step_at setup first [] (o ∷ os) run i outcome e = absurd run
step_at setup first (c ∷ cs) [] run i outcome e = absurd run
step_at setup first (c ∷ cs) (o ∷ os) run zero outcome e =
    let same : o ≡ outcome = cc in
    subst (IsStepAt setup first (c ∷ cs) (o ∷ os) 0) same (record { command = c; given = refl; step = run.0; next = refl })
step_at setup first (c ∷ cs) (o ∷ os) run (suc i) outcome e =
    let rest : IsStepAt setup o.state cs os i outcome = step_at setup o.state cs os run.1 i outcome e in
    record { command = rest.command; given = rest.given; step = rest.step; next = rest.next }

-- an allowed command, at each position
allowed_at : (types : ℕ) (commands : List Command) (i : ℕ) (command : Command) → All (IsAllowed types) commands → slice_get commands i ≡ Some command
    → IsAllowed types command
allowed_at types [] i command h e = absurd (cc)
allowed_at types (c ∷ cs) zero command h e = (let same : c ≡ command = cc in subst (IsAllowed types) same (All-head (IsAllowed types) c cs h))
allowed_at types (c ∷ cs) (suc i) command h e = allowed_at types cs i command (All-tail (IsAllowed types) c cs h) e

outcome_at : (outcomes : List Outcome) (i : ℕ) → i < length outcomes → (o : Outcome) × (slice_get outcomes i ≡ Some o)
outcome_at [] i l = absurd (omega arith)
outcome_at (o ∷ os) zero l = (o, refl)
outcome_at (o ∷ os) (suc i) l = outcome_at os i (omega arith)

below_get : (outcomes : List Outcome) (i : ℕ) (o : Outcome) → slice_get outcomes i ≡ Some o → i < length outcomes
below_get [] i o e = absurd (cc)
below_get (x ∷ xs) zero o e = omega arith
below_get (x ∷ xs) (suc i) o e = (let l = below_get xs i o e in omega arith)

run_long : (setup : Setup) (first : State) (commands : List Command) (outcomes : List Outcome) → Run setup first commands outcomes
    → length outcomes ≡ length commands
run_long setup first [] [] run = refl
run_long setup first [] (o ∷ os) run = absurd run
run_long setup first (c ∷ cs) [] run = absurd run
run_long setup first (c ∷ cs) (o ∷ os) run = ap suc (run_long setup o.state cs os run.1)

got : {X : Type 0} (xs : List X) (i : ℕ) (d : X) → i < length xs → slice_get xs i ≡ Some (get_or xs i d)
got [] i d l = absurd (omega arith)
got (x ∷ xs) zero d l = refl
got (x ∷ xs) (suc i) d l = got xs i d (omega arith)

is_go : Command → Bool
is_go C.ThreadsGo = true
is_go other = false

go_is : (c : Command) → is_go c ≡ true → c ≡ C.ThreadsGo
unfolding is_go
go_is C.ThreadsGo e = refl
go_is other e = absurd (true≢false (sym e))

-- the last start of threads before a position
record IsLastGo (commands : List Command) (i g : ℕ) : Type 0 where
  go : slice_get commands g ≡ Some C.ThreadsGo
  before : g < i
  last : (k : ℕ) → g < k → k < i → slice_get commands k ≡ Some C.ThreadsGo → ⊥

-- ---- a lawful run

module _ (law : StepKeepsValid) (setup : Setup) (commands : List Command) (outcomes : List Outcome) (history : List Entry) (end : Line)
    (r : IsReported setup commands outcomes history end) where
  abbrev At : ℕ → State
  At i = state_after outcomes i

  record IsFineAt (i : ℕ) : Type 0 where
    valid : IsValid setup (At i)
    counted : IsCounted i (At i)
    gone : ((At i).running ≡ []) ⊎ ((g : ℕ) × IsLastGo commands i g)

  few : length outcomes ≤ 1000000
  few = (let long = run_long setup empty_state commands outcomes r.lawful.run in let most = r.few in omega arith)

  good_at : (i : ℕ) (o : Outcome) → (s : IsStepAt setup empty_state commands outcomes i o) → i < length outcomes → IsFineAt i
      → IsGood i s.command (At i) o.lines o.state
  good_at i o s l fine_at =
      step_numbers setup r.limits i (let m = few in omega arith) (At i) o.state o.piece o.lines fine_at.counted (sound_from setup (At i) fine_at.valid)
      s.command (allowed_at (length setup.types) commands i s.command r.allowed s.given) s.step

  -- the threads that run were told to go
  gone_same : (i : ℕ) (o : Outcome) (s : IsStepAt setup empty_state commands outcomes i o) → is_go s.command ≡ false → (g : ℕ) → IsLastGo commands i g
      → IsLastGo commands (suc i) g
  unfolding is_go
  gone_same i o s other g last = record {
    go = last.go;
    before = (let l = last.before in omega arith);
    last = λ k above below e. elim (cases_lt k i) [
      | inl under ↦ last.last k above under e
      | inr at ↦
          (let here : k ≡ i = omega arith in
          let same : Some s.command ≡ Some C.ThreadsGo = sym s.given ∙ subst (λ j. slice_get commands j ≡ Some C.ThreadsGo) here e in
          let is : s.command ≡ C.ThreadsGo = cc in
          true≢false (sym (ap is_go is) ∙ other))
    ];
  }

  gone_go : (i : ℕ) (o : Outcome) (s : IsStepAt setup empty_state commands outcomes i o) → s.command ≡ C.ThreadsGo → IsLastGo commands (suc i) i
  gone_go i o s go = record { go = s.given ∙ ap Some go; before = omega arith; last = λ k above below e. omega arith }

  gone_after : (i : ℕ) (o : Outcome) (s : IsStepAt setup empty_state commands outcomes i o) → RunsOn s.command (At i) o.state
      → ((At i).running ≡ []) ⊎ ((g : ℕ) × IsLastGo commands i g) → (o.state.running ≡ []) ⊎ ((g : ℕ) × IsLastGo commands (suc i) g)
  gone_after i o s runs gone =
      elim (cases_Bool (is_go s.command)) [
        | inl go ↦ inr (i, gone_go i o s (go_is s.command go))
        | inr other ↦ elim runs [
          | inl go ↦ inr (i, gone_go i o s go)
          | inr after ↦ elim after [
            | inl same ↦ elim gone [ inl none ↦ inl (same ∙ none) | inr some ↦ inr (some.0, gone_same i o s other some.0 some.1) ]
            | inr none ↦ inl none
          ]
        ]
      ]

  fine_from : (i : ℕ) → i ≤ length outcomes → IsFineAt i
  fine_from zero l = record { valid = empty_is_valid setup; counted = empty_few; gone = inl refl }
  fine_from (suc i) l =
      let before : IsFineAt i = fine_from i (omega arith) in
      let o = outcome_at outcomes i (omega arith) in
      let s : IsStepAt setup empty_state commands outcomes i o.0 = step_at setup empty_state commands outcomes r.lawful.run i o.0 o.1 in
      let good : IsGood i s.command (At i) o.0.lines o.0.state = good_at i o.0 s (omega arith) before in
      let more : i + 1 ≡ suc i = omega arith in
      record {
        valid = subst (IsValid setup) (sym s.next)
            (law setup (At i) o.0.state s.command o.0.piece o.0.lines r.limits.some
            (allowed_at (length setup.types) commands i s.command r.allowed s.given) before.valid s.step);
        counted = subst (IsCounted (suc i)) (sym s.next) (subst (λ n. IsCounted n o.0.state) more good.few);
        gone = subst (λ (t : State). (t.running ≡ []) ⊎ ((g : ℕ) × IsLastGo commands (suc i) g)) (sym s.next) (gone_after i o.0 s good.runs before.gone);
      }

  -- ---- totals that were told

  told_small : (k j : ℕ) (told : Line) → k ≤ length outcomes → Small j → TellsTotals (At k) j told → IsOf64Bits told
  told_small k j told l small tells =
      let at : IsFineAt k = fine_from k l in
      let sound : IsSound setup (At k) = sound_from setup (At k) at.valid in
      let most = few in
      let nodes = at.counted.nodes_few in
      subst IsOf64Bits (sym tells)
      (All-cons Small j ((At k).ordinal ∷ objects_of (At k).nodes ∷ used_of (At k).nodes ∷ (At k).finalised ∷ []) small
      (small_four (At k).ordinal (objects_of (At k).nodes) (used_of (At k).nodes) (At k).finalised
      (let c = at.counted.commands_few in omega arith)
      (let c = count_by-le-length (λ (n : Node). is_there n.life) (At k).nodes in omega arith)
      (let c = used_within setup r.limits (At k).nodes sound.heap in omega arith)
      (let c = at.counted.finalised_few in omega arith)))

  some_gone : (i j : ℕ) → Contains (At i).running j → ((At i).running ≡ []) ⊎ ((g : ℕ) × IsLastGo commands i g) → (g : ℕ) × IsLastGo commands i g
  some_gone i j c gone = elim gone [
    | inl none ↦ absurd (let l = (subst (λ threads. Contains threads j) none c).1 in omega arith)
    | inr some ↦ some
  ]

  total_small : (i : ℕ) (o : Outcome) → slice_get outcomes i ≡ Some o → (s : IsStepAt setup empty_state commands outcomes i o) → s.command ≡ C.ThreadsJoin
      → IsFineAt i → (line : Line) → Contains o.lines line → TellsTotalsTo (At i).running line → IsOf64Bits line
  total_small i o e s join at (L.ReplyTotals j a n u f) c tells =
      let go = some_gone i j tells.0 at.gone in
      let joined : AreJoined commands go.0 i =
      record { go = go.1.go; join = s.given ∙ ap Some join; before = go.1.before; last = go.1.last } in
      let published = (r.lawful.published go.0 i o joined e).0 j a n u f c in
      told_small published.0 j (L.ReplyTotals j a n u f) (let l = below_get outcomes i o e in let m = published.2 in omega arith) tells.1 published.3
  total_small i o e s join at other c tells = absurd tells

  lines_at : (i : ℕ) (o : Outcome) → slice_get outcomes i ≡ Some o → All IsOf64Bits o.lines
  lines_at i o e =
      let l : i < length outcomes = below_get outcomes i o e in
      let at : IsFineAt i = fine_from i (omega arith) in
      let s : IsStepAt setup empty_state commands outcomes i o = step_at setup empty_state commands outcomes r.lawful.run i o e in
      let good : IsGood i s.command (At i) o.lines o.state = good_at i o s l at in
      elim good.numbers [
        | inl all ↦ all
        | inr join ↦ (λ n d low. elim (join.1 n d low) [
          | inl small ↦ small
          | inr tells ↦ total_small i o e s join.0 at (get_or o.lines n d) (Contains-get_or o.lines n d low) tells
        ])
      ]

  last_small : IsOf64Bits end
  last_small =
      let at : IsFineAt (length outcomes) = fine_from (length outcomes) (omega arith) in
      let last : At (length outcomes) ≡ last_state empty_state outcomes = ap (last_state empty_state) (take_all (length outcomes) outcomes (omega arith)) in
      let valid : IsValid setup (last_state empty_state outcomes) = subst (IsValid setup) last at.valid in
      let nodes : length (last_state empty_state outcomes).nodes ≤ length outcomes =
      subst (λ (t : State). length t.nodes ≤ length outcomes) last at.counted.nodes_few in
      subst IsOf64Bits (sym r.ended.2)
      (totals_small setup r.limits (last_state empty_state outcomes).nodes (sound_from setup (last_state empty_state outcomes) valid).heap r.ended.0
      (let m = few in omega arith) r.ended.1)

  have_numbers : HaveNumbers outcomes end
  have_numbers = record {
    lines = All-map (λ ls. All IsOf64Bits ls) (λ (o : Outcome). o.lines) outcomes (λ i d l. lines_at i (get_or outcomes i d) (got outcomes i d l));
    last = last_small;
  }

pub lines_have_numbers : StepKeepsValid → LinesHaveNumbers
lines_have_numbers law setup commands outcomes history end r = have_numbers law setup commands outcomes history end r

-- ---- the report

types_small : {T : Type 0} (t : ℕ) (types : List T) → t + length types ≤ 16383 → All IsOf64Bits (type_lines t types)
types_small t [] few = All-nil IsOf64Bits
types_small t (type ∷ types) few =
    All-cons IsOf64Bits (L.TypeLine t) (type_lines (t + 1) types) (small_one t (omega arith)) (types_small (t + 1) types (omega arith))

pub run_reads_back : StepKeepsValid → (T : Type 0) → RunReadsBack T
run_reads_back law T setup types commands outcomes history end few r =
    let have : HaveNumbers outcomes end = lines_have_numbers law setup commands outcomes history end r in
    report_reads_back T types (lines_of_outcomes outcomes) end (types_small 0 types (omega arith))
    (all_flat IsOf64Bits (λ lines. lines) (lines_of_outcomes outcomes) have.lines) have.last
