-- Commands are counted one by one, so the totals that a join tells are of the state that their number of commands names.
use Rattle.std.proofs.Common.{◌≡◌, ℕ, zero, suc, ◌+◌, ◌<◌, ◌≤◌, true, true≢false, List, [], ◌∷◌, length, filter, get_or, take, Option, Some, None, refl, sym, ap, ◌∙◌, subst, inl, inr, arith}
use mathlib.Core.Logic.{◌⊎◌}
use Rattle.std.specs.List.{AllPairs, Contains, slice_get}
use Rattle.std.proofs.lemmas.Bool.{cases_eq, eqb-true}
use Rattle.std.proofs.lemmas.List.Elements.{filter_passes}
use Rattle.std.proofs.lemmas.List.Kept.{AllPairs-filter}
use Rattle.std.proofs.lemmas.Option.{slice_get_within, slice_get-get_or}
use Rattle.gc_graph.specs.declared.command.Command.{Command}
use Rattle.gc_graph.specs.declared.command.Command.TheVariants as C
use Rattle.gc_graph.specs.declared.line.Line.{Line}
use Rattle.gc_graph.specs.declared.line.Line.TheVariants as L
use Rattle.gc_graph.specs.declared.region.Entry.{Entry}
use Rattle.gc_graph.specs.State.{Setup, State, empty_state}
use Rattle.gc_graph.specs.Step.{Step}
use Rattle.gc_graph.specs.Lawful.{Outcome, Run, last_state, AreJoined, TotalsWerePublished, TotalsNeverFall}
use Rattle.gc_graph.specs.TotalsLaw.{RunsCountCommands, tells_totals_to, commands_told, AreOfTheirTime, JoinsTellTheirTime}
use Rattle.gc_graph.specs.Commands.{family_of}
use Rattle.gc_graph.proofs.FamilyFrames.{steps_stay_in_their_family}
use Rattle.gc_graph.proofs.FamilyRests.{counted_one}

-- ---- each command is counted

counts_one : (setup : Setup) (old new : State) (command : Command) (piece : List Entry) (lines : List Line) → Step setup old command piece lines new
    → new.ordinal ≡ old.ordinal + 1
counts_one setup old new command piece lines h =
    counted_one (family_of command) old piece lines new (steps_stay_in_their_family setup old command piece lines new h)

counted_from : (setup : Setup) (first : State) (commands : List Command) (outcomes : List Outcome) (k : ℕ) → Run setup first commands outcomes
    → k ≤ length outcomes → (last_state first (take k outcomes)).ordinal ≡ first.ordinal + k
counted_from setup first commands outcomes zero run low = omega arith
counted_from setup first commands [] (suc k) run low = absurd (omega (arith, low))
counted_from setup first [] (o ∷ outcomes) (suc k) run low = absurd run
counted_from setup first (command ∷ commands) (o ∷ outcomes) (suc k) run low =
    let one : o.state.ordinal ≡ first.ordinal + 1 = counts_one setup first o.state command o.piece o.lines run.0 in
    counted_from setup o.state commands outcomes k run.1 (omega (arith, low)) ∙ omega (arith, one)

run_counts : (setup : Setup) (first : State) (commands : List Command) (outcomes : List Outcome) → Run setup first commands outcomes
    → (last_state first outcomes).ordinal ≡ first.ordinal + length commands
run_counts setup first [] [] run = omega arith
run_counts setup first (command ∷ commands) (o ∷ outcomes) run =
    let one : o.state.ordinal ≡ first.ordinal + 1 = counts_one setup first o.state command o.piece o.lines run.0 in
    run_counts setup o.state commands outcomes run.1 ∙ omega (arith, one)
run_counts setup first [] (o ∷ outcomes) run = absurd run
run_counts setup first (command ∷ commands) [] run = absurd run

pub runs_count_commands : RunsCountCommands
runs_count_commands setup commands outcomes run = run_counts setup empty_state commands outcomes run ∙ omega arith

-- ---- the last start before a join

starts_threads : (o : Option Command) → (o ≡ Some C.ThreadsGo) ⊎ (o ≡ Some C.ThreadsGo → ⊥)
starts_threads None = inr (λ e. cc)
starts_threads (Some C.ThreadsGo) = inl refl
starts_threads (Some command) = inr (λ e. cc)

-- from a start on, where none comes at n or later
last_start : (commands : List Command) (start join n : ℕ) → slice_get commands start ≡ Some C.ThreadsGo → slice_get commands join ≡ Some C.ThreadsJoin
    → start < n → n ≤ join → ((k : ℕ) → n ≤ k → k < join → slice_get commands k ≡ Some C.ThreadsGo → ⊥)
    → (last : ℕ) × (start ≤ last) × AreJoined commands last join
last_start commands start join zero go joins after within none = absurd (omega (arith, after))
last_start commands start join (suc m) go joins after within none = elim (starts_threads (slice_get commands m)) [
  | inl here ↦ (
    m,
    omega (arith, after),
    record { go = here; join = joins; before = omega (arith, within); last = λ k l h. none k (omega (arith, l)) h },
  )
  | inr not ↦ elim (cases_eq start m) [
    | inl same ↦ absurd (not (subst (λ k. slice_get commands k ≡ Some C.ThreadsGo) same go))
    | inr other ↦
        last_start commands start join m go joins (omega (arith, after, other)) (omega (arith, within))
        (λ k l h. elim (cases_eq m k) [
          | inl at ↦ (λ e. not (subst (λ x. slice_get commands x ≡ Some C.ThreadsGo) (sym at) e))
          | inr past ↦ none k (omega (arith, l, past)) h
        ])
  ]
]

-- ---- what the lines tell

abbrev told_objects : Line → ℕ
told_objects (L.ReplyTotals j o n u f) = n
told_objects other = 0

abbrev told_words : Line → ℕ
told_words (L.ReplyTotals j o n u f) = u
told_words other = 0

abbrev told_finalised : Line → ℕ
told_finalised (L.ReplyTotals j o n u f) = f
told_finalised other = 0

published_in_time : (setup : Setup) (commands : List Command) (outcomes : List Outcome) (lines : List Line) (start go join : ℕ)
    → Run setup empty_state commands outcomes → start ≤ go → join ≤ length outcomes → TotalsWerePublished outcomes go join lines
    → (j o n u f : ℕ) → Contains lines (L.ReplyTotals j o n u f) → AreOfTheirTime outcomes start join o n u f
published_in_time setup commands outcomes lines start go join run from within published j o n u f there =
    let w = published j o n u f there in
    let k : ℕ = w.0 in
    let early : go ≤ k = w.1 in
    let late : k ≤ join = w.2 in
    let s : State = last_state empty_state (take k outcomes) in
    let at : s.ordinal ≡ k = counted_from setup empty_state commands outcomes k run (omega (arith, late, within)) ∙ omega arith in
    let same : o ≡ k = ap commands_told w.3 ∙ at in
    subst (λ x. AreOfTheirTime outcomes start join x n u f) (sym same)
    (record { no_older = omega (arith, from, early); no_later = late; objects = ap told_objects w.3; words = ap told_words w.3; finalised = ap told_finalised w.3 })

-- the line tells thread j totals
abbrev Tells : ℕ → Line → Type 0
Tells j line = (o : ℕ) × (n : ℕ) × (u : ℕ) × (f : ℕ) × (line ≡ L.ReplyTotals j o n u f)

tells : (j : ℕ) (line : Line) → tells_totals_to j line ≡ true → Tells j line
tells j (L.ReplyTotals k o n u f) on = (o, n, u, f, ap (λ i. L.ReplyTotals i o n u f) (eqb-true k j on))
tells j other on = absurd (true≢false (sym on))

abbrev NoOlder : ℕ → Line → Line → Type 0
NoOlder j x y = tells_totals_to j x ≡ true → tells_totals_to j y ≡ true → commands_told x ≤ commands_told y

never_older : (j : ℕ) (lines : List Line) → TotalsNeverFall lines → AllPairs (NoOlder j) lines
never_older j lines never a b d before low first second =
    let x = tells j (get_or lines a d) first in
    let y = tells j (get_or lines b d) second in
    let l : x.0 ≤ y.0 =
    never a b j x.0 x.1 x.2 x.3 y.0 y.1 y.2 y.3 before (slice_get-get_or lines a d (omega (arith, before, low)) ∙ ap (λ e. Some e) x.4)
    (slice_get-get_or lines b d low ∙ ap (λ e. Some e) y.4) in
    let m : commands_told (get_or lines a d) ≡ x.0 = ap commands_told x.4 in
    let n : commands_told (get_or lines b d) ≡ y.0 = ap commands_told y.4 in
    omega (arith, l, m, n)

in_order : (j : ℕ) (lines : List Line) → TotalsNeverFall lines → (a b : ℕ) (d : Line) → a ≤ b → b < length (filter (tells_totals_to j) lines)
    → commands_told (get_or (filter (tells_totals_to j) lines) a d) ≤ commands_told (get_or (filter (tells_totals_to j) lines) b d)
in_order j lines never a b d le low = elim (cases_eq a b) [
  | inl same ↦ subst (λ c. commands_told (get_or (filter (tells_totals_to j) lines) a d) ≤ commands_told (get_or (filter (tells_totals_to j) lines) c d)) same (omega arith)
  | inr other ↦
      AllPairs-filter (NoOlder j) (tells_totals_to j) lines (never_older j lines never) a b d (omega (arith, le, other)) low
      (filter_passes (tells_totals_to j) lines a d (omega (arith, le, low))) (filter_passes (tells_totals_to j) lines b d low)
]

pub joins_tell_their_time : JoinsTellTheirTime
joins_tell_their_time setup commands outcomes history start join outcome lawful before go joins at =
    let w = last_start commands start join join go joins before (omega arith) (λ k l h e. absurd (omega (arith, l, h))) in
    let told = lawful.published w.0 join outcome w.2 at in
    let low : join < length outcomes = slice_get_within outcomes join outcome at in
    record {
      each = published_in_time setup commands outcomes outcome.lines start w.0 join lawful.run w.1 (omega (arith, low)) told.0;
      in_order = λ j a b d le l. in_order j outcome.lines told.1 a b d le l;
    }
