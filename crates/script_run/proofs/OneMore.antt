-- Runs of one command more: lists with one element more, and what they hold.
use Rattle.std.proofs.Common.{◌≡◌, ℕ, zero, suc, ◌<◌, ◌≤◌, List, [], ◌∷◌, ◌++◌, length, Some, refl, sym, ap, ◌∙◌, inl, inr, arith}
use Rattle.std.specs.Prelude.{◌⊎◌, slice_get}
use Rattle.std.proofs.lemmas.List.{append-nil, take-append-le, take_all}
use Rattle.std.proofs.lemmas.Option.{slice_get_within}
use Rattle.std.proofs.lemmas.Grind.{flat_map-append}
use Rattle.gc_graph.specs.declared.command.Command.{Command}
use Rattle.gc_graph.specs.declared.region.Entry.{Entry}
use Rattle.gc_graph.specs.State.{Setup, State, empty_state}
use Rattle.gc_graph.specs.Step.{Step}
use Rattle.gc_graph.specs.Lawful.{Outcome, Run, history_of, last_state, state_after}

-- ---- one element more

module _ {X : Type 0} where
  pub get_front : (xs : List X) (x : X) (i : ℕ) → i < length xs → slice_get (xs ++ x ∷ []) i ≡ slice_get xs i
  get_front [] x i low = absurd (omega arith)
  get_front (y ∷ xs) x zero low = refl
  get_front (y ∷ xs) x (suc i) low = get_front xs x i (omega arith)

  pub get_last : (xs : List X) (x : X) (i : ℕ) → i ≡ length xs → slice_get (xs ++ x ∷ []) i ≡ Some x
  get_last [] x zero is = refl
  get_last [] x (suc i) is = absurd (omega arith)
  get_last (y ∷ xs) x zero is = absurd (omega arith)
  get_last (y ∷ xs) x (suc i) is = get_last xs x i (omega arith)

  pub get_more : (xs : List X) (x : X) (i : ℕ) (y : X) → slice_get xs i ≡ Some y → slice_get (xs ++ x ∷ []) i ≡ Some y
  get_more xs x i y at = get_front xs x i (slice_get_within xs i y at) ∙ at

  -- what is found stands among the first, or is the last
  pub found_in : (xs : List X) (x : X) (i : ℕ) (y : X) → slice_get (xs ++ x ∷ []) i ≡ Some y
      → (slice_get xs i ≡ Some y) ⊎ ((i ≡ length xs) × (x ≡ y))
  found_in [] x zero y at = inr (refl, let same : x ≡ y = cc in same)
  found_in [] x (suc i) y at = absurd (let never : ⊥ = cc in never)
  found_in (z ∷ xs) x zero y at = inl at
  found_in (z ∷ xs) x (suc i) y at = elim (found_in xs x i y at) [ inl front ↦ inl front | inr last ↦ inr (let next : suc i ≡ suc (length xs) = omega (arith, last.0) in next, last.1) ]

-- ---- one outcome more

abbrev pub StepTo : Setup → State → Command → Outcome → Type 0
StepTo setup old command outcome = Step setup old command outcome.piece outcome.lines outcome.state

pub run_more : (setup : Setup) (old : State) (commands : List Command) (outcomes : List Outcome) (command : Command) (outcome : Outcome)
    → Run setup old commands outcomes → StepTo setup (last_state old outcomes) command outcome
    → Run setup old (commands ++ command ∷ []) (outcomes ++ outcome ∷ [])
run_more setup old [] [] command outcome r s = (s, tt)
run_more setup old [] (o ∷ os) command outcome r s = absurd r
run_more setup old (k ∷ ks) [] command outcome r s = absurd r
run_more setup old (k ∷ ks) (o ∷ os) command outcome r s = (r.0, run_more setup o.state ks os command outcome r.1 s)

pub run_length : (setup : Setup) (old : State) (commands : List Command) (outcomes : List Outcome) → Run setup old commands outcomes → length commands ≡ length outcomes
run_length setup old [] [] r = refl
run_length setup old [] (o ∷ os) r = absurd r
run_length setup old (k ∷ ks) [] r = absurd r
run_length setup old (k ∷ ks) (o ∷ os) r = omega (arith, run_length setup o.state ks os r.1)

pub last_more : (old : State) (outcomes : List Outcome) (outcome : Outcome) → last_state old (outcomes ++ outcome ∷ []) ≡ outcome.state
last_more old [] outcome = refl
last_more old (o ∷ os) outcome = last_more o.state os outcome

pub history_more : (outcomes : List Outcome) (outcome : Outcome) → history_of (outcomes ++ outcome ∷ []) ≡ history_of outcomes ++ outcome.piece
history_more outcomes outcome =
    flat_map-append (λ (o : Outcome). o.piece) outcomes (outcome ∷ [])
    ∙ ap (λ (h : List Entry). history_of outcomes ++ h) (append-nil outcome.piece)

-- the states after the first commands stay
pub state_stays : (outcomes : List Outcome) (outcome : Outcome) (k : ℕ) → k ≤ length outcomes → state_after outcomes k ≡ state_after (outcomes ++ outcome ∷ []) k
state_stays outcomes outcome k low = ap (λ (os : List Outcome). last_state empty_state os) (sym (take-append-le k outcomes (outcome ∷ []) low))

pub state_at_last : (outcomes : List Outcome) (outcome : Outcome) (k : ℕ) → k ≡ length outcomes → last_state empty_state outcomes ≡ state_after (outcomes ++ outcome ∷ []) k
state_at_last outcomes outcome k is =
    let low : k ≤ length outcomes = omega arith in
    ap (λ (os : List Outcome). last_state empty_state os) (sym (take_all k outcomes (omega arith))) ∙ state_stays outcomes outcome k low
