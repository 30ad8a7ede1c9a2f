-- Asking for the mask of each place in turn. What is asked may change with each call.
use Rattle.std.specs.Prelude.{◌≡◌, ℕ, List, [], ◌∷◌, Option}

-- it may be asked for each place, in whatever state its answers to the places before have left it
abbrev pub AsksInTurn : {F : Type 0} → (F → ℕ → Type 0) → (F → ℕ → Option ℕ → F → Type 0) → F → List ℕ → Type 0
AsksInTurn pre step mask [] = Unit {0}
AsksInTurn {F} pre step mask (place ∷ places) =
    pre mask place × ((answer : Option ℕ) (next : F) → step mask place answer next → AsksInTurn pre step next places)

-- the same, as a fact of its own
pub record MayBeAsked {F : Type 0} (pre : F → ℕ → Type 0) (step : F → ℕ → Option ℕ → F → Type 0) (mask : F) (places : List ℕ) : Type 0 where
  pub in_turn : AsksInTurn pre step mask places

-- it was asked for each place in turn, and gave these answers; the last one is what it is then
abbrev pub AnswersInTurn : {F : Type 0} → (F → ℕ → Option ℕ → F → Type 0) → F → List ℕ → List (Option ℕ) → F → Type 0
AnswersInTurn step mask [] [] last = last ≡ mask
AnswersInTurn {F} step mask (place ∷ places) (answer ∷ answers) last =
    (next : F) × step mask place answer next × AnswersInTurn step next places answers last
AnswersInTurn step mask [] (answer ∷ answers) last = ⊥
AnswersInTurn step mask (place ∷ places) [] last = ⊥
