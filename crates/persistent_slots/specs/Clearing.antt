-- Clearing the slots whose place a test calls dead. The test is asked of each place in turn, and may change with each call.
use Rattle.std.specs.Prelude.{◌≡◌, ℕ, Bool, List, [], ◌∷◌, Option, Some, None, if◌then◌else◌}

-- the places that the slots hold, in their order
abbrev pub taken : List (Option ℕ) → List ℕ
taken [] = []
taken (None ∷ slots) = taken slots
taken (Some place ∷ slots) = place ∷ taken slots

-- the test may be asked of each place, in whatever state its answers to the places before have left it
abbrev pub AsksInTurn : {F : Type 0} → (F → ℕ → Type 0) → (F → ℕ → Bool → F → Type 0) → F → List (Option ℕ) → Type 0
AsksInTurn pre step test [] = Unit {0}
AsksInTurn pre step test (None ∷ slots) = AsksInTurn pre step test slots
AsksInTurn {F} pre step test (Some place ∷ slots) =
    pre test place × ((answer : Bool) (next : F) → step test place answer next → AsksInTurn pre step next slots)

-- the same, as a fact of its own
pub record MayBeAsked {F : Type 0} (pre : F → ℕ → Type 0) (step : F → ℕ → Bool → F → Type 0) (test : F) (slots : List (Option ℕ)) : Type 0 where
  pub in_turn : AsksInTurn pre step test slots

-- a slot is cleared where the test's answer is true, and stays where it is false; an empty slot stays, and isn't asked of
abbrev pub ClearsOne : {F : Type 0} → (F → ℕ → Bool → F → Type 0) → F → Option ℕ → Option ℕ → F → Type 0
ClearsOne step test None slot next = (slot ≡ None) × (next ≡ test)
ClearsOne step test (Some place) slot next =
    (answer : Bool) × step test place answer next × (slot ≡ (if answer then None else Some place))

-- each slot in turn is cleared by the test's own answer
abbrev pub ClearsInTurn : {F : Type 0} → (F → ℕ → Bool → F → Type 0) → F → List (Option ℕ) → List (Option ℕ) → Type 0
ClearsInTurn step test [] [] = Unit {0}
ClearsInTurn {F} step test (old ∷ olds) (new ∷ news) = (next : F) × ClearsOne step test old new next × ClearsInTurn step next olds news
ClearsInTurn step test [] (new ∷ news) = ⊥
ClearsInTurn step test (old ∷ olds) [] = ⊥

-- whatever the test answers in turn is what the rule says of the place
abbrev pub AnswersInTurn : {F : Type 0} → (F → ℕ → Bool → F → Type 0) → (ℕ → Bool) → F → List (Option ℕ) → Type 0
AnswersInTurn step rule test [] = Unit {0}
AnswersInTurn step rule test (None ∷ slots) = AnswersInTurn step rule test slots
AnswersInTurn {F} step rule test (Some place ∷ slots) =
    (answer : Bool) (next : F) → step test place answer next → (answer ≡ rule place) × AnswersInTurn step rule next slots

-- the same, as a fact of its own
pub record AnswersBy {F : Type 0} (step : F → ℕ → Bool → F → Type 0) (rule : ℕ → Bool) (test : F) (slots : List (Option ℕ)) : Type 0 where
  pub in_turn : AnswersInTurn step rule test slots
