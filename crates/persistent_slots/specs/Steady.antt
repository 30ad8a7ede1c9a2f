-- For callers of `clear_dead`: what a test may be asked and answers, while something is known of it that it keeps.
use Rattle.std.specs.Prelude.{◌≡◌, ℕ, Bool, List, [], ◌∷◌, Option, Some, None, All}
use Rattle.std.proofs.lemmas.List.Elements.{All-head, All-tail}
use Rattle.persistent_slots.specs.Clearing.{taken, AsksInTurn, MayBeAsked, AnswersInTurn, AnswersBy}

-- whatever the test is asked, what was known of it stays
abbrev pub Keeps : {F : Type 0} → (F → ℕ → Bool → F → Type 0) → (F → Type 0) → Type 0
Keeps {F} step known = (test : F) (place : ℕ) (answer : Bool) (next : F) → known test → step test place answer next → known next

module _ {F : Type 0} (pre : F → ℕ → Type 0) (step : F → ℕ → Bool → F → Type 0) (known : F → Type 0) (is_fit : ℕ → Type 0) where
  asks_in_turn : ((test : F) (place : ℕ) → known test → is_fit place → pre test place) → Keeps step known
      → (test : F) (slots : List (Option ℕ)) → known test → All is_fit (taken slots) → AsksInTurn pre step test slots
  asks_in_turn asks keeps test [] k fit = tt
  asks_in_turn asks keeps test (None ∷ slots) k fit = asks_in_turn asks keeps test slots k fit
  asks_in_turn asks keeps test (Some place ∷ slots) k fit = (
    asks test place k (All-head is_fit place (taken slots) fit),
    λ answer next s. asks_in_turn asks keeps next slots (keeps test place answer next k s) (All-tail is_fit place (taken slots) fit),
  )

  -- a test may be asked of fit places while what is known of it lets it be asked of any of them
  pub may_be_asked : ((test : F) (place : ℕ) → known test → is_fit place → pre test place) → Keeps step known
      → (test : F) (slots : List (Option ℕ)) → known test → All is_fit (taken slots) → MayBeAsked pre step test slots
  may_be_asked asks keeps test slots k fit = record { in_turn = asks_in_turn asks keeps test slots k fit }

module _ {F : Type 0} (step : F → ℕ → Bool → F → Type 0) (known : F → Type 0) (rule : ℕ → Bool) where
  answers_in_turn : ((test : F) (place : ℕ) (answer : Bool) (next : F) → known test → step test place answer next → answer ≡ rule place)
      → Keeps step known → (test : F) (slots : List (Option ℕ)) → known test → AnswersInTurn step rule test slots
  answers_in_turn answers keeps test [] k = tt
  answers_in_turn answers keeps test (None ∷ slots) k = answers_in_turn answers keeps test slots k
  answers_in_turn answers keeps test (Some place ∷ slots) k =
      λ answer next s. (answers test place answer next k s, answers_in_turn answers keeps next slots (keeps test place answer next k s))

  -- a test answers by a rule while what is known of it makes it answer so
  pub answers_by : ((test : F) (place : ℕ) (answer : Bool) (next : F) → known test → step test place answer next → answer ≡ rule place)
      → Keeps step known → (test : F) (slots : List (Option ℕ)) → known test → AnswersBy step rule test slots
  answers_by answers keeps test slots k = record { in_turn = answers_in_turn answers keeps test slots k }
