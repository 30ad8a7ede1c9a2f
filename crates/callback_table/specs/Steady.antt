-- For callers of `prepare`: what may be asked for masks and answers, while something is known of it that it keeps.
use Rattle.std.specs.Prelude.{◌≡◌, ℕ, List, [], ◌∷◌, Option, All, map, refl}
use Rattle.std.proofs.Common.{◌∙◌, sym, ap, subst}
use Rattle.std.proofs.lemmas.List.Elements.{All-head, All-tail}
use Rattle.callback_table.specs.Asking.{AsksInTurn, MayBeAsked, AnswersInTurn}
use Rattle.callback_table.specs.WeakRegistry.{WeakRegistration, places_of, left_by, AreLeftByAnswers}

-- whatever it is asked, what was known of it stays
abbrev pub Keeps : {F : Type 0} → (F → ℕ → Option ℕ → F → Type 0) → (F → Type 0) → Type 0
Keeps {F} step known = (mask : F) (place : ℕ) (answer : Option ℕ) (next : F) → known mask → step mask place answer next → known next

module _ {F : Type 0} (pre : F → ℕ → Type 0) (step : F → ℕ → Option ℕ → F → Type 0) (known : F → Type 0) (is_fit : ℕ → Type 0) where
  asks_in_turn : ((mask : F) (place : ℕ) → known mask → is_fit place → pre mask place) → Keeps step known → (mask : F) (places : List ℕ)
      → known mask → All is_fit places → AsksInTurn pre step mask places
  asks_in_turn asks keeps mask [] k fit = tt
  asks_in_turn asks keeps mask (place ∷ places) k fit = (
    asks mask place k (All-head is_fit place places fit),
    λ answer next s. asks_in_turn asks keeps next places (keeps mask place answer next k s) (All-tail is_fit place places fit),
  )

  -- it may be asked for fit places while what is known of it lets it be asked for any of them
  pub may_be_asked : ((mask : F) (place : ℕ) → known mask → is_fit place → pre mask place) → Keeps step known → (mask : F) (places : List ℕ)
      → known mask → All is_fit places → MayBeAsked pre step mask places
  may_be_asked asks keeps mask places k fit = record { in_turn = asks_in_turn asks keeps mask places k fit }

module _ {F : Type 0} (step : F → ℕ → Option ℕ → F → Type 0) (known : F → Type 0) where
  known_in_turn : Keeps step known → (mask last : F) (places : List ℕ) (answers : List (Option ℕ)) → known mask
      → AnswersInTurn step mask places answers last → known last
  known_in_turn keeps mask last [] [] k a = subst known (sym a) k
  known_in_turn keeps mask last [] (answer ∷ answers) k a = absurd a
  known_in_turn keeps mask last (place ∷ places) [] k a = absurd a
  known_in_turn keeps mask last (place ∷ places) (answer ∷ answers) k a =
      known_in_turn keeps a.0 last places answers (keeps mask place answer a.0 k a.1) a.2

  -- what was known of it is known after the last answer
  pub stays_known : Keeps step known → (first last : F) (old new : List WeakRegistration) → known first
      → AreLeftByAnswers step first last old new → known last
  stays_known keeps first last old new k asked = known_in_turn keeps first last (places_of old) asked.answers k asked.in_turn

  answers_in_turn : (rule : ℕ → Option ℕ)
      → ((mask : F) (place : ℕ) (answer : Option ℕ) (next : F) → known mask → step mask place answer next → answer ≡ rule place) → Keeps step known
      → (mask last : F) (places : List ℕ) (answers : List (Option ℕ)) → known mask → AnswersInTurn step mask places answers last
      → answers ≡ map rule places
  answers_in_turn rule answers_so keeps mask last [] [] k a = refl
  answers_in_turn rule answers_so keeps mask last [] (answer ∷ answers) k a = absurd a
  answers_in_turn rule answers_so keeps mask last (place ∷ places) [] k a = absurd a
  answers_in_turn rule answers_so keeps mask last (place ∷ places) (answer ∷ answers) k a =
      ap (λ first. first ∷ answers) (answers_so mask place answer a.0 k a.1)
      ∙ ap (λ more. rule place ∷ more) (answers_in_turn rule answers_so keeps a.0 last places answers (keeps mask place answer a.0 k a.1) a.2)

  -- it answers by a rule while what is known of it makes it answer so
  pub left_by_rule : (rule : ℕ → Option ℕ)
      → ((mask : F) (place : ℕ) (answer : Option ℕ) (next : F) → known mask → step mask place answer next → answer ≡ rule place) → Keeps step known
      → (first last : F) (old new : List WeakRegistration) → known first → AreLeftByAnswers step first last old new
      → new ≡ left_by (map rule (places_of old)) old
  left_by_rule rule answers_so keeps first last old new k asked =
      asked.left
      ∙ ap (λ answers. left_by answers old) (answers_in_turn rule answers_so keeps first last (places_of old) asked.answers k asked.in_turn)
