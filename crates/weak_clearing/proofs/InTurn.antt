-- Slots cleared one after the other.
use Rattle.std.proofs.Common.{◌≡◌, ℕ, zero, suc, ◌+◌, ◌<◌, ◌≤◌, Bool, List, [], ◌∷◌, length, get_or, set, map, Option, Some, None, refl, ap, ◌∙◌, subst, arith}
use Rattle.std.specs.List.{All}
use Rattle.std.specs.Option.{ForSome}
use Rattle.std.proofs.lemmas.List.Elements.{All-head, All-tail}
use Rattle.std.proofs.lemmas.Option.{none-some}
use Rattle.gc_graph.specs.Pause.{clear_slot}
use Rattle.persistent_slots.specs.Clearing.{taken}

-- the first so many slots were cleared
abbrev pub clear_first : (ℕ → Bool) → ℕ → List (Option ℕ) → List (Option ℕ)
clear_first dead zero slots = slots
clear_first dead (suc n) [] = []
clear_first dead (suc n) (slot ∷ slots) = clear_slot dead slot ∷ clear_first dead n slots

pub first_many : (dead : ℕ → Bool) (n : ℕ) (slots : List (Option ℕ)) → length (clear_first dead n slots) ≡ length slots
first_many dead zero slots = refl
first_many dead (suc n) [] = refl
first_many dead (suc n) (slot ∷ slots) = ap suc (first_many dead n slots)

pub next_same : (dead : ℕ → Bool) (n : ℕ) (slots : List (Option ℕ)) → get_or (clear_first dead n slots) n None ≡ get_or slots n None
next_same dead zero slots = refl
next_same dead (suc n) [] = refl
next_same dead (suc n) (slot ∷ slots) = next_same dead n slots

one_more : (dead : ℕ → Bool) (n : ℕ) (slots : List (Option ℕ)) → n < length slots
    → set (clear_first dead n slots) n (clear_slot dead (get_or slots n None)) ≡ clear_first dead (suc n) slots
one_more dead n [] low = absurd (omega arith)
one_more dead zero (slot ∷ slots) low = refl
one_more dead (suc n) (slot ∷ slots) low = ap (λ more. clear_slot dead slot ∷ more) (one_more dead n slots (omega arith))

pub next_cleared : (dead : ℕ → Bool) (n : ℕ) (slots : List (Option ℕ)) → n < length slots
    → set (clear_first dead n slots) n (clear_slot dead (get_or (clear_first dead n slots) n None)) ≡ clear_first dead (n + 1) slots
next_cleared dead n slots low =
    let more : suc n ≡ n + 1 = omega arith in
    ap (λ slot. set (clear_first dead n slots) n (clear_slot dead slot)) (next_same dead n slots)
    ∙ one_more dead n slots low ∙ ap (λ k. clear_first dead k slots) more

pub all_cleared : (dead : ℕ → Bool) (n : ℕ) (slots : List (Option ℕ)) → length slots ≤ n → clear_first dead n slots ≡ map (clear_slot dead) slots
all_cleared dead zero [] past = refl
all_cleared dead zero (slot ∷ slots) past = absurd (omega arith)
all_cleared dead (suc n) [] past = refl
all_cleared dead (suc n) (slot ∷ slots) past = ap (λ more. clear_slot dead slot ∷ more) (all_cleared dead n slots (omega arith))

pub place_in_slot : (P : ℕ → Type 0) (slots : List (Option ℕ)) (n : ℕ) → All P (taken slots) → ForSome (get_or slots n None) P
place_in_slot P [] n fit p is = absurd (none-some p is)
place_in_slot P (None ∷ slots) zero fit p is = absurd (none-some p is)
place_in_slot P (Some place ∷ slots) zero fit p is =
    let same : place ≡ p = cc in
    subst P same (All-head P place (taken slots) fit)
place_in_slot P (None ∷ slots) (suc n) fit p is = place_in_slot P slots n fit p is
place_in_slot P (Some place ∷ slots) (suc n) fit p is = place_in_slot P slots n (All-tail P place (taken slots) fit) p is
