-- Numbers of nodes among those of a list.
use Rattle.std.proofs.Common.{◌≡◌, ℕ, Bool, true, List, ◌++◌, filter, sym, ◌∙◌, eqb}
use mathlib.Core.Logic.{◌⊎◌}
use Rattle.std.specs.List.{Contains, list_any}
use Rattle.std.proofs.lemmas.Bool.{or_cases, or_left, or_right}
use Rattle.std.proofs.lemmas.List.Folds.{list_any-append}
use Rattle.gc_graph.specs.Members.{has_passed, stays_in, holds_from, in_from_holds}

-- the node is among these
abbrev pub IsAmong : List ℕ → ℕ → Type 0
IsAmong roots n = list_any (λ r. eqb r n) roots ≡ true

pub among_cases : (xs ys : List ℕ) (n : ℕ) → IsAmong (xs ++ ys) n → IsAmong xs n ⊎ IsAmong ys n
among_cases xs ys n is = or_cases _ _ (sym (list_any-append (λ r. eqb r n) xs ys) ∙ is)

pub among_left : (xs ys : List ℕ) (n : ℕ) → IsAmong xs n → IsAmong (xs ++ ys) n
among_left xs ys n is = list_any-append (λ r. eqb r n) xs ys ∙ or_left _ _ is

pub among_right : (xs ys : List ℕ) (n : ℕ) → IsAmong ys n → IsAmong (xs ++ ys) n
among_right xs ys n is = list_any-append (λ r. eqb r n) xs ys ∙ or_right (list_any (λ r. eqb r n) xs) _ is

pub filter_holds : (p : ℕ → Bool) (xs : List ℕ) (n : ℕ) → Contains xs n → p n ≡ true → IsAmong (filter p xs) n
filter_holds p xs n c is = holds_from (filter p xs) n (stays_in p xs n c is)

pub filter_passes : (p : ℕ → Bool) (xs : List ℕ) (n : ℕ) → IsAmong (filter p xs) n → p n ≡ true
filter_passes p xs n h = has_passed p xs n (in_from_holds (filter p xs) n h)
