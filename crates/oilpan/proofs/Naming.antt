-- How far a search among names has come.
use Rattle.std.proofs.Common.{◌≡◌, ℕ, ◌+◌, ◌<◌, List, [], length, get_or, map, sym, ◌∙◌, arith, below_more}
use Rattle.std.proofs.lemmas.List.{get_or-map, length-map}
use Rattle.oilpan.specs.Named.{IsFirstNamed}

-- the names before the first k are others
abbrev pub AreOthers : List (List ℕ) → List ℕ → ℕ → Type 0
AreOthers names name k = (i : ℕ) → i < k → get_or names i [] ≡ name → ⊥

pub first_found : {X : Type 0} (f : X → List ℕ) (xs : List X) (name : List ℕ) (k : ℕ) (d : X) → k < length xs → f (get_or xs k d) ≡ name
    → AreOthers (map f xs) name k → IsFirstNamed (map f xs) name k
first_found f xs name k d low here others = record {
  there = omega (arith, length-map xs f);
  named = get_or-map f xs k d [] low ∙ here;
  first = others;
}

pub one_further : {X : Type 0} (f : X → List ℕ) (xs : List X) (name : List ℕ) (k : ℕ) (d : X) → k < length xs → (f (get_or xs k d) ≡ name → ⊥)
    → AreOthers (map f xs) name k → AreOthers (map f xs) name (k + 1)
one_further f xs name k d low other others = below_more _ _ others (λ e. other (sym (get_or-map f xs k d [] low) ∙ e))
