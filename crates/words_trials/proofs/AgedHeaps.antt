-- What is true of a heap in which the older objects are dead, and that it stays.
use Rattle.std.proofs.Common.{◌≡◌, ℕ, ◌+◌, ◌<◌, false, List, [], ◌∷◌, ◌++◌, map, sym, ap, ◌∙◌, subst, inl, inr, arith}
use Rattle.std.specs.List.{Contains}
use Rattle.std.proofs.lemmas.List.{map_push, append_assoc}
use Rattle.std.proofs.lemmas.List.Elements.{Contains-push_cases}
use Rattle.marker_core.specs.declared.states.Body.{Body}
use Rattle.page_words.specs.Seat.{SeatView, OnlyLooked}
use Rattle.page_space.specs.Space.{SpaceView, IsSpaceOf}
use Rattle.page_space.specs.Occupying.{Occupies, new_body}
use Rattle.words_trials.proofs.NoFields.{two_types}

abbrev pub IsAged : SpaceView → SeatView → List ℕ → List ℕ → ℕ → Type 0
IsAged space v dead young next =
    IsSpaceOf space v × (v.on ≡ false) × (v.marked ≡ []) × (v.traced ≡ []) × (v.dead ≡ dead)
    × (map (λ (b : Body). b.place) v.bodies ≡ dead ++ young) × (v.types ≡ two_types)
    × ((b : Body) → Contains v.bodies b → b.serial < next)

-- headers were looked at, and nothing of the objects has changed
pub aged_still : (space now : SpaceView) (v w : SeatView) (dead young : List ℕ) (next : ℕ) → OnlyLooked v w → IsSpaceOf now w → IsAged space v dead young next
    → IsAged now w dead young next
aged_still space now v w dead young next same laid aged =
    let there = subst (λ (u : SeatView). IsAged space u dead young next) (sym same) aged in
    (laid, there.1, there.2, there.3, there.4, there.5, there.6, there.7)

-- an object with the next number was made
pub aged_made : (space now : SpaceView) (v w : SeatView) (dead young : List ℕ) (next a size : ℕ) → Occupies v w (new_body a 1 size next) → IsSpaceOf now w
    → IsAged space v dead young next → IsAged now w dead (young ++ a ∷ []) (next + 1)
aged_made space now v w dead young next a size made laid aged =
    let b : Body = new_body a 1 size next in (
      laid,
      made.on ∙ aged.1,
      made.marked ∙ aged.2,
      made.traced ∙ aged.3,
      made.dead ∙ aged.4,
      ap (map (λ (c : Body). c.place)) made.bodies ∙ map_push (λ (c : Body). c.place) v.bodies b ∙ ap (λ l. l ++ a ∷ []) aged.5
          ∙ append_assoc dead young (a ∷ []),
      made.types ∙ aged.6,
      λ c there. elim (Contains-push_cases v.bodies b c (subst (λ bodies. Contains bodies c) made.bodies there)) [
        | inl old ↦ (let before = aged.7 c old in omega arith)
        | inr same ↦ omega (arith, ap (λ (d : Body). d.serial) same)
      ],
    )
