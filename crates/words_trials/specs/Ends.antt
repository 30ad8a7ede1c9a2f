-- A heap of one page, in which one object lies at the first word and the other one ends with the last.
use Rattle.std.specs.Prelude.{◌≡◌, ◌⊎◌, ℕ, Bool, true, List, [], ◌∷◌, None}
use Rattle.gc_graph.specs.State.{no_type}
use Rattle.marker_core.specs.declared.states.Body.{Body}
use Rattle.marker_core.specs.Bodies.{holds}
use Rattle.page_words.specs.Seat.{SeatView}
use Rattle.page_space.specs.Space.{SpaceView, IsSeatOf}

-- a header, a serial number and one word
abbrev pub end_body : ℕ → ℕ → ℕ → Body
end_body place serial word = record { place = place; ty = 1; size = 3; serial = serial; fields = word ∷ [] }

-- the two, whose words are these
abbrev pub end_bodies : ℕ → ℕ → List Body
end_bodies first last = end_body 0 7 first ∷ end_body 253 8 last ∷ []

-- it is the place of one of the two
abbrev pub IsEnd : ℕ → Type 0
IsEnd a = (a ≡ 0) ⊎ (a ≡ 253)

-- the two are all objects, with these words; what is marked is traced, nothing is in hand or waits for its mark, and while
-- marking goes on both may be kept
abbrev pub AreEnds : SpaceView → SeatView → Bool → ℕ → ℕ → Type 0
AreEnds space v on first last =
    IsSeatOf space v × (v.count ≡ 256) × (v.types ≡ no_type ∷ no_type ∷ []) × (v.on ≡ on) × (v.bodies ≡ end_bodies first last)
    × (v.traced ≡ v.marked) × (v.hand ≡ None) × (v.pending ≡ None) × (v.lent ≡ 0)
    × (on ≡ true → (holds v.may 0 ≡ true) × (holds v.may 253 ≡ true))
