-- What is marked lies in each closed test.
use Rattle.std.proofs.Common.{◌≡◌, ℕ, ◌+◌, true, List, sym, subst, inl, inr}
use mathlib.Core.Logic.{◌⊎◌}
use Rattle.std.specs.List.{Contains}
use Rattle.gc_graph.specs.State.{ObjectType}
use Rattle.marker_core.specs.declared.states.Body.{Body}
use Rattle.marker_core.specs.Bodies.{holds}
use Rattle.marker_core.specs.Closed.{IsClosedOver}
use Rattle.page_words.specs.Roles.{kind_lists}
use Rattle.page_words.specs.Seat.{SeatView}
use Rattle.pair_notes.specs.BodyGraph.{strong_offsets, pair_offsets, word_at}
use Rattle.pair_notes.specs.BodyLeads.{strong_within_closed, pair_within_closed}
use Rattle.pair_notes.specs.Marking.{GrowsWithin}

pub GrowsWithin-then : (types : List ObjectType) (a b c : SeatView) → b.bodies ≡ a.bodies → GrowsWithin types a b → GrowsWithin types b c
    → GrowsWithin types a c
GrowsWithin-then types a b c bodies x y test closed held p marked =
    y test (subst (λ bs. IsClosedOver (kind_lists types) bs test) (sym bodies) closed) (x test closed held) p marked

-- one more target of an object that was marked from the first
pub strong_within : (types : List ObjectType) (u v w : SeatView) (b : Body) (offset : ℕ) → Contains u.bodies b → holds u.marked b.place ≡ true
    → Contains (strong_offsets types b) offset → GrowsWithin types u v
    → ((p : ℕ) → holds w.marked p ≡ true → (holds v.marked p ≡ true) ⊎ (word_at b offset ≡ p + 1)) → GrowsWithin types u w
strong_within types u v w b offset there hand strong before only test closed held p marked =
    elim (only p marked) [
      | inl old ↦ before test closed held p old
      | inr is ↦ strong_within_closed types u.bodies test b offset p closed there (held b.place hand) strong is
    ]

-- the value of a pair of a marked object, whose key is marked
pub pair_within : (types : List ObjectType) (v w : SeatView) (b : Body) (offset k : ℕ) → Contains v.bodies b → holds v.marked b.place ≡ true
    → Contains (pair_offsets types b) offset → word_at b offset ≡ k + 1 → holds v.marked k ≡ true
    → ((p : ℕ) → holds w.marked p ≡ true → (holds v.marked p ≡ true) ⊎ (word_at b (offset + 1) ≡ p + 1)) → GrowsWithin types v w
pair_within types v w b offset k there hand pair key key_marked only test closed held p marked =
    elim (only p marked) [
      | inl old ↦ held p old
      | inr is ↦ pair_within_closed types v.bodies test b offset k p closed there (held b.place hand) pair key is (held k key_marked)
    ]
