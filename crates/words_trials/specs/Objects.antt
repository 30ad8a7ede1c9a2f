-- The objects of the trials, and their type.
use Rattle.std.specs.Prelude.{ℕ, ◌+◌, true, false, [], ◌∷◌}
use Rattle.gc_graph.specs.State.{ObjectType}
use Rattle.gc_graph.specs.declared.kind.Kind.TheVariants.{Strong}
use Rattle.object_headers.specs.Layout.{header_word}
use Rattle.marker_core.specs.declared.states.Body.{Body}
use Rattle.page_words.specs.Seat.{Heap, SeatView, empty_view, filled_with, published}

-- an object without fields, at 0
abbrev pub object : Body
object = record { place = 0; ty = 0; size = 2; serial = 7; fields = [] }

-- the type with one strong field
abbrev pub strong_type : ObjectType
strong_type = record { kinds = Strong ∷ []; prefinalizers = []; weak_callbacks = [] }

-- an object of this type at a place, as it is published
abbrev pub holder_at : ℕ → Body
holder_at place = record { place = place; ty = 0; size = 3; serial = place + 7; fields = 0 ∷ [] }

-- its three words are filled at a place
abbrev pub filled_at : SeatView → ℕ → SeatView
filled_at v place = filled_with (filled_with (filled_with v place (header_word true false false 0 3)) (place + 1) (place + 7)) (place + 2) 0

-- it is published there
abbrev pub laid_at : SeatView → ℕ → SeatView
laid_at v place = published (filled_at v place) (holder_at place)

-- a heap with such objects at 0 and at 3
abbrev pub two_objects : Heap → SeatView
two_objects heap = laid_at (laid_at (empty_view heap (strong_type ∷ [])) 0) 3
