-- Who has weak callbacks in a pause, and which of their words weak clearing is to set to null (`RegisterWeakCallback`,
-- `include/cppgc/visitor.h`).
use Rattle.std.specs.Prelude.{◌≡◌, ◌≢◌, ℕ, ◌<◌, ◌≤◌, ◌==◌, ◌&&◌, not, Bool, List, [], ◌∷◌, length, map, filter, All, Option, Some, None, slice_index_or, if◌then◌else◌}
use Rattle.std.specs.List.{range_with_len}
use Rattle.gc_graph.specs.Fields.{field_words}
use Rattle.gc_graph.specs.State.{ObjectType, Node, node_at, no_type, is_live}
use Rattle.callback_table.specs.WeakRegistry.{WeakRegistration, weakly_registered}
use Rattle.marker_core.specs.declared.states.Body.{Body}
use Rattle.marker_core.specs.Bodies.{IsPlace}
use Rattle.page_words.specs.Seat.{SeatView}
use Rattle.weak_clearing.specs.Dying.{dying_of, HasShownFields}
use Rattle.prefinalizer_effects.specs.Nodes.{place_of}

-- the weak callbacks of the node's type
abbrev pub weak_callbacks_of : List ObjectType → List Node → ℕ → List ℕ
weak_callbacks_of types nodes n = (slice_index_or types (node_at nodes n).object.ty no_type).weak_callbacks

-- whether the node lives and has weak callbacks
abbrev pub is_weak_holder : List ObjectType → List Node → ℕ → Bool
is_weak_holder types nodes n = is_live (node_at nodes n).life && not (length (weak_callbacks_of types nodes n) == 0)

-- the nodes that live and have weak callbacks, in the order of their numbers
abbrev pub weak_holders : List ObjectType → List Node → List ℕ
weak_holders types nodes = filter (is_weak_holder types nodes) (range_with_len 0 (length nodes))

-- the registration of the node's weak callbacks where it stands
abbrev pub registration_at : List ObjectType → List Node → ℕ → WeakRegistration
registration_at types nodes n = weakly_registered n (place_of nodes n) (weak_callbacks_of types nodes n)

-- a registration without the mask that it was given
abbrev pub without_mask : WeakRegistration → WeakRegistration
without_mask entry = record entry { mask = 0 }

-- just these nodes are registered, each once and in this order, whatever the masks
abbrev pub AreOfHolders : List ObjectType → List Node → List WeakRegistration → Type 0
AreOfHolders types nodes entries = map without_mask entries ≡ map (registration_at types nodes) (weak_holders types nodes)

-- each weak callback is one of so many, and all words of whoever has one are shown
pub record MayCallBack (callbacks : ℕ) (types : List ObjectType) : Type 0 where
  pub known : All (λ type. All (λ callback. callback < callbacks) type.weak_callbacks) types
  pub shown : All (λ type. type.weak_callbacks ≢ [] → field_words type.kinds ≤ 64) types

-- which of the words of the body at the place weak clearing is to set to null, where it is marked
abbrev pub dying_at : SeatView → List Body → ℕ → Option ℕ
dying_at v [] place = None
dying_at v (b ∷ bodies) place = if b.place == place then dying_of v b else dying_at v bodies place

-- a body is at the place, and all its words are shown
pub record IsShownAt (v : SeatView) (place : ℕ) : Type 0 where
  pub there : IsPlace v.bodies place
  pub shown : HasShownFields v place
