-- The registrations of weak callbacks with the places of their nodes.
use Rattle.std.specs.Prelude.{◌≡◌, ℕ, ◌<◌, ◌==◌, List, [], ◌∷◌, Option, Some, None, All, map, flat_map, if◌then◌else◌}
use Rattle.gc_graph.specs.State.{Node}
use Rattle.gc_graph.specs.WeakCalls.{WeakCall, weak_call}
use Rattle.callback_table.specs.Asking.{AnswersInTurn}
use Rattle.callback_table.specs.Bodies.{StandsAt}
use Rattle.callback_table.specs.declared.weak_registry.WeakRegistered.{WeakRegistered}

-- the weak callbacks of a node at a place, and the mask under which they are shown its words
pub record WeakRegistration : Type 0 where
  pub node : ℕ
  pub place : ℕ
  pub callbacks : List ℕ
  pub mask : ℕ

-- the registrations in the order in which they were made, and the node and the callback of each that was run last
pub record WeakRegistryView : Type 0 where
  pub entries : List WeakRegistration
  pub ran : List (ℕ × ℕ)

-- a stored registration, as the record that is read
abbrev pub weak_registration_of : WeakRegistered → WeakRegistration
weak_registration_of entry = record { node = entry.node; place = entry.place; callbacks = entry.callbacks.items; mask = entry.mask }

-- all of them, in their order
abbrev pub weak_registrations_of : List WeakRegistered → List WeakRegistration
weak_registrations_of entries = map weak_registration_of entries

-- callbacks registered for a node at a place, none of whose words is masked
abbrev pub weakly_registered : ℕ → ℕ → List ℕ → WeakRegistration
weakly_registered node place callbacks = record { node = node; place = place; callbacks = callbacks; mask = 0 }

-- the same registration at another place
abbrev pub weakly_placed_at : ℕ → WeakRegistration → WeakRegistration
weakly_placed_at place entry = record entry { place = place }

-- where the registrations say that their nodes stand
abbrev pub places_of : List WeakRegistration → List ℕ
places_of entries = map (λ entry. entry.place) entries

-- a registration whose answer is none goes, and the others keep the mask that was answered
abbrev pub left_by : List (Option ℕ) → List WeakRegistration → List WeakRegistration
left_by answers [] = []
left_by [] (entry ∷ entries) = []
left_by (None ∷ answers) (entry ∷ entries) = left_by answers entries
left_by (Some mask ∷ answers) (entry ∷ entries) = record entry { mask = mask } ∷ left_by answers entries

-- each registration's place was asked for its mask in turn, and these are left by the answers
pub record AreLeftByAnswers {F : Type 0} (step : F → ℕ → Option ℕ → F → Type 0) (first last : F) (old new : List WeakRegistration) : Type 0 where
  pub answers : List (Option ℕ)
  pub in_turn : AnswersInTurn step first (places_of old) answers last
  pub left : new ≡ left_by answers old

-- the calls of a registration in the order of its callbacks; none where no word is masked
abbrev pub calls_of : WeakRegistration → List WeakCall
calls_of entry = if entry.mask == 0 then [] else map (weak_call entry.node entry.mask) entry.callbacks

-- the calls of all registrations, in their order
abbrev pub calls_in_order : List WeakRegistration → List WeakCall
calls_in_order entries = flat_map calls_of entries

-- the node and the callback of a call
abbrev pub pair_called : WeakCall → ℕ × ℕ
pair_called c = (c.node, c.callback)

-- the node and the callback of each of these calls
abbrev pub pairs_called : List WeakRegistration → List (ℕ × ℕ)
pairs_called entries = map pair_called (calls_in_order entries)

-- the node stands at the place, and there are callbacks of these numbers
pub record IsWeaklyRegistered (nodes : List Node) (callbacks : ℕ) (entry : WeakRegistration) : Type 0 where
  pub stands : StandsAt nodes entry.place entry.node
  pub known : All (λ callback. callback < callbacks) entry.callbacks
