-- How an object in a hand is traced, word by word.
use Rattle.std.specs.Prelude.{ℕ, ◌+◌, ◌-◌, ◌==◌, nat_lt, Bool, false, List, [], ◌∷◌, if◌then◌else◌, Option, Some, None}
use Rattle.std.specs.Option.{option_map, option_and_then}
use Rattle.std.specs.List.{find}
use Rattle.gc_graph.specs.declared.kind.Kind.{Kind}
use Rattle.gc_graph.specs.declared.kind.Kind.TheVariants.{Strong, Pair}
use Rattle.object_headers.specs.Offsets.{first_field}
use Rattle.marker_core.specs.declared.states.Hand.{Hand}
use Rattle.marker_core.specs.declared.states.Part.{Part}
use Rattle.marker_core.specs.declared.states.Part.TheVariants.{Read, Mark, Key, Value}
use Rattle.marker_core.specs.declared.states.Role.{Role}
use Rattle.marker_core.specs.declared.states.Role.TheVariants.{KeyWord}
use Rattle.marker_core.specs.Layout.{has_mark, type_in}
use Rattle.marker_core.specs.Bodies.{role_at, kinds_of_type, place_named}

-- the offsets of the strong words and of the pairs, from the one at which the fields begin
abbrev pub traced_offsets : ℕ → List Kind → List ℕ
traced_offsets at [] = []
traced_offsets at (Strong ∷ kinds) = at ∷ traced_offsets (at + 1) kinds
traced_offsets at (Pair ∷ kinds) = at ∷ traced_offsets (at + 2) kinds
traced_offsets at (kind ∷ kinds) = traced_offsets (at + 1) kinds

-- a hand at the first strong word or pair past an offset; none where there is no further one
abbrev pub hand_past : List (List Kind) → ℕ → ℕ → ℕ → Option Hand
hand_past types place ty offset =
    option_map (λ next. record { place = place; ty = ty; next = next; part = Read })
    (find (λ next. nat_lt offset next) (traced_offsets first_field (kinds_of_type types ty)))

-- the hand of an object that was just claimed, whose type its header tells
abbrev pub hand_claimed : List (List Kind) → ℕ → ℕ → Option Hand
hand_claimed types place header = hand_past types place (type_in header) 1

-- the hand moves on to the next strong word or pair
abbrev pub hand_moved : List (List Kind) → Hand → Option Hand
hand_moved types h = hand_past types h.place h.ty h.next

-- what the word at hand is
abbrev pub role_at_hand : List (List Kind) → Hand → Role
role_at_hand types h = role_at (kinds_of_type types h.ty) (h.next - first_field)

-- what was read is a key, or else to be marked
abbrev pub part_found : Role → Part → ℕ → Part
part_found KeyWord Read t = Key t
part_found role part t = Mark t

-- the hand wants the word at a, of its object
abbrev pub wants_word : Hand → Part → ℕ → Bool
wants_word h Read a = a == h.place + h.next
wants_word h Value a = a == h.place + h.next + 1
wants_word h part a = false

-- the hand wants the header at a, of the key in it
abbrev pub wants_key : Part → ℕ → Bool
wants_key (Key k) a = a == k
wants_key part a = false

-- the hand wants the object at a to be marked
abbrev pub wants_mark : Part → ℕ → Bool
wants_mark (Mark t) a = a == t
wants_mark part a = false

-- ---- what the hand becomes

-- after it read w in the word that it wanted
abbrev pub hand_read : List (List Kind) → ℕ → Hand → Option Hand
hand_read types w h =
    if w == 0 then hand_moved types h else Some (record h { part = part_found (role_at_hand types h) h.part (place_named w) })

-- after it looked at the header of its key
abbrev pub hand_looked : List (List Kind) → ℕ → Hand → Option Hand
hand_looked types header h = if has_mark header then Some (record h { part = Value }) else hand_moved types h

-- after the object at a was marked
abbrev pub hand_after_mark : List (List Kind) → ℕ → Hand → Option Hand
hand_after_mark types a h = if wants_mark h.part a then hand_moved types h else Some h

-- ---- the same of a hand that may be empty

-- there is a hand, and it passes the test
abbrev pub wants : (Hand → Bool) → Option Hand → Bool
wants test None = false
wants test (Some h) = test h

-- the pair that is noted where the key's header has no mark
abbrev pub noted_pair : ℕ → Option Hand → List (ℕ × ℕ)
noted_pair header None = []
noted_pair header (Some h) = if has_mark header then [] else (h.place, h.next) ∷ []

-- the hand that a change makes of a hand, where there is one
abbrev pub each_hand : (Hand → Option Hand) → Option Hand → Option Hand
each_hand change hand = option_and_then change hand
