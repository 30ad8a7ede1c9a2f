-- What is in a marker's hand while it traces an object.
use Rattle.std.specs.Prelude.{◌≡◌, ℕ, true, Option, Some}
use Rattle.type_table.specs.declared.traced.TracedWord.{TracedWord}
use Rattle.type_table.specs.declared.traced.TracedWord.TheVariants.{StrongAt, PairAt}
use Rattle.marker_core.specs.declared.states.Hand.{Hand}
use Rattle.marker_core.specs.declared.states.Part.{Part}
use Rattle.marker_core.specs.declared.states.Part.TheVariants.{Read, Mark}
use Rattle.marker_core.specs.declared.states.Role.{Role}
use Rattle.marker_core.specs.declared.states.Role.TheVariants.{StrongWord, KeyWord}
use Rattle.marker_core.specs.Hands.{hand_moved, part_found, role_at_hand, wants_word, each_hand}
use Rattle.page_words.specs.Roles.{kind_lists}
use Rattle.page_words.specs.Markers.{MarkerSeatView}

-- the hand, moved on to the next strong word or pair
abbrev pub marker_moved_on : MarkerSeatView → Option Hand
marker_moved_on v = each_hand (hand_moved (kind_lists v.types)) v.hand

-- the hand is this far with the word of that role at the offset of the object at the place
pub record MarkerIsAt (v : MarkerSeatView) (place offset : ℕ) (role : Role) (part : Part) : Type 0 where
  pub ty : ℕ
  pub is : v.hand ≡ Some (record { place = place; ty = ty; next = offset; part = part })
  pub role_is : role_at_hand (kind_lists v.types) (record { place = place; ty = ty; next = offset; part = part }) ≡ role

-- the hand is at this traced word of the object at the place, of which nothing is read yet
abbrev pub MarkerIsAtWord : MarkerSeatView → ℕ → TracedWord → Type 0
MarkerIsAtWord v place (StrongAt offset) = MarkerIsAt v place offset StrongWord Read
MarkerIsAtWord v place (PairAt offset) = MarkerIsAt v place offset KeyWord Read

-- the hand wants the word at a, whose target it marks
pub record MarkerIsAtTarget (v : MarkerSeatView) (a : ℕ) : Type 0 where
  pub hand : Hand
  pub is : v.hand ≡ Some hand
  pub wants : wants_word hand hand.part a ≡ true
  pub target : (t : ℕ) → part_found (role_at_hand (kind_lists v.types) hand) hand.part t ≡ Mark t
