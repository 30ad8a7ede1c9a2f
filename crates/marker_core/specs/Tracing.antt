-- What marks, hands and noted pairs account for while marking goes on.
use Rattle.std.specs.Prelude.{◌≡◌, ◌⊎◌, ◌↔◌, ℕ, ◌+◌, ◌-◌, ◌<◌, ◌≤◌, true, false, List, Option, Some, Contains}
use Rattle.gc_graph.specs.declared.kind.Kind.{Kind}
use Rattle.object_headers.specs.Offsets.{first_field, reference_to}
use Rattle.marker_core.specs.declared.states.Body.{Body}
use Rattle.marker_core.specs.declared.states.Hand.{Hand}
use Rattle.marker_core.specs.declared.states.MarkerView.{MarkerView}
use Rattle.marker_core.specs.declared.states.Part.{Part}
use Rattle.marker_core.specs.declared.states.Part.TheVariants.{Read, Mark, Key, Value}
use Rattle.marker_core.specs.declared.states.Role.{Role}
use Rattle.marker_core.specs.declared.states.Role.TheVariants.{StrongWord, KeyWord}
use Rattle.marker_core.specs.Bodies.{is_traced_role, word_in, role_in, is_place, holds, place_named}
use Rattle.marker_core.specs.Closed.{IsClosedOver}
use Rattle.marker_core.specs.Hands.{role_at_hand}

-- a reference is null, or its target is marked or waits for its mark
abbrev pub IsCovered : (ℕ → ℕ) → Option ℕ → ℕ → Type 0
IsCovered marks pending w = (w ≡ 0) ⊎ ((0 < marks (place_named w)) ⊎ (pending ≡ Some (place_named w)))

-- the object at p is in a hand that isn't past the offset
abbrev pub IsInHand : (Hand → Type 0) → ℕ → ℕ → Type 0
IsInHand hand p offset = (h : Hand) × hand h × (h.place ≡ p) × (h.next ≤ offset)

-- each strong word of a traced body is covered, or still to be read
abbrev pub StrongAccounted : List (List Kind) → List Body → (ℕ → ℕ) → (ℕ → ℕ) → Option ℕ → (Hand → Type 0) → Type 0
StrongAccounted types bodies marks traces pending hand =
    (b : Body) (i : ℕ) → Contains bodies b → 0 < traces b.place → role_in types b i ≡ StrongWord
    → IsCovered marks pending (word_in b i) ⊎ IsInHand hand b.place (i + first_field)

-- each pair of a traced body has a null key or a covered value, or is noted, or is still to be read
abbrev pub PairsAccounted : List (List Kind) → List Body → (ℕ → ℕ) → (ℕ → ℕ) → Option ℕ → (Hand → Type 0) → (ℕ → ℕ → Type 0) → Type 0
PairsAccounted types bodies marks traces pending hand noted =
    (b : Body) (i : ℕ) → Contains bodies b → 0 < traces b.place → role_in types b i ≡ KeyWord
    → (word_in b i ≡ 0) ⊎ (IsCovered marks pending (word_in b (i + 1)) ⊎ (noted b.place (i + first_field) ⊎ IsInHand hand b.place (i + first_field)))

-- the object at p is a body that has a pair at the offset
pub record IsPairAt (types : List (List Kind)) (bodies : List Body) (p offset : ℕ) : Type 0 where
  pub body : Body
  pub there : Contains bodies body
  pub place : body.place ≡ p
  pub past_serial : first_field ≤ offset
  pub key : role_in types body (offset - first_field) ≡ KeyWord

-- what was noted are pairs of bodies
abbrev pub NotedArePairs : List (List Kind) → List Body → (ℕ → ℕ → Type 0) → Type 0
NotedArePairs types bodies noted = (p offset : ℕ) → noted p offset → IsPairAt types bodies p offset

-- the word of the hand's strong word or pair that is marked: the value of a pair
abbrev pub marking_word : Role → Body → ℕ → ℕ
marking_word KeyWord b i = word_in b (i + 1)
marking_word role b i = word_in b i

-- a hand's target was read in the word at hand, which still holds it, or is covered; its key is the pair's key, or that is null
-- or among what may be kept; where the key was seen marked, it is null or among what may be kept
abbrev pub PartFits : List Body → (ℕ → ℕ) → Option ℕ → List ℕ → Role → Body → ℕ → Part → Type 0
PartFits bodies marks pending may role b i Read = Unit {0}
PartFits bodies marks pending may role b i (Mark t) =
    (is_place bodies t ≡ true) × ((marking_word role b i ≡ reference_to t) ⊎ IsCovered marks pending (marking_word role b i))
PartFits bodies marks pending may role b i (Key k) =
    (is_place bodies k ≡ true) × (role ≡ KeyWord)
    × ((word_in b i ≡ reference_to k) ⊎ ((word_in b i ≡ 0) ⊎ (holds may (place_named (word_in b i)) ≡ true)))
PartFits bodies marks pending may role b i Value = (role ≡ KeyWord) × ((word_in b i ≡ 0) ⊎ (holds may (place_named (word_in b i)) ≡ true))

-- a hand holds a body, with its type, at one of its strong words or pairs
pub record HandFits (types : List (List Kind)) (bodies : List Body) (marks : ℕ → ℕ) (pending : Option ℕ) (may : List ℕ) (h : Hand) : Type 0 where
  pub body : Body
  pub there : Contains bodies body
  pub place : body.place ≡ h.place
  pub ty : body.ty ≡ h.ty
  pub past_serial : first_field ≤ h.next
  pub at_hand : is_traced_role (role_at_hand types h) ≡ true
  pub part : PartFits bodies marks pending may (role_at_hand types h) body (h.next - first_field) h.part

-- known places are bodies, and each hand fits one
pub record HandsAreBodies (types : List (List Kind)) (bodies : List Body) (marks : ℕ → ℕ) (pending : Option ℕ) (may : List ℕ) (hand : Hand → Type 0) (views : List MarkerView) : Type 0 where
  pub known : (v : MarkerView) (a : ℕ) → Contains views v → holds v.known a ≡ true → is_place bodies a ≡ true
  pub hands : (h : Hand) → hand h → HandFits types bodies marks pending may h

-- the target that was loaded into a hand
abbrev pub IsLoaded : Part → ℕ → Type 0
IsLoaded part t = part ≡ Mark t

-- what may be kept are bodies; it is closed and holds what is marked, in a hand, loaded, or waits for its mark; a member's
-- pair has its value in it where its key is null or in it; a pair of any other body is null or whole; what was seen is
-- marked, and what is done is traced
pub record MayIsClosed (types : List (List Kind)) (bodies : List Body) (marks traces : ℕ → ℕ) (pending : Option ℕ) (may seen : List ℕ) (hand : Hand → Type 0) (done : ℕ → Type 0) : Type 0 where
  pub are_places : (a : ℕ) → holds may a ≡ true → is_place bodies a ≡ true
  pub closed : IsClosedOver types bodies (holds may)
  pub marked_in : (a : ℕ) → 0 < marks a → holds may a ≡ true
  pub hands_in : (h : Hand) → hand h → holds may h.place ≡ true
  pub loaded_in : (h : Hand) (t : ℕ) → hand h → IsLoaded h.part t → holds may t ≡ true
  pub pending_in : (t : ℕ) → pending ≡ Some t → holds may t ≡ true
  pub values :
      (b : Body) (i : ℕ) → Contains bodies b → holds may b.place ≡ true → role_in types b i ≡ KeyWord → word_in b i ≡ 0
      → 0 < word_in b (i + 1) → holds may (place_named (word_in b (i + 1))) ≡ true
  pub others :
      (b : Body) (i : ℕ) → Contains bodies b → holds may b.place ≡ false → role_in types b i ≡ KeyWord
      → (word_in b i ≡ 0) ↔ (word_in b (i + 1) ≡ 0)
  pub seen_are_marked : (a : ℕ) → holds seen a ≡ true → 0 < marks a
  pub done_are_traced : (a : ℕ) → done a → 0 < traces a

-- what is traced is marked
abbrev pub TracedAreMarked : (ℕ → ℕ) → (ℕ → ℕ) → Type 0
TracedAreMarked marks traces = (a : ℕ) → traces a ≤ marks a

-- a place is marked by one view, once, and is a body's; what is dead is an unmarked body
pub record MarksCountedOnce (bodies : List Body) (marks : ℕ → ℕ) (dead : List ℕ) : Type 0 where
  pub once : (a : ℕ) → marks a ≤ 1
  pub are_bodies : (a : ℕ) → 0 < marks a → is_place bodies a ≡ true
  pub dead_are_unmarked : (a : ℕ) → holds dead a ≡ true → (is_place bodies a ≡ true) × (marks a ≡ 0)
