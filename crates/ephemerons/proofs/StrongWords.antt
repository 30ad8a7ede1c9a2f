-- The strong fields of an object, one after another.
use Rattle.std.proofs.Common.{◌≡◌, ℕ, ◌<◌, List, length, get_or, drop, Some, sym, ap, ◌∙◌, subst, arith}
use Rattle.std.specs.List.{Contains}
use Rattle.std.proofs.lemmas.List.{get_or_append_left, length-append}
use Rattle.gc_graph.specs.declared.kind.Kind.{Kind}
use Rattle.gc_graph.specs.declared.kind.Kind.TheVariants.{Strong, Pair}
use Rattle.gc_graph.specs.State.{ObjectType}
use Rattle.type_table.specs.Types.{declared_kinds, offsets_of_kind}
use Rattle.mark_worklist.specs.declared.marking.Marking.{Marking}
use Rattle.marker_core.specs.declared.states.Body.{Body}
use Rattle.marker_core.specs.declared.states.Part.TheVariants.{Read}
use Rattle.page_words.specs.Seat.{SeatView, IsView}
use Rattle.pair_notes.specs.BodyGraph.{HasType, strong_offsets, pair_offsets}
use Rattle.pair_notes.specs.Marking.{GrowsWithin, HasStrongMarked, HasTargetMarked}
use Rattle.pair_notes.specs.InHand.{IsAt, BeginsWith, hand_over, traced_in}
use Rattle.ephemerons.specs.Fixpoint.{ListsMarks}
use Rattle.ephemerons.proofs.Graph.{GrowsWithin-then}
use Rattle.pair_notes.specs.HandPath.{hand_at_each}
use Rattle.page_words.specs.BodyPlaces.{same_body}
use Rattle.ephemerons.proofs.MarkSteps.{same_bodies}

-- u is the view at first, and v has the same objects, of the same types
module _ (u v : SeatView) (bodies : v.bodies ≡ u.bodies) (types : v.types ≡ u.types) (place ty : ℕ) (has : HasType u.bodies place ty) where
  -- a field of the object is one of those of its type
  among_fields : (kind : Kind) (offset : ℕ) → Contains (offsets_of_kind kind (declared_kinds u.types ty)) offset
      → Contains (offsets_of_kind kind (declared_kinds v.types has.0.ty)) offset
  among_fields kind offset there =
      subst (λ t. Contains (offsets_of_kind kind (declared_kinds v.types t)) offset) (sym has.3)
      (subst (λ (ts : List ObjectType). Contains (offsets_of_kind kind (declared_kinds ts ty)) offset) (sym types) there)

  -- the hand is at a strong field
  pub at_strong_field : (offset : ℕ) → Contains (offsets_of_kind Strong (declared_kinds u.types ty)) offset
      → v.hand ≡ Some (record { place = place; ty = ty; next = offset; part = Read }) → IsAt strong_offsets v place offset Read
  at_strong_field offset there is = record {
    body = has.0;
    there = subst (λ bs. Contains bs has.0) (sym bodies) has.1;
    place_is = has.2;
    among = among_fields Strong offset there;
    hand = is ∙ ap (λ t. Some (record { place = place; ty = t; next = offset; part = Read })) (sym has.3);
  }

  -- or at a pair
  pub at_pair_field : (offset : ℕ) → Contains (offsets_of_kind Pair (declared_kinds u.types ty)) offset
      → v.hand ≡ Some (record { place = place; ty = ty; next = offset; part = Read }) → IsAt pair_offsets v place offset Read
  at_pair_field offset there is = record {
    body = has.0;
    there = subst (λ bs. Contains bs has.0) (sym bodies) has.1;
    place_is = has.2;
    among = among_fields Pair offset there;
    hand = is ∙ ap (λ t. Some (record { place = place; ty = t; next = offset; part = Read })) (sym has.3);
  }

  -- where the first words that the hand comes to are strong fields
  pub at_next_strong : (offsets : List ℕ) (i : ℕ) → i < length offsets → BeginsWith (traced_in u.types ty) offsets
      → Contains (offsets_of_kind Strong (declared_kinds u.types ty)) (get_or offsets i 0) → v.hand ≡ hand_over place ty (drop i (traced_in u.types ty))
      → IsAt strong_offsets v place (get_or offsets i 0) Read
  at_next_strong offsets i low first there is =
      let all : List ℕ = traced_in u.types ty in
      let within : i < length all = omega (arith, ap length first.1, length-append offsets first.0) in
      let same : get_or all i 0 ≡ get_or offsets i 0 = ap (λ l. get_or l i 0) first.1 ∙ get_or_append_left offsets first.0 0 i low in
      at_strong_field (get_or offsets i 0) there
      (hand_at_each all v place ty i within is ∙ ap (λ o. Some (record { place = place; ty = ty; next = o; part = Read })) same)

-- what the strong fields of the object name is marked, where that is so of all offsets that the table tells for its type
pub all_named : (u w : SeatView) (place ty : ℕ) (told : List ℕ) → IsView u → HasType u.bodies place ty → told ≡ offsets_of_kind Strong (declared_kinds u.types ty)
    → w.bodies ≡ u.bodies → ((offset : ℕ) → Contains told offset → HasTargetMarked w place offset) → HasStrongMarked u.types w place
all_named u w place ty told view has is same named b offset q there at strong names =
    let first : Contains u.bodies b = subst (λ bs. Contains bs b) same there in
    let one : b ≡ has.0 = same_body u b has.0 view first has.1 (at ∙ sym has.2) in
    named offset
    (subst (λ l. Contains l offset)
    (ap (λ (x : Body). strong_offsets u.types x) one ∙ ap (λ t. offsets_of_kind Strong (declared_kinds u.types t)) has.3 ∙ sym is) strong) b q there at names

-- what is marked stays so
pub target_stays : (v w : SeatView) (m n : Marking) (place offset : ℕ) → ListsMarks v m w n → HasTargetMarked v place offset → HasTargetMarked w place offset
target_stays v w m n place offset x named b q there at names = x.marked q (named b q (subst (λ bs. Contains bs b) (same_bodies v w m n x) there) at names)

pub within_then : (types : List ObjectType) (u v w : SeatView) (l m : Marking) → v.types ≡ types → ListsMarks u l v m → GrowsWithin types u v
    → GrowsWithin v.types v w → GrowsWithin types u w
within_then types u v w l m known x before more =
    GrowsWithin-then types u v w (same_bodies u v l m x) before (subst (λ (ts : List ObjectType). GrowsWithin ts v w) known more)
