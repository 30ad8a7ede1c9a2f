-- The words of strong fields and of pairs: they lie among the fields, are read as they are, and what they are to the hand.
use Rattle.std.proofs.Common.{◌≡◌, ℕ, ◌+◌, ◌-◌, ◌<◌, ◌≤◌, length, refl, sym, ap, ◌∙◌, subst, arith}
use Rattle.std.specs.List.{Contains}
use Rattle.std.proofs.lemmas.Bool.{eq-eqb}
use Rattle.gc_graph.specs.declared.kind.Kind.{Kind}
use Rattle.gc_graph.specs.declared.kind.Kind.TheVariants.{Strong, Pair}
use Rattle.gc_graph.specs.Fields.{words_of_kind}
use Rattle.page_words.specs.Types.{declared_kinds, offsets_of_kind}
use Rattle.page_words.specs.Body.{Body}
use Rattle.page_words.specs.Part.{Part}
use Rattle.page_words.specs.Part.TheVariants.{Read, Value}
use Rattle.page_words.specs.MachineBodies.{field_word_count, IsPlace}
use Rattle.page_words.specs.Hands.{part_found}
use Rattle.page_words.specs.BodyPlaces.{whole_body, same_body, no_place_within}
use Rattle.page_words.specs.Roles.{kinds_fit, word_count_is}
use Rattle.page_words.specs.Seat.{SeatView, IsView, TellsWordAt}
use Rattle.pair_notes.specs.BodyGraph.{HasStrong, BodyHasPair, strong_offsets, pair_offsets, word_at}
use Rattle.pair_notes.specs.InHand.{IsAt, IsAtTarget}
use Rattle.pair_notes.specs.BodyGraph.{BodyHasWord}
use Rattle.pair_notes.specs.BodyLeads.{role_of_offset}
use Rattle.pair_notes.specs.Fields.{field_at_offset, field_below}

-- all words of a field are there
pub field_there : (v : SeatView) (b : Body) (kind : Kind) (offset : ℕ) → IsView v → Contains v.bodies b
    → Contains (offsets_of_kind kind (declared_kinds v.types b.ty)) offset → (2 ≤ offset) × (offset + words_of_kind kind ≤ length b.fields + 2)
field_there v b kind offset view here there =
    let kinds = declared_kinds v.types b.ty in
    let field = field_at_offset kind kinds offset there in
    let whole = whole_body v view b here in
    let words = word_count_is kinds in
    let fit = ap field_word_count (kinds_fit v.types b.ty) in
    (omega (arith, field.2), omega (arith, field.2, field_below kind kinds field.0 field.1, whole.room, whole.fields, words, fit))

-- the address of a field word is one of the heap
pub word_below : (v : SeatView) (holder offset : ℕ) → IsView v → BodyHasWord v.bodies holder offset → holder + offset < v.count
word_below v holder offset view has =
    let whole = whole_body v view has.0 has.1 in
    omega (arith, has.2, has.3, has.4, whole.fields, whole.inside)

-- a field word is no header
pub word_is_no_place : (v : SeatView) (holder offset : ℕ) → IsView v → BodyHasWord v.bodies holder offset → IsPlace v.bodies (holder + offset) → ⊥
word_is_no_place v holder offset view has at =
    let b : Body = has.0 in
    let whole = whole_body v view b has.1 in
    no_place_within v b offset view has.1 (omega (arith, has.3)) (omega (arith, whole.fields, has.3, has.4))
    (subst (λ p. IsPlace v.bodies (p + offset)) (sym has.2) at)

-- a field word is read as it is
pub read_word : (v : SeatView) (holder offset w : ℕ) → IsView v → BodyHasWord v.bodies holder offset → TellsWordAt v (holder + offset) w → (b : Body)
    → Contains v.bodies b → b.place ≡ holder → w ≡ word_at b offset
read_word v holder offset w view has word b there at =
    let one : has.0 ≡ b = same_body v has.0 b view has.1 there (has.2 ∙ sym at) in
    word.field has.0 (offset - 2) has.1 has.4 (omega (arith, has.2, has.3)) ∙ ap (λ (x : Body). word_at x offset) one

-- the word of a strong field is one of its object's field words
pub strong_word_there : (v : SeatView) (holder offset : ℕ) → IsView v → HasStrong v.types v.bodies holder offset → BodyHasWord v.bodies holder offset
strong_word_there v holder offset view has =
    let there = field_there v has.0 Strong offset view has.1 has.3 in
    (has.0, has.1, has.2, there.0, omega (arith, there.0, there.1))

-- the key of a pair is one of its object's field words
pub key_there : (v : SeatView) (holder offset : ℕ) → IsView v → BodyHasPair v.types v.bodies holder offset → BodyHasWord v.bodies holder offset
key_there v holder offset view has =
    let there = field_there v has.0 Pair offset view has.1 has.3 in
    (has.0, has.1, has.2, there.0, omega (arith, there.0, there.1))

-- the value of a pair, the word after its key, is one of its object's field words
pub value_there : (v : SeatView) (holder offset : ℕ) → IsView v → BodyHasPair v.types v.bodies holder offset → BodyHasWord v.bodies holder (offset + 1)
value_there v holder offset view has =
    let there = field_there v has.0 Pair offset view has.1 has.3 in
    (has.0, has.1, has.2, omega (arith, there.0), omega (arith, there.0, there.1))

-- ---- in hand

-- an object in hand at a strong word has a strong field at that offset
pub strong_in_hand : (v : SeatView) (holder offset : ℕ) (part : Part) → IsAt strong_offsets v holder offset part → HasStrong v.types v.bodies holder offset
strong_in_hand v holder offset part at = (at.body, at.there, at.place_is, at.among)

-- an object in hand at a pair has a pair at that offset
pub pair_in_hand : (v : SeatView) (holder offset : ℕ) (part : Part) → IsAt pair_offsets v holder offset part → BodyHasPair v.types v.bodies holder offset
pair_in_hand v holder offset part at = (at.body, at.there, at.place_is, at.among)

-- a strong word's target is marked
pub at_strong : (v : SeatView) (holder offset : ℕ) → IsAt strong_offsets v holder offset Read → IsAtTarget v (holder + offset)
at_strong v holder offset at = record {
  hand = record { place = holder; ty = at.body.ty; next = offset; part = Read };
  is = at.hand;
  wants = eq-eqb (holder + offset) (holder + offset) refl;
  target = λ t. ap (λ role. part_found role Read t) (role_of_offset v.types at.body Strong offset at.among);
}

-- and so is a pair's value
pub at_value : (v : SeatView) (holder offset : ℕ) → IsAt pair_offsets v holder offset Value → IsAtTarget v (holder + (offset + 1))
at_value v holder offset at = record {
  hand = record { place = holder; ty = at.body.ty; next = offset; part = Value };
  is = at.hand;
  wants = (let same : holder + (offset + 1) ≡ holder + offset + 1 = omega arith in eq-eqb (holder + (offset + 1)) (holder + offset + 1) same);
  target = λ t. ap (λ role. part_found role Value t) (role_of_offset v.types at.body Pair offset at.among);
}
