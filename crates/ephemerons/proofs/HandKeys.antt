-- The key of the pair in hand.
use Rattle.std.proofs.Common.{◌≡◌, ℕ, ◌+◌, ◌++◌, true, cond, List, Option, Some, None, MatchOption, refl, sym, ap, ◌∙◌, subst}
use Rattle.std.specs.Prelude.{IfSome}
use Rattle.std.specs.List.{Contains}
use Rattle.std.proofs.lemmas.Bool.{cond-true, eq-eqb}
use Rattle.gc_graph.specs.declared.kind.Kind.TheVariants.{Pair}
use Rattle.gc_graph.specs.State.{ObjectType}
use Rattle.marker_core.specs.declared.states.Hand.{Hand}
use Rattle.marker_core.specs.declared.states.Part.{Part}
use Rattle.marker_core.specs.declared.states.Part.TheVariants.{Read, Key, Value}
use Rattle.marker_core.specs.declared.states.Why.TheVariants.{Trace}
use Rattle.marker_core.specs.Bodies.{IsPlace}
use Rattle.marker_core.specs.Hands.{part_found, hand_moved}
use Rattle.marker_core.specs.Layout.{has_mark}
use Rattle.page_words.specs.PlaceTests.{place_of_test}
use Rattle.page_words.specs.Roles.{kind_lists}
use Rattle.page_words.specs.Seat.{SeatView, IsView, loaded}
use Rattle.pair_notes.specs.BodyGraph.{pair_offsets}
use Rattle.pair_notes.specs.Marking.{heap_and_marks}
use Rattle.pair_notes.specs.InHand.{IsAt}
use Rattle.pair_notes.specs.BodyLeads.{role_of_offset}
use Rattle.ephemerons.specs.Traces.{noted_unless}
use Rattle.ephemerons.proofs.HandLoads.{read_marks, word_named, load_of_key, noted_by_word, noted_by_key}

-- the pair is in hand further on
pub further : (v u : SeatView) (holder offset : ℕ) (part next : Part) → heap_and_marks u ≡ heap_and_marks v → (at : IsAt pair_offsets v holder offset part)
    → u.hand ≡ Some (record { place = holder; ty = at.body.ty; next = offset; part = next }) → IsAt pair_offsets u holder offset next
further v u holder offset part next same at is = record {
  body = at.body;
  there = subst (λ bs. Contains bs at.body) (sym (ap (λ (x : SeatView). x.bodies) same)) at.there;
  place_is = at.place_is;
  among = subst (λ (ts : List ObjectType). Contains (pair_offsets ts at.body) offset) (sym (ap (λ (x : SeatView). x.types) same)) at.among;
  hand = is;
}

-- a key in hand is an object
pub key_place : (v : SeatView) (holder offset key : ℕ) → IsView v → v.on ≡ true → IsAt pair_offsets v holder offset (Key key) → IsPlace v.bodies key
key_place v holder offset key view on at = place_of_test v.bodies key (((view.marking on).hand _ at.hand).key key refl)

-- the key was read
pub key_read : (v u : SeatView) (holder offset w key : ℕ) → (at : IsAt pair_offsets v holder offset Read) → u ≡ loaded v (holder + offset) Trace w → w ≡ key + 1
    → IsAt pair_offsets u holder offset (Key key)
key_read v u holder offset w key at is names =
    let h : Hand = record { place = holder; ty = at.body.ty; next = offset; part = Read } in
    let finds : part_found _ Read key ≡ Key key = ap (λ role. part_found role Read key) (role_of_offset v.types at.body Pair offset at.among) in
    further v u holder offset Read (Key key) (read_marks v u (holder + offset) w is) at
    (ap (λ (x : SeatView). x.hand) is ∙ word_named v (holder + offset) w key h (Key key) at.hand refl finds names)

pub key_notes_none : (v u : SeatView) (holder offset w : ℕ) → IsAt pair_offsets v holder offset Read → u ≡ loaded v (holder + offset) Trace w → u.noted ≡ v.noted
key_notes_none v u holder offset w at is =
    ap (λ (x : SeatView). x.noted) is
    ∙ noted_by_word v (holder + offset) w (record { place = holder; ty = at.body.ty; next = offset; part = Read }) at.hand refl

-- where it isn't null
pub key_told : (v u : SeatView) (holder offset w : ℕ) (key : Option ℕ) → (at : IsAt pair_offsets v holder offset Read) → u ≡ loaded v (holder + offset) Trace w
    → MatchOption key (w ≡ 0) (λ k. w ≡ k + 1) → IfSome key (λ k. IsAt pair_offsets u holder offset (Key k))
key_told v u holder offset w None at is null = tt
key_told v u holder offset w (Some key) at is names = key_read v u holder offset w key at is names

-- its header was looked at
module _ (v u : SeatView) (holder offset key w : ℕ) (at : IsAt pair_offsets v holder offset (Key key)) (is : u ≡ loaded v key Trace w) where
  abbrev held : Hand
  held = record { place = holder; ty = at.body.ty; next = offset; part = Key key }

  key_looked : u.hand ≡ cond (has_mark w) (Some (record held { part = Value })) (hand_moved (kind_lists v.types) held)
  key_looked = ap (λ (x : SeatView). x.hand) is ∙ load_of_key v key w held at.hand (eq-eqb key key refl)

  pub key_noted : u.noted ≡ v.noted ++ noted_unless (has_mark w) holder offset
  key_noted = ap (λ (x : SeatView). x.noted) is ∙ noted_by_key v key w held at.hand (eq-eqb key key refl)

  -- and it is marked
  pub key_marked : has_mark w ≡ true → IsAt pair_offsets u holder offset Value
  key_marked mark =
      further v u holder offset (Key key) Value (read_marks v u key w is) at
      (key_looked ∙ cond-true (has_mark w) (Some (record held { part = Value })) (hand_moved (kind_lists v.types) held) mark)
