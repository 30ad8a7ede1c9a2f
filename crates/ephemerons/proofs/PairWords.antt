-- The words of a pair, as they are read once holder and key are marked.
use Rattle.std.proofs.Common.{◌≡◌, ℕ, ◌+◌, ◌<◌, Bool, true, false, List, length, get_or, sym, ap, ◌∙◌, subst, inl, inr, arith}
use Rattle.std.specs.List.{Contains}
use Rattle.std.proofs.lemmas.Bool.{true≢false}
use Rattle.std.proofs.lemmas.List.Elements.{Contains-get_or}
use Rattle.gc_graph.specs.declared.kind.Kind.TheVariants.{Pair}
use Rattle.gc_graph.specs.State.{ObjectType}
use Rattle.type_table.specs.Types.{declared_kinds, offsets_of_kind}
use Rattle.marker_core.specs.Bodies.{IsReference, holds}
use Rattle.marker_core.specs.declared.states.Body.{Body}
use Rattle.page_words.specs.Seat.{SeatView, IsView}
use Rattle.pair_notes.specs.BodyGraph.{AreReferences, HasType, BodyHasPair, pair_offsets, word_at}
use Rattle.pair_notes.specs.Notes.{note_of}
use Rattle.ephemerons.specs.Fixpoint.{NoteIsSettled}
use Rattle.pair_notes.specs.Fields.{field_at_offset}
use Rattle.pair_notes.specs.BodyLeads.{pair_within_closed}

pub key_reference : (types : List ObjectType) (bodies : List Body) (holder word key : ℕ) → AreReferences types bodies
    → (has : BodyHasPair types bodies holder word) → key ≡ word_at has.0 word → IsReference bodies key
key_reference types bodies holder word key refers has is = subst (IsReference bodies) (sym is) (refers.keys has.0 word has.1 has.3)

-- a reference to what is marked names a body
pub marked_key : (v : SeatView) (w : ℕ) (told : Bool) → IsReference v.bodies w → ((p : ℕ) → w ≡ p + 1 → told ≡ holds v.marked p)
    → (w ≡ 0 → told ≡ false) → told ≡ true → (k : ℕ) × (w ≡ k + 1) × (holds v.marked k ≡ true)
marked_key v w told reference named null so = elim reference [
  | inl none ↦ absurd (true≢false (sym so ∙ null none))
  | inr body ↦ (body.0.place, body.2, sym (named body.0.place body.2) ∙ so)
]

pub told_pair : (types : List ObjectType) (bodies : List Body) (place ty k : ℕ) (told : List ℕ) → HasType bodies place ty
    → told ≡ offsets_of_kind Pair (declared_kinds types ty) → k < length told → BodyHasPair types bodies place (get_or told k 0)
told_pair types bodies place ty k told has is low = (
  has.0,
  has.1,
  has.2,
  subst (λ l. Contains l (get_or told k 0)) (is ∙ ap (λ t. offsets_of_kind Pair (declared_kinds types t)) (sym has.3)) (Contains-get_or told k 0 low),
)

-- the value of a pair may be kept where holder and key are marked
pub value_may : (v : SeatView) (b : Body) (offset k q : ℕ) → IsView v → v.on ≡ true → Contains v.bodies b → Contains (pair_offsets v.types b) offset
    → holds v.marked b.place ≡ true → word_at b offset ≡ k + 1 → holds v.marked k ≡ true → word_at b (offset + 1) ≡ q + 1 → holds v.may q ≡ true
value_may v b offset k q view on there pair marked key key_marked value =
    let marking = view.marking on in
    pair_within_closed v.types v.bodies (holds v.may) b offset k q marking.closed there (marking.marked_in b.place marked) pair key value
    (marking.marked_in k key_marked)

-- a pair is settled where its value is marked whenever holder and key are
pub pair_settled : (types : List ObjectType) (v : SeatView) (holder word : ℕ) → BodyHasPair types v.bodies holder word
    → ((b : Body) (k w : ℕ) → Contains v.bodies b → b.place ≡ holder → word_at b word ≡ k + 1 → word_at b (word + 1) ≡ w + 1 → holds v.marked holder ≡ true
    → holds v.marked k ≡ true → holds v.marked w ≡ true) → NoteIsSettled types v (note_of holder word)
pair_settled types v holder word has value =
    let field = field_at_offset Pair (declared_kinds types has.0.ty) word has.3 in
    record {
      traced = λ zero marked. absurd (omega (arith, zero, field.2));
      value = λ b k w there at pair. value b k w there at;
    }
