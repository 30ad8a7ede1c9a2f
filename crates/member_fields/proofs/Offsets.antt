-- Where a word of an object is, and what a read of it tells.
use Rattle.std.proofs.Common.{◌≡◌, ℕ, ◌+◌, ◌-◌, Bool, true, sym, ap, ◌∙◌, subst, arith}
use Rattle.gc_graph.specs.declared.kind.Kind.{Kind}
use Rattle.marker_core.specs.declared.states.Body.{Body}
use Rattle.marker_core.specs.Bodies.{IsFieldWord, IsPlace}
use Rattle.page_words.specs.Bodies.{kind_in}
use Rattle.page_words.specs.Seat.{SeatView, TellsWordAt, IsView}
use Rattle.member_fields.specs.Words.{HasFieldWord, HasWordOfSomeKind, IsWordIn}
use Rattle.page_words.specs.BodyPlaces.{whole_body, same_body, no_place_within}

pub word_read : (v : SeatView) (holder word w : ℕ) → IsView v → HasWordOfSomeKind v holder word → TellsWordAt v (holder + word) w → IsWordIn v holder word w
word_read v holder word w is has at b there place =
    let same : has.1.body ≡ b = same_body v has.1.body b is has.1.there there (has.1.place ∙ sym place) in
    let size : has.1.body.size ≡ b.size = ap (λ (c : Body). c.size) same in
    let whole = whole_body v is b there in
    at.field b (word - 2) there (omega (arith, size, has.1.last, has.1.first, whole.fields)) (omega (arith, place, has.1.first))

-- a field word is no header
pub field_is_no_place : (v : SeatView) (holder word : ℕ) → IsView v → HasWordOfSomeKind v holder word → IsPlace v.bodies (holder + word) → ⊥
field_is_no_place v holder word is has at =
    no_place_within v has.1.body word is has.1.there (omega (arith, has.1.first)) has.1.last
    (subst (λ p. IsPlace v.bodies (p + word)) (sym has.1.place) at)

pub field_word : (v : SeatView) (holder word : ℕ) → HasWordOfSomeKind v holder word → IsFieldWord v.bodies (holder + word)
field_word v holder word has =
    let b : Body = has.1.body in (b, has.1.there, omega (arith, has.1.place, has.1.first), omega (arith, has.1.place, has.1.last))

pub one_kind : (v : SeatView) → IsView v → (is_so is_other : Kind → Bool) (holder word : ℕ)
    → ((kind : Kind) → is_so kind ≡ true → is_other kind ≡ true → ⊥) → HasFieldWord is_so v holder word → HasFieldWord is_other v holder word → ⊥
one_kind v is is_so is_other holder word apart so other =
    let same : other.body ≡ so.body = same_body v other.body so.body is other.there so.there (other.place ∙ sym so.place) in
    apart (kind_in v.types so.body (word - 2)) so.kind (ap (λ (b : Body). is_other (kind_in v.types b (word - 2))) (sym same) ∙ other.kind)
