-- Which words are whose: each body lies in the heap, and no two of them share a word.
use Rattle.std.proofs.Common.{◌≡◌, ℕ, ◌+◌, ◌<◌, ◌≤◌, length, ap, arith, Contains}
use Rattle.std.proofs.lemmas.List.{length-map}
use Rattle.std.proofs.lemmas.List.Elements.{All-contains}
use Rattle.gc_graph.specs.State.{ObjectType}
use Rattle.marker_core.specs.Bodies.{IsPlace}
use Rattle.marker_core.specs.declared.states.Body.{Body}
use Rattle.marker_core.specs.Matching.{IsWhole}
use Rattle.page_words.specs.Roles.{kind_lists}
use Rattle.page_words.specs.Seat.{SeatView, IsView}

-- each body is of one of the types, lies in the heap, and has room for header, serial number and the type's fields
pub whole_body : (v : SeatView) → IsView v → (b : Body) → Contains v.bodies b → IsWhole v.count (kind_lists v.types) b
whole_body v is b h = All-contains (IsWhole v.count (kind_lists v.types)) v.bodies b is.whole h

-- its type is one of the table's, and a header has room for the type's number
pub known_type : (v : SeatView) → IsView v → (b : Body) → Contains v.bodies b → b.ty < length v.types
known_type v is b h = omega (arith, (whole_body v is b h).ty, length-map v.types (λ (type : ObjectType). type.kinds))

-- a header has room for the number of a body's type: it is below 16384
pub small_type : (v : SeatView) → IsView v → (b : Body) → Contains v.bodies b → b.ty < 16384
small_type v is b h = omega (arith, is.few, known_type v is b h)

-- a header and a serial number
pub two_words : (v : SeatView) → IsView v → (b : Body) → Contains v.bodies b → 2 ≤ b.size
two_words v is b h = let whole = whole_body v is b h in omega (arith, whole.fields)

pub within_heap : (v : SeatView) → IsView v → (b : Body) → Contains v.bodies b → b.place + b.size ≤ v.count
within_heap v is b h = (whole_body v is b h).inside

-- bodies that share a word are one
pub shared_body : (v : SeatView) → IsView v → (b c : Body) → Contains v.bodies b → Contains v.bodies c → (m n : ℕ) → m < b.size → n < c.size
    → b.place + m ≡ c.place + n → b ≡ c
shared_body v is b c hb hc m n lm ln e = is.apart b c (b.place + m) hb hc (omega arith) (omega arith) (omega arith) (omega arith)

-- and it is the same word of each
pub same_offset : (v : SeatView) → IsView v → (b c : Body) → Contains v.bodies b → Contains v.bodies c → (m n : ℕ) → m < b.size → n < c.size
    → b.place + m ≡ c.place + n → m ≡ n
same_offset v is b c hb hc m n lm ln e =
    let place : b.place ≡ c.place = ap (λ (x : Body). x.place) (shared_body v is b c hb hc m n lm ln e) in
    omega arith

-- one body alone has the place
pub same_body : (v : SeatView) (b c : Body) → IsView v → Contains v.bodies b → Contains v.bodies c → b.place ≡ c.place → b ≡ c
same_body v b c is hb hc same =
    let two = two_words v is b hb in
    let two_too = two_words v is c hc in
    is.apart b c b.place hb hc (omega arith) (omega arith) (omega (arith, same)) (omega (arith, same))

pub body_below : (v : SeatView) (b : Body) → IsView v → Contains v.bodies b → b.place < v.count
body_below v b is h = omega (arith, two_words v is b h, within_heap v is b h)

-- the place of a body is an address of the heap
pub place_below : (v : SeatView) (a : ℕ) → IsView v → IsPlace v.bodies a → a < v.count
place_below v a is at = omega (arith, body_below v at.0 is at.1, at.2)

-- no object starts at a later word of a body, or beyond the heap
pub no_place_within : (v : SeatView) (b : Body) (i : ℕ) → IsView v → Contains v.bodies b → 1 ≤ i → i < b.size → IsPlace v.bodies (b.place + i) → ⊥
no_place_within v b i is h some low at =
    let same : i ≡ 0 = same_offset v is b at.0 h at.1 i 0 low (omega (arith, two_words v is at.0 at.1)) (omega (arith, at.2)) in
    omega (arith, same)

-- no body has its place past the heap's last word
pub no_place_beyond : (v : SeatView) (a : ℕ) → IsView v → v.count ≤ a → IsPlace v.bodies a → ⊥
no_place_beyond v a is beyond at = omega (arith, place_below v a is at)
