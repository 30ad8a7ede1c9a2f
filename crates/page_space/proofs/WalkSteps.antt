-- The steps of a walk from object to object.
use Rattle.std.proofs.Common.{◌≡◌, ℕ, ◌+◌, ◌*◌, ◌/◌, ◌<◌, ◌≤◌, ap, ◌⊎◌, inl, inr, arith}
use Rattle.std.specs.List.{Contains}
use Rattle.std.proofs.lemmas.Bool.{cases_lt}
use Rattle.gc_graph.specs.State.{Shape}
use Rattle.gc_graph.specs.Placement.{IsTaken}
use Rattle.gap_bounds.specs.Bodies.{end_of, IsPlace, IsInBody}
use Rattle.gap_bounds.specs.Body.{Body}
use Rattle.gap_bounds.specs.Seat.{SeatView, IsView}
use Rattle.page_space.specs.Space.{HasNoStart, HoldsWhole, extents_of_bodies}
use Rattle.gap_bounds.specs.Gaps.{IsGap}
use Rattle.page_space.specs.Walks.{IsEdge}
use Rattle.page_space.proofs.PlaceBodies.{body_of_taken, taken_by_body}
use Rattle.gap_bounds.specs.BodyPlaces.{two_words}

-- an object that begins in the words of another one is that one
pub one_in : (v : SeatView) (b c : Body) → IsView v → Contains v.bodies b → Contains v.bodies c → c.place ≤ b.place → b.place < end_of c → b ≡ c
one_in v b c view b_there c_there low high =
    let size : 2 ≤ b.size = two_words v view b b_there in
    view.apart b c b.place b_there c_there (omega arith) (omega arith) low high

-- past an object that starts at the next place, where no object starts before it
pub edge_moves : (v : SeatView) (free next after : ℕ) (c : Body) → IsView v → IsEdge v.bodies free → HasNoStart v.bodies free next
    → Contains v.bodies c → c.place ≡ next → free ≤ next → after ≡ next + c.size → IsEdge v.bodies after
edge_moves v free next after c view edge none there at order ends b b_there before =
    elim (cases_lt b.place free) [
      | inl low ↦ omega (arith, edge b b_there low)
      | inr from ↦ elim (cases_lt b.place next) [
        | inl between ↦ absurd (none b.place from between (b, b_there, (let e : b.place ≡ b.place = omega arith in e)))
        | inr inside ↦ omega (arith, ap end_of (one_in v b c view b_there there (omega arith) (omega arith)))
      ]
    ]

-- words after an edge among which no object starts are a gap
pub gap_here : (v : SeatView) (shape : Shape) (size page free : ℕ) → IsEdge v.bodies free → HasNoStart v.bodies free (free + size)
    → page * shape.page_words ≤ free → free + size ≤ (page + 1) * shape.page_words → IsGap shape (extents_of_bodies v.bodies) size page free
gap_here v shape size page free edge none low high = record {
  first = low;
  last = high;
  free = λ x above below taken.
      let word : IsInBody v.bodies x = body_of_taken v.bodies x taken in
      let from : word.0.place ≤ x = word.2 in
      let to : x < end_of word.0 = word.3 in
      elim (cases_lt word.0.place free) [
        | inl before ↦ omega (arith, edge word.0 word.1 before)
        | inr after ↦ none word.0.place after (omega arith) (word.0, word.1, (let e : word.0.place ≡ word.0.place = omega arith in e))
      ];
}

pub place_taken : (v : SeatView) (next x : ℕ) (c : Body) → Contains v.bodies c → c.place ≡ next → next ≤ x → x < next + c.size
    → IsTaken (extents_of_bodies v.bodies) x
place_taken v next x c there at low high = taken_by_body v.bodies x (c, there, omega arith, omega arith)

-- a gap that begins from an edge on, and before the end of the object at the next place, ends by that place
pub gap_ends : (v : SeatView) (shape : Shape) (size page next after x : ℕ) (c : Body) → IsView v → Contains v.bodies c → c.place ≡ next
    → after ≡ next + c.size → x < after → IsGap shape (extents_of_bodies v.bodies) size page x → (x + size ≤ next) ⊎ (size ≡ 0)
gap_ends v shape size page next after x c view there at ends before gap =
    let least : 2 ≤ c.size = two_words v view c there in
    elim (cases_lt 0 size) [
      | inl some ↦ elim (cases_lt x next) [
        | inl low ↦ elim (cases_lt next (x + size)) [
          | inl over ↦ absurd (gap.free next (omega arith) over (place_taken v next next c there at (omega arith) (omega arith)))
          | inr by ↦ inl by
        ]
        | inr high ↦ absurd (gap.free x (omega arith) (omega arith) (place_taken v next x c there at high (omega arith)))
      ]
      | inr none ↦ inr (omega arith)
    ]

-- ---- where the words from an address on belong to an object that begins by it

-- where the last place before an address is known, the objects before end by the end of that one, or by the address
pub edge_after_last : (v : SeatView) (place at size edge : ℕ) → IsView v → IsPlace v.bodies place → ((b : Body) → Contains v.bodies b → b.place ≡ place → size ≡ b.size)
    → HasNoStart v.bodies (place + 1) at → at ≤ edge → place + size ≤ edge → (edge ≡ at) ⊎ (edge ≡ place + size)
    → IsEdge v.bodies edge
edge_after_last v place at size edge view starts sizes none over covers is b there before =
    let c : Body = starts.0 in
    let at_c : c.place ≡ place = starts.2 in
    let size_c : size ≡ c.size = sizes c starts.1 starts.2 in
    let least : 2 ≤ b.size = two_words v view b there in
    let some : 2 ≤ c.size = two_words v view c starts.1 in
    elim (cases_lt b.place place) [
      | inl earlier ↦ elim (cases_lt place (end_of b)) [
        | inl meets ↦ (let same : c ≡ b = one_in v c b view starts.1 there (omega arith) (omega arith) in omega (arith, ap (λ (d : Body). d.place) same))
        | inr apart ↦ omega arith
      ]
      | inr later ↦ elim (cases_lt b.place (place + size)) [
        | inl own ↦ omega (arith, ap end_of (one_in v b c view there starts.1 (omega arith) (omega arith)))
        | inr past ↦ elim is [
          | inl block ↦ absurd (none b.place (omega arith) (omega arith) (b, there, (let e : b.place ≡ b.place = omega arith in e)))
          | inr end ↦ absurd (omega arith)
        ]
      ]
    ]

-- where no object starts in the page before an address, the objects before end by it
pub edge_of_page : (v : SeatView) (shape : Shape) (page at : ℕ) → IsView v → HoldsWhole shape v.bodies page → page * shape.page_words ≤ at
    → at < (page + 1) * shape.page_words → HasNoStart v.bodies (page * shape.page_words) at → IsEdge v.bodies at
edge_of_page v shape page at view whole low inside none b there before =
    let least : 2 ≤ b.size = two_words v view b there in
    let start : ℕ = page * shape.page_words in
    elim (cases_lt b.place start) [
      | inl earlier ↦ elim (cases_lt start (end_of b)) [
        | inl meets ↦ (let first : start ≤ b.place = (whole b start there (omega arith) meets (omega arith) (omega arith)).0 in absurd (omega arith))
        | inr apart ↦ omega arith
      ]
      | inr later ↦ absurd (none b.place later before (b, there, (let e : b.place ≡ b.place = omega arith in e)))
    ]

-- a gap that begins from an address on begins from the end of the words on that are taken there
pub from_edge : (v : SeatView) (shape : Shape) (n page at edge a : ℕ) → ((x : ℕ) → at ≤ x → x < edge → IsInBody v.bodies x) → 1 ≤ n → at ≤ a
    → IsGap shape (extents_of_bodies v.bodies) n page a → edge ≤ a
from_edge v shape n page at edge a taken some from gap =
    elim (cases_lt a edge) [
      | inl covered ↦ absurd (gap.free a (omega arith) (omega arith) (taken_by_body v.bodies a (taken a from covered)))
      | inr after ↦ after
    ]

-- the block of an address ends within the page
pub block_ends : (shape : Shape) (page at : ℕ) → 64 * (shape.page_words / 64) ≡ shape.page_words → at < (page + 1) * shape.page_words
    → at / 64 * 64 + 64 ≤ (page + 1) * shape.page_words
block_ends shape page at blocks within = omega (arith, ap (λ n. (page + 1) * n) blocks)
