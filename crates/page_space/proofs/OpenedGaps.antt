-- The gap that opens where an object goes.
use Rattle.std.proofs.Common.{◌≡◌, ℕ, ◌+◌, ◌-◌, ◌*◌, ◌/◌, ◌<◌, ◌≤◌, List, ap, subst, inl, inr, arith}
use Rattle.std.specs.List.{Contains}
use Rattle.std.proofs.lemmas.Bool.{cases_eq, cases_lt}
use Rattle.gc_graph.specs.State.{Shape}
use Rattle.gc_graph.specs.Shapes.{IsShape}
use Rattle.gc_graph.specs.Placement.{Extent, IsTaken}
use Rattle.gap_bounds.specs.Bodies.{end_of, IsPlace}
use Rattle.gap_bounds.specs.Body.{Body}
use Rattle.gap_bounds.specs.Seat.{SeatView, IsView}
use Rattle.gap_bounds.specs.Gaps.{IsGap}
use Rattle.gap_bounds.specs.Changes.{GapsOpened}
use Rattle.page_space.specs.Pages.{word_count}
use Rattle.page_space.specs.Space.{SpaceView, IsSpaceOf, body_extent, extents_of_bodies}
use Rattle.page_space.specs.Opening.{IsEdgeBefore, IsEndAfter, without_place}
use Rattle.page_space.proofs.PageSpan.{page_of, page_is, page_inside}
use Rattle.gc_graph.specs.PageNumbers.{same_page}
use Rattle.page_space.proofs.PlaceBodies.{body_of_extent}
use Rattle.gap_bounds.specs.BodyPlaces.{two_words, whole_body}
use Rattle.gc_graph.specs.Members.{Contains-map}
use Rattle.page_space.proofs.Extents.{contains_filter}
use Rattle.page_space.proofs.SeatExtents.{seat_apart}
use Rattle.page_space.proofs.Shapes.{shape_words}

-- a word of a body elsewhere stays taken
stays_taken : (bodies : List Body) (a x : ℕ) (b : Body) → Contains bodies b → (b.place ≡ a → ⊥) → b.place ≤ x → x < end_of b
    → IsTaken (without_place (extents_of_bodies bodies) a) x
stays_taken bodies a x b there other low high =
    (body_extent b, contains_filter (extents_of_bodies bodies) a (body_extent b) other (Contains-map body_extent bodies b there), (low, high))

-- a gap that meets the object's words begins no lower than the edge before
begins_after : (v : SeatView) (shape : Shape) (page a edge size x : ℕ) → IsView v → IsEdgeBefore shape v.bodies page a edge
    → IsGap shape (without_place (extents_of_bodies v.bodies) a) size page x → a < x + size → edge ≤ x
begins_after v shape page a edge size x view before gap meets =
    let by : edge ≤ a = before.0 in
    elim (cases_lt x edge) [
      | inr after ↦ after
      | inl low ↦ elim before.1 [
        | inl start ↦ (let first : page * shape.page_words ≤ x = gap.first in omega arith)
        | inr object ↦
            (let b : Body = object.0 in
            let ends : end_of b ≡ edge = object.3 in
            let earlier : b.place < a = object.2 in
            let least : 2 ≤ b.size = two_words v view b object.1 in
            absurd (gap.free (edge - 1) (omega arith) (omega arith)
            (stays_taken v.bodies a (edge - 1) b object.1 (λ same. let at : b.place ≡ a = same in omega arith) (omega arith) (omega arith))))
      ]
    ]

-- and ends no higher than the next place
ends_before : (v : SeatView) (shape : Shape) (page a after end size x : ℕ) → IsView v → IsEndAfter shape v.bodies page after end → a < after
    → IsGap shape (without_place (extents_of_bodies v.bodies) a) size page x → x < after → x + size ≤ end
ends_before v shape page a after end size x view next some gap meets =
    let from : after ≤ end = next.0 in
    elim (cases_lt end (x + size)) [
      | inr by ↦ by
      | inl over ↦ elim next.2 [
        | inl last ↦ (let within : x + size ≤ (page + 1) * shape.page_words = gap.last in omega arith)
        | inr place ↦
            (let b : Body = place.0 in
            let at : b.place ≡ end = place.2 in
            let least : 2 ≤ b.size = two_words v view b place.1 in
            absurd (gap.free end (omega arith) (omega arith)
            (stays_taken v.bodies a end b place.1 (λ same. let here : b.place ≡ a = same in omega arith) (omega arith) (omega arith))))
      ]
    ]

-- where an object of a space lies
pub record IsSeated (shape : Shape) (v : SeatView) (a size : ℕ) : Type 0 where
  pub start : IsPlace v.bodies a
  pub some : 2 ≤ size
  pub only : (d : Extent) → Contains (extents_of_bodies v.bodies) d → d.place ≡ a → d ≡ record { place = a; size = size }
  pub one : (d : Extent) → Contains (extents_of_bodies v.bodies) d → d.place ≡ a → d.size ≡ size
  pub inside : a + size ≤ word_count shape
  pub page : a / shape.page_words < shape.pages
  pub low : a / shape.page_words * shape.page_words ≤ a
  pub high : size ≤ shape.page_words / 2 → a + size ≤ (a / shape.page_words + 1) * shape.page_words

pub seated : (space : SpaceView) (v : SeatView) (a size : ℕ) → IsShape space.shape → IsView v → IsSpaceOf space v
    → Contains (extents_of_bodies v.bodies) (record { place = a; size = size }) → IsSeated space.shape v a size
seated space v a size valid view over there =
    let w : ℕ = space.shape.page_words in
    let e : Extent = record { place = a; size = size } in
    let words : 0 < w = omega (arith, (shape_words space.shape valid).0) in
    let found : (b : Body) × Contains v.bodies b × (body_extent b ≡ e) = body_of_extent v.bodies e there in
    let at : found.0.place ≡ a = ap (λ (d : Extent). d.place) found.2 in
    let size_is : found.0.size ≡ size = ap (λ (d : Extent). d.size) found.2 in
    let least : 2 ≤ size = over.sizes e there in
    let inside : a + size ≤ word_count space.shape = omega (arith, (whole_body v view found.0 found.1).inside, over.seat) in
    let only = λ (d : Extent) (d_there : Contains (extents_of_bodies v.bodies) d) (same : d.place ≡ a).
    let r : d ≡ e = (let some : 2 ≤ d.size = over.sizes d d_there in seat_apart v view d e a d_there there (omega arith, omega arith) (omega arith, omega arith)) in r in
    record {
      start = (found.0, found.1, at);
      some = least;
      only = only;
      one = λ d d_there same. ap (λ (x : Extent). x.size) (only d d_there same);
      inside = inside;
      page = page_inside w space.shape.pages a words (omega arith);
      low = (page_of w a words).0;
      high = λ small. elim (over.placed e there) [
        | inl lies ↦
            (let first : lies.1.page * w ≤ a = lies.1.first in
            let last : a + size ≤ (lies.1.page + 1) * w = lies.1.last in
            omega (arith, ap (λ p. (p + 1) * w) (page_is w lies.1.page a words first (omega arith))))
        | inr large ↦ absurd (let more : w / 2 < size = large.0 in omega arith)
      ];
    }

pub gaps_opened : (v : SeatView) (shape : Shape) (page a size edge end : ℕ) → IsView v → 1 ≤ size
    → ((d : Extent) → Contains (extents_of_bodies v.bodies) d → d.place ≡ a → d.size ≡ size) → page * shape.page_words ≤ a
    → a + size ≤ (page + 1) * shape.page_words → IsEdgeBefore shape v.bodies page a edge → IsEndAfter shape v.bodies page (a + size) end
    → GapsOpened shape (extents_of_bodies v.bodies) (without_place (extents_of_bodies v.bodies) a) page edge end
gaps_opened v shape page a size edge end view some one low high before next q n x gap =
    let es : List Extent = extents_of_bodies v.bodies in
    let w : ℕ = shape.page_words in
    let first : q * w ≤ x = gap.first in
    let last : x + n ≤ (q + 1) * w = gap.last in
    let elsewhere = λ (apart : (y : ℕ) → x ≤ y → y < x + n → a ≤ y → y < a + size → ⊥).
    let g : IsGap shape es n q x = record {
      first = gap.first;
      last = gap.last;
      free = λ y from to taken. elim (cases_eq taken.0.place a) [
        | inl own ↦
            (let starts : taken.0.place ≤ y = taken.2.0 in
            let ends : y < taken.0.place + taken.0.size = taken.2.1 in
            let own_size : taken.0.size ≡ size = one taken.0 taken.1 own in
            apart y from to (omega arith) (omega arith))
        | inr other ↦ gap.free y from to (taken.0, contains_filter es a taken.0 other taken.1, taken.2)
      ];
    } in g in
    elim (cases_lt 0 n) [
      | inr none ↦ inl (elsewhere (λ y from to low' high'. omega arith))
      | inl word ↦ elim (cases_lt x (a + size)) [
        | inr past ↦ inl (elsewhere (λ y from to low' high'. omega arith))
        | inl starts ↦ elim (cases_lt a (x + n)) [
          | inr by ↦ inl (elsewhere (λ y from to low' high'. omega arith))
          | inl meets ↦
              (let here : q ≡ page = elim (cases_lt x a) [
                | inl lower ↦ same_page w q page a (omega arith) (omega arith) low (omega arith)
                | inr upper ↦ same_page w q page x first (omega arith) (omega arith) (omega arith)
              ] in
              let own : IsGap shape (without_place es a) n page x = subst (λ p. IsGap shape (without_place es a) n p x) here gap in
              inr (here, begins_after v shape page a edge n x view before own meets, ends_before v shape page a (a + size) end n x view next (omega arith) own starts))
        ]
      ]
    ]
