-- The words of bodies, as extents tell them.
use Rattle.std.proofs.Common.{◌≡◌, ℕ, ◌+◌, ◌^◌, ◌<◌, ◌≤◌, Bool, true, false, List, ap, arith}
use Rattle.std.specs.List.{Contains}
use Rattle.gc_graph.specs.Placement.{Extent, IsTaken}
use Rattle.gc_graph.specs.Members.{Contains-map, Contains-map_some}
use Rattle.object_headers.specs.Layout.{bit_of, header_word, IsHeaderWord}
use Rattle.object_headers.specs.declared.header.Header.{Header}
use Rattle.gap_bounds.specs.Bodies.{IsInBody}
use Rattle.gap_bounds.specs.Body.{Body}
use Rattle.gap_bounds.specs.Seat.{SeatView}
use Rattle.page_space.specs.Space.{body_extent, extents_of_bodies, IsHeaderOf}

pub taken_by_body : (bodies : List Body) (a : ℕ) → IsInBody bodies a → IsTaken (extents_of_bodies bodies) a
taken_by_body bodies a h = (body_extent h.0, Contains-map body_extent bodies h.0 h.1, (h.2, h.3))

pub body_of_extent : (bodies : List Body) (e : Extent) → Contains (extents_of_bodies bodies) e → (b : Body) × Contains bodies b × (body_extent b ≡ e)
body_of_extent bodies e h = Contains-map_some body_extent bodies e h

pub body_of_taken : (bodies : List Body) (a : ℕ) → IsTaken (extents_of_bodies bodies) a → IsInBody bodies a
body_of_taken bodies a h =
    let found : (b : Body) × Contains bodies b × (body_extent b ≡ h.0) = body_of_extent bodies h.0 h.1 in
    let place : found.0.place ≡ h.0.place = ap (λ e. e.place) found.2 in
    let size : found.0.size ≡ h.0.size = ap (λ e. e.size) found.2 in
    let first : h.0.place ≤ a = h.2.0 in
    let last : a < h.0.place + h.0.size = h.2.1 in
    (found.0, found.1, omega arith, omega arith)

bit_few : (b : Bool) → bit_of b ≤ 1
bit_few true = omega arith
bit_few false = omega arith

-- the word of a live object is a header that can be read without a test
pub header_is_one : (mark traced : Bool) (ty size : ℕ) → ty < 16384 → 0 < size → size < 2 ^ 26 → IsHeaderWord (header_word true mark traced ty size)
header_is_one mark traced ty size few some small =
    let marks : bit_of mark ≤ 1 = bit_few mark in
    let traces : bit_of traced ≤ 1 = bit_few traced in
    record { live = omega arith; size = omega arith; bits = omega arith }

-- the size that a header tells is that of the body
pub tells_size : (v : SeatView) (a : ℕ) (header : Header) → ((b : Body) → Contains v.bodies b → b.place ≡ a → IsHeaderOf v b header)
    → (b : Body) → Contains v.bodies b → b.place ≡ a → header.size ≡ b.size
tells_size v a header tells b has at = (tells b has at).size
