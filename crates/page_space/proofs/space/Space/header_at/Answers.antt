use Rattle.std.proofs.Common.{◌≡◌, ◌≤◌, ◌&&◌, ap, refl, subst, sym, arith}
use Rattle.std.specs.List.{Contains}
use Rattle.object_headers.specs.Layout.{IsHeaderWord}
use Rattle.gap_bounds.specs.Body.{Body}
use Rattle.gap_bounds.specs.Matching.{IsWhole}
use Rattle.gap_bounds.specs.Layout.{has_mark, has_traced}
use Rattle.gap_bounds.specs.SeatFacts.{IsBitTold, IsHeaderAt}
use Rattle.gap_bounds.specs.Seat.{Heap, SeatView, side}
use Rattle.gap_bounds.specs.Roles.{kind_lists}
use Rattle.gap_bounds.specs.Bodies.{holds, is_place}
use Rattle.page_space.specs.Space.{IsHeaderOf}
use Rattle.page_space.proofs.PlaceBodies.{tells_size, header_is_one}
use Rattle.page_space.proofs.FoundKept.{one_more}
use Rattle.gap_bounds.specs.BodyPlaces.{small_type, two_words, whole_body}
use Rattle.page_space.proofs.space.Space.header_at.Goals as goal
use Rattle.page_space.proofs.space.Space.header_at.Goals.{After-read_unchecked}

pub read_unchecked-requires : goal.read_unchecked-requires
read_unchecked-requires c =
    let v = c.args.seat.now in
    let w = c.load.result in
    let b : Body = c.requires.start.0 in
    let whole : IsWhole v.count (kind_lists v.types) b = whole_body v c.bodies_lie_apart.ensures b c.requires.start.1 in
    let size : 2 ≤ b.size = two_words v c.bodies_lie_apart.ensures b c.requires.start.1 in
    let told : IsHeaderAt (side v) c.args.a w = c.load.ensures.word.header b c.requires.start.1 c.requires.start.2 in
    subst IsHeaderWord (sym (told.word b c.requires.start.1 c.requires.start.2))
    (header_is_one (has_mark w) (has_traced w) b.ty b.size (small_type v c.bodies_lie_apart.ensures b c.requires.start.1) (omega arith) whole.size)

header_is : (c : After-read_unchecked) (b : Body) → Contains c.args.seat.now.bodies b → b.place ≡ c.args.a
    → IsHeaderOf c.args.seat.now b c.read_unchecked.result
header_is c b has at =
    let v = c.args.seat.now in
    let w = c.load.result in
    let whole : IsWhole v.count (kind_lists v.types) b = whole_body v c.bodies_lie_apart.ensures b has in
    let size : 2 ≤ b.size = two_words v c.bodies_lie_apart.ensures b has in
    let told : IsHeaderAt (side v) c.args.a w = c.load.ensures.word.header b has at in
    let is : c.read_unchecked.result ≡ record { mark = has_mark w; traced = has_traced w; ty = b.ty; size = b.size } =
    c.read_unchecked.ensures.exact (has_mark w) (has_traced w) b.ty b.size (small_type v c.bodies_lie_apart.ensures b has) (omega arith) whole.size
    (told.word b has at) in
    subst (IsHeaderOf v b) (sym is)
    (record {
      ty = refl;
      size = refl;
      mark = subst (λ a. IsBitTold v.lent (holds v.marked a) (has_mark w)) (sym at) told.mark;
      traced = subst (λ a. IsBitTold v.lent (holds v.traced a) (has_traced w)) (sym at) told.traced;
    })

pub returns-clause-header : goal.returns-clause-header
returns-clause-header c b has at = header_is c b has at

pub returns-clause-least : goal.returns-clause-least
returns-clause-least c =
    let v = c.args.seat.now in
    let start = c.requires.start in
    omega (
      arith,
      tells_size v c.args.a c.read_unchecked.result (header_is c) start.0 start.1 start.2,
      two_words v c.bodies_lie_apart.ensures start.0 start.1,
    )

pub returns-clause-inside : goal.returns-clause-inside
returns-clause-inside c =
    let v = c.args.seat.now in
    let start = c.requires.start in
    let at : start.0.place ≡ c.args.a = start.2 in
    let whole : IsWhole v.count (kind_lists v.types) start.0 = whole_body v c.bodies_lie_apart.ensures start.0 start.1 in
    omega (arith, at, tells_size v c.args.a c.read_unchecked.result (header_is c) start.0 start.1 start.2, whole.inside, ap (λ (h : Heap). h.count) c.requires.heap)

pub returns-clause-done : goal.returns-clause-done
returns-clause-done c a there =
    let v = c.args.seat.now in
    subst (λ (u : SeatView). Contains u.done a) (sym c.load.ensures.view)
    (one_more (v.on && is_place v.bodies c.args.a && has_traced c.load.result) v.done c.args.a a there)
