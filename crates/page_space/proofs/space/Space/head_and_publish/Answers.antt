use Rattle.std.proofs.Common.{◌≡◌, ℕ, length, ◌+◌, ◌-◌, ◌^◌, ◌<◌, ◌≤◌, true, false, ap, ◌∙◌, sym, subst, arith, rules}
use Rattle.gap_bounds.specs.Bodies.{IsInBody}
use Rattle.object_headers.specs.Layout.{header_word}
use Rattle.gap_bounds.specs.SeatLaws.{IsReadyToPublish}
use Rattle.gap_bounds.specs.Seat.{SeatView, side, filled_with, published}
use Rattle.page_space.specs.Pages.{word_count}
use Rattle.page_space.specs.Space.{IsSeatOf, heap_of}
use Rattle.page_space.specs.Occupying.{HasNulls, IsNewNumber, IsRoom, least_size, new_body}
use Rattle.page_space.proofs.OccupyFilled.{head_filled, head_occupies, ready_to_publish}
use Rattle.page_space.proofs.space.Space.head_and_publish.Goals as goal

pub fill-requires-clause-outside : goal.fill-requires-clause-outside
fill-requires-clause-outside g c word =
    let room : IsRoom c.args.seat.now c.args.size c.args.a = search rules in
    let least : least_size c.args.seat.now c.args.ty ≤ c.args.size = search rules in
    room.free c.args.a (omega arith) (omega arith) word

pub fill-requires-2-clause-outside : goal.fill-requires-2-clause-outside
fill-requires-2-clause-outside g c word =
    let room : IsRoom c.args.seat.now c.args.size c.args.a = search rules in
    let least : least_size c.args.seat.now c.args.ty ≤ c.args.size = search rules in
    let same : c.fill.new.seat.bodies ≡ c.args.seat.now.bodies = ap (λ v. v.bodies) c.fill.ensures in
    room.free (c.args.a + 1) (omega arith) (omega arith) (subst (λ bodies. IsInBody bodies (c.args.a + 1)) same word)

pub publish-requires : goal.publish-requires
publish-requires g c =
    let seat : IsSeatOf c.args.self.now c.args.seat.now = search rules in
    let room : IsRoom c.args.seat.now c.args.size c.args.a = search rules in
    let known : c.args.ty < length c.args.seat.now.types = search rules in
    let least : least_size c.args.seat.now c.args.ty ≤ c.args.size = search rules in
    let most : c.args.size < 2 ^ 26 = search rules in
    let unused : IsNewNumber c.args.seat.now c.args.serial = search rules in
    let number : c.args.serial < 2 ^ 32 = search rules in
    let nulls : HasNulls c.args.seat.now.filled (c.args.a + 2) (c.args.size - 2) = search rules in
    let body : g.body ≡ new_body c.args.a c.args.ty c.args.size c.args.serial = search rules in
    let header : ℕ = header_word true false false c.args.ty c.args.size in
    let head : c.fill-2.new.seat ≡ filled_with (filled_with c.args.seat.now c.args.a header) (c.args.a + 1) c.args.serial =
    head_filled c.args.seat.now c.fill.new.seat c.fill-2.new.seat c.args.a header c.args.serial c.pack.result c.from.result
    c.pack.ensures c.from.ensures c.fill.ensures c.fill-2.ensures in
    let ready : IsReadyToPublish (side c.fill-2.new.seat) (new_body c.args.a c.args.ty c.args.size c.args.serial) =
    subst (λ (v : SeatView). IsReadyToPublish (side v) (new_body c.args.a c.args.ty c.args.size c.args.serial)) (sym head)
    (ready_to_publish c.args.seat.now c.args.a c.args.ty c.args.size c.args.serial room known least most unused number nulls) in (
      ap (λ v. v.heap) head ∙ seat ∙ ap heap_of (sym c.self.view_is) ∙ sym c.self.invariant.words ∙ sym c.deref-3.ensures,
      (ap (λ b. b.place) body, subst (IsReadyToPublish (side c.fill-2.new.seat)) (sym body) ready),
    )

pub returns : goal.returns
returns g c =
    let least : least_size c.args.seat.now c.args.ty ≤ c.args.size = search rules in
    let body : g.body ≡ new_body c.args.a c.args.ty c.args.size c.args.serial = search rules in
    let header : ℕ = header_word true false false c.args.ty c.args.size in
    let head : c.fill-2.new.seat ≡ filled_with (filled_with c.args.seat.now c.args.a header) (c.args.a + 1) c.args.serial =
    head_filled c.args.seat.now c.fill.new.seat c.fill-2.new.seat c.args.a header c.args.serial c.pack.result c.from.result
    c.pack.ensures c.from.ensures c.fill.ensures c.fill-2.ensures in
    head_occupies c.args.seat.now c.publish.new.seat g.body c.args.a header c.args.serial (ap (λ b. b.place) body)
    (omega (arith, least, ap (λ b. b.size) body)) (c.publish.ensures ∙ ap (λ v. published v g.body) head)
