use Rattle.std.proofs.Common.{◌≡◌, ◌+◌, ◌-◌, ◌≤◌, ◌<◌, List, length, ◌∙◌, refl, ap, sym, subst, arith}
use Rattle.gc_graph.specs.State.{ObjectType}
use Rattle.gap_bounds.specs.Bodies.{IsInBody}
use Rattle.gap_bounds.specs.Body.{Body}
use Rattle.gap_bounds.specs.Seat.{SeatView}
use Rattle.page_space.specs.Occupying.{HasNulls, IsNewNumber, least_size, new_body, nulled}
use Rattle.page_space.proofs.OccupyFilled.{nulls_filled, only_nulled, nulls_inside, occupies_before}
use Rattle.page_space.proofs.space.Space.write_object.Goals as goal

pub fill_nulls-requires-clause-outside : goal.fill_nulls-requires-clause-outside
fill_nulls-requires-clause-outside c x low high word = c.requires.room.free x (omega arith) (omega arith) word

pub head_and_publish-requires : goal.head_and_publish-requires
head_and_publish-requires c =
    let v : SeatView = c.args.seat.now in
    let fields : c.args.a + c.args.size - (c.args.a + 2) ≡ c.args.size - 2 = omega arith in
    let filled : c.fill_nulls.new.seat ≡ nulled v (c.args.a + 2) (c.args.size - 2) = c.fill_nulls.ensures ∙ ap (nulled v (c.args.a + 2)) fields in
    let rest = filled ∙ only_nulled v (c.args.a + 2) (c.args.size - 2) in
    let same : c.fill_nulls.new.seat.bodies ≡ v.bodies = ap (λ (s : SeatView). s.bodies) rest in
    let types : c.fill_nulls.new.seat.types ≡ v.types = ap (λ (s : SeatView). s.types) rest in
    let known : c.args.ty < length c.fill_nulls.new.seat.types = subst (λ (types : List ObjectType). c.args.ty < length types) (sym types) c.requires.ty in
    let least : least_size c.fill_nulls.new.seat c.args.ty ≤ c.args.size =
    subst (λ (s : SeatView). least_size s c.args.ty ≤ c.args.size) (sym rest) c.requires.least in
    let unused : IsNewNumber c.fill_nulls.new.seat c.args.serial = subst (λ (s : SeatView). IsNewNumber s c.args.serial) (sym rest) c.requires.number in
    let nulls : HasNulls c.fill_nulls.new.seat.filled (c.args.a + 2) (c.args.size - 2) =
    subst (λ (s : SeatView). HasNulls s.filled (c.args.a + 2) (c.args.size - 2)) (sym filled) (nulls_filled v (c.args.a + 2) (c.args.size - 2)) in (
      ap (λ (s : SeatView). s.heap) rest ∙ c.requires.heap,
      (
        refl,
        (
          record {
            inside = omega (arith, c.requires.room.inside, ap (λ (s : SeatView). s.count) rest);
            free = λ x low high word. c.requires.room.free x low high (subst (λ bodies. IsInBody bodies x) same word);
          },
          (known, (least, (c.requires.most, (unused, nulls)))),
        ),
      ),
    )

pub returns : goal.returns
returns c =
    let v : SeatView = c.args.seat.now in
    let fields : c.args.a + c.args.size - (c.args.a + 2) ≡ c.args.size - 2 = omega arith in
    let rest = c.fill_nulls.ensures ∙ ap (nulled v (c.args.a + 2)) fields ∙ only_nulled v (c.args.a + 2) (c.args.size - 2) in
    let b : Body = new_body c.args.a c.args.ty c.args.size c.args.serial in
    let least : 2 ≤ c.args.size = omega (arith, c.requires.least) in
    occupies_before v c.fill_nulls.new.seat c.head_and_publish.new.seat (nulled v (c.args.a + 2) (c.args.size - 2)).filled b rest
    (nulls_inside v b (c.args.a + 2) (c.args.size - 2) (omega arith) (omega arith)) c.head_and_publish.ensures
