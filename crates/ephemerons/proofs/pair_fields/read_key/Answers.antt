use Rattle.std.proofs.Common.{rules, ◌≡◌, ◌+◌, ◌-◌, ◌<◌, ◌^◌, true, ap, ◌∙◌, subst, inl, inr, arith, MatchOption}
use Rattle.std.proofs.lemmas.Bool.{cases_eq}
use Rattle.object_headers.specs.Offsets.{reference_to}
use Rattle.marker_core.specs.declared.states.Part.TheVariants.{Read}
use Rattle.page_words.specs.BodyPlaces.{place_below}
use Rattle.page_words.specs.Seat.{SeatView}
use Rattle.pair_notes.specs.FieldWords.{key_there, word_below, word_is_no_place, read_word, pair_in_hand}
use Rattle.ephemerons.proofs.HandKeys.{key_place, key_read, key_told, key_notes_none}
use Rattle.ephemerons.proofs.HandLoads.{read_marks, read_beside}
use Rattle.ephemerons.proofs.pair_fields.read_key.Goals as goal

pub overflow_add-holder : goal.overflow_add-holder
overflow_add-holder g c =
    let v = c.args.seat.now in
    let below : c.args.holder + c.args.offset < v.count =
    word_below v c.args.holder c.args.offset c.bodies_lie_apart.ensures (key_there v c.args.holder c.args.offset c.bodies_lie_apart.ensures (pair_in_hand v c.args.holder c.args.offset Read c.requires.hand)) in
    let low : c.args.holder + c.args.offset < 2 ^ 32 = omega (arith, below, c.bodies_lie_apart.ensures.count) in
    search rules

pub load-reference-requires-clause-address : goal.load-reference-requires-clause-address
load-reference-requires-clause-address g c =
    let v = c.args.seat.now in
    omega (
      arith,
      word_below v c.args.holder c.args.offset c.bodies_lie_apart.ensures (key_there v c.args.holder c.args.offset c.bodies_lie_apart.ensures (pair_in_hand v c.args.holder c.args.offset Read c.requires.hand)),
    )

pub place_in-requires : goal.place_in-requires
place_in-requires g c =
    let v = c.args.seat.now in
    let u = c.load-reference.new.seat in
    let w = c.load-reference.result in
    elim (cases_eq w 0) [
      | inl null ↦ omega (arith, null)
      | inr some ↦
          (let names : w ≡ w - 1 + 1 = omega arith in
          let at = key_read v u c.args.holder c.args.offset w (w - 1) c.requires.hand c.load-reference.ensures.view names in
          let on : u.on ≡ true =
          ap (λ (x : SeatView). x.on) (read_marks v u (c.args.holder + c.args.offset) w c.load-reference.ensures.view) ∙ c.requires.tracing.on in
          omega (
            arith,
            names,
            c.bodies_lie_apart-2.ensures.count,
            place_below u (w - 1) c.bodies_lie_apart-2.ensures (key_place u c.args.holder c.args.offset (w - 1) c.bodies_lie_apart-2.ensures on at),
          ))
    ]

pub returns-clause-key : goal.returns-clause-key
returns-clause-key g c b there at =
    let v = c.args.seat.now in
    subst (λ x. MatchOption c.place_in.result (x ≡ 0) (λ key. x ≡ reference_to key))
    (read_word v c.args.holder c.args.offset c.load-reference.result c.bodies_lie_apart.ensures
    (key_there v c.args.holder c.args.offset c.bodies_lie_apart.ensures (pair_in_hand v c.args.holder c.args.offset Read c.requires.hand)) c.load-reference.ensures.word b there at) c.place_in.ensures

pub returns-clause-hand : goal.returns-clause-hand
returns-clause-hand g c =
    key_told c.args.seat.now c.load-reference.new.seat c.args.holder c.args.offset c.load-reference.result c.place_in.result c.requires.hand
    c.load-reference.ensures.view c.place_in.ensures

pub returns-clause-noted : goal.returns-clause-noted
returns-clause-noted g c =
    key_notes_none c.args.seat.now c.load-reference.new.seat c.args.holder c.args.offset c.load-reference.result c.requires.hand c.load-reference.ensures.view

pub returns-clause-looked : goal.returns-clause-looked
returns-clause-looked g c =
    let v = c.args.seat.now in
    read_beside v c.load-reference.new.seat (c.args.holder + c.args.offset) c.load-reference.result c.load-reference.ensures.view
    (word_is_no_place v c.args.holder c.args.offset c.bodies_lie_apart.ensures
    (key_there v c.args.holder c.args.offset c.bodies_lie_apart.ensures (pair_in_hand v c.args.holder c.args.offset Read c.requires.hand)))
