use Rattle.std.proofs.Common.{true, sym}
use Rattle.marker_core.specs.Layout.{has_mark, has_traced}
use Rattle.page_words.specs.BodyPlaces.{small_type}
use Rattle.ephemerons.proofs.marks.type_of.Goals as goal

pub returns-clause-body : goal.returns-clause-body
returns-clause-body g c =
    let at = c.requires.place in (
      at.0,
      at.1,
      at.2,
      sym (c.type_in.ensures.header true (has_mark c.load.result) (has_traced c.load.result) at.0.ty at.0.size
          (small_type c.args.seat.now c.bodies_lie_apart.ensures at.0 at.1) ((c.load.ensures.word.header at.0 at.1 at.2).word at.0 at.1 at.2)),
    )
