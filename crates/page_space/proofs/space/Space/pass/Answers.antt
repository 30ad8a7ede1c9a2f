use Rattle.std.proofs.Common.{◌≡◌, ◌*◌, get_or, ap, ◌∙◌, arith}
use Rattle.gap_bounds.specs.Changes.{MayBegin}
use Rattle.page_space.specs.Space.{extents_of_bodies}
use Rattle.page_space.proofs.KnownGaps.{space_stays}
use Rattle.page_space.proofs.Shapes.{shape_words}
use Rattle.page_space.proofs.space.Space.pass.Goals as goal

pub returns-then-first_for-page-clause-space : goal.returns-then-first_for-page-clause-space
returns-then-first_for-page-clause-space c =
    let now = c.args.self.now in
    let es = extents_of_bodies c.args.seat.now.bodies in
    let same : c.self.inside.gaps ≡ now.gaps = ap (λ s. s.gaps) c.self.view_is in
    let words : c.self.inside.page_words ≡ now.shape.page_words = ap (λ s. s.shape.page_words) c.self.view_is in
    let start : c.args.page * c.self.inside.page_words ≡ c.args.page * now.shape.page_words = ap (λ w. c.args.page * w) words in
    let first : c.first_for.result ≡ get_or now.gaps.first c.args.class 0 = c.first_for.ensures ∙ ap (λ g. get_or g.first c.args.class 0) same in
    let may : MayBegin now.shape es now.gaps c.args.class c.args.page c.args.worth = record {
      some = omega (arith, (shape_words now.shape c.shape_is_valid.ensures).0);
      least = c.requires.some;
      low = omega (arith, c.if-first_for-page.true);
      high = c.requires.end;
      known = c.requires.known;
      worth = c.requires.worth;
    } in
    space_stays _ now c.args.seat.now c.begin_at.new.self c.self.view_is c.requires.space
    (c.begin_at.ensures.knows now.shape es c.args.page (rw same may) (rw same c.requires.space.gaps))
