use Rattle.std.proofs.Common.{◌≡◌, ◌<◌, ap, ◌∙◌, sym, get_or, Some, refl, arith}
use Rattle.page_space.specs.Space.{extents_of_bodies}
use Rattle.page_space.proofs.Shapes.{shape_words}
use Rattle.page_space.proofs.UsedPages.{held_is_used, bucket_of_held, uses_of_bucket}
use Rattle.page_space.proofs.space.Space.page_bucket.Goals as goal

pub returns-then-objects_in-eq0-clause-bucket : goal.returns-then-objects_in-eq0-clause-bucket
returns-then-objects_in-eq0-clause-bucket c bucket =
    let words = shape_words c.args.self.now.shape c.shape_is_valid.ensures in
    let held : c.objects_in.result ≡ get_or c.args.self.now.table.objects c.args.page 0 =
    c.objects_in.ensures ∙ ap (λ s. get_or s.table.objects c.args.page 0) c.self.view_is in
    let es = extents_of_bodies c.args.seat.now.bodies in
    let same = held_is_used c.args.self.now c.args.seat.now.count es c.args.page (omega (arith, words.0)) c.requires.space.over c.requires.page in (
      (λ e. cc),
      (λ has. absurd (let some : 0 < get_or c.args.self.now.table.objects c.args.page 0 = same.1 (uses_of_bucket c.args.self.now.shape es c.args.page bucket has) in
          omega (arith, held, c.if-objects_in-eq0.true))),
    )

pub returns-then-objects_in-eq0-clause-none : goal.returns-then-objects_in-eq0-clause-none
returns-then-objects_in-eq0-clause-none c =
    let words = shape_words c.args.self.now.shape c.shape_is_valid.ensures in
    let held : c.objects_in.result ≡ get_or c.args.self.now.table.objects c.args.page 0 =
    c.objects_in.ensures ∙ ap (λ s. get_or s.table.objects c.args.page 0) c.self.view_is in
    let es = extents_of_bodies c.args.seat.now.bodies in
    let same = held_is_used c.args.self.now c.args.seat.now.count es c.args.page (omega (arith, words.0)) c.requires.space.over c.requires.page in (
      (λ _ uses. let some : 0 < get_or c.args.self.now.table.objects c.args.page 0 = same.1 uses in
          omega (arith, held, c.if-objects_in-eq0.true)),
      (λ _. refl),
    )

pub returns-else-objects_in-eq0-clause-bucket : goal.returns-else-objects_in-eq0-clause-bucket
returns-else-objects_in-eq0-clause-bucket c bucket =
    let words = shape_words c.args.self.now.shape c.shape_is_valid.ensures in
    let held : c.objects_in.result ≡ get_or c.args.self.now.table.objects c.args.page 0 =
    c.objects_in.ensures ∙ ap (λ s. get_or s.table.objects c.args.page 0) c.self.view_is in
    let found : c.bucket_of_page.result ≡ get_or c.args.self.now.table.buckets c.args.page 0 =
    c.bucket_of_page.ensures ∙ ap (λ s. get_or s.table.buckets c.args.page 0) c.self.view_is in
    let es = extents_of_bodies c.args.seat.now.bodies in
    let some : 0 < get_or c.args.self.now.table.objects c.args.page 0 = omega (arith, held, c.if-objects_in-eq0.false) in
    let is = bucket_of_held c.args.self.now c.args.seat.now.count es c.args.page bucket (omega (arith, words.0)) c.requires.space.over c.requires.page some in (
      (λ e. is.0 (sym found ∙ (let same : c.bucket_of_page.result ≡ bucket = cc in same))),
      (λ has. ap Some (found ∙ is.1 has)),
    )

pub returns-else-objects_in-eq0-clause-none : goal.returns-else-objects_in-eq0-clause-none
returns-else-objects_in-eq0-clause-none c =
    let words = shape_words c.args.self.now.shape c.shape_is_valid.ensures in
    let held : c.objects_in.result ≡ get_or c.args.self.now.table.objects c.args.page 0 =
    c.objects_in.ensures ∙ ap (λ s. get_or s.table.objects c.args.page 0) c.self.view_is in
    let es = extents_of_bodies c.args.seat.now.bodies in
    let some : 0 < get_or c.args.self.now.table.objects c.args.page 0 = omega (arith, held, c.if-objects_in-eq0.false) in
    let same = held_is_used c.args.self.now c.args.seat.now.count es c.args.page (omega (arith, words.0)) c.requires.space.over c.requires.page in (
      (λ e. absurd (cc)),
      (λ empty. absurd (empty (same.0 some))),
    )
