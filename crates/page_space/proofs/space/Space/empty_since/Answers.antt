use Rattle.std.proofs.Common.{◌≤◌, refl, inl, rules}
use Rattle.page_space.specs.Space.{extents_of_bodies}
use Rattle.page_space.proofs.UsedPages.{uses_of_bucket}
use Rattle.page_space.proofs.space.Space.empty_since.Goals as goal

pub overflow_add-result : goal.overflow_add-result
overflow_add-result c =
    let most : c.args.self.now.shape.pages ≤ 1024 = c.shape_is_valid.ensures.most in
    search rules

pub returns-in-Some-clause-since : goal.returns-in-Some-clause-since
returns-in-Some-clause-since c =
    inl (
      uses_of_bucket c.args.self.now.shape (extents_of_bodies c.args.seat.now.bodies) c.args.page c.in-Some.field-0
          ((c.in-Some.ensures.bucket c.in-Some.field-0).0 refl),
      refl,
    )
