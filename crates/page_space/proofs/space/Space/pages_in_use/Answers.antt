use Rattle.std.proofs.Common.{◌≡◌, ◌∙◌, ap, length, sym, arith}
use Rattle.page_space.specs.Pages.{count_in_use}
use Rattle.page_space.specs.Space.{extents_of_bodies}
use Rattle.page_space.proofs.Shapes.{shape_words}
use Rattle.page_space.proofs.UsedPages.{used_pages}
use Rattle.page_space.proofs.space.Space.pages_in_use.Goals as goal

pub returns : goal.returns
returns c v is =
    let words = shape_words c.args.self.now.shape c.shape_is_valid.ensures in
    let pages : length c.self.inside.table.objects ≡ c.self.inside.pages = c.self.invariant.objects in
    used_pages c.args.self.now v.count (extents_of_bodies v.bodies) c.in_use.result (omega (arith, words.0)) is.over
    (sym (ap (λ s. length s.table.objects) c.self.view_is) ∙ pages ∙ ap (λ s. s.shape.pages) c.self.view_is)
    (c.in_use.ensures ∙ ap (λ s. count_in_use s.table.objects) c.self.view_is)
