use Rattle.std.proofs.Common.{◌≡◌, ◌+◌, ◌*◌, ◌<◌, sym, ap, ◌∙◌, subst, inr, arith}
use Rattle.gc_graph.specs.Placement.{StartsEmptyRun, IsLowest}
use Rattle.page_space.specs.Space.{extents_of_bodies}
use Rattle.page_space.proofs.EmptyRuns.{IsEmptySince, empty_more, run_found, run_nowhere}
use Rattle.page_space.proofs.space.Space.find_empty.Goals as goal
use Rattle.page_space.proofs.space.Space.find_empty.Goals.{else-since-page-via-then-since-page+else-page-since, else-since-page-via-else-since-page}

pub returns-then-page-since-clause-found : goal.returns-then-page-since-clause-found
returns-then-page-since-clause-found c =
    let pages : c.self.inside.pages ≡ c.args.self.now.shape.pages = ap (λ s. s.shape.pages) (c.self.view_is ∙ c.first_empty-since.ensures.same) in
    let words : c.self.inside.page_words ≡ c.args.self.now.shape.page_words = ap (λ s. s.shape.page_words) (c.self.view_is ∙ c.first_empty-since.ensures.same) in
    let step = rw (c.loop-page.invariant.view, c.first_empty-since.ensures.same) at c.empty_since-since.ensures.since in
    let more : IsEmptySince c.args.self.now.shape (extents_of_bodies c.args.seat.now.bodies) c.pages_for-count.result (c.loop-page.page + 1) c.empty_since-since.result
    × (c.loop-page.page < c.empty_since-since.result + c.pages_for-count.result) =
    empty_more c.args.self.now.shape _ _ _ _ _ c.pages_for-count.ensures.some c.loop-page.invariant.run c.loop-page.invariant.short step in
    subst (IsLowest (StartsEmptyRun c.args.self.now.shape (extents_of_bodies c.args.seat.now.bodies) c.args.size)) (ap (λ w. c.empty_since-since.result * w) (sym words))
    (run_found c.args.self.now.shape _ c.args.size _ c.loop-page.page c.empty_since-since.result c.pages_for-count.ensures.enough (omega arith) more.0 (omega arith))

pub returns-then-page-since-clause-place : goal.returns-then-page-since-clause-place
returns-then-page-since-clause-place c = inr ((returns-then-page-since-clause-found c).0)

pub loop-page-preserved : goal.loop-page-preserved
loop-page-preserved c =
    let step = rw (c.loop-page.invariant.view, c.first_empty-since.ensures.same) at c.empty_since-since.ensures.since in
    let more : IsEmptySince c.args.self.now.shape (extents_of_bodies c.args.seat.now.bodies) c.pages_for-count.result (c.loop-page.page + 1) c.empty_since-since.result
    × (c.loop-page.page < c.empty_since-since.result + c.pages_for-count.result) =
    empty_more c.args.self.now.shape _ _ _ _ _ c.pages_for-count.ensures.some c.loop-page.invariant.run c.loop-page.invariant.short step in
    record {
      view = c.empty_since-since.ensures.view ∙ c.loop-page.invariant.view;
      run = more.0;
      short = elim c.else-since-page.branch [
        | else-since-page-via-then-since-page+else-page-since w ↦ omega (arith, more.1)
        | else-since-page-via-else-since-page w ↦ omega (arith, more.1, c.pages_for-count.ensures.some)
      ];
    }

pub returns-clause-none : goal.returns-clause-none
returns-clause-none c =
    let pages : c.self.inside.pages ≡ c.args.self.now.shape.pages = ap (λ s. s.shape.pages) (c.self.view_is ∙ c.first_empty-since.ensures.same) in
    run_nowhere c.args.self.now.shape _ c.args.size _ c.loop-page.page c.loop-page.since c.pages_for-count.ensures.enough (omega arith)
    c.loop-page.invariant.run c.loop-page.invariant.short

pub loop-page-init : goal.loop-page-init
loop-page-init c = record {
  view = c.first_empty-since.ensures.view;
  run = record {
    empty = λ q low high. absurd (omega arith);
    blocked = λ q before. (q, omega arith, omega (arith, c.pages_for-count.ensures.some), c.first_empty-since.ensures.used q before);
  };
  short = omega (arith, c.pages_for-count.ensures.some);
}
