use Rattle.std.proofs.Common.{◌≡◌, ℕ, ◌*◌, [], length, refl, ap, ◌∙◌, arith, sym, subst}
use Rattle.std.proofs.lemmas.List.{length-replicate}
use Rattle.std.specs.Arc.{arc_value}
use Rattle.gc_graph.specs.State.{Shape}
use Rattle.gap_bounds.specs.Seat.{Heap}
use Rattle.page_space.specs.Space.{IsSpaceOf, SpaceView}
use Rattle.page_space.proofs.Bounds.{empty_space}
use Rattle.page_space.proofs.Shapes.{shape_words}
use Rattle.page_space.proofs.space.Space.new.Goals as goal

pub returns-clause-space : goal.returns-clause-space
returns-clause-space c =
    let shape : Shape = record { pages = c.args.pages; page_words = c.args.page_words } in
    let words : Heap = c.in_ok-words.words in
    let value : arc_value c.in_ok-words-2.words ≡ words = c.in_ok-words-2.ensures.ok in
    let space : SpaceView =
    record { shape = shape; words = (arc_value c.in_ok-words-2.words).table; objects = 0; used = 0; table = c.in_ok-table.table; gaps = c.in_ok-gaps.gaps } in
    subst (IsSpaceOf space) (sym c.in_ok-words.ensures.view)
    (record {
      words = λ i. record { count = c.in_ok-words.ensures.words i; table = ap (λ (h : Heap). h.table) (sym value) i };
      over = empty_space shape (arc_value c.in_ok-words-2.words).table words.count c.in_ok-table.table c.in_ok-gaps.gaps c.in_ok-words.ensures.words
          c.in_ok-table.ensures.objects (c.in_ok-gaps.ensures.knows shape []);
    })

pub invariant_of-space : goal.invariant_of-space
invariant_of-space c = record {
  shape = c.requires;
  words = λ i. record {
    count = (ap (λ (h : Heap). h.count) c.in_ok-words-2.ensures.ok ∙ c.in_ok-words.ensures.words) i;
    table = (arc_value c.in_ok-words-2.words).table;
  };
  objects = ap length c.in_ok-table.ensures.objects ∙ length-replicate {A = ℕ} c.args.pages 0;
  buckets = ap length c.in_ok-table.ensures.buckets ∙ length-replicate {A = ℕ} c.args.pages 0;
  starts = ap length c.in_ok-table.ensures.starts ∙ length-replicate {A = ℕ} c.args.pages 0;
  gaps = c.in_ok-gaps.ensures.pages;
  blocks = omega (arith, c.in_ok-gaps.ensures.blocks, ap (λ w. c.args.pages * w) (shape_words (record { pages = c.args.pages; page_words = c.args.page_words }) c.requires).3);
}
