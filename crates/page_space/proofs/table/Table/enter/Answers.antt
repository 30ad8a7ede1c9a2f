use Rattle.std.proofs.Common.{◌+◌, length, ap, get_or, arith}
use Rattle.std.proofs.lemmas.List.{length-set}
use Rattle.page_space.proofs.Tables.{counts_more}
use Rattle.gap_bounds.specs.Spans.{values_more}
use Rattle.page_space.proofs.table.Table.enter.Goals as goal

pub loop-page-preserved : goal.loop-page-preserved
loop-page-preserved c = record {
  size = omega (arith, ap length c.enter_page.ensures.objects, length-set c.loop-page.self.objects c.loop-page.page (get_or c.loop-page.self.objects c.loop-page.page 0 + 1));
  sizes = omega (arith, ap length c.enter_page.ensures.buckets, length-set c.loop-page.self.buckets c.loop-page.page c.args.bucket);
  rows = omega (arith, ap length c.enter_page.ensures.starts, length-set c.loop-page.self.starts c.loop-page.page c.args.first);
  objects = counts_more c.args.self.now.objects c.loop-page.self.objects _ c.args.first c.loop-page.page (omega arith) (omega arith)
      c.loop-page.invariant.objects c.enter_page.ensures.objects;
  buckets = values_more c.args.self.now.buckets c.loop-page.self.buckets _ c.args.first c.loop-page.page c.args.bucket (omega arith) (omega arith)
      c.loop-page.invariant.buckets c.enter_page.ensures.buckets;
  starts = values_more c.args.self.now.starts c.loop-page.self.starts _ c.args.first c.loop-page.page c.args.first (omega arith) (omega arith)
      c.loop-page.invariant.starts c.enter_page.ensures.starts;
}
