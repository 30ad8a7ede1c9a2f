use Rattle.std.proofs.Common.{◌≡◌, ℕ, ◌+◌, length, get_or, cond}
use Rattle.page_space.specs.Pages.{is_between}
use Rattle.page_space.proofs.table.Table.leave.Given as goal

abbrev pub invariant-loop-page : goal.invariant-loop-page
invariant-loop-page l = record {
  size : length l.self.objects ≡ length l.fn.self.objects;
  objects : (page : ℕ) → get_or l.fn.self.objects page 0 ≡ get_or l.self.objects page 0 + cond (is_between l.first l.page page) 1 0;
  buckets : l.self.buckets ≡ l.fn.self.buckets;
  starts : l.self.starts ≡ l.fn.self.starts;
}
